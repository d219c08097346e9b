use Rattle.std.proofs.Common.{ℕ, ◌∙◌, ap, sym, subst, arith}
use Rattle.book_lock.specs.Pass.{Known}
use Rattle.sessions.specs.Runs.{Answers, HasLooked, Sees}
use Rattle.sessions.proofs.RunLemmas.{none-answered, some-answered}
use Rattle.sessions.proofs.store.Store.run_rows.Goals as goal

pub returns-then-answered-i : goal.returns-then-answered-i
returns-then-answered-i g c =
    let old = c.args.lane.now in
    let leaves = g.I.Index.leaves c.in-Ok.sight.index in
    let answers = c.answer_rows-answered.ensures.answers in
    let none = none-answered leaves c.in-Ok.sight.events c.args.i c.see.new.pass (record old { pass = c.see.new.pass }) c.answer_rows-answered.new.lane c.in-Ok.ensures.sight
    (subst (λ (n : ℕ). Answers leaves c.args.i n (record old { pass = c.see.new.pass }) c.answer_rows-answered.new.lane) c.if-answered-i.true answers) in
    record {
      session = answers.session;
      rows = answers.rows;
      fault = answers.fault;
      kept = none.0;
      count = none.1;
      room = answers.room;
      pass = subst (λ (k : Known). HasLooked old.pass k) (sym answers.pass) (subst (λ (k : Known). HasLooked k c.see.new.pass) c.will_read.ensures c.in-Ok.ensures.looked);
    }

pub keep_rows-run-requires-clause-answers : goal.keep_rows-run-requires-clause-answers
keep_rows-run-requires-clause-answers g c =
    let old = c.args.lane.now in
    let new = c.answer_rows-answered.new.lane in
    let leaves = g.I.Index.leaves c.in-Ok.sight.index in
    let answers = c.answer_rows-answered.ensures.answers in
    let sees : Sees leaves c.in-Ok.sight.events new.pass = subst (λ (k : Known). Sees leaves c.in-Ok.sight.events k) (sym answers.pass) c.in-Ok.ensures.sight in
    (some-answered leaves c.in-Ok.sight.events c.args.i c.answer_rows-answered.result c.len-base.result new.pass (record old { pass = c.see.new.pass }) new sees answers (omega (arith, c.len-base.ensures, old.kept.ok.0))).1

pub returns : goal.returns
returns g c =
    let old = c.args.lane.now in
    let new = c.answer_rows-answered.new.lane in
    let leaves = g.I.Index.leaves c.in-Ok.sight.index in
    let answers = c.answer_rows-answered.ensures.answers in
    let some = some-answered leaves c.in-Ok.sight.events c.args.i c.answer_rows-answered.result c.len-base.result c.see.new.pass (record old { pass = c.see.new.pass }) new c.in-Ok.ensures.sight answers (omega (arith, c.len-base.ensures, old.kept.ok.0)) in
    c.keep_rows-run.ensures.ends old (record {
      session = answers.session;
      rows = answers.rows;
      fault = answers.fault;
      base_is = sym c.len-base.ensures;
      kept = some.0;
      room = answers.room;
      pass = subst (λ (k : Known). HasLooked old.pass k) (sym answers.pass) (subst (λ (k : Known). HasLooked k c.see.new.pass) c.will_read.ensures c.in-Ok.ensures.looked);
    })

pub answer_rows-answered-requires-clause-free : goal.answer_rows-answered-requires-clause-free
answer_rows-answered-requires-clause-free g c = ap (λ (k : Known). k.holds) c.in-Ok.ensures.looked.pass_is ∙ (ap (λ (k : Known). k.holds) c.will_read.ensures ∙ c.requires.lock.1)
