use Rattle.std.proofs.Common.{◌≡◌, ◌<◌, ◌∙◌, ℕ, length, ap, subst, refl, arith}
use Rattle.book_lock.specs.Pass.{Known}
use Rattle.sessions.specs.Runs.{Answers}
use Rattle.sessions.proofs.RunLemmas.{answers-more}
use Rattle.sessions.proofs.store.runs.answer_rows.Goals as goal

pub loop-k-preserved : goal.loop-k-preserved
loop-k-preserved g c =
    let within : c.loop-k.k < length c.args.lane.now.rows.items = omega (arith, c.requires.queries.within, c.loop-k-test.true) in
    answers-more (g.I.Index.leaves c.args.index.now) c.args.i c.loop-k.k c.args.lane.now c.loop-k.lane _ c.index.result.now c.in-Ok.answer within c.index.ensures c.loop-k.invariant c.in-Ok.ensures.answer refl refl refl refl c.push_within.ensures.count
    c.push_within.ensures.capacity c.push_within.ensures.items

pub returns-clause-answers : goal.returns-clause-answers
returns-clause-answers g c =
    let last : c.loop-k.k ≡ c.args.end = omega (arith, c.loop-k-test.false, c.loop-k.auto.k-end, c.requires.after) in
    subst (λ (n : ℕ). Answers (g.I.Index.leaves c.args.index.now) c.args.i n c.args.lane.now c.loop-k.lane) last c.loop-k.invariant

pub reach-requires : goal.reach-requires
reach-requires g c = record { free = ap (λ (k : Known). k.holds) c.loop-k.invariant.pass ∙ c.requires.free }

pub ask-requires-clause-free : goal.ask-requires-clause-free
ask-requires-clause-free g c = ap (λ (k : Known). k.holds) c.loop-k.invariant.pass ∙ c.requires.free
