use Rattle.std.proofs.Common.{ℕ, Bool, ◌+◌, ◌∙◌, ap, subst}
use Rattle.book_lock.specs.Pass.{Known}
use Rattle.plain_list.specs.declared.entries.Entry.TheVariants.{Begin}
use Rattle.plain_list.specs.declared.entries.Lost.TheVariants as lost
use Rattle.commit_book.specs.Refusals.{IsMemoryOrDisk}
use Rattle.kept_log.specs.Journal.{cells_in}
use Rattle.book_lock.specs.Ends.{MayNote}
use Rattle.sessions.specs.Steps.{MayGive, has_entry}
use Rattle.sessions.specs.Splits.{begin_cause, number_of, state_of}
use Rattle.sessions.proofs.StepLemmas.{given-free, may-give, says-all, begin-may}
use Rattle.sessions.proofs.SplitLemmas.{begun-step, begun, begun-notes, begun-name, number-entry}
use Rattle.sessions.proofs.store.Store.begin.Goals as goal

pub give-requires-clause-entries : goal.give-requires-clause-entries
give-requires-clause-entries g c =
    let begin = c.begin-answer.ensures in
    let b = c.take-book.result in
    let old = c.args.pass.now in
    let took = c.take-book.new.pass in
    let mid = c.begin-answer.new.self in
    let name = c.args.name.now in
    let r = c.begin-answer.result in
    let was = c.take-book.ensures in
    subst (λ (b : Bool). MayGive took b mid.entries) (number-entry r)
    (may-give g.D.LogDisk.drive IsMemoryOrDisk (begin_cause g.I.Index.WIDTH old.origin name (cells_in b.log) b.entries) (λ (number : ℕ). Begin number name) (lost.Begin ((state_of g.I.Index.WIDTH old.origin b.entries).begun + 1) name) b mid took was.entries
    (number_of r) (begun-step g.D.LogDisk.drive g.I.Index.WIDTH b mid old took took name was begin.book r begin.ok begin.refused begin.err)
    (says-all (λ (number : ℕ). MayNote took.seen took.own (Begin number name)) (λ (number : ℕ). begin-may number name took.seen took.own) (number_of r)))

pub returns-clause-step : goal.returns-clause-step
returns-clause-step g c =
    let begin = c.begin-answer.ensures in
    let mid = c.begin-answer.new.self in
    let took = c.take-book.new.pass in
    let was = c.take-book.ensures in
    begun g.D.LogDisk.drive g.I.Index.WIDTH c.take-book.result mid c.args.pass.now took c.give.new.pass c.args.name.now was begin.book c.begin-answer.result begin.ok begin.refused begin.err
    c.give.ensures

pub returns-clause-begun : goal.returns-clause-begun
returns-clause-begun g c =
    let begin = c.begin-answer.ensures in
    let mid = c.begin-answer.new.self in
    let took = c.take-book.new.pass in
    let was = c.take-book.ensures in
    begun-notes g.D.LogDisk.drive g.I.Index.WIDTH c.take-book.result mid c.args.pass.now took c.give.new.pass c.args.name.now was begin.book c.begin-answer.result begin.ok was.below
    c.give.ensures

pub returns-clause-name : goal.returns-clause-name
returns-clause-name g c = begun-name g.I.Index.WIDTH c.take-book.result c.begin-answer.new.self c.args.name.now c.begin-answer.result c.begin-answer.ensures.ok

pub returns-clause-free : goal.returns-clause-free
returns-clause-free g c = ap (λ (k : Known). k.holds) c.give.ensures ∙ given-free c.take-book.new.pass (has_entry c.begin-answer.result) c.begin-answer.new.self.entries
