use Rattle.std.proofs.Common.{◌++◌, ◌∙◌, List, length, refl, sym, ap, arith, append-nil}
use Rattle.fence_watch.specs.declared.fences.Event.{Event}
use Rattle.fence_watch.specs.Counts.{count_by}
use Rattle.fence_watch.specs.Passages.{turns_in}
use Rattle.fence_watch.proofs.MarkLemmas.{quiet-pair}
use Rattle.fence_watch.proofs.AlongParts.{along-none, said-none}
use Rattle.fence_watch.proofs.counts.+cross_word.Goals as goal

pub returns-then-is_quiet-clause-counts : goal.returns-then-is_quiet-clause-counts
returns-then-is_quiet-clause-counts t c =
    let n = length c.args.counts.now in
    sym (along-none count_by (λ x. refl) c.args.counts.now (turns_in n c.args.pair) (quiet-pair n c.args.pair (c.is_quiet.ensures c.if-is_quiet.true)))

pub returns-then-is_quiet-clause-events : goal.returns-then-is_quiet-clause-events
returns-then-is_quiet-clause-events t c =
    let n = length c.args.counts.now in
    let none = said-none c.args.step.at c.args.step.id c.args.counts.now (turns_in n c.args.pair) (quiet-pair n c.args.pair (c.is_quiet.ensures c.if-is_quiet.true)) in
    sym (append-nil c.args.events.now.items) ∙ ap (λ (l : List Event). c.args.events.now.items ++ l) (sym none)

pub returns-then-is_quiet-clause-len : goal.returns-then-is_quiet-clause-len
returns-then-is_quiet-clause-len t c =
    let n = length c.args.counts.now in
    let none = said-none c.args.step.at c.args.step.id c.args.counts.now (turns_in n c.args.pair) (quiet-pair n c.args.pair (c.is_quiet.ensures c.if-is_quiet.true)) in
    omega (arith, ap length none)
