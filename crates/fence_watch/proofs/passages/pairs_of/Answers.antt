use Rattle.std.proofs.Common.{◌∙◌, get_or, sym}
use Rattle.fence_watch.specs.Marks.{marks_of}
use Rattle.fence_watch.specs.Passages.{turns}
use Rattle.fence_watch.proofs.MarkLemmas.{four, turns-words}
use Rattle.fence_watch.proofs.passages.pairs_of.Goals as goal

pub returns : goal.returns
returns c =
    let a = c.args.was.now in
    let b = c.args.is.now in
    turns-words (record { was = get_or a 0 0; is = get_or b 0 0 }) (record { was = get_or a 1 0; is = get_or b 1 0 }) (record { was = get_or a 2 0; is = get_or b 2 0 }) (record { was = get_or a 3 0; is = get_or b 3 0 })
    ∙ (λ i. turns (marks_of (sym (four a 0 c.told-was) i)) (marks_of (sym (four b 0 c.told-is) i)))
