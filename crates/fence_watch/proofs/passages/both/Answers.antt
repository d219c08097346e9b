use Rattle.std.proofs.Common.{◌∙◌, get_or, sym}
use Rattle.fence_watch.specs.Marks.{marks_of}
use Rattle.fence_watch.specs.Passages.{both}
use Rattle.fence_watch.proofs.MarkLemmas.{four, both-words}
use Rattle.fence_watch.proofs.passages.both.Goals as goal

pub returns : goal.returns
returns c =
    let a = c.args.column.now in
    let b = c.args.line.now in
    both-words (get_or a 0 0) (get_or a 1 0) (get_or a 2 0) (get_or a 3 0) (get_or b 0 0) (get_or b 1 0) (get_or b 2 0) (get_or b 3 0)
    ∙ (λ i. both (marks_of (sym (four a 0 c.told-column) i)) (marks_of (sym (four b 0 c.told-line) i)))
