use Rattle.std.proofs.Common.{◌≡◌, ◌∙◌, Option, [], ◌∷◌, map, ap, sym, subst}
use Rattle.zorder.specs.declared.points.Point.{Point}
use Rattle.fence_watch.specs.declared.fences.Fence.{Fence}
use Rattle.fence_watch.specs.Fences.{lies_in}
use Rattle.fence_watch.specs.Marks.{marks_of, all_marks}
use Rattle.fence_watch.specs.Slabs.{row_at}
use Rattle.fence_watch.proofs.MarkLemmas.{nowhere}
use Rattle.fence_watch.proofs.Passing.{marks-place}
use Rattle.fence_watch.proofs.passages.Chart.marks.Goals as goal

pub returns-in-Some : goal.returns-in-Some
returns-in-Some c = λ fences charts.
    subst (λ (p : Option Point). marks_of c.both.result ≡ all_marks (map (λ (f : Fence). lies_in f p) fences)) (sym c.in-Some.is)
    (c.both.ensures ∙ marks-place c.in-Some.at fences c.row.result.now c.row-in-Some.result.now
    (c.row.ensures ∙ ap (λ l. all_marks (row_at c.in-Some.at.x l)) charts.columns) (c.row-in-Some.ensures ∙ ap (λ l. all_marks (row_at c.in-Some.at.y l)) charts.lines))

pub returns-in-None : goal.returns-in-None
returns-in-None c = λ fences charts.
    subst (λ (p : Option Point). marks_of (0 ∷ 0 ∷ 0 ∷ 0 ∷ []) ≡ all_marks (map (λ (f : Fence). lies_in f p) fences)) (sym c.in-None.is) (nowhere fences)
