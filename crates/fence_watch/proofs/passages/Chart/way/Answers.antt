use Rattle.std.proofs.Common.{◌∙◌, Some, ap}
use Rattle.fence_watch.specs.Marks.{all_marks}
use Rattle.fence_watch.specs.Slabs.{row_at}
use Rattle.fence_watch.proofs.Passing.{marks-place, shows-places}
use Rattle.fence_watch.proofs.passages.Chart.way.Goals as goal

pub returns : goal.returns
returns c = λ fences charts.
    shows-places (Some c.args.from) (Some c.args.to) fences c.both.result c.both-2.result c.pairs_of.result c.pairs_of.ensures
    (c.both.ensures ∙ marks-place c.args.from fences c.rows.result.0.now c.rows-2.result.0.now
    (c.rows.ensures.one ∙ ap (λ l. all_marks (row_at c.args.from.x l)) charts.columns) (c.rows-2.ensures.one ∙ ap (λ l. all_marks (row_at c.args.from.y l)) charts.lines))
    (c.both-2.ensures ∙ marks-place c.args.to fences c.rows.result.1.now c.rows-2.result.1.now
    (c.rows.ensures.other ∙ ap (λ l. all_marks (row_at c.args.to.x l)) charts.columns) (c.rows-2.ensures.other ∙ ap (λ l. all_marks (row_at c.args.to.y l)) charts.lines))
