use Rattle.fence_watch.proofs.Passing.{shows-places}
use Rattle.fence_watch.proofs.passages.Chart.passage.Goals as goal

pub returns : goal.returns
returns c = λ fences charts.
    shows-places c.args.before c.args.after fences c.marks.result c.marks-2.result c.pairs_of.result c.pairs_of.ensures (c.marks.ensures fences charts) (c.marks-2.ensures fences charts)
