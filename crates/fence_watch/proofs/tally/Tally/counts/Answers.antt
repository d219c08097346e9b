use Rattle.std.proofs.Common.{◌∙◌, ap}
use Rattle.fence_watch.specs.Tallies.{TallyView}
use Rattle.fence_watch.proofs.HistorySteps.{follows-history}
use Rattle.fence_watch.proofs.Tallying.{counts-told}
use Rattle.fence_watch.proofs.tally.Tally.counts.Goals as goal

pub returns-clause-follows : goal.returns-clause-follows
returns-clause-follows c = λ w taken cells fences t.
    c.as_slice.ensures.value ∙ ap (λ (v : TallyView). v.counts) c.self.view_is ∙ counts-told w taken cells fences c.args.self.now t

pub returns-clause-from : goal.returns-clause-from
returns-clause-from c = λ at world taken cells fences t. c.as_slice.ensures.value ∙ ap (λ (v : TallyView). v.counts) c.self.view_is ∙ t.counts

pub returns-clause-world : goal.returns-clause-world
returns-clause-world c = λ world fences f. c.as_slice.ensures.value ∙ ap (λ (v : TallyView). v.counts) c.self.view_is ∙ f.counts

pub returns-clause-history : goal.returns-clause-history
returns-clause-history c = λ world h taken fences t.
    c.as_slice.ensures.value ∙ ap (λ (v : TallyView). v.counts) c.self.view_is ∙ (follows-history world h taken fences c.args.self.now t).counts
