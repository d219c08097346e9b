use Rattle.std.proofs.Common.{ap, sym, ◌∙◌}
use Rattle.recovery.specs.Walks.{WalkView}
use Rattle.recovery.proofs.Exclusive.{named_version}
use Rattle.recovery.proofs.walk.Walk.finish.Goals as goal

pub returns-clause-named : goal.returns-clause-named
returns-clause-named g c w most cells bytes come known =
    let r = c.args.self.reading in
    let at = come.read.begins bytes known in
    c.seen_in.ensures.version ∙ ap (λ (v : WalkView g.row.D.Denot). v.reading.replay.version) c.self.view_is ∙ sym (named_version r.replay.version r.replay.width cells _ bytes at.2)
