use Rattle.std.proofs.Common.{Some, subst}
use Rattle.kept_log.specs.KeptView.{KeptView}
use Rattle.kept_log.specs.Journal.{Stops}
use Rattle.kept_log.specs.Moved.{seen_as}
use Rattle.kept_log.proofs.MovedLogs.{stops-as}
use Rattle.kept_log.proofs.journal.Current.stop.Goals as goal

pub returns-clause-stops : goal.returns-clause-stops
returns-clause-stops g c =
    subst (λ (l : KeptView g.row.D.Denot). Stops g.D.LogDisk.drive c.stop.result (Some l) (Some (seen_as c.stop.new.self c.self.inside.before))) c.self.view_is
    (stops-as g.D.LogDisk.drive c.self.inside.kept c.stop.new.self c.stop.ensures.since c.self.inside.before c.stop.result c.stop.ensures.stops)
