use Rattle.sessions.proofs.WorldSteps.{any_start}
use Rattle.views.proofs.crowd.play.Goals as goal

pub new-requires-clause-start : goal.new-requires-clause-start
new-requires-clause-start g c = any_start g.D.LogDisk.drive c.args.book.log
