use Rattle.recovery.proofs.ReadingLemmas.{advances, advances_err}
use Rattle.recovery.proofs.reading.Reading.advance.Goals as goal

pub returns-in_err-fill-clause-advances : goal.returns-in_err-fill-clause-advances
returns-in_err-fill-clause-advances g c =
    let fails = c.in_err-fill.ensures.err in
    advances_err (g.D.LogDisk.drive c.args.disk.now) c.args.self.now c.fill.new.self _ c.from_residual.result c.from_residual.ensures.1 fails.0 fails.1

pub returns-clause-advances : goal.returns-clause-advances
returns-clause-advances g c =
    advances (g.D.LogDisk.drive c.args.disk.now) c.args.self.now c.fill.new.self c.in_ok-fill.ensures.ok c.walk_on.new.self c.walk_on.result c.walk_on.ensures
