use Rattle.location_run.proofs.top.outcome_of.Goals as goal

pub returns-clause-laws : goal.returns-clause-laws
returns-clause-laws g c = (g.met.D.LogDisk.keeps_laws c.args.end.drives.disk, g.met.D.LogDisk.keeps_laws c.args.end.drives.other)
