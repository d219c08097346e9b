use Rattle.machine_run.proofs.ends.exit_code.Goals as goal

pub returns : goal.returns
returns g c = c.from.ensures
