use Rattle.machine_run.proofs.ends.run_words.Goals as goal

pub returns : goal.returns
returns g c = record { usage = c.run_over.ensures.run.usage.exact }
