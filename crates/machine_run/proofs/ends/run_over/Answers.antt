use Rattle.machine_run.proofs.ends.run_over.Goals as goal

pub returns : goal.returns
returns g c =
    let last = c.run-outcome.result in
    rw c.exit_code.ensures (record {
      run = record { drives = record { disk = last.disk; other = last.other }; history = last.events; usage = c.run-outcome.ensures.usage; keeps = c.run-outcome.ensures.keeps; chain = c.run-outcome.ensures.chain };
    })
