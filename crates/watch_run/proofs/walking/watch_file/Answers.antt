use Rattle.watch_run.proofs.Alongs.{match-as, refused-file, runs-file}
use Rattle.watch_run.proofs.walking.watch_file.Goals as goal

pub returns : goal.returns
returns g c =
    let attached = c.in_default.ensures.attached in
    record {
      along = match-as c.watch_attached.result (λ a runs. runs-file c.args.fences.now c.args.file.now _ _ _ attached.stays attached.calm attached.named _ runs) (λ e refused. refused-file c.args.fences.now c.args.file.now _ _ _ attached.stays attached.calm attached.named _ refused)
          c.watch_attached.ensures.along;
    }
