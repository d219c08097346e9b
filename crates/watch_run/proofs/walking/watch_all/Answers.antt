use Rattle.watch_run.proofs.Alongs.{passed-on}
use Rattle.watch_run.proofs.walking.watch_all.Goals as goal

pub returns-in_err-go_along : goal.returns-in_err-go_along
returns-in_err-go_along g c =
    record {
      along = passed-on _ _ c.from_residual-in_err-go_along.result _ c.from_residual-in_err-go_along.ensures.1
          (c.in_err-go_along.ensures.along c.args.fences.now (record { started = c.requires; none = c.in_ok-watch.ensures.follows }));
    }

pub returns : goal.returns
returns g c =
    record { along = c.in_ok-go_along.ensures.along c.args.fences.now (record { started = c.requires; none = c.in_ok-watch.ensures.follows }) }
