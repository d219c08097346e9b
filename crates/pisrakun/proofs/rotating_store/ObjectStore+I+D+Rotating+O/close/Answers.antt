use Rattle.std.proofs.Common.{subst}
use Rattle.book_lock.specs.Pass.{Known}
use Rattle.store_file.specs.Rotating.{ClosesMoved}
use Rattle.pisrakun.proofs.rotating_store.ObjectStore+I+D+Rotating+O.close.Goals as goal

pub returns-clause-closes : goal.returns-clause-closes
returns-clause-closes g c none =
    subst (λ (k : Known). ClosesMoved g.D.LogDisk.drive g.I.Index.WIDTH k c.close_rotating.result.disk) c.into_parts-store.ensures.pass (c.close_rotating.ensures.closes none)
