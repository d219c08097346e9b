use Rattle.std.proofs.Common.{Some, sym, subst}
use Rattle.std.proofs.lemmas.Result.{IfOk-weaker}
use Rattle.recovery.specs.Walks.{BeginsWalk}
use Rattle.recovery.proofs.walk.Walk.start.Goals as goal

pub returns-clause-begins : goal.returns-clause-begins
returns-clause-begins g c =
    let drive = g.D.LogDisk.drive in
    IfOk-weaker c.along.result _ _ (λ w begins. subst (λ v. BeginsWalk (Some c.args.width) c.args.most v (drive c.args.disk) (drive w.disk) w) (sym begins.fits) begins) c.along.ensures.begins
