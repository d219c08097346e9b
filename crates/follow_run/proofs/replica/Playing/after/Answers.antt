use Rattle.std.proofs.Common.{inl, inr, refl, sym}
use Rattle.follow_run.proofs.replica.Playing.after.Goals as goal

pub returns-in-Err-push-clause-refused : goal.returns-in-Err-push-clause-refused
returns-in-Err-push-clause-refused g c = record {
  why = inr (c.in-Ok.field-0.follower, sym c.give_back.ensures, refl, record { turns = c.in-Ok.ensures.turned; any_moment = c.in-Ok.ensures.any_moment });
  free = λ bytes told. inl refl;
}
