-- What comes of a call.
use Rattle.std.proofs.Common.{◌≡◌, Result, Ok, Err, IsOk, refl}

-- a value that is known tells that there is one
pub held : {A E : Type 0} {x : A} (r : Result A E) → r ≡ Ok x → IsOk r
held (Ok x) e = refl
held (Err x) e = absurd (cc e)
