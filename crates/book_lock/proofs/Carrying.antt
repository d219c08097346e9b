-- What a pass carries.
use Rattle.std.proofs.Common.{◌≡◌, ℕ, List, [], ◌∷◌, Bool, true, false, subst}
use Rattle.std.specs.Prelude.{Option, None}
use Rattle.book_lock.specs.Pass.{Carries}

pub carries_none : {V : Type 0} (b : Bool) (slots : List (ℕ × Option V)) → b ≡ false → Carries b slots → slots ≡ []
carries_none b slots off h = subst (λ (x : Bool). Carries x slots) off h

pub carries_slot : {V : Type 0} (b : Bool) (slots : List (ℕ × Option V)) → b ≡ true → Carries b slots → slots ≡ (0, None) ∷ []
carries_slot b slots on h = subst (λ (x : Bool). Carries x slots) on h
