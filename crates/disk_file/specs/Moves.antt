-- A read and a write at a place of a file: first a seek, then the transfer from that place on.
use Rattle.std.specs.Prelude.{◌≡◌, ℕ, List, Option, Some, IfSome}
use Rattle.std.specs.Io.KnownBytes.{Appends, Consumes}

-- If the position was known, it is now this place.
abbrev pub IsSought : Option ℕ → Option ℕ → ℕ → Type 0
IsSought before after at = IfSome before (λ _. after ≡ Some at)

-- The file was moved to the place, and then returned these bytes.
pub record GivesFrom {F : Type 0} (position : F → Option ℕ) (remaining : F → Option (List ℕ)) (old new : F) (at : ℕ) (bytes : List ℕ) : Type 0 where
  pub sought : F
  pub place : IsSought (position old) (position sought) at
  pub given : Consumes (remaining sought) (remaining new) bytes

-- The file was moved to the place, and then accepted this piece.
pub record PutsAt {F : Type 0} (position : F → Option ℕ) (contents : F → Option (List ℕ)) (old new : F) (at : ℕ) (piece : List ℕ) : Type 0 where
  pub sought : F
  pub place : IsSought (position old) (position sought) at
  pub taken : Appends (contents sought) (contents new) piece
