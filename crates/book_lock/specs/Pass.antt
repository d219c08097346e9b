-- What contracts see of a pass.
use Rattle.std.specs.Prelude.{◌≡◌, ℕ, List, [], ◌∷◌, Option, None, Bool, true, false}
use Rattle.atomic_table.specs.Seated.{TableId}
use Rattle.plain_list.specs.declared.entries.Entry.{Entry}
use Rattle.book_lock.specs.Origin.{Origin}

-- Its lock, the prefix of the history that it has seen, the positions in it that are its own, the origin, how many of
-- the lock's parts it has, and whether it holds the lock.
pub record Known : Type 0 where
  pub lock : TableId
  pub seen : List Entry
  pub own : List ℕ
  pub origin : Origin
  pub parts : ℕ
  pub holds : Bool

-- While the seat holds the lock, it has taken the slot of the value, and the slot is empty.
abbrev pub Carries : {V : Type 0} → Bool → List (ℕ × Option V) → Type 0
Carries false slots = slots ≡ []
Carries true slots = slots ≡ (0, None) ∷ []
