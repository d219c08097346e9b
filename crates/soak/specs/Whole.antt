-- The pass that has all parts of a store.
use Rattle.std.specs.Prelude.{◌≡◌, false}
use Rattle.atomic_table.specs.Seated.{TableId}
use Rattle.book_lock.specs.Pass.{Known}
use Rattle.sessions.specs.Steps.{all_parts}

-- The pass is of this lock, doesn't hold it, and has all parts of it.
abbrev pub IsWhole : TableId → Known → Type 0
IsWhole lock pass = (pass.lock ≡ lock) × (pass.holds ≡ false) × (pass.parts ≡ all_parts)
