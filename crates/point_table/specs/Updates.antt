-- The leaves and the world after a change or a find.
use Rattle.std.specs.Prelude.{◌≡◌, Bool, true, false, List, Result, Ok, Err, ⊤}
use Rattle.bucket_versions.specs.Told.{Told}
use Rattle.bucket_versions.specs.declared.commit.Undone.{Undone}
use Rattle.plain_list.specs.declared.ops.Op.{Op}
use Rattle.plain_list.specs.declared.ops.Op.TheVariants.{Within, Near}
use Rattle.plain_list.specs.declared.ops.Answer.{Answer}
use Rattle.plain_list.specs.World.{World}
use Rattle.plain_list.specs.Answer.{answer_of, after_of}
use Rattle.plain_list.specs.State.{OpenSplit}
use Rattle.point_table.specs.Changes.{bases_of, AreSettled}
use Rattle.point_table.specs.TableView.{TableView}

-- an operation that a table executes: a change or a find
abbrev pub IsUpdate : Op → Type 0
IsUpdate (Within region) = ⊥
IsUpdate (Near at k) = ⊥
IsUpdate _ = ⊤

-- The world is the one after the operation. The leaves keep their names, and their bases if their splits are open.
-- Every other leaf that changed has no delta.
pub record Changes (splits : List OpenSplit) (old new : TableView) (after : World) : Type 0 where
  pub world : new.world ≡ after
  pub bases : bases_of splits new.leaves ≡ bases_of splits old.leaves
  pub settled : AreSettled splits old.leaves new.leaves
  pub size : new.size ≡ old.size

-- the answer is that of the world, and the table has the world after it
pub record Updates (splits : List OpenSplit) (old new : TableView) (op : Op) (answer : Answer) : Type 0 where
  pub answer_is : answer ≡ answer_of old.world op
  pub changes : Changes splits old new (after_of old.world op)

-- if the operation changes the world, the step was taken; if not, the step was not called and the result is Ok
abbrev pub TellsIf : {C A : Type 0} → (C → C → Type 0) → (C → C → Type 0) → Bool → C → C → Result A Undone → Type 0
TellsIf done lost true old new result = Told done lost old new result
TellsIf done lost false old new (Ok _) = new ≡ old
TellsIf done lost false old new (Err _) = ⊥
