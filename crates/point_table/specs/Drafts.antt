-- What a batch of operations leaves of a table, worked out beside the table.
use Rattle.std.specs.Prelude.{◌≡◌, ℕ, Bool, false, List, [], ◌∷◌, length, Option, Some, None}
use Rattle.std.specs.List.{AllByRecursion, list_any}
use Rattle.plain_list.specs.declared.ops.Op.{Op}
use Rattle.plain_list.specs.declared.ops.Answer.{Answer}
use Rattle.plain_list.specs.declared.world.Stamped.{Stamped}
use Rattle.plain_list.specs.World.{World, member_of, places_of, IsWorld}
use Rattle.plain_list.specs.Answer.{with_member, without, answer_of, after_of, is_change}
use Rattle.plain_list.specs.Batch.{answers_to, after_all}
use Rattle.plain_list.specs.State.{OpenSplit}
use Rattle.index_layer.specs.Leaves.{Leaf}
use Rattle.index_layer.specs.Stands.{HasRowsOf}
use Rattle.point_table.specs.Changes.{bases_of, AreSettled}
use Rattle.point_table.specs.Crowds.{crowded_of}
use Rattle.point_table.specs.TableView.{TableView}
use Rattle.point_table.specs.Updates.{Changes}

-- the net changes of a batch: each id that it changed, with the position that the object has now, or none if it is gone
abbrev pub Net : Type 0
Net = List (ℕ × Option Stamped)

-- the world with the object of this id at a position, or without it
abbrev pub left_at : ℕ → Option Stamped → World → World
left_at id None world = without id world
left_at id (Some to) world = with_member (member_of id to) (without id world)

-- the world after these net changes
abbrev pub after_net : Net → World → World
after_net [] world = world
after_net (e ∷ es) world = left_at e.0 e.1 (after_net es world)

-- one more change after these, of the object with this id
abbrev pub LeavesAt : ℕ → Option Stamped → Net → Net → Type 0
LeavesAt id now old new = (world : World) → IsWorld world → after_net new world ≡ left_at id now (after_net old world)

-- the net changes and the leaves after some operations of a batch, the names of the leaves that are to be split then,
-- and the number of objects
pub record PlanView : Type 0 where
  pub left : Net
  pub leaves : List Leaf
  pub names : List (List Bool)
  pub len : ℕ

-- The plan has the number of objects, their rows, and the names of the leaves that are to be split. Its leaves have
-- kept their names, and their bases if their splits are open, and the others that changed have no delta.
pub record Planned (w : ℕ) (splits : List OpenSplit) (table : TableView) (plan : PlanView) : Type 0 where
  pub before : IsWorld table.world
  pub len : plan.len ≡ length (after_net plan.left table.world)
  pub world : IsWorld (after_net plan.left table.world)
  pub rows : AllByRecursion (HasRowsOf (places_of (after_net plan.left table.world))) plan.leaves
  pub crowded : plan.names ≡ crowded_of w table.size plan.leaves
  pub bases : bases_of splits plan.leaves ≡ bases_of splits table.leaves
  pub settled : AreSettled splits table.leaves plan.leaves

-- the answer is that of the planned world, the new plan has the world after the operation, and it is the old one if the
-- answer is no change
pub record PlansNext (w : ℕ) (splits : List OpenSplit) (table : TableView) (op : Op) (old new : PlanView) (answer : Answer) : Type 0 where
  pub answer_is : answer ≡ answer_of (after_net old.left table.world) op
  pub world : after_net new.left table.world ≡ after_of (after_net old.left table.world) op
  pub planned : Planned w splits table new
  pub calm : is_change answer ≡ false → new ≡ old

-- what contracts see of a draft: the net changes, the leaves and the bucket size after the batch, and the answers
pub record DraftView : Type 0 where
  pub left : Net
  pub leaves : List Leaf
  pub size : ℕ
  pub answers : List Answer

-- the table after a draft of it is published
abbrev pub drafted : TableView → DraftView → TableView
drafted table d = record table { leaves = d.leaves; world = after_net d.left table.world }

-- A draft of this table: its leaves have the rows of the objects after its net changes, and without a change it leaves
-- the table as it is.
pub record IsDraftOf (table : TableView) (d : DraftView) : Type 0 where
  pub size : d.size ≡ table.size
  pub rows : AllByRecursion (HasRowsOf (places_of (after_net d.left table.world))) d.leaves
  pub calm : list_any is_change d.answers ≡ false → drafted table d ≡ table

-- a draft of a batch: it has the answers at their places, and published it is the change of the table to the world after
-- all operations
pub record Drafts (splits : List OpenSplit) (table : TableView) (ops : List Op) (d : DraftView) : Type 0 where
  pub of : IsDraftOf table d
  pub answers : d.answers ≡ answers_to table.world ops
  pub changes : Changes splits table (drafted table d) (after_all table.world ops)
