-- The plan of a draft after all operations of a batch.
use Rattle.std.specs.Prelude.{◌≡◌, ℕ, false, List, []}
use Rattle.std.specs.List.{list_any}
use Rattle.plain_list.specs.declared.ops.Op.{Op}
use Rattle.plain_list.specs.declared.ops.Answer.{Answer}
use Rattle.plain_list.specs.Answer.{is_change}
use Rattle.plain_list.specs.Batch.{answers_to, after_all}
use Rattle.plain_list.specs.State.{OpenSplit}
use Rattle.index_layer.specs.Leaves.{Leaf}
use Rattle.point_table.specs.Drafts.{after_net, PlanView, Planned, PlansNext}
use Rattle.point_table.specs.Splits.{splits_of}
use Rattle.point_table.specs.TableView.{TableView}
use Rattle.point_table.specs.declared.crowded.Begun.{Begun}
use Rattle.point_table.specs.declared.table.plans.Plan.{Plan}

abbrev pub plan_of : {I P : Type 0} → (I → List Leaf) → Plan I P → PlanView
plan_of leaves p = record { left = p.left.entries; leaves = leaves p.index; names = p.crowded.names; len = p.len }

-- a plan without a change
pub record IsFresh (table : TableView) (plan : PlanView) : Type 0 where
  pub left : plan.left ≡ []
  pub leaves : plan.leaves ≡ table.leaves

-- The answers are those at their places, and the plan has the world after all operations. If no answer is a change, the
-- plan has none either.
pub record Plans (w : ℕ) (splits : List OpenSplit) (table : TableView) (ops : List Op) (plan : PlanView) (answers : List Answer) : Type 0 where
  pub answers_are : answers ≡ answers_to table.world ops
  pub world : after_net plan.left table.world ≡ after_all table.world ops
  pub planned : Planned w splits table plan
  pub calm : list_any is_change answers ≡ false → IsFresh table plan

-- one operation was answered and planned while these splits are open
abbrev pub IsNext : {I P : Type 0} → (I → List Leaf) → ℕ → List Begun → TableView → Op → Plan I P → Plan I P → Answer → Type 0
IsNext leaves w begun table op old new answer = PlansNext w (splits_of begun) table op (plan_of leaves old) (plan_of leaves new) answer

-- all operations of a batch were answered and planned while these splits are open
abbrev pub IsWhole : {I P : Type 0} → (I → List Leaf) → ℕ → List Begun → TableView → List Op → Plan I P → List Answer → Type 0
IsWhole leaves w begun table ops plan answers = Plans w (splits_of begun) table ops (plan_of leaves plan) answers
