-- The state of the cells so far, as a replay keeps it.
use Rattle.std.specs.Prelude.{◌≡◌, ℕ, ◌+◌, ◌≤◌, true, false, List, length, Option, Some, Result, IfOk, OnErr, Err}
use Rattle.std.specs.List.{AllByRecursion}
use Rattle.cell_format.specs.Spelling.{IsVersion}
use Rattle.zorder.specs.Width.{IsWidth}
use Rattle.cell_format.specs.declared.cell.Cell.{Cell}
use Rattle.zorder.specs.declared.points.Point.{Point}
use Rattle.plain_list.specs.State.{State, OpenSplit, step}
use Rattle.recovery.specs.declared.leaf_map.MarkedLeaf.{MarkedLeaf}
use Rattle.recovery.specs.declared.replay.StepFault.{StepFault}
use Rattle.recovery.specs.declared.replay.StepFault.TheVariants.{Impossible}
use Rattle.log_state.specs.Recovers.{entry_of, is_possible_cell}
use Rattle.recovery.specs.SplitMap.{IsRisingSplits}
use Rattle.recovery.specs.LeafMap.{split_at}
use Rattle.recovery.specs.Walked.{object_of, place_in}

-- The version of the log, the width of its splits, and the state.
pub record ReplayView : Type 0 where
  pub version : ℕ
  pub width : ℕ
  pub state : State

-- An open split is the one that was last begun of its leaf, and that leaf may be split.
pub record IsOpen (width begun : ℕ) (leaves : List MarkedLeaf) (s : OpenSplit) : Type 0 where
  pub mark : split_at leaves s.name ≡ Some s.number
  pub short : length s.name + width ≤ 64
  pub number : s.number ≤ begun

pub record IsReplay (version width begun : ℕ) (leaves : List MarkedLeaf) (splits : List OpenSplit) : Type 0 where
  pub version_is : IsVersion version
  pub width_is : IsWidth width
  pub rising : IsRisingSplits splits
  pub each : AllByRecursion (IsOpen width begun leaves) splits

-- A cell was processed. It is possible, the new state is the one after it, and `before` is the position of its object.
-- Or nothing changed: the cell is impossible, or memory ran out.
pub record Steps (width : ℕ) (old new : State) (cell : Cell) (result : Result (Option Point) StepFault) : Type 0 where
  pub done : IfOk result (λ before. (is_possible_cell width old cell ≡ true) × (new ≡ step width old (entry_of cell)) × (before ≡ place_in old.world (object_of cell)))
  pub refused : result ≡ Err Impossible → is_possible_cell width old cell ≡ false
  pub kept : OnErr result (new ≡ old)
