-- The command `show`.
use Rattle.std.specs.Prelude.{ℕ, List}
use Rattle.zorder.specs.declared.points.Region.{Region}
use Rattle.cell_format.specs.declared.cell.Cell.{Cell}
use Rattle.log_state.specs.Recovers.{state_of}
use Rattle.run_ends.specs.ObjectLines.{objects_text}
use Rattle.run_ends.specs.Ends.{Ends, Done, Targets, IsQuiet, IsUnread}
use Rattle.log_run.specs.Checking.{EndsTelling}

-- a title, and a line for each object in the box, in the order of ids, from the state after these records
abbrev pub shown_text : Region → ℕ → List Cell → List ℕ
shown_text region w cells = objects_text region (state_of w cells).world

-- what `show` does with its sink and its drives
abbrev pub ShowsLog : {D : Type 0} → List ℕ → Region → Done (Targets D) → Type 0
ShowsLog file region done = IsQuiet (EndsTelling (shown_text region) file) done

-- what `show` promises
abbrev pub Shows : {S D : Type 0} → List ℕ → Region → Done (Ends S D) → Type 0
Shows file region done = IsUnread (ShowsLog file region) done
