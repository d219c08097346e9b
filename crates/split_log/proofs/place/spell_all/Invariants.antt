use Rattle.std.proofs.Common.{◌≡◌, ◌≤◌, ◌++◌, drop, vec_capacity}
use Rattle.std.specs.List.{flat_map, AllByRecursion}
use Rattle.cell_format.specs.Spelling.{newest, IsCell, spelling}
use Rattle.split_log.proofs.place.spell_all.Given as goal

-- The text of the cells so far, after what was there. Each of these cells fits.
abbrev pub invariant-loop-cell : goal.invariant-loop-cell
invariant-loop-cell l = record {
  text : l.text.items ++ flat_map spelling (drop l.cell-index l.cells) ≡ l.fn.text.items ++ flat_map spelling l.cells;
  fits : AllByRecursion (IsCell newest) (drop l.cell-index l.cells) → AllByRecursion (IsCell newest) l.cells;
  capacity : vec_capacity l.fn.text ≤ vec_capacity l.text;
}
