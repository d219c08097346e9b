-- What the next opening of a file finds, after a store over it was closed.
use Rattle.std.specs.Prelude.{◌≡◌, ◌⊎◌, ℕ, List, []}
use Rattle.cell_format.specs.declared.cell.Cell.{Cell}
use Rattle.log_state.specs.Recovers.{Recovers}
use Rattle.log_compact.specs.Compacting.{IsOnWay}
use Rattle.plain_list.specs.declared.entries.Entry.{Entry}
use Rattle.plain_list.specs.History.{world_after}
use Rattle.book_lock.specs.declared.origin.Origin.{Origin}

-- An origin follows from another one after a history if its objects are those that the history leaves. The next opening
-- of a file has such an origin, whatever a crash left of the file after the close (`finds-closed`, proofs/Again). That
-- opening finds the cells of the first opening, and then those of the history (`finds-cells`). `finds-last-world` and
-- `cells-found` say the same after rotations.
abbrev pub GoesOnFrom : Origin → List Entry → Origin → Type 0
GoesOnFrom first h next = next.world ≡ world_after first.world h

-- What a crash may leave of two files while a store continues from the first to the second. While the second file is on
-- the way to the fresh log, the first file keeps its cells. After the second file has all its cells, the first has its
-- cells or none. `finds-left` (proofs/Between) says that an opening of both files begins with the objects that the
-- history left. `finds-last-left` says the same after other rotations.
abbrev pub IsBetween : ℕ → List Cell → List Cell → List ℕ → List ℕ → Type 0
IsBetween w cells fresh first second = (Recovers w cells first × IsOnWay w fresh second) ⊎ ((Recovers w cells first ⊎ Recovers w [] first) × Recovers w fresh second)
