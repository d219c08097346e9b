-- What an append of cells does to the file of a log, and to cells that wait for it.
use Rattle.std.specs.Prelude.{◌≡◌, ◌⊎◌, ℕ, List, []}
use Rattle.cell_format.specs.declared.cell.Cell.{Cell}
use Rattle.disk_trait.specs.Drive.{Drive}
use Rattle.split_log.specs.LogView.{LogView}
use Rattle.split_log.specs.Append.{AddsAll, AllFail}
use Rattle.kept_log.specs.declared.faults.AppendAllLost.{AppendAllLost}
use Rattle.kept_log.specs.declared.faults.AppendAllLost.TheVariants.{Disk, Memory}

-- The cells were added to the file.
abbrev pub FileAdds : {D : Type 0} → (D → Drive) → List Cell → LogView D → LogView D → Type 0
FileAdds drive more old new = AddsAll more old.cells new.cells new.failed (drive old.disk) (drive new.disk)

-- The drive failed while the cells were added. The first of them has this number.
abbrev pub FileFails : {D : Type 0} → (D → Drive) → List Cell → ℕ → LogView D → LogView D → Type 0
FileFails drive more number old new = AllFail more number old.cells new.cells new.failed (drive old.disk) (drive new.disk)

-- The cells were not added to the file. Without memory nothing changed.
abbrev pub AllFailed : {D : Type 0} → (D → Drive) → List Cell → AppendAllLost → LogView D → LogView D → Type 0
AllFailed drive more (Disk number) old new = FileFails drive more number old new
AllFailed drive more Memory old new = new ≡ old

-- All of the cells wait and the file is as it was, or all were added to the file and none waits.
abbrev pub HeldOrAdded : {D : Type 0} → (D → Drive) → List Cell → List Cell → LogView D → LogView D → Type 0
HeldOrAdded drive all waiting old new =
    ((waiting ≡ all) × (new ≡ old))
    ⊎ ((waiting ≡ []) × FileAdds drive all old new)
