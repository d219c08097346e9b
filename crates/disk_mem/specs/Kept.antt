-- What a recorded file keeps.
use Rattle.std.specs.Prelude.{◌≡◌, ℕ, ◌-◌, ◌≤◌, List, length}
use Rattle.std.specs.List.{All}
use Rattle.std.specs.Vec.{vec_len, vec_capacity}
use Rattle.disk_mem.specs.declared.recorded.RecordedFile.TheInside.{Inside}
use Rattle.disk_mem.specs.declared.touches.Touch.{Touch}
use Rattle.disk_mem.specs.Changes.{written}
use Rattle.disk_mem.specs.Recorded.{FileView, changes_of, IsStored}
use Rattle.disk_mem.specs.Scans.{file_by}

abbrev pub recorded_view : Inside → FileView
recorded_view a = record { first = a.first.items; changes = changes_of a.pieces.items a.touches.items; room = a.room; spare = vec_capacity a.touches - vec_len a.touches }

-- the bytes held and the list of pieces are those of the record
pub record IsRecordOf (first held pieces : List ℕ) (touches : List Touch) : Type 0 where
  pub bytes : held ≡ (file_by first pieces touches).held
  pub lengths : length pieces ≡ written (changes_of pieces touches)
  pub stored : All (IsStored (length pieces)) touches

-- the same, and both lists have room for all later writes
pub record IsKept (a : Inside) : Type 0 where
  pub record_of : IsRecordOf a.first.items a.held.items a.pieces.items a.touches.items
  pub room_for_pieces : a.room ≤ vec_capacity a.pieces
  pub room_for_held : a.room ≤ vec_capacity a.held
