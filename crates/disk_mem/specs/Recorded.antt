-- A file with the record of the calls on it: what each entry of the record means.
use Rattle.std.specs.Prelude.{ℕ, ◌+◌, ◌-◌, ◌≤◌, ◌^◌, List, [], ◌∷◌, ◌++◌, take, drop, map, Option, Some, None}
use Rattle.std.specs.Option.{option_to_list}
use Rattle.disk_mem.specs.declared.touches.Touch.{Touch}
use Rattle.disk_mem.specs.declared.touches.Touch.TheVariants.{Wrote, FailedWrite, DidCut, FailedCut, Synced, FailedSync}
use Rattle.disk_mem.specs.Changes.{Change, wrote, failed_write, did_cut, failed_cut, synced, failed_sync, File, started, changed_by}

-- the call of an entry; one list has the pieces of all writes, one after the other
abbrev pub change_of : List ℕ → Touch → Change
change_of pieces (Wrote at from len) = wrote at (take len (drop from pieces))
change_of pieces (FailedWrite at len) = failed_write at len
change_of pieces (DidCut len) = did_cut len
change_of pieces (FailedCut len) = failed_cut len
change_of pieces Synced = synced
change_of pieces FailedSync = failed_sync

-- the calls of a record
abbrev pub changes_of : List ℕ → List Touch → List Change
changes_of pieces touches = map (change_of pieces) touches

-- an entry's piece is within the first n bytes of the pieces, and its range ends at byte 2^40 or before
abbrev pub IsStored : ℕ → Touch → Type 0
IsStored n (Wrote at from len) = (from + len ≤ n) × (at + len ≤ 2 ^ 40)
IsStored n (FailedWrite at len) = at + len ≤ 2 ^ 40
IsStored n (DidCut len) = Unit {0}
IsStored n (FailedCut len) = Unit {0}
IsStored n Synced = Unit {0}
IsStored n FailedSync = Unit {0}

-- an entry that does not change what a read returns
abbrev pub IsIdle : Touch → Type 0
IsIdle (Wrote at from len) = ⊥
IsIdle (FailedWrite at len) = at + len ≤ 2 ^ 40
IsIdle (DidCut len) = ⊥
IsIdle (FailedCut len) = Unit {0}
IsIdle Synced = Unit {0}
IsIdle FailedSync = Unit {0}

-- the bytes at the start; the calls since; the room in bytes; how many more calls can be recorded
pub record FileView : Type 0 where
  pub first : List ℕ
  pub changes : List Change
  pub room : ℕ
  pub spare : ℕ

-- the file now
abbrev pub file_of : FileView → File
file_of v = changed_by (started v.first) v.changes

-- the file after the first n calls
abbrev pub file_after : ℕ → FileView → File
file_after n v = changed_by (started v.first) (take n v.changes)

-- the file after one more call
abbrev pub noted : Change → FileView → FileView
noted c v = record { first = v.first; changes = v.changes ++ c ∷ []; room = v.room; spare = v.spare - 1 }

-- the range that the write of an entry touches, as its start and its length
abbrev pub range_of : Touch → Option (ℕ × ℕ)
range_of (Wrote at from len) = Some (at, len)
range_of (FailedWrite at len) = Some (at, len)
range_of (DidCut len) = None
range_of (FailedCut len) = None
range_of Synced = None
range_of FailedSync = None

-- the ranges that the writes of some entries touch, the last first, before the earlier ones
abbrev pub ranges_of : List (ℕ × ℕ) → List Touch → List (ℕ × ℕ)
ranges_of before [] = before
ranges_of before (t ∷ ts) = ranges_of (option_to_list (range_of t) ++ before) ts
