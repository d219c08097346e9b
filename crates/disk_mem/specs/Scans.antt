-- What a record determines of a file without looking at bytes.
use Rattle.std.specs.Prelude.{◌≡◌, ℕ, ◌+◌, ◌≤◌, ◌^◌, min, max, List, [], length, take, drop}
use Rattle.disk_mem.specs.declared.touches.Touch.{Touch}
use Rattle.disk_mem.specs.declared.touches.Touch.TheVariants.{Wrote, FailedWrite, DidCut, FailedCut, Synced, FailedSync}
use Rattle.disk_mem.specs.declared.scans.Scan.{Scan}
use Rattle.disk_mem.specs.Changes.{File, started, changed_by}
use Rattle.disk_mem.specs.Recorded.{changes_of, ranges_of}

-- the file after the calls of a record
abbrev pub file_by : List ℕ → List ℕ → List Touch → File
file_by first pieces touches = changed_by (started first) (changes_of pieces touches)

-- a scan of a record: the lengths of the file after it, and the number of entries up to the last sync that succeeded
pub record IsScanOf (first pieces : List ℕ) (f : File) (touches : List Touch) (s : Scan) : Type 0 where
  pub file : f ≡ file_by first pieces touches
  pub len : s.len ≡ length f.held
  pub cut : s.cut ≡ f.pending.cut
  pub least : s.least ≡ f.pending.least
  pub greatest : s.greatest ≡ f.pending.greatest
  pub synced : s.synced ≤ length touches
  pub stable : f.pending.stable ≡ (file_by first pieces (take s.synced touches)).held
  pub touched : f.pending.touched ≡ ranges_of [] (drop s.synced touches)

abbrev pub IsScan : List ℕ → List ℕ → List Touch → Scan → Type 0
IsScan first pieces touches s = IsScanOf first pieces (file_by first pieces touches) touches s

-- a scan after one more entry; `before` is the number of earlier entries
abbrev pub scanned : Touch → ℕ → Scan → Scan
scanned (Wrote at from n) before s = record s { len = max s.len (min at s.len + n); greatest = max s.greatest (at + n) }
scanned (FailedWrite at n) before s = record s { greatest = max s.greatest (at + n) }
scanned (DidCut n) before s = record s { len = min n s.len; cut = min s.cut n; least = min s.least n }
scanned (FailedCut n) before s = record s { cut = min s.cut n; least = min s.least n }
scanned Synced before s = record { len = s.len; cut = s.len; least = s.len; greatest = s.len; synced = before + 1 }
scanned FailedSync before s = s

-- an entry's range ends at byte 2^40 or before
abbrev pub IsSmall : Touch → Type 0
IsSmall (Wrote at from len) = at + len ≤ 2 ^ 40
IsSmall (FailedWrite at len) = at + len ≤ 2 ^ 40
IsSmall (DidCut len) = Unit {0}
IsSmall (FailedCut len) = Unit {0}
IsSmall Synced = Unit {0}
IsSmall FailedSync = Unit {0}
