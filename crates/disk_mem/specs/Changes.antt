-- A file and the calls that change or sync it: what a read returns, and what a crash may leave.
use Rattle.std.specs.Prelude.{ℕ, ◌+◌, Bool, true, false, List, [], ◌∷◌, ◌++◌, length, take, drop}
use Rattle.disk_mem.specs.Pending.{Pending, settled, after_write, after_cut}

-- a call that changes or syncs the file, and its result
pub data Change : Type 0 where
  wrote : ℕ → List ℕ → Change
  failed_write : ℕ → ℕ → Change
  did_cut : ℕ → Change
  failed_cut : ℕ → Change
  synced : Change
  failed_sync : Change

-- whether the call returned Ok
abbrev pub went_well : Change → Bool
went_well (wrote at piece) = true
went_well (failed_write at n) = false
went_well (did_cut n) = true
went_well (failed_cut n) = false
went_well synced = true
went_well failed_sync = false

-- what a read returns, and what a crash may leave
pub record File : Type 0 where
  pub held : List ℕ
  pub pending : Pending

-- a file with these bytes and nothing pending
abbrev pub started : List ℕ → File
started bytes = record { held = bytes; pending = settled bytes }

-- the bytes with a piece written over them, and past their end
abbrev pub over : ℕ → List ℕ → List ℕ → List ℕ
over at piece old = take at old ++ piece ++ drop (at + length piece) old

-- what a read returns after a call; a call that failed changes nothing
abbrev pub held_after : List ℕ → Change → List ℕ
held_after held (wrote at piece) = over at piece held
held_after held (failed_write at n) = held
held_after held (did_cut n) = take n held
held_after held (failed_cut n) = held
held_after held synced = held
held_after held failed_sync = held

-- what a crash may leave after a call; a failed write or cut counts as one that succeeded, and a failed sync fixes
-- nothing
abbrev pub pending_after : File → Change → Pending
pending_after f (wrote at piece) = after_write at (length piece) f.pending
pending_after f (failed_write at n) = after_write at n f.pending
pending_after f (did_cut n) = after_cut n f.pending
pending_after f (failed_cut n) = after_cut n f.pending
pending_after f synced = settled f.held
pending_after f failed_sync = f.pending

-- the file after a call
abbrev pub changed : File → Change → File
changed f c = record { held = held_after f.held c; pending = pending_after f c }

-- the file after several calls, in order
abbrev pub changed_by : File → List Change → File
changed_by f [] = f
changed_by f (c ∷ cs) = changed_by (changed f c) cs

-- how many bytes the successful writes brought
abbrev pub written : List Change → ℕ
written [] = 0
written (wrote at piece ∷ cs) = length piece + written cs
written (failed_write at n ∷ cs) = written cs
written (did_cut n ∷ cs) = written cs
written (failed_cut n ∷ cs) = written cs
written (synced ∷ cs) = written cs
written (failed_sync ∷ cs) = written cs
