-- A drive in memory as contracts see it.
use Rattle.std.specs.Prelude.{◌≡◌, ℕ, ◌+◌, ◌≤◌, nat_le, nat_lt, Bool, ◌&&◌, if◌then◌else◌, List, [], ◌∷◌, ◌++◌, length, take, map, Option, Some, None, Result, is_ok}
use Rattle.causes.specs.Causes.{one_more}
use Rattle.disk_trait.specs.Drive.{Attach, Drive}
use Rattle.disk_mem.specs.declared.plans.DiskCall.{DiskCall}
use Rattle.disk_mem.specs.declared.plans.DiskCall.TheVariants as call
use Rattle.disk_mem.specs.declared.plans.DiskCall.TheVariants.{Write, Cut, Sync}
use Rattle.disk_mem.specs.Plans.{PlanView, planned, verdict_of, is_passed, is_made}
use Rattle.disk_mem.specs.Pending.{IsImage}
use Rattle.disk_mem.specs.Changes.{Change, wrote, failed_write, did_cut, failed_cut, synced, failed_sync, went_well, File, started, changed_by, written}

-- the plan; the bytes at the start; the calls that changed or synced since; the room in bytes; the number of faults;
-- the attaches that returned Ok
pub record DiskView : Type 0 where
  pub plan : PlanView
  pub first : List ℕ
  pub changes : List Change
  pub room : ℕ
  pub faults : ℕ
  pub attaches : List Attach

-- the file at moment m, which is after m calls that changed or synced
abbrev pub file_at : DiskView → ℕ → File
file_at d m = changed_by (started d.first) (take m d.changes)

-- the file now
abbrev pub file_now : DiskView → File
file_now d = changed_by (started d.first) d.changes

-- the result of each call so far; None after the bound on calls is reached, since calls beyond it are in no list
abbrev pub calls_of : DiskView → Option (List Bool)
calls_of d = if nat_lt 0 d.plan.left then Some (map went_well d.changes) else None

-- The drive of this record. A crash now, or at an earlier moment, may leave the images of the file at that moment.
abbrev pub drive_by : List ℕ → List Change → ℕ × Option (List Bool) × List Attach → Drive
drive_by first changes counts = record {
  bytes = Some (changed_by (started first) changes).held;
  images = IsImage (changed_by (started first) changes).pending;
  clock = length changes;
  since = λ t c. (m : ℕ) × (t ≤ m) × (m ≤ length changes) × IsImage (changed_by (started first) (take m changes)).pending c;
  faults = counts.0;
  calls = counts.1;
  attaches = Some counts.2;
}

abbrev pub mem_drive : DiskView → Drive
mem_drive d = drive_by d.first d.changes (d.faults, calls_of d, d.attaches)

-- whether the next call of a kind passes, apart from bounds on bytes
abbrev pub passes : DiskCall → DiskView → Bool
passes call d = is_passed (verdict_of call d.plan)

-- whether the next write of n bytes at a place passes
abbrev pub write_passes : ℕ → ℕ → DiskView → Bool
write_passes at n d = passes Write d && (nat_le (at + n) d.room && nat_le (written d.changes + n) d.room)

-- the change that a call records; a call beyond the bound records none
abbrev pub noted_as : DiskCall → DiskView → Change → List Change
noted_as call d change = if is_made (verdict_of call d.plan) then change ∷ [] else []

-- The next call of a kind: whether it passes, and what it leaves. The plan counts it and the record keeps what it did.
-- A call that fails raises the count of faults, up to 2^64 - 1.
pub record Makes {T E : Type 0} (call : DiskCall) (ok : Bool) (done : List Change) (old new : DiskView) (result : Result T E) : Type 0 where
  pub passes : is_ok result ≡ ok
  pub after : new ≡ record {
    plan = planned call old.plan;
    first = old.first;
    changes = old.changes ++ done;
    room = old.room;
    faults = if ok then old.faults else one_more old.faults;
    attaches = old.attaches;
  }

-- The next attach, if memory suffices for its name. An attach that passes is recorded.
pub record MakesAttach {T E : Type 0} (name : List ℕ) (make : Bool) (old new : DiskView) (result : Result T E) : Type 0 where
  pub ok : is_ok result ≡ passes call.Attach old
  pub after : new ≡ record {
    plan = planned call.Attach old.plan;
    first = old.first;
    changes = old.changes;
    room = old.room;
    faults = if passes call.Attach old then old.faults else one_more old.faults;
    attaches = if passes call.Attach old then old.attaches ++ record { name = name; make = make } ∷ [] else old.attaches;
  }

-- the next call of a kind that changes nothing
abbrev pub MakesPlain : {T E : Type 0} → DiskCall → DiskView → DiskView → Result T E → Type 0
MakesPlain call old new result = Makes call (passes call old) [] old new result

-- the next write; if it fails, as planned or for lack of room, it is recorded as failed
abbrev pub MakesWrite : {T E : Type 0} → DiskView → DiskView → ℕ → List ℕ → Result T E → Type 0
MakesWrite old new at piece result =
    Makes Write (write_passes at (length piece) old) (noted_as Write old (if write_passes at (length piece) old then wrote at piece else failed_write at (length piece))) old new result

-- the next cut
abbrev pub MakesCut : {T E : Type 0} → DiskView → DiskView → ℕ → Result T E → Type 0
MakesCut old new len result = Makes Cut (passes Cut old) (noted_as Cut old (if passes Cut old then did_cut len else failed_cut len)) old new result

-- the next sync
abbrev pub MakesSync : {T E : Type 0} → DiskView → DiskView → Result T E → Type 0
MakesSync old new result = Makes Sync (passes Sync old) (noted_as Sync old (if passes Sync old then synced else failed_sync)) old new result
