-- A store as one value, and a rotation that was refused.
use Rattle.std.specs.Prelude.{◌≡◌, ℕ, Bool, List, Result, Ok, Err, ⊤}
use Rattle.disk_trait.specs.Drive.{Drive}
use Rattle.plain_list.specs.History.{failed_cell}
use Rattle.log_compact.specs.Clearing.{Clears, FailsToClear}
use Rattle.store_client.specs.Caller.{Caller}
use Rattle.store_file.specs.Closed.{ClosesStore}
use Rattle.store_file.specs.Opened.{IsFirst}
use Rattle.store_file.specs.Rotated.{IsRotatedAlone, IsUnsure, RefusesAnew, world_left}
use Rattle.store_file.specs.declared.rotating.NotRotated.{NotRotated}
use Rattle.store_file.specs.declared.rotating.NotRotated.TheVariants as apart
use Rattle.store_file.specs.declared.rotating.RotateCause.{RotateCause}
use Rattle.store_file.specs.declared.rotating_at_sync.EndCause.{EndCause}
use Rattle.store_file.specs.declared.rotating_at_sync.EndCause.TheVariants as cause
use Rattle.pisrakun.specs.declared.file_store.EndedStore.{EndedStore}
use Rattle.pisrakun.specs.declared.file_store.EndedStore.TheVariants as ended
use Rattle.pisrakun.specs.declared.file_store.NotRotatedStore.{NotRotatedStore}
use Rattle.pisrakun.specs.declared.file_store.NotRotatedStore.TheVariants.{Kept, Unsure, Uncleared, Memory}
use Rattle.pisrakun.specs.declared.label.Label.{Label}

-- A store that comes back with a pass has all parts of it.
abbrev pub IsFirstIfKept : {I D P : Type 0} → NotRotated I D P → Type 0
IsFirstIfKept (apart.Kept store pass spare cause) = IsFirst store pass
IsFirstIfKept (apart.Unsure disk spare) = ⊤
IsFirstIfKept (apart.Uncleared book disk) = ⊤
IsFirstIfKept (apart.Memory book spare) = ⊤

-- The same, with the store and its pass as one value that calls with this label.
abbrev pub IsAsOne : {I D P T : Type 0} → Label → NotRotated I D P → NotRotatedStore I D T → Type 0
IsAsOne label (apart.Kept store pass spare cause) e = e ≡ Kept (record { pass = pass; session = label.session; row = label.row; place = label.place; change = label.change }) spare cause
IsAsOne label (apart.Unsure disk spare) e = e ≡ Unsure disk spare
IsAsOne label (apart.Uncleared book disk) e = e ≡ Uncleared book disk
IsAsOne label (apart.Memory book spare) e = e ≡ Memory book spare

-- What is left of a store that doesn't continue over a second file. If nothing was written there, it is the same store,
-- unchanged. If the second drive failed, the store was closed, and its log keeps the history. Else it is the book over the
-- second log: the first drive failed while its log was cleared, or memory ran out after that.
abbrev pub KeepsOrEnds : {I D T : Type 0} → (D → Drive) → ℕ → (List (List Bool) → Type 0) → Caller → D → NotRotatedStore I D T → Type 0
KeepsOrEnds drive w Are old spare (Kept store left cause) =
    (store ≡ old) × RefusesAnew drive w Are (failed_cell old.pass.seen) (world_left old.pass.origin old.pass.seen) spare left cause
KeepsOrEnds drive w Are old spare (Unsure disk left) =
    ClosesStore drive w (λ start. ⊤) old.pass disk × IsUnsure drive w Are (failed_cell old.pass.seen) (world_left old.pass.origin old.pass.seen) spare left
KeepsOrEnds drive w Are old spare (Uncleared book left) = IsRotatedAlone drive w Are (λ count. FailsToClear) old.pass spare book left
KeepsOrEnds drive w Are old spare (Memory book left) = IsRotatedAlone drive w Are Clears old.pass spare book left

-- Why a store doesn't continue over a second file, and why one has ended.
abbrev pub end_cause : {I D T : Type 0} → NotRotatedStore I D T → EndCause
end_cause (Kept store left why) = cause.Refused why
end_cause (Unsure disk left) = cause.Unsure
end_cause (Uncleared book left) = cause.Uncleared
end_cause (Memory book left) = cause.Memory

abbrev pub cause_left : {I D T : Type 0} → EndedStore I D T → EndCause
cause_left (ended.Unsure disk left) = cause.Unsure
cause_left (ended.Uncleared book left) = cause.Uncleared
cause_left (ended.Memory book left) = cause.Memory

-- The store goes on, and is returned with the second drive and the cause. Or it has ended, and all that is left of it is
-- returned.
abbrev pub ComesApart : {I D T : Type 0} → NotRotatedStore I D T → Result (Caller × D × RotateCause) (EndedStore I D T) → Type 0
ComesApart refused (Ok kept) = refused ≡ Kept kept.0 kept.1 kept.2
ComesApart refused (Err (ended.Unsure disk left)) = refused ≡ Unsure disk left
ComesApart refused (Err (ended.Uncleared book left)) = refused ≡ Uncleared book left
ComesApart refused (Err (ended.Memory book left)) = refused ≡ Memory book left
