-- Where no fresh log may replace the log of a store, the history alone tells how many cells the log has. So the causes of
-- refusals are exact there.
use Rattle.std.specs.Prelude.{◌≡◌, ℕ, false, List, length, Option, Result}
use Rattle.std.proofs.Common.{subst, ap, ◌∙◌}
use Rattle.plain_list.specs.declared.ops.Op.{Op}
use Rattle.plain_list.specs.declared.entries.Entry.{Entry}
use Rattle.plain_list.specs.declared.entries.Lost.{Lost}
use Rattle.commit_book.specs.Refusals.{IsRefusedBy}
use Rattle.commit_book.specs.RoomLeft.{room_beside}
use Rattle.commit_book.specs.declared.book.Done.{Done}
use Rattle.commit_book.specs.declared.book.room.Room.{Room}
use Rattle.commit_book.specs.declared.book.batches.BatchDone.{BatchDone}
use Rattle.commit_book.specs.declared.faults.BookFault.{BookFault}
use Rattle.book_lock.specs.Pass.{Known}
use Rattle.book_lock.specs.declared.origin.Origin.{Origin}
use Rattle.sessions.specs.Shared.{moves_of}
use Rattle.sessions.specs.Steps.{IsCount, IsStep, cells_at}
use Rattle.sessions.specs.Calls.{Called, IsAnswered, call_cause}
use Rattle.sessions.specs.Batches.{Applied, IsApplied, batch_cause}
use Rattle.sessions.specs.Rooms.{IsRoom, room_at}
use Rattle.sessions.specs.declared.faults.CallFault.{CallFault}

pub counted-at : (origin : Origin) (before : List Entry) (n : ℕ) → moves_of origin ≡ false → IsCount origin before n → n ≡ cells_at origin before
counted-at origin before n still counted = counted still

pub step-exact : {A : Type 0} (IsFree : BookFault → Type 0) (cause : ℕ → List Entry → Option BookFault) (entry : A → Entry) (lost : List Entry → Lost) (P : List Entry → A → Type 0) (old new : Known) (result : Result A BookFault)
    → moves_of old.origin ≡ false → (step : IsStep IsFree cause entry lost P old new result) → IsRefusedBy IsFree (cause (cells_at old.origin step.before) step.before) result
step-exact IsFree cause entry lost P old new result still step = subst (λ (n : ℕ). IsRefusedBy IsFree (cause n step.before) result) (step.counted still) step.refused

pub called-exact : (w session row : ℕ) (op : Op) (old new : Known) (result : Result Done CallFault) → moves_of old.origin ≡ false → (called : Called w session row op old new result)
    → IsAnswered op (call_cause old.origin op (cells_at old.origin called.before) called.before) result
called-exact w session row op old new result still called = subst (λ (n : ℕ). IsAnswered op (call_cause old.origin op n called.before) result) (called.counted still) called.answered

pub applied-exact : (w session row : ℕ) (ops : List Op) (old new : Known) (result : Result BatchDone CallFault) → moves_of old.origin ≡ false → (applied : Applied w session row ops old new result)
    → IsApplied (batch_cause old.origin ops (cells_at old.origin applied.before) applied.before) result
applied-exact w session row ops old new result still applied = subst (λ (n : ℕ). IsApplied (batch_cause old.origin ops n applied.before) result) (applied.counted still) applied.answered

pub room-exact : (origin : Origin) (seen : List Entry) (room : Room) → moves_of origin ≡ false → IsRoom origin seen room → room ≡ room_at origin seen
room-exact origin seen room still is = is.room_is ∙ ap (λ (cells : Option ℕ). room_beside origin.kept cells (length seen)) (is.counted still)
