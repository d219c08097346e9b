-- What a client promises of a call.
use Rattle.std.specs.Prelude.{◌≡◌, ℕ, List, Option, Result, Ok, Err, IfErr}
use Rattle.plain_list.specs.declared.entries.Entry.{Entry}
use mathlib.Core.Logic.{inl, inr}
use Rattle.plain_list.specs.declared.ops.Op.{Op}
use Rattle.plain_list.specs.declared.object_changes.Change.{Change}
use Rattle.plain_list.specs.Changes.{change_of}
use Rattle.commit_book.specs.declared.book.Done.{Done}
use Rattle.book_lock.specs.Pass.{Known}
use Rattle.sessions.specs.declared.faults.CallFault.{CallFault}
use Rattle.sessions.specs.Calls.{Called}
use Rattle.sessions.specs.Lanes.{Tries}
use Rattle.sessions.specs.Opens.{leaves_seen, places_seen, listed_by, Opens, OpensRefused}
use Rattle.sessions.specs.Splits.{SamePass}
use Rattle.store_client.specs.Caller.{Caller, has_asked}
use Rattle.store_client.specs.Tending.{OrStops}
use Rattle.store_client.specs.declared.client.Reply.{Reply}

-- What comes after a call: the split of the leaf that it returned, or nothing if it was refused.
abbrev pub Follows : ℕ → Known → Known → Result Done CallFault → Result Reply CallFault → Type 0
Follows w mid new (Ok done) (Ok reply) = (reply.place ≡ done.place) × (reply.answer ≡ done.answer) × Tries w done.full mid new reply.split
Follows w mid new (Err fault) (Err told) = (told ≡ fault) × (new ≡ mid)
Follows w mid new (Ok done) (Err told) = ⊥
Follows w mid new (Err fault) (Ok reply) = ⊥

-- The place of the last call that was answered. It is the place of this call, if this call was answered.
abbrev pub last_place : ℕ → Result Reply CallFault → ℕ
last_place before (Ok reply) = reply.place
last_place before (Err fault) = before

-- What the last call that was answered has changed. It is what this call has changed, if this call was answered.
abbrev pub last_change : Op → Option Change → Result Reply CallFault → Option Change
last_change op before (Ok reply) = change_of reply.place op reply.answer
last_change op before (Err fault) = before

-- What a client promises of a call: what the store returned, the pass after that, and the split after it. Nothing else
-- changed. Before the call the client may have let the store continue over its second file. The history doesn't show it,
-- unless a drive failed: then the call is refused.
pub record Asked (w : ℕ) (op : Op) (old new : Caller) (result : Result Reply CallFault) : Type 0 where
  pub mid : Known
  pub told : Result Done CallFault
  pub called : OrStops (Called w old.session old.row op old.pass mid) old.pass mid told
  pub follows : Follows w mid new.pass told result
  pub client : new ≡ has_asked old new.pass (last_place old.place result) (last_change op old.change result)
  pub same : SamePass old.pass new.pass

-- The history that the call saw under the lock.
abbrev pub before_call : (w session row : ℕ) (op : Op) (old new : Known) (told : Result Done CallFault) → OrStops (Called w session row op old new) old new told → List Entry
before_call w session row op old new (Ok done) called = called.before
before_call w session row op old new (Err fault) (inl called) = called.before
before_call w session row op old new (Err fault) (inr stops) = stops.2.before

abbrev pub before_in : {w : ℕ} {op : Op} {old new : Caller} {result : Result Reply CallFault} → Asked w op old new result → List Entry
before_in {w = w} {op = op} {old = old} asked = before_call w old.session old.row op old.pass asked.mid asked.told asked.called

-- The same, and how often a bucket was opened for the call.
pub record AskedCounted (w : ℕ) (op : Op) (old new : Caller) (before now : ℕ) (result : Result Reply CallFault) : Type 0 where
  pub asked : Asked w op old new result
  pub opened : Opens op (leaves_seen w asked.mid) (places_seen asked.mid) (listed_by (λ (reply : Reply). reply.answer) result) before now
  pub refused : IfErr result (λ fault. OpensRefused fault before now)
