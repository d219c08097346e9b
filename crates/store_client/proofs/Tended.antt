-- What a call leaves that came after its client let the store continue over a second file, or tried to.
use Rattle.std.proofs.Common.{◌≡◌, ◌∙◌, inl, inr, ℕ, true, cond, List, [], ◌∷◌, ◌++◌, Option, Some, None, Result, Ok, Err, refl, sym, ap, subst}
use Rattle.std.proofs.lemmas.List.{append-nil}
use mathlib.Core.List.{IsPrefix}
use Rattle.plain_list.specs.declared.ops.Op.{Op}
use Rattle.plain_list.specs.declared.ops.Op.TheVariants.{Put, Move, Remove, Find, Within, Near}
use Rattle.plain_list.specs.declared.entries.Entry.{Entry}
use Rattle.plain_list.specs.declared.entries.Entry.TheVariants.{Call, Begin, Install, Abandon, Fail}
use Rattle.plain_list.specs.declared.entries.Lost.{Lost}
use Rattle.plain_list.specs.History.{failed_cell}
use Rattle.disk_trait.specs.Drive.{Drive}
use Rattle.commit_book.specs.Moves.{lost_stop}
use Rattle.commit_book.specs.Syncs.{lost_sync}
use Rattle.commit_book.specs.declared.book.Done.{Done}
use Rattle.commit_book.specs.declared.book.batches.BatchDone.{BatchDone}
use Rattle.book_lock.specs.Pass.{Known}
use Rattle.sessions.specs.Batches.{Applied, BatchLeaves}
use Rattle.sessions.specs.Calls.{Called, CallLeaves}
use Rattle.sessions.specs.Runs.{HasLooked}
use Rattle.sessions.specs.Shared.{moves_of}
use Rattle.sessions.specs.Splits.{SamePass}
use Rattle.sessions.specs.Steps.{has_seen}
use Rattle.sessions.specs.declared.faults.CallFault.{CallFault}
use Rattle.sessions.specs.declared.faults.CallFault.TheVariants as call
use Rattle.sessions.proofs.StepLemmas.{prefix-later, same-later}
use Rattle.store_file.specs.declared.moving.Rotation.{Rotation}
use Rattle.store_file.specs.declared.moving.Rotation.TheVariants as turned
use Rattle.store_file.specs.declared.moving.NotRotatedOver.{NotRotatedOver}
use Rattle.store_file.specs.declared.moving.NotRotatedOver.TheVariants.{Stays, Unsynced, SpareFailed, FirstFailed}
use Rattle.store_file.specs.Moving.{RotatesAbove, Tends, stopped_at}
use Rattle.store_file.proofs.Turned.{rotates-same}
use Rattle.store_client.specs.Tending.{LooksOrStops, OrStops, Stops, StopsFor}

-- A call of a pass that has looked before it is a call of the pass as it was.
module _ (old : Known) (seen : List Entry) (w session row : ℕ) where
  leaves-behind : (op : Op) (before : List Entry) (new : Known) (told : Result Done CallFault) → CallLeaves w session row op (has_seen old seen) before new told → CallLeaves w session row op old before new told
  leaves-behind op before new (Ok done) leaves = (leaves.0, record { replies = record { place_is = leaves.1.replies.place_is; answer_is = leaves.1.replies.answer_is }; full_is = leaves.1.full_is })
  leaves-behind op before new (Err (call.Closed cell)) leaves = leaves
  leaves-behind op before new (Err (call.Disk cell)) leaves = leaves
  leaves-behind op before new (Err call.HistoryFull) leaves = leaves
  leaves-behind op before new (Err call.LogFull) leaves = leaves
  leaves-behind op before new (Err (call.Memory None)) leaves = leaves
  leaves-behind op before new (Err (call.Memory (Some place))) leaves = leaves

  batch-behind : (ops : List Op) (before : List Entry) (new : Known) (told : Result BatchDone CallFault) → BatchLeaves w session row ops (has_seen old seen) before new told → BatchLeaves w session row ops old before new told
  batch-behind ops before new (Ok done) leaves = (leaves.0, record { place_is = leaves.1.place_is; answers_are = leaves.1.answers_are; full_is = leaves.1.full_is })
  batch-behind ops before new (Err (call.Closed cell)) leaves = leaves
  batch-behind ops before new (Err (call.Disk cell)) leaves = record { added = leaves.added; cell_is = leaves.cell_is; change = leaves.change }
  batch-behind ops before new (Err call.HistoryFull) leaves = leaves
  batch-behind ops before new (Err call.LogFull) leaves = leaves
  batch-behind ops before new (Err (call.Memory place)) leaves = leaves

module _ (old from : Known) (looked : HasLooked old from) (w session row : ℕ) (new : Known) where
  pub called-behind : (op : Op) (told : Result Done CallFault) → Called w session row op from new told → Called w session row op old new told
  called-behind op told called =
      let at : Called w session row op (has_seen old from.seen) new told = subst (λ (k : Known). Called w session row op k new told) looked.pass_is called in
      record {
        before = at.before;
        later = prefix-later old.seen from.seen at.before looked.later at.later;
        alone = λ all. at.alone all ∙ looked.alone all;
        cells = at.cells;
        counted = at.counted;
        answered = at.answered;
        leaves = leaves-behind old from.seen w session row op at.before new told at.leaves;
      }

  pub applied-behind : (ops : List Op) (told : Result BatchDone CallFault) → Applied w session row ops from new told → Applied w session row ops old new told
  applied-behind ops told applied =
      let at : Applied w session row ops (has_seen old from.seen) new told = subst (λ (k : Known). Applied w session row ops k new told) looked.pass_is applied in
      record {
        before = at.before;
        later = prefix-later old.seen from.seen at.before looked.later at.later;
        alone = λ all. at.alone all ∙ looked.alone all;
        cells = at.cells;
        counted = at.counted;
        answered = at.answered;
        leaves = batch-behind old from.seen w session row ops at.before new told at.leaves;
      }

-- What a call left stands, whether or not the store might have been stopped before it.
pub or-stops : {A : Type 0} (Did : Result A CallFault → Type 0) (old new : Known) (result : Result A CallFault) → Did result → OrStops Did old new result
or-stops Did old new (Ok value) did = did
or-stops Did old new (Err fault) did = inl did

-- A history that ends with a failed append has one.
failed-last : (h : List Entry) (cell : ℕ) (lost : Lost) → failed_cell (h ++ Fail cell lost ∷ []) ≡ None → ⊥
failed-last [] cell lost none = absurd (cc none)
failed-last (Call session row op ∷ h) cell lost none = failed-last h cell lost none
failed-last (Begin number name ∷ h) cell lost none = failed-last h cell lost none
failed-last (Install number ∷ h) cell lost none = failed-last h cell lost none
failed-last (Abandon number ∷ h) cell lost none = failed-last h cell lost none
failed-last (Fail number one ∷ h) cell lost none = absurd (cc none)

module _ {D : Type 0} (drive : D → Drive) (w : ℕ) (old new : Known) where
  ends-failed : (h : List Entry) (cell : ℕ) (lost : Lost) → new.seen ≡ h ++ Fail cell lost ∷ [] → None ≡ failed_cell new.seen → ⊥
  ends-failed h cell lost is none = failed-last h cell lost (sym (ap failed_cell is) ∙ sym none)

  none-looked : (records : ℕ) (rotated : Result Rotation NotRotatedOver) → RotatesAbove drive w records old new rotated → None ≡ stopped_at new.seen rotated → HasLooked old new
  none-looked records (Ok turned.Enough) is none = is.looked
  none-looked records (Ok turned.NoSpare) is none = is.looked
  none-looked records (Ok turned.Done) is none = is.looked
  none-looked records (Err (Stays cause)) is none = is.looked
  none-looked records (Err Unsynced) is none = absurd (ends-failed is.syncs.before is.cell lost_sync (ap (λ (k : Known). k.seen) is.syncs.leaves) none)
  none-looked records (Err SpareFailed) is none = absurd (ends-failed is.before.entries is.cell lost_stop (ap (λ (k : Known). k.seen) is.added) none)
  none-looked records (Err FirstFailed) is none = absurd (ends-failed is.before.entries is.cell lost_stop (ap (λ (k : Known). k.seen) is.added) none)

  -- A store that was not stopped has only been looked at.
  pub tends-looked : Tends drive w old new None → HasLooked old new
  tends-looked tends = none-looked tends.records tends.rotated tends.rotates tends.result_is

  some-stops : (records cell : ℕ) (rotated : Result Rotation NotRotatedOver) → RotatesAbove drive w records old new rotated → Some cell ≡ stopped_at new.seen rotated → Stops old new cell
  some-stops records cell (Ok turned.Enough) is some = absurd (cc some)
  some-stops records cell (Ok turned.NoSpare) is some = absurd (cc some)
  some-stops records cell (Ok turned.Done) is some = absurd (cc some)
  some-stops records cell (Err (Stays cause)) is some = absurd (cc some)
  some-stops records cell (Err Unsynced) is some = record {
    before = is.syncs.before;
    later = is.syncs.later;
    alone = is.syncs.alone;
    number = is.cell;
    lost = lost_sync;
    lost_is = inr refl;
    added = is.syncs.leaves;
    cell_is = sym some;
    moves = sym (ap (λ (k : Known). moves_of k.origin) is.syncs.leaves) ∙ is.moves;
  }
  some-stops records cell (Err SpareFailed) is some = record {
    before = is.before.entries;
    later = is.later;
    alone = is.alone;
    number = is.cell;
    lost = lost_stop;
    lost_is = inl refl;
    added = is.added;
    cell_is = sym some;
    moves = sym (ap (λ (k : Known). moves_of k.origin) is.added) ∙ is.moves;
  }
  some-stops records cell (Err FirstFailed) is some = record {
    before = is.before.entries;
    later = is.later;
    alone = is.alone;
    number = is.cell;
    lost = lost_stop;
    lost_is = inl refl;
    added = is.added;
    cell_is = sym some;
    moves = sym (ap (λ (k : Known). moves_of k.origin) is.added) ∙ is.moves;
  }

  -- A store that was stopped has the failed append as its last entry.
  pub tends-stops : (cell : ℕ) → Tends drive w old new (Some cell) → Stops old new cell
  tends-stops cell tends = some-stops tends.records cell tends.rotated tends.rotates tends.result_is

  pub tends-same : (result : Option ℕ) → Tends drive w old new result → SamePass old new
  tends-same result tends = rotates-same drive w tends.records old new tends.rotated tends.rotates

-- A pass that nothing happened to has looked.
pub still-looked : (old : Known) → HasLooked old old
still-looked old = record { later = ([], append-nil old.seen); alone = λ all. refl; pass_is = refl }

-- A call after that stands as a call of the pass as it was.
module _ (w session row : ℕ) (old mid new : Known) where
  pub tended-call : (op : Op) (told : Result Done CallFault) → HasLooked old mid → Called w session row op mid new told → OrStops (Called w session row op old new) old new told
  tended-call op told looked called = or-stops (Called w session row op old new) old new told (called-behind old mid looked w session row new op told called)

  pub tended-batch : (ops : List Op) (told : Result BatchDone CallFault) → HasLooked old mid → Applied w session row ops mid new told → OrStops (Applied w session row ops old new) old new told
  tended-batch ops told looked applied = or-stops (Applied w session row ops old new) old new told (applied-behind old mid looked w session row new ops told applied)
