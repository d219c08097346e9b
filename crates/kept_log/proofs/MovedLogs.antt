-- What an append to a log's own file does to a log that has replaced another one.
use Rattle.std.proofs.Common.{◌≡◌, ◌≢◌, ℕ, ◌≤◌, true, List, [], ◌∷◌, ◌++◌, replicate, Option, Some, None, refl, sym, ◌∙◌, ap, subst, arith, append_assoc}
use Rattle.std.specs.Prelude.{map}
use Rattle.std.specs.Option.{option_map}
use Rattle.std.proofs.lemmas.List.{append-nil, append_cancel_left, map-append, length-map}
use Rattle.cell_format.specs.declared.cell.Cell.{Cell}
use Rattle.plain_list.specs.declared.entries.Entry.{Entry}
use Rattle.plain_list.specs.declared.entries.Entry.TheVariants.{Fail, Call, Begin, Install, Abandon}
use Rattle.plain_list.specs.State.{State, IsLegal, state_after}
use Rattle.plain_list.specs.History.{failed_cell}
use Rattle.plain_list.specs.Batch.{AreFailsOf}
use Rattle.disk_trait.specs.Drive.{Drive}
use Rattle.split_log.specs.Append.{calls_to_add}
use Rattle.split_log.specs.LogView.{most_cells}
use Rattle.kept_log.specs.declared.faults.AppendAllLost.{AppendAllLost}
use Rattle.kept_log.specs.declared.faults.AppendAllLost.TheVariants.{Disk, Memory}
use Rattle.kept_log.specs.KeptView.{KeptView, Earlier}
use Rattle.kept_log.specs.Moved.{lessen, lessen_cell, lessen_lost, own_state, own_entries, own_view, alone, seen_as}
use Rattle.kept_log.specs.Kept.{IsOpened}
use Rattle.kept_log.proofs.InJournal.{in-opened}
use Rattle.kept_log.specs.Steps.{IsNext, AreNext, IsSince}
use Rattle.kept_log.specs.Journal.{KeepsWaiting, KeepsMoved, Added, Missed, LeavesNext, AddedAll, AllMissed, NotAdded, LeavesNextAll, MadeIn, Synced, NotSynced, LeavesSynced, Stops}
use Rattle.kept_log.proofs.LesserNumbers.{failed_cells-less, lost-less}
use Rattle.kept_log.proofs.OwnHistory.{own-cells, own-legal, own-next}

module _ (n : ℕ) where
  calls-less : (more : List Cell) → calls_to_add (map (lessen_cell n) more) ≡ calls_to_add more
  calls-less [] = refl
  calls-less (cell ∷ more) = refl

  fails-less : (number : ℕ) (lost : List Entry) → AreFailsOf number lost → AreFailsOf number (map (lessen n) lost)
  fails-less number [] all = tt
  fails-less number (Fail cell left ∷ lost) all = (all.0, fails-less number lost all.1)
  fails-less number (Call session row op ∷ lost) all = absurd all.0
  fails-less number (Begin k name ∷ lost) all = absurd all.0
  fails-less number (Install k ∷ lost) all = absurd all.0
  fails-less number (Abandon k ∷ lost) all = absurd all.0

  some-less : (lost : List Entry) → lost ≢ [] → map (lessen n) lost ≢ []
  some-less [] some = λ none. some refl
  some-less (e ∷ lost) some = λ none. cc none

-- `old` and `new` are the log by itself, before an append and after it.
module _ {D : Type 0} (drive : D → Drive) (old new : KeptView D) (b : Earlier D) (opened : IsSince (alone old) (alone new)) where
  abbrev seen : KeptView D → Option (KeptView D)
  seen own = Some (seen_as own (Some b))

  abbrev at : KeptView D → Earlier D
  at own = record { entries = b.entries; skipped = b.skipped; start = own.start; first = own.first }

  abbrev Was : ℕ → State → List Entry → Type 0
  Was w s h = KeepsMoved drive w s h (at old) (seen_as old (Some b))

  pub since-moved : IsSince (seen_as old (Some b)) (seen_as new (Some b))
  since-moved = record {
    start = refl;
    first = refl;
    at_sync = opened.at_sync;
    moves = opened.moves;
    earlier = λ i. Some (record { entries = b.entries; skipped = b.skipped; start = opened.start i; first = opened.first i });
  }

  -- What the log by itself keeps more, the log keeps more.
  grown : (w : ℕ) (s : State) (h es : List Entry) (kept : Was w s h) → KeepsWaiting drive w (own_state w s b) (own_entries b kept.after ++ own_entries b es) (alone new)
      → KeepsMoved drive w s (h ++ es) (at new) (seen_as new (Some b))
  grown w s h es kept own = record {
    moves = opened.moves ∙ kept.moves;
    after = kept.after ++ es;
    parts = ap (λ (l : List Entry). l ++ es) kept.parts ∙ append_assoc b.entries kept.after es;
    rests = kept.rests;
    begun = kept.begun;
    sound = kept.sound;
    keeps = subst (λ (l : List Entry). KeepsWaiting drive w (own_state w s b) l (alone new)) (sym (map-append (lessen b.skipped) kept.after es)) own;
  }

  -- However the history is cut, the log's own history is the same.
  kept-at : (w : ℕ) (s : State) (h : List Entry) (kept : Was w s h) (after : List Entry) → h ≡ b.entries ++ after → KeepsWaiting drive w (own_state w s b) (own_entries b after) (alone old)
  kept-at w s h kept after parts =
      subst (λ (l : List Entry). KeepsWaiting drive w (own_state w s b) (own_entries b l) (alone old)) (append_cancel_left b.entries kept.after after (sym kept.parts ∙ parts)) kept.keeps

  module _ (more : List Cell) where
    next-at : (w : ℕ) (s : State) (h es : List Entry) (kept : Was w s h) (after : List Entry) → h ≡ b.entries ++ after → AreNext w s h es more
        → AreNext w (own_state w s b) (own_entries b after) (own_entries b es) (map (lessen_cell b.skipped) more)
    next-at w s h es kept after parts next = own-next w s h es b after parts kept.rests kept.begun more next

    pub leaves-all-moved : LeavesNextAll drive (map (lessen_cell b.skipped) more) (Some (alone old)) (Some (alone new)) → LeavesNextAll drive more (seen old) (seen new)
    leaves-all-moved own w s h es next kept = λ after parts.
        own w (own_state w s b) (own_entries b after) (own_entries b es) (next-at w s h es kept after parts next) (kept-at w s h kept after parts)

    pub all-added-moved : AddedAll drive (map (lessen_cell b.skipped) more) (Some (alone old)) (Some (alone new)) → AddedAll drive more (seen old) (seen new)
    all-added-moved own = record {
      count = omega (arith, own.count, length-map more (lessen_cell b.skipped));
      calls = λ once. subst (λ k. MadeIn drive (replicate k true) (Some (alone old)) (Some (alone new))) (calls-less b.skipped more) (own.calls once);
      keeps = λ w s h es next kept.
          grown w s h es kept
          (own.keeps w (own_state w s b) (own_entries b kept.after) (own_entries b es) (next-at w s h es kept kept.after kept.parts next) kept.keeps);
    }

    pub all-missed-moved : (number : ℕ) → AllMissed drive (map (lessen_cell b.skipped) more) number (Some (alone old)) (Some (alone new)) → AllMissed drive more number (seen old) (seen new)
    all-missed-moved number own = record {
      named = own.named;
      count = own.count;
      written = own.written;
      closed = own.closed;
      rose = own.rose;
      breaks = record {
        went_well = own.breaks.went_well;
        few = own.breaks.few;
        calls = own.breaks.calls;
        unstaged = λ early w s h es next kept after parts.
            own.breaks.unstaged early w (own_state w s b) (own_entries b after) (own_entries b es) (next-at w s h es kept after parts next) (kept-at w s h kept after parts);
      };
      leaves = λ w s h es next kept after parts.
          own.leaves w (own_state w s b) (own_entries b after) (own_entries b es) (next-at w s h es kept after parts next) (kept-at w s h kept after parts);
      keeps = λ w s h es lost next all some cells kept.
          grown w s h lost kept
          (own.keeps w (own_state w s b) (own_entries b kept.after) (own_entries b es) (own_entries b lost) (next-at w s h es kept kept.after kept.parts next)
          (fails-less b.skipped number lost all) (some-less b.skipped lost some) (failed_cells-less b.skipped lost ∙ ap (map (lessen_cell b.skipped)) cells) kept.keeps);
    }

    pub not-added-moved : (e : AppendAllLost) → NotAdded drive (map (lessen_cell b.skipped) more) e (Some (alone old)) (Some (alone new)) → NotAdded drive more e (seen old) (seen new)
    not-added-moved (Disk number) own = all-missed-moved number own
    not-added-moved Memory same = ap (option_map (λ (own : KeptView D). seen_as own (Some b))) same

  module _ (cell : Cell) where
    one-at : (w : ℕ) (s : State) (h : List Entry) (e : Entry) (kept : Was w s h) (after : List Entry) → h ≡ b.entries ++ after → IsNext w s h e cell
        → IsNext w (own_state w s b) (own_entries b after) (lessen b.skipped e) (lessen_cell b.skipped cell)
    one-at w s h e kept after parts next = record {
      legal = own-legal w s h (e ∷ []) b after parts kept.rests kept.begun next.legal;
      cells = own-cells w s h (e ∷ []) b after parts ∙ ap (map (lessen_cell b.skipped)) next.cells;
    }

    pub leaves-moved : LeavesNext drive (lessen_cell b.skipped cell) (Some (alone old)) (Some (alone new)) → LeavesNext drive cell (seen old) (seen new)
    leaves-moved own w s h e next kept = λ after parts.
        own w (own_state w s b) (own_entries b after) (lessen b.skipped e) (one-at w s h e kept after parts next) (kept-at w s h kept after parts)

    pub added-moved : Added drive (lessen_cell b.skipped cell) (Some (alone old)) (Some (alone new)) → Added drive cell (seen old) (seen new)
    added-moved own = record {
      count = own.count;
      calls = own.calls;
      keeps = λ w s h e next kept.
          grown w s h (e ∷ []) kept
          (own.keeps w (own_state w s b) (own_entries b kept.after) (lessen b.skipped e) (one-at w s h e kept kept.after kept.parts next) kept.keeps);
    }

    pub missed-moved : (number : ℕ) → Missed drive (lessen_cell b.skipped cell) number (Some (alone old)) (Some (alone new)) → Missed drive cell number (seen old) (seen new)
    missed-moved number own = record {
      named = own.named;
      count = own.count;
      written = own.written;
      rose = own.rose;
      breaks = record {
        went_well = own.breaks.went_well;
        few = own.breaks.few;
        calls = own.breaks.calls;
        unstaged = λ early w s h e next kept after parts.
            own.breaks.unstaged early w (own_state w s b) (own_entries b after) (lessen b.skipped e) (one-at w s h e kept after parts next) (kept-at w s h kept after parts);
      };
      keeps = λ w s h e lost next one kept.
          grown w s h (Fail number lost ∷ []) kept
          (own.keeps w (own_state w s b) (own_entries b kept.after) (lessen b.skipped e) (lessen_lost b.skipped lost) (one-at w s h e kept kept.after kept.parts next)
          (lost-less b.skipped lost ∙ ap (map (lessen_cell b.skipped)) one) kept.keeps);
    }

  legal-at : (w : ℕ) (s : State) (h : List Entry) (kept : Was w s h) (after : List Entry) → h ≡ b.entries ++ after → IsLegal w s h → IsLegal w (own_state w s b) (own_entries b after)
  legal-at w s h kept after parts legal =
      subst (IsLegal w (own_state w s b)) (append-nil (own_entries b after))
      (own-legal w s h [] b after parts kept.rests kept.begun (subst (IsLegal w s) (sym (append-nil h)) legal))

  pub leaves-synced-moved : LeavesSynced drive (Some (alone old)) (Some (alone new)) → LeavesSynced drive (seen old) (seen new)
  leaves-synced-moved own w s h legal kept = λ after parts.
      own w (own_state w s b) (own_entries b after) (legal-at w s h kept after parts legal) (kept-at w s h kept after parts)

  pub synced-moved : Synced drive (Some (alone old)) (Some (alone new)) → Synced drive (seen old) (seen new)
  synced-moved own = record {
    none_wait = own.none_wait;
    count = own.count;
    calls = own.calls;
    keeps = λ w s h legal kept.
        subst (λ (l : List Entry). KeepsMoved drive w s l (at new) (seen_as new (Some b))) (append-nil h)
        (grown w s h [] kept
        (subst (λ (l : List Entry). KeepsWaiting drive w (own_state w s b) l (alone new)) (sym (append-nil (own_entries b kept.after)))
        (own.keeps w (own_state w s b) (own_entries b kept.after) (legal-at w s h kept kept.after kept.parts legal) kept.keeps)));
  }

  pub not-synced-moved : (number : ℕ) → NotSynced drive number (Some (alone old)) (Some (alone new)) → NotSynced drive number (seen old) (seen new)
  not-synced-moved number own = record {
    named = own.named;
    count = own.count;
    written = own.written;
    closed = own.closed;
    rose = own.rose;
    keeps = λ w s h lost legal kept.
        grown w s h (Fail number lost ∷ []) kept
        (own.keeps w (own_state w s b) (own_entries b kept.after) (lessen_lost b.skipped lost) (legal-at w s h kept kept.after kept.parts legal) kept.keeps);
  }

  pub stops-moved : (number : ℕ) → Stops drive number (Some (alone old)) (Some (alone new)) → Stops drive number (seen old) (seen new)
  stops-moved number own = record {
    named = own.named;
    count = own.count;
    written = own.written;
    closed = own.closed;
    disk = own.disk;
    keeps = λ w s h lost legal none kept.
        grown w s h (Fail number lost ∷ []) kept
        (own.keeps w (own_state w s b) (own_entries b kept.after) (lessen_lost b.skipped lost) (legal-at w s h kept kept.after kept.parts legal)
        (lost-less b.skipped lost ∙ ap (map (lessen_cell b.skipped)) none) kept.keeps);
  }

-- A sync of a log by itself, as a store sees it, whatever came before the log.
module _ {D : Type 0} (drive : D → Drive) (old new : KeptView D) (opened : IsSince (alone old) (alone new)) where
  pub synced-as : (before : Option (Earlier D)) → Synced drive (Some (alone old)) (Some (alone new)) → Synced drive (Some (seen_as old before)) (Some (seen_as new before))
  synced-as None own = own
  synced-as (Some b) own = synced-moved drive old new b opened own

  pub not-synced-as : (before : Option (Earlier D)) (number : ℕ) → NotSynced drive number (Some (alone old)) (Some (alone new))
      → NotSynced drive number (Some (seen_as old before)) (Some (seen_as new before))
  not-synced-as None number own = own
  not-synced-as (Some b) number own = not-synced-moved drive old new b opened number own

  pub stops-as : (before : Option (Earlier D)) (number : ℕ) → Stops drive number (Some (alone old)) (Some (alone new)) → Stops drive number (Some (seen_as old before)) (Some (seen_as new before))
  stops-as None number own = own
  stops-as (Some b) number own = stops-moved drive old new b opened number own

  pub leaves-synced-as : (before : Option (Earlier D)) → LeavesSynced drive (Some (alone old)) (Some (alone new)) → LeavesSynced drive (Some (seen_as old before)) (Some (seen_as new before))
  leaves-synced-as None own = own
  leaves-synced-as (Some b) own = leaves-synced-moved drive old new b opened own

-- A fresh log keeps the history so far, if it was opened in the history's state.
pub kept-moved : {D : Type 0} (drive : D → Drive) (w : ℕ) (s : State) (e : Earlier D) (log : KeptView D) → log.moves ≡ true → failed_cell e.entries ≡ None → log.failed ≡ None
    → (state_after w s e.entries).splits ≡ [] → e.skipped ≤ (state_after w s e.entries).begun → IsOpened w (own_state w s e) (drive e.start) (drive log.disk)
    → log.cells ≡ e.first → log.cells ≤ most_cells → log.waiting ≡ [] → KeepsMoved drive w s e.entries e log
kept-moved drive w s e log moves sound whole rests begun opened first most none = record {
  moves = moves;
  after = [];
  parts = sym (append-nil e.entries);
  rests = rests;
  begun = begun;
  sound = sound;
  keeps = in-opened drive w (own_state w s e) (own_view e log) first opened most whole none;
}

pub seen-failed : {D : Type 0} (own : KeptView D) (before : Option (Earlier D)) → (seen_as own before).failed ≡ own.failed
seen-failed own None = refl
seen-failed own (Some b) = refl

pub seen-moves : {D : Type 0} (own : KeptView D) (before : Option (Earlier D)) → (seen_as own before).moves ≡ own.moves
seen-moves own None = refl
seen-moves own (Some b) = refl

-- What holds of a log by itself holds of it as a store sees it, if it has replaced no other log.
pub as-none : {D : Type 0} (P : KeptView D → KeptView D → Type 0) (old new now : KeptView D) (before : Option (Earlier D)) → seen_as old before ≡ now → before ≡ None → P (alone old) (alone new)
    → P now (seen_as new before)
as-none {D = D} P old new now before is none own =
    subst (λ (l : KeptView D). P l (seen_as new before)) is (subst (λ (b : Option (Earlier D)). P (seen_as old b) (seen_as new b)) (sym none) own)

pub as-some : {D : Type 0} (P : KeptView D → KeptView D → Type 0) (old new now : KeptView D) (before : Option (Earlier D)) (b : Earlier D) → seen_as old before ≡ now → before ≡ Some b
    → P (seen_as old (Some b)) (seen_as new (Some b)) → P now (seen_as new before)
as-some {D = D} P old new now before b is some seen =
    subst (λ (l : KeptView D). P l (seen_as new before)) is (subst (λ (e : Option (Earlier D)). P (seen_as old e) (seen_as new e)) (sym some) seen)
