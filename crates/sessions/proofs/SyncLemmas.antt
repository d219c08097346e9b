-- A sync under the lock: what it leaves of a pass.
use Rattle.std.proofs.Common.{◌≡◌, ◌⊎◌, inl, inr, ◌∙◌, ℕ, Bool, true, false, List, [], ◌∷◌, ◌++◌, Option, Some, None, Result, Ok, Err, refl, sym, ap, subst}
use Rattle.std.specs.Option.{option_map, option_map_or}
use Rattle.std.specs.Prelude.{IfOk, IfErr}
use Rattle.std.proofs.lemmas.List.{append-nil}
use Rattle.cell_format.specs.declared.cell.Cell.{Cell}
use Rattle.plain_list.specs.declared.entries.Entry.{Entry}
use Rattle.plain_list.specs.declared.entries.Entry.TheVariants.{Fail}
use Rattle.plain_list.specs.declared.entries.Lost.{Lost}
use Rattle.plain_list.specs.History.{call_count, failed_cell}
use Rattle.plain_list.specs.State.{State}
use Rattle.disk_trait.specs.Drive.{Drive}
use Rattle.disk_trait.specs.Moments.{LeavesNow}
use Rattle.log_state.specs.Changes.{cells_of, failed_cells}
use Rattle.log_state.specs.Recovers.{Recovers}
use Rattle.kept_log.specs.Journal.{KeepsIn, KeepsLog, KeepsWaiting, waiting_in}
use Rattle.kept_log.specs.Kept.{StartsWith}
use Rattle.kept_log.proofs.InJournal.{failed_cells-none}
use Rattle.kept_log.proofs.Moving.{unmoved-keeps}
use Rattle.kept_log.proofs.Waiting.{keeps-synced}
use Rattle.kept_log.specs.KeptView.{KeptView}
use Rattle.commit_book.specs.BookView.{BookView}
use Rattle.commit_book.specs.IsBook.{IsBook, AreBooks}
use Rattle.commit_book.specs.Refusals.{IsMemoryOrDisk, IsRefusedBy, LeavesRefused, call_refusal}
use Rattle.commit_book.specs.Syncs.{Syncs, lost_sync}
use Rattle.commit_book.specs.declared.faults.BookFault.{BookFault}
use Rattle.commit_book.specs.declared.faults.BookFault.TheVariants.{Closed, Disk, HistoryFull, LogFull, Memory, Room, Splitting, Deep, NoLeaf, Stale, NotOpen}
use Rattle.book_lock.specs.Pass.{Known}
use Rattle.book_lock.specs.declared.origin.LogStart.{LogStart}
use Rattle.sessions.specs.Shared.{origin_of, start_in, waits_in, moves_of}
use Rattle.sessions.specs.Splits.{SamePass}
use Rattle.sessions.specs.Steps.{MayGive, WasTaken, has_added, has_entry, has_given, has_seen}
use Rattle.sessions.specs.Syncs.{Stood, SyncLeaves, SyncsPass, WasDurable, has_lost}
use Rattle.sessions.proofs.Origins.{same-origin}
use Rattle.sessions.proofs.StepLemmas.{BookStep, adds, fail-may, none-waits, same-added, same-seen, sees}

module _ {D : Type 0} (drive : D → Drive) (w : ℕ) (b mid : BookView D) (old took back : Known) (was : WasTaken drive b old took) where
  same : b.entries ≡ took.seen
  same = was.entries

  more : (cell : ℕ) → LeavesRefused drive lost_sync b mid (Disk cell) → mid.entries ≡ took.seen ++ Fail cell lost_sync ∷ []
  more cell left = left.entries ∙ ap (λ (l : List Entry). l ++ Fail cell lost_sync ∷ []) same

  still : mid ≡ b → mid.entries ≡ took.seen
  still left = ap (λ (x : BookView D). x.entries) left ∙ same

  -- the book may be given back
  pub sync-may : (r : Result ℕ BookFault) → IfOk r (Syncs b mid) → IfErr r (LeavesRefused drive lost_sync b mid) → MayGive took (has_lost r) mid.entries
  sync-may (Ok place) ok err = ok.entries ∙ same
  sync-may (Err (Disk cell)) ok err = (Fail cell lost_sync, more cell err, fail-may cell lost_sync took.seen took.own)
  sync-may (Err (Closed cell)) ok err = still err
  sync-may (Err HistoryFull) ok err = still err
  sync-may (Err LogFull) ok err = still err
  sync-may (Err Memory) ok err = still err
  sync-may (Err (Room cells events)) ok err = still err
  sync-may (Err (Splitting number)) ok err = still err
  sync-may (Err Deep) ok err = still err
  sync-may (Err NoLeaf) ok err = still err
  sync-may (Err (Stale number)) ok err = still err
  sync-may (Err (NotOpen number)) ok err = still err

  seen-so : back ≡ has_given took false mid.entries → back ≡ has_seen old took.seen
  seen-so = sees old took back mid.entries was.off was.took_is

  leaves : (r : Result ℕ BookFault) → IfOk r (Syncs b mid) → IfErr r (LeavesRefused drive lost_sync b mid) → back ≡ has_given took (has_lost r) mid.entries → SyncLeaves old took.seen back r
  leaves (Ok place) ok err given = (seen-so given, ok.place_is ∙ ap call_count (ok.entries ∙ same))
  leaves (Err (Disk cell)) ok err given = adds old took back mid.entries (Fail cell lost_sync) was.off was.took_is (more cell err) given
  leaves (Err (Closed cell)) ok err given = seen-so given
  leaves (Err HistoryFull) ok err given = seen-so given
  leaves (Err LogFull) ok err given = seen-so given
  leaves (Err Memory) ok err given = seen-so given
  leaves (Err (Room cells events)) ok err given = seen-so given
  leaves (Err (Splitting number)) ok err given = seen-so given
  leaves (Err Deep) ok err given = seen-so given
  leaves (Err NoLeaf) ok err given = seen-so given
  leaves (Err (Stale number)) ok err given = seen-so given
  leaves (Err (NotOpen number)) ok err given = seen-so given

  -- the sync as the pass knows it
  pub syncs-pass : (r : Result ℕ BookFault) → IfOk r (Syncs b mid) → IsRefusedBy IsMemoryOrDisk (call_refusal b.kept b.entries) r → IfErr r (LeavesRefused drive lost_sync b mid)
      → back ≡ has_given took (has_lost r) mid.entries → SyncsPass old back r
  syncs-pass r ok refused err given = record {
    before = took.seen;
    later = was.later;
    alone = was.alone;
    refused = subst (λ (h : List Entry). IsRefusedBy IsMemoryOrDisk (call_refusal old.origin.kept h) r) same
        (subst (λ (k : _). IsRefusedBy IsMemoryOrDisk (call_refusal k b.entries) r) (ap (λ o. o.kept) was.origin) refused);
    leaves = leaves r ok err given;
  }

  -- after it no record waits
  pub was-durable : AreBooks drive w b mid → (r : Result ℕ BookFault) → IfOk r (Syncs b mid) → back ≡ has_given took (has_lost r) mid.entries → IfOk r (λ place. WasDurable drive w back)
  was-durable books (Ok place) ok given = record {
    stood = record {
      book = mid;
      is_book = books.after;
      entries = ok.entries ∙ same ∙ sym (ap (λ (k : Known). k.seen) given);
      origin = same-origin drive b mid books.origin ∙ was.origin ∙ sym (ap (λ (k : Known). k.origin) given ∙ ap (λ (k : Known). k.origin) was.took_is);
    };
    none_wait = ok.waiting;
  }
  was-durable books (Err fault) ok given = tt

given-origin : (pass : Known) (grown : Bool) (entries : List Entry) → (has_given pass grown entries).origin ≡ pass.origin
given-origin pass true entries = refl
given-origin pass false entries = refl

-- the book that a step gave back has all that the pass has seen
module _ {D A : Type 0} (drive : D → Drive) (w : ℕ) (IsFree : BookFault → Type 0) (cause : Option BookFault) (entry : A → Entry) (lost : Lost) (b mid : BookView D) (old took back : Known) (was : WasTaken drive b old took) (books : AreBooks drive w b mid) where
  unchanged : mid ≡ b → back ≡ has_given took false mid.entries → mid.entries ≡ back.seen
  unchanged left given = ap (λ (x : BookView D). x.entries) left ∙ was.entries ∙ sym (ap (λ (k : Known). k.seen) given)

  seen-given : (r : Result A BookFault) → BookStep drive IsFree cause entry lost b mid r → back ≡ has_given took (has_entry r) mid.entries → mid.entries ≡ back.seen
  seen-given (Ok value) step given = sym (ap (λ (k : Known). k.seen) given)
  seen-given (Err (Disk cell)) step given = sym (ap (λ (k : Known). k.seen) given)
  seen-given (Err (Closed cell)) step given = unchanged step.left given
  seen-given (Err HistoryFull) step given = unchanged step.left given
  seen-given (Err LogFull) step given = unchanged step.left given
  seen-given (Err Memory) step given = unchanged step.left given
  seen-given (Err (Room cells events)) step given = unchanged step.left given
  seen-given (Err (Splitting number)) step given = unchanged step.left given
  seen-given (Err Deep) step given = unchanged step.left given
  seen-given (Err NoLeaf) step given = unchanged step.left given
  seen-given (Err (Stale number)) step given = unchanged step.left given
  seen-given (Err (NotOpen number)) step given = unchanged step.left given

  pub stood-step : (r : Result A BookFault) → BookStep drive IsFree cause entry lost b mid r → back ≡ has_given took (has_entry r) mid.entries → Stood drive w back
  stood-step r step given = record {
    book = mid;
    is_book = books.after;
    entries = seen-given r step given;
    origin =
        same-origin drive b mid books.origin ∙ was.origin
        ∙ sym (ap (λ (k : Known). k.origin) given ∙ given-origin took (has_entry r) mid.entries ∙ ap (λ (k : Known). k.origin) was.took_is);
  }

-- where each record is written at once, none waits
pub stood-at-once : {D : Type 0} (drive : D → Drive) (w : ℕ) (pass : Known) → Stood drive w pass → waits_in pass.origin ≡ false → WasDurable drive w pass
stood-at-once {D = D} drive w pass stood once = record { stood = stood; none_wait = by_log stood.book.log stood.is_book.on_log (ap waits_in stood.origin ∙ once) }
  where
    by_log : (log : Option (KeptView D)) → KeepsIn drive w stood.book.opening stood.book.entries log → option_map_or (λ (start : LogStart). start.at_sync) (option_map (start_in drive) log) false ≡ false → waiting_in log ≡ []
    by_log None keeps none = refl
    by_log (Some log) keeps none = none-waits drive w stood.book.opening stood.book.entries log keeps none

-- a crash at that moment left the first cells and those of all that the pass has seen, if no fresh log may replace the log
pub left-durable : {D : Type 0} (drive : D → Drive) (w : ℕ) (pass : Known) (durable : WasDurable drive w pass) (log : KeptView D) → moves_of pass.origin ≡ false → durable.stood.book.log ≡ Some log → failed_cell pass.seen ≡ None
    → (first : List Cell) → StartsWith w first (drive log.start) → LeavesNow (drive log.disk) (Recovers w (first ++ cells_of pass.origin.world pass.seen))
left-durable {D = D} drive w pass durable log still is good first starts c left =
    subst (λ (l : List Cell). Recovers w (first ++ l) c) (λ i. cells_of (durable.stood.origin i).world (durable.stood.entries i)) (placed ((kept.keeps.since first starts).history.at_end c left))
  where
    opening : State
    opening = durable.stood.book.opening

    h : List Entry
    h = durable.stood.book.entries

    unmoving : log.moves ≡ false
    unmoving = subst (λ (l : Option (KeptView D)). option_map_or (λ (start : LogStart). start.moves) (option_map (start_in drive) l) false ≡ false) is (ap moves_of durable.stood.origin ∙ still)

    in-log : KeepsWaiting drive w opening h log
    in-log = unmoved-keeps drive w opening h log unmoving (subst (KeepsIn drive w opening h) is durable.stood.is_book.on_log)

    none : failed_cell h ≡ None
    none = ap failed_cell durable.stood.entries ∙ good

    kept : KeepsLog drive w opening h log
    kept = keeps-synced drive w opening h log in-log (sym (ap waiting_in is) ∙ durable.none_wait) (in-log.failed ∙ none)

    placed : Recovers w (first ++ cells_of opening.world h) c ⊎ Recovers w (first ++ (cells_of opening.world h ++ failed_cells h)) c → Recovers w (first ++ cells_of opening.world h) c
    placed (inl all) = all
    placed (inr more) =
        subst (λ (l : List Cell). Recovers w (first ++ l) c) (ap (λ (l : List Cell). cells_of opening.world h ++ l) (failed_cells-none h none) ∙ append-nil (cells_of opening.world h)) more

-- a sync only sees more, or adds the pass's own entry
pub sync-same : (old new : Known) (r : Result ℕ BookFault) → SyncsPass old new r → SamePass old new
sync-same old new (Ok place) is = same-seen old new is.before is.later is.leaves.0
sync-same old new (Err (Disk cell)) is = same-added old new is.before (Fail cell lost_sync) is.later is.leaves
sync-same old new (Err (Closed cell)) is = same-seen old new is.before is.later is.leaves
sync-same old new (Err HistoryFull) is = same-seen old new is.before is.later is.leaves
sync-same old new (Err LogFull) is = same-seen old new is.before is.later is.leaves
sync-same old new (Err Memory) is = same-seen old new is.before is.later is.leaves
sync-same old new (Err (Room cells events)) is = same-seen old new is.before is.later is.leaves
sync-same old new (Err (Splitting number)) is = same-seen old new is.before is.later is.leaves
sync-same old new (Err Deep) is = same-seen old new is.before is.later is.leaves
sync-same old new (Err NoLeaf) is = same-seen old new is.before is.later is.leaves
sync-same old new (Err (Stale number)) is = same-seen old new is.before is.later is.leaves
sync-same old new (Err (NotOpen number)) is = same-seen old new is.before is.later is.leaves
