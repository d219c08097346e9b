-- A store whose records wait for a sync: how it begins, and what it leaves.
use Rattle.std.proofs.Common.{◌≡◌, inl, inr, ◌∙◌, ℕ, Bool, true, false, List, [], ◌∷◌, ◌++◌, length, Option, Some, None, is_some, Result, Ok, Err, refl, sym, ap, subst, arith}
use Rattle.std.specs.Prelude.{⊤, ◌==◌, if◌then◌else◌, IfErr}
use mathlib.Core.Bool.{true≢false}
use Rattle.std.specs.Option.{option_map}
use Rattle.std.proofs.lemmas.Bool.Decides.{nat_tests}
use Rattle.std.proofs.lemmas.List.{append-nil}
use Rattle.std.proofs.lemmas.Option.{same_Some}
use Rattle.atomic_table.specs.Seated.{TableId}
use Rattle.disk_trait.specs.Drive.{Drive}
use Rattle.plain_list.specs.World.{IsWorld}
use Rattle.plain_list.specs.declared.entries.Entry.{Entry}
use Rattle.plain_list.specs.declared.entries.Entry.TheVariants.{Fail}
use Rattle.plain_list.specs.History.{failed_cell}
use Rattle.plain_list.specs.State.{State, IsLegal}
use Rattle.plain_list.proofs.Histories.{has_failed-none, failed_cell-append}
use Rattle.recovery.specs.declared.seen.Seen.{Seen}
use Rattle.kept_log.specs.KeptView.{KeptView}
use Rattle.kept_log.specs.Journal.{KeepsIn, disk_in, moves_in, waits_from, written_in}
use Rattle.book_lock.specs.Own.{times, once_below}
use Rattle.book_lock.specs.Pass.{Known}
use Rattle.book_lock.specs.declared.origin.Origin.{Origin}
use Rattle.book_lock.specs.declared.origin.LogStart.{LogStart}
use Rattle.commit_book.specs.BookView.{BookView}
use Rattle.commit_book.specs.IsBook.{AreBooks, most_events}
use Rattle.commit_book.specs.Refusals.{IsMemoryOrDisk, IsRefusedBy, LeavesRefused, call_refusal, first_of}
use Rattle.commit_book.specs.Syncs.{Syncs, lost_sync}
use Rattle.commit_book.specs.declared.faults.BookFault.{BookFault}
use Rattle.commit_book.specs.declared.faults.BookFault.TheVariants.{Closed, Disk, HistoryFull, LogFull, Memory, Room, Splitting, Deep, NoLeaf, Stale, NotOpen}
use Rattle.sessions.specs.Shared.{StartsAs, moves_of, origin_of, start_in, start_of}
use Rattle.sessions.proofs.Origins.{same-origin, start-of-origin}
use Rattle.store_file.specs.Closed.{ClosesStore}
use Rattle.store_file.specs.Objects.{IsLatest}
use Rattle.store_file.specs.Opened.{BeginsOver, IsFirst, first_pass, found_origin}
use Rattle.store_file.specs.Rotating.{ClosesMoved}
use Rattle.store_file.specs.Waiting.{EndsUnsynced, KeepsUnsynced, LacksFrom, Writes, book_at, sync_cause, waiting_origin}
use Rattle.store_file.proofs.RotatingFacts.{closes-moved, moves-now, unmoved-counted}

-- What follows from a fact of a pass.
pub writes-as : (at_sync : Bool) (A B : Known → Type 0) → ((k : Known) → A k → B k) → (pass : Known) → Writes at_sync A pass → Writes at_sync B pass
writes-as false A B each pass is = each pass is
writes-as true A B each pass is = record { first = is.first; of = each is.first is.of; pass_is = is.pass_is }

pub writes-first : (at_sync : Bool) (lock : TableId) (A : Known → Type 0) → ((k : Known) → A k → IsFirst lock k) → (pass : Known) → Writes at_sync A pass → IsFirst lock pass
writes-first false lock A each pass is = each pass is
writes-first true lock A each pass is =
    let first = each is.first is.of in
    record {
      lock_is = ap (λ (k : Known). k.lock) is.pass_is ∙ first.lock_is;
      off = ap (λ (k : Known). k.holds) is.pass_is ∙ first.off;
      parts = ap (λ (k : Known). k.parts) is.pass_is ∙ first.parts;
    }

-- A book whose records wait from now on.
module _ {D : Type 0} (drive : D → Drive) where
  waiting-start : (log : Option (KeptView D)) → option_map (start_in drive) (option_map waits_from log) ≡ option_map (λ (start : LogStart). record start { at_sync = true }) (option_map (start_in drive) log)
  waiting-start None = refl
  waiting-start (Some log) = refl

  pub waiting-of : (b : BookView D) → origin_of drive (book_at true b) ≡ waiting_origin (origin_of drive b)
  waiting-of b = λ i. record {
    world = b.opening.world;
    leaves = b.opening.leaves;
    begun = b.opening.begun;
    log = waiting-start b.log i;
    bucket = b.bucket;
    kept = b.kept;
  }

  disk-waits : (log : Option (KeptView D)) → disk_in (option_map waits_from log) ≡ disk_in log
  disk-waits None = refl
  disk-waits (Some log) = refl

  module _ (at_sync : Bool) (b new : BookView D) (is : new ≡ book_at at_sync b) where
    pub at-disk : (disk : Option D) → disk_in new.log ≡ disk → disk_in b.log ≡ disk
    at-disk disk there = sym (ap (λ (v : BookView D). disk_in v.log) is ∙ by at_sync) ∙ there
      where
        by : (t : Bool) → disk_in (book_at t b).log ≡ disk_in b.log
        by false = refl
        by true = disk-waits b.log

-- What a sync says of the history, if it fails or is refused.
abbrev IsTold : Option ℕ → Bool → BookFault → Type 0
IsTold failed full (Closed cell) = failed ≡ Some cell
IsTold failed full (Disk cell) = failed ≡ None
IsTold failed full HistoryFull = (failed ≡ None) × (full ≡ true)
IsTold failed full Memory = failed ≡ None
IsTold failed full _ = ⊥

told-free : (full : Bool) (fault : BookFault) → IsMemoryOrDisk fault → IsTold None full fault
told-free full (Disk cell) is = refl
told-free full Memory is = refl
told-free full (Closed cell) (inl is) = absurd (cc is)
told-free full (Closed cell) (inr is) = absurd is
told-free full HistoryFull (inl is) = absurd (cc is)
told-free full HistoryFull (inr is) = absurd is
told-free full LogFull (inl is) = absurd (cc is)
told-free full LogFull (inr is) = absurd is
told-free full (Room cells events) (inl is) = absurd (cc is)
told-free full (Room cells events) (inr is) = absurd is
told-free full (Splitting number) (inl is) = absurd (cc is)
told-free full (Splitting number) (inr is) = absurd is
told-free full Deep (inl is) = absurd (cc is)
told-free full Deep (inr is) = absurd is
told-free full NoLeaf (inl is) = absurd (cc is)
told-free full NoLeaf (inr is) = absurd is
told-free full (Stale number) (inl is) = absurd (cc is)
told-free full (Stale number) (inr is) = absurd is
told-free full (NotOpen number) (inl is) = absurd (cc is)
told-free full (NotOpen number) (inr is) = absurd is

told-by : (failed : Option ℕ) (full : Bool) (fault : BookFault)
    → IsRefusedBy {A = ℕ} IsMemoryOrDisk (first_of (option_map Closed failed) (if full then Some HistoryFull else None)) (Err fault) → IsTold failed full fault
told-by (Some cell) full fault is = subst (λ (r : Result ℕ BookFault). IfErr r (IsTold (Some cell) full)) (sym is) refl
told-by None true fault is = subst (λ (r : Result ℕ BookFault). IfErr r (IsTold None true)) (sym is) (refl, refl)
told-by None false fault is = told-free false fault is

done-by : (failed : Option ℕ) (full : Bool) (place : ℕ) → IsRefusedBy IsMemoryOrDisk (first_of (option_map Closed failed) (if full then Some HistoryFull else None)) (Ok place) → failed ≡ None
done-by (Some cell) full place is = cc is
done-by None full place is = refl

same-number : (m n : ℕ) → (m == n) ≡ true → m ≡ n
same-number m n e = grind (arith, nat_tests)

-- No fresh log may replace the log of a store that has this fact.
pub fixed-by : {D : Type 0} (drive : D → Drive) (b : BookView D) (pass : Known) → origin_of drive b ≡ pass.origin → StartsAs drive ⊥ (λ start waits moves. moves ≡ false) b.log → moves_of pass.origin ≡ false
fixed-by {D = D} drive b pass same starts = sym (moves-now drive b pass same) ∙ by b.log starts
  where
    by : (log : Option (KeptView D)) → StartsAs drive ⊥ (λ start waits moves. moves ≡ false) log → moves_in log ≡ false
    by None starts = absurd starts
    by (Some log) starts = starts

pub starts-fixed : {D : Type 0} (drive : D → Drive) (log : Option (KeptView D)) → StartsAs drive ⊥ (λ start waits moves. (waits ≡ false) × (moves ≡ false)) log → moves_in log ≡ false
starts-fixed drive None starts = absurd starts
starts-fixed drive (Some log) starts = starts.1

-- A log whose records wait from now on has the fact of such stores.
pub waits-start : {D : Type 0} (drive : D → Drive) (log : Option (KeptView D)) → is_some log ≡ true → moves_in log ≡ false → StartsAs drive ⊥ (λ start waits moves. moves ≡ false) (option_map waits_from log)
waits-start drive None logged fixed = absurd (true≢false (sym logged))
waits-start drive (Some log) logged fixed = fixed

-- The book of a store that was closed, before its sync and after it. `moves` says whether a fresh log may replace its log.
module _ {D : Type 0} (drive : D → Drive) (w : ℕ) (pass : Known) (old new : BookView D) (books : AreBooks drive w old new) (value : (old.entries ≡ pass.seen) × (origin_of drive old ≡ pass.origin))
    (own : (p : ℕ) → times p pass.own ≡ once_below p (length pass.seen)) {moves : Bool} (fixed : moves_of pass.origin ≡ moves) where
  origin-now : origin_of drive new ≡ pass.origin
  origin-now = same-origin drive old new books.origin ∙ value.1

  opening-now : new.opening ≡ start_of pass.origin
  opening-now = sym (start-of-origin drive w new books.after.opening) ∙ ap start_of origin-now

  legal-seen : IsLegal w (start_of pass.origin) pass.seen
  legal-seen =
      subst (λ (s : State). IsLegal w s pass.seen) (sym (start-of-origin drive w old books.before.opening) ∙ ap start_of value.1)
      (subst (λ (h : List Entry). IsLegal w old.opening h) value.0 books.before.legal)

  moves-still : (log : KeptView D) → new.log ≡ Some log → log.moves ≡ moves
  moves-still log is = sym (ap moves_in is) ∙ moves-now drive new pass origin-now ∙ fixed

  -- No fault is free to come but these.
  told : (fault : BookFault) → IsRefusedBy {A = ℕ} IsMemoryOrDisk (call_refusal old.kept old.entries) (Err fault) → IsTold (failed_cell pass.seen) (length pass.seen == most_events pass.origin.kept) fault
  told fault is =
      subst (λ (h : List Entry). IsTold (failed_cell h) (length h == most_events pass.origin.kept) fault) value.0
      (subst (λ (k : Bool). IsTold (failed_cell old.entries) (length old.entries == most_events k) fault) (ap (λ (o : Origin). o.kept) value.1)
      (told-by (failed_cell old.entries) (length old.entries == most_events old.kept) fault is))

  pub done : (place : ℕ) → IsRefusedBy IsMemoryOrDisk (call_refusal old.kept old.entries) (Ok place) → failed_cell pass.seen ≡ None
  done place is = sym (ap failed_cell value.0) ∙ done-by (failed_cell old.entries) (length old.entries == most_events old.kept) place is

  module _ (disk : D) (disk_is : disk_in new.log ≡ Some disk) where
    -- No record waits now.
    pub moved-synced : (place : ℕ) → Syncs old new place → failed_cell pass.seen ≡ None → (closed : ClosesMoved drive w pass disk) × (closed.log.cells ≡ written_in new.log)
    moved-synced place synced good = closes-moved drive w pass new books.after (synced.entries ∙ value.0, origin-now) own disk disk_is good synced.waiting

    keeps-by : (log : Option (KeptView D)) → new.log ≡ log → (more : List Entry) → new.entries ≡ pass.seen ++ more → (keeps : KeepsUnsynced drive w moves pass more disk) × (keeps.log.cells ≡ written_in log)
    keeps-by None is more entries = absurd (true≢false (sym (ap is_some (sym (ap disk_in is) ∙ disk_is))))
    keeps-by (Some log) is more entries = (
      record {
        own = own;
        legal = legal-seen;
        log = log;
        disk_is = same_Some log.disk disk (sym (ap disk_in is) ∙ disk_is);
        began = sym (ap (λ (o : Origin). o.log) origin-now) ∙ ap (λ (l : Option (KeptView D)). option_map (start_in drive) l) is;
        moves_is = moves-still log is;
        keeps = subst (λ (s : State). KeepsIn drive w s (pass.seen ++ more) (Some log)) opening-now
            (subst (λ (h : List Entry). KeepsIn drive w new.opening h (Some log)) entries
            (subst (λ (l : Option (KeptView D)). KeepsIn drive w new.opening new.entries l) is books.after.on_log));
      },
      refl,
    )

    lacks : (more : List Entry) (cell : ℕ) → new.entries ≡ pass.seen ++ more → failed_cell (pass.seen ++ more) ≡ Some cell → LacksFrom drive w moves pass more cell disk
    lacks more cell entries is =
        let kept = keeps-by new.log refl more entries in
        record { keeps = kept.0; cell_is = books.after.named cell (ap failed_cell entries ∙ is) ∙ sym kept.1 }

    unchanged : new ≡ old → new.entries ≡ pass.seen ++ []
    unchanged left = ap (λ (v : BookView D). v.entries) left ∙ value.0 ∙ sym (append-nil pass.seen)

    by-fault : (fault : BookFault) → IsTold (failed_cell pass.seen) (length pass.seen == most_events pass.origin.kept) fault → LeavesRefused drive lost_sync old new fault → EndsUnsynced drive w moves pass disk (sync_cause fault)
    by-fault (Closed cell) is left = (is, lacks [] cell (unchanged left) (ap failed_cell (append-nil pass.seen) ∙ is))
    by-fault (Disk cell) is left = (
      is,
      lacks (Fail cell lost_sync ∷ []) cell (left.entries ∙ ap (λ (h : List Entry). h ++ Fail cell lost_sync ∷ []) value.0)
          (failed_cell-append pass.seen (Fail cell lost_sync ∷ []) (has_failed-none pass.seen is)),
    )
    by-fault HistoryFull is left = (is.0, same-number (length pass.seen) (most_events pass.origin.kept) is.1, (keeps-by new.log refl [] (unchanged left)).0)
    by-fault Memory is left = (is, (keeps-by new.log refl [] (unchanged left)).0)
    by-fault LogFull is left = absurd is
    by-fault (Room cells events) is left = absurd is
    by-fault (Splitting number) is left = absurd is
    by-fault Deep is left = absurd is
    by-fault NoLeaf is left = absurd is
    by-fault (Stale number) is left = absurd is
    by-fault (NotOpen number) is left = absurd is

    pub closes-unsynced : (fault : BookFault) → IsRefusedBy {A = ℕ} IsMemoryOrDisk (call_refusal old.kept old.entries) (Err fault) → LeavesRefused drive lost_sync old new fault → EndsUnsynced drive w moves pass disk (sync_cause fault)
    closes-unsynced fault refused left = by-fault fault (told fault refused) left

-- The same, of a store whose log no fresh one may replace.
module _ {D : Type 0} (drive : D → Drive) (w : ℕ) (pass : Known) (old new : BookView D) (books : AreBooks drive w old new) (value : (old.entries ≡ pass.seen) × (origin_of drive old ≡ pass.origin))
    (own : (p : ℕ) → times p pass.own ≡ once_below p (length pass.seen)) (fixed : moves_of pass.origin ≡ false) (disk : D) (disk_is : disk_in new.log ≡ Some disk) (place : ℕ) (synced : Syncs old new place) where
  -- The log has the same number of cells.
  pub synced-counted : failed_cell pass.seen ≡ None → (closed : ClosesStore drive w (λ start. ⊤) pass disk) × (closed.log.cells ≡ written_in new.log)
  synced-counted good = unmoved-counted drive w pass disk (written_in new.log) (moved-synced drive w pass old new books value own fixed disk disk_is place synced good) fixed

  pub closes-synced : IsRefusedBy IsMemoryOrDisk (call_refusal old.kept old.entries) (Ok place) → ClosesStore drive w (λ start. ⊤) pass disk
  closes-synced is = (synced-counted (done drive w pass old new books value own fixed place is)).0

-- A store begins with a book over what was found.
module _ {D : Type 0} (drive : D → Drive) (bucket : ℕ) (seen : Seen) (start : D) (b new : BookView D) (origin : origin_of drive b ≡ found_origin false bucket seen (drive start)) (world : IsWorld seen.world)
    (lock : TableId) (pass : Known) (points : ℕ) (latest : Option ℕ) (records : ℕ) (pass_is : pass ≡ first_pass lock (origin_of drive new)) (points_are : points ≡ length seen.world) (latest_is : IsLatest seen.world latest) (records_are : records ≡ seen.cells) where
  begins : (k : Known) → k ≡ first_pass lock (found_origin false bucket seen (drive start)) → BeginsOver drive bucket seen start lock k points latest records
  begins k is = record { pass_is = is; world = world; points_are = points_are; latest_is = latest_is; records_are = records_are }

  pub begins-at : (at_sync : Bool) → new ≡ book_at at_sync b → Writes at_sync (λ first. BeginsOver drive bucket seen start lock first points latest records) pass
  begins-at false is = begins pass (pass_is ∙ ap (λ (v : BookView D). first_pass lock (origin_of drive v)) is ∙ ap (first_pass lock) origin)
  begins-at true is = record {
    first = first_pass lock (found_origin false bucket seen (drive start));
    of = begins (first_pass lock (found_origin false bucket seen (drive start))) refl;
    pass_is = pass_is ∙ ap (λ (v : BookView D). first_pass lock (origin_of drive v)) is ∙ ap (first_pass lock) (waiting-of drive b ∙ ap waiting_origin origin);
  }
