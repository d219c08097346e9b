-- A store that continues over its second file while its history goes on.
use Rattle.std.proofs.Common.{◌≡◌, inl, inr, ◌∙◌, ℕ, ◌-◌, ◌<◌, Bool, true, false, cond, List, [], ◌∷◌, ◌++◌, length, Option, Some, None, is_some, Result, Ok, Err, refl, sym, ap, subst, arith}
use Rattle.std.specs.Prelude.{IfOk, IfErr, ◌==◌}
use Rattle.std.specs.Option.{option_map}
use Rattle.std.proofs.lemmas.Option.{same_Some}
use Rattle.std.proofs.lemmas.Bool.Decides.{nat_tests}
use mathlib.Core.Bool.{true≢false}
use mathlib.Core.List.{IsPrefix}
use Rattle.plain_list.specs.declared.entries.Entry.{Entry}
use Rattle.plain_list.specs.declared.entries.Entry.TheVariants.{Fail}
use Rattle.plain_list.specs.State.{state_after}
use Rattle.plain_list.specs.World.{World}
use Rattle.plain_list.specs.History.{failed_cell, world_after}
use Rattle.disk_trait.specs.Drive.{Drive}
use Rattle.split_log.specs.LogView.{LogView}
use Rattle.recovery.specs.declared.seen.Seen.{Seen}
use Rattle.log_compact.specs.Clearing.{Clears, FailsToClear}
use Rattle.kept_log.specs.KeptView.{KeptView}
use Rattle.kept_log.specs.Journal.{cells_in, failed_in, log_in, moved_to, moves_in, waiting_in, written_in, IsSinceIn}
use Rattle.kept_log.proofs.Waiting.{in-failed}
use Rattle.commit_book.specs.BookView.{BookView}
use Rattle.commit_book.specs.IsBook.{IsBook, most_events}
use Rattle.commit_book.specs.Moves.{first_open, lost_stop, may_move_refusal, with_fresh_log}
use Rattle.commit_book.specs.Refusals.{IsMemoryOrDisk, IsRefusedBy, call_refusal, closed_refusal, events_refusal, first_of}
use Rattle.commit_book.specs.RoomLeft.{cells_where}
use Rattle.commit_book.specs.Rotation.{HasContent}
use Rattle.commit_book.specs.Syncs.{lost_sync}
use Rattle.commit_book.specs.declared.faults.BookFault.{BookFault}
use Rattle.commit_book.specs.declared.faults.BookFault.TheVariants as book
use Rattle.commit_book.proofs.RefusalLemmas.{going_on, may_call, neither}
use Rattle.book_lock.specs.Pass.{Known}
use Rattle.book_lock.specs.declared.origin.Origin.{Origin}
use Rattle.sessions.specs.Shared.{moves_of, origin_of}
use Rattle.sessions.specs.Steps.{MayGive, WasTaken, has_added, has_given}
use Rattle.sessions.proofs.Moving.{held-looked, moved-given, moved-may, stopped-given}
use Rattle.sessions.proofs.Origins.{same-origin}
use Rattle.sessions.proofs.StepLemmas.{adds, fail-may}
use Rattle.store_file.proofs.RotatingFacts.{moves-now}
use Rattle.store_file.specs.declared.rotating.BeginCause.{BeginCause}
use Rattle.store_file.specs.declared.rotating.BeginCause.TheVariants as begun
use Rattle.store_file.specs.declared.moving.Rotation.{Rotation}
use Rattle.store_file.specs.declared.moving.Rotation.TheVariants.{Enough, NoSpare, Done}
use Rattle.store_file.specs.declared.moving.NotRotatedOver.{NotRotatedOver}
use Rattle.store_file.specs.declared.moving.NotRotatedOver.TheVariants as over
use Rattle.store_file.specs.declared.moving.NotMovedOver.{NotMovedOver}
use Rattle.store_file.specs.declared.moving.NotMovedOver.TheVariants.{Stays, Unsynced, SpareFailed, FirstFailed}
use Rattle.store_file.specs.Moving.{AfterSync, AreOf, HasEnough, HasNoSpare, HasRoom, IsStopped, IsSynced, LeavesBook, LeavesUnbegun, LeavesUnsynced, LosesSync, MayTurn, MovesOver, NotTurned, NotReplaced, NotTaken, Replaces, RotatesAbove, RotatesBook, StaysFor, StaysOver, StopsStore, TakesOver, TurnsBook}
use Rattle.store_file.specs.Moving.{has_stopped, rotation_of, stay_cause, stopped_at}
use Rattle.store_file.specs.declared.moving.StayCause.{StayCause}
use Rattle.store_file.specs.Rotated.{BeginsFresh, NotBegins}

-- A book that takes so many entries keeps no list of them.
pub unlisted : {D : Type 0} (b : BookView D) → HasRoom b → b.kept ≡ false
unlisted b room = by_kind b.kept room
  where
    by_kind : (kept : Bool) → most_events true < most_events kept - length b.entries → kept ≡ false
    by_kind false room = refl
    by_kind true room = absurd (omega arith)

-- A log has as many records as a book has no room for.
pub records-in : {D : Type 0} (log : Option (KeptView D)) (n : ℕ) → cells_where log ≡ Some n → (cells_in log ≡ n) × (is_some log ≡ true)
records-in None n is = absurd (true≢false (sym (ap is_some is)))
records-in (Some log) n is = (same_Some _ _ is, refl)

pub none-in : {D : Type 0} (log : Option (KeptView D)) → cells_where log ≡ None → log ≡ None
none-in None is = refl
none-in (Some log) is = absurd (true≢false (ap is_some is))

-- No append has failed on the log of a book that takes calls.
module _ {D : Type 0} (drive : D → Drive) (w : ℕ) (b : BookView D) (is_book : IsBook drive w b) (calls : call_refusal b.kept b.entries ≡ None) where
  good-in : (log : Option (KeptView D)) (view : LogView D) → failed_in log ≡ None → log_in log ≡ Some view → view.failed ≡ None
  good-in None view good is = absurd (true≢false (sym (ap is_some is)))
  good-in (Some log) view good is = ap (λ (v : LogView D). v.failed) (sym (same_Some _ _ is)) ∙ good

  pub log-good : (view : LogView D) → log_in b.log ≡ Some view → view.failed ≡ None
  log-good view is = good-in b.log view (in-failed drive w b.opening b.entries b.log is_book.on_log ∙ (may_call b.kept b.entries is_book.few calls).going) is

-- A log may be replaced as before after another log has replaced it, or after it was stopped.
pub moves-to : {D : Type 0} (entries : List Entry) (skipped : ℕ) (fresh : LogView D) (start : D) (log : Option (KeptView D)) → moves_in (option_map (moved_to entries skipped fresh start) log) ≡ moves_in log
moves-to entries skipped fresh start None = refl
moves-to entries skipped fresh start (Some log) = refl

moves-since : {D : Type 0} (old new : Option (KeptView D)) → IsSinceIn old new → moves_in new ≡ moves_in old
moves-since None None since = refl
moves-since None (Some new) since = absurd since
moves-since (Some old) None since = absurd since
moves-since (Some old) (Some new) since = since.moves

module _ {D : Type 0} (drive : D → Drive) (w : ℕ) (old new : BookView D) where
  stopped-moves : IsStopped drive w old new → moves_in new.log ≡ moves_in old.log
  stopped-moves stopped = moves-since old.log new.log stopped.books.origin.log

  fresh-moves : (seen : Seen) (log : LogView D) (start : D) → new ≡ with_fresh_log w seen log start old → moves_in new.log ≡ moves_in old.log
  fresh-moves seen log start is = ap (λ (v : BookView D). moves_in v.log) is ∙ moves-to _ _ log start old.log

-- A book that takes so many entries may allow no fresh log.
module _ {D : Type 0} (drive : D → Drive) (w : ℕ) (b : BookView D) (spare : D) (room : HasRoom b) where
  not_full : (m n : ℕ) → 4194304 < m - n → (n == m) ≡ true → ⊥
  not_full m n less is = grind (arith, nat_tests)

  pub stays-for : (fault : BookFault) → may_move_refusal w b ≡ Some fault → StaysFor drive w b spare spare (stay_cause fault)
  stays-for fault refused = by_parts (failed_cell b.entries) (length b.entries == most_events b.kept) (first_open (state_after w b.opening b.entries).splits) refl refl refused
    where
      by_parts : (cell : Option ℕ) (full : Bool) (number : Option ℕ) → failed_cell b.entries ≡ cell → (length b.entries == most_events b.kept) ≡ full
          → first_of (first_of (option_map book.Closed cell) (cond full (Some book.HistoryFull) None)) (option_map book.Splitting number) ≡ Some fault → StaysFor drive w b spare spare (stay_cause fault)
      by_parts (Some cell) full number failed few it = subst (λ (f : BookFault). StaysFor drive w b spare spare (stay_cause f)) (same_Some _ _ it) (room, (failed, refl))
      by_parts None true number failed few it = absurd (not_full (most_events b.kept) (length b.entries) room few)
      by_parts None false (Some number) failed few it = subst (λ (f : BookFault). StaysFor drive w b spare spare (stay_cause f)) (same_Some _ _ it) (room, refused ∙ sym it, refl)
      by_parts None false None failed few it = absurd (true≢false (sym (ap is_some it)))

  module _ (none : may_move_refusal w b ≡ None) where
    pub calls : call_refusal b.kept b.entries ≡ None
    calls = (neither (call_refusal b.kept b.entries) _ none).0

    pub going : failed_cell b.entries ≡ None
    going = going_on b.entries (neither (closed_refusal b.entries) (events_refusal b.kept b.entries) calls).0

    -- Then a fresh log of its content may not be begun.
    module _ (new : BookView D) (world : World) (leaves : List (List Bool)) (world_is : world ≡ world_after b.opening.world b.entries) (leaves_are : leaves ≡ (state_after w b.opening b.entries).leaves) where
      begins-not : (left : D) (cause : BeginCause) → NotBegins drive w (λ names. names ≡ leaves) None world spare left cause
          → NotBegins drive w (AreOf w b) (failed_cell b.entries) (world_after b.opening.world b.entries) spare left cause
      begins-not left cause not =
          subst (λ (f : Option ℕ). NotBegins drive w (AreOf w b) f (world_after b.opening.world b.entries) spare left cause) (sym going)
          (subst (λ (l : World). NotBegins drive w (AreOf w b) None l spare left cause) world_is
          (subst (λ (ls : List (List Bool)). NotBegins drive w (λ names. names ≡ ls) None world spare left cause) leaves_are not))

      pub unbegun-not : (left : D) (cause : BeginCause) (e : NotMovedOver D) → NotBegins drive w (λ names. names ≡ leaves) None world spare left cause → LeavesUnbegun drive w b new left cause e
          → NotReplaced drive w b new spare e
      unbegun-not left (begun.Refused cause) e not on = subst (NotReplaced drive w b new spare) (sym on.1) (on.0, (room, begins-not left (begun.Refused cause) not))
      unbegun-not left begun.Unsure e not on = subst (NotReplaced drive w b new spare) (sym on.1) (on.0, inl (begins-not left begun.Unsure not), room)

-- What was found in a fresh log of a copy of the content is the content.
pub has-content : {D : Type 0} (w : ℕ) (b : BookView D) (seen : Seen) (world : World) (leaves : List (List Bool)) → seen.world ≡ world → seen.leaves ≡ leaves
    → world ≡ world_after b.opening.world b.entries → leaves ≡ (state_after w b.opening b.entries).leaves → HasContent w b seen
has-content w b seen world leaves found_world found_leaves world_is leaves_are = record { world = found_world ∙ world_is; leaves = found_leaves ∙ leaves_are }

-- A fresh log of a book's content was begun.
module _ {D : Type 0} (drive : D → Drive) (w : ℕ) (b new : BookView D) (spare : D) (seen : Seen) (start : D) (log : LogView D) (room : HasRoom b) (begins : BeginsFresh drive w spare seen start log) (content : HasContent w b seen) where
  replaces-by : (Came : ℕ → Drive → Drive → Type 0) (mid : BookView D) (first : D) → TakesOver drive w Came b mid seen start log first → Replaces drive w Came b mid spare first
  replaces-by Came mid first takes = record { seen = seen; start = start; log = log; room = room; begins = begins; content = content; takes = takes }

  pub replaces-over : (first : D) → TakesOver drive w Clears b new seen start log first → Replaces drive w Clears b new spare first
  replaces-over first takes = replaces-by Clears new first takes

  pub taken-not : (e : NotMovedOver D) → NotTaken drive w b new seen start log e → NotReplaced drive w b new spare e
  taken-not (Stays left cause) on = absurd on
  taken-not (Unsynced left) on = absurd on
  taken-not (SpareFailed left) on = (on.0, inr (record { seen = seen; start = start; log = log; begins = begins; content = content; left_is = on.1 }), room)
  taken-not (FirstFailed first) on = record { mid = on.0; replaces = replaces-by (λ count. FailsToClear) on.0 first on.1; stopped = on.2 }

-- The records of a book that waited were written.
module _ {D : Type 0} (drive : D → Drive) (w : ℕ) (b mid : BookView D) (synced : IsSynced drive w b mid) where
  pub synced-moves : moves_in mid.log ≡ moves_in b.log
  synced-moves = moves-since b.log mid.log synced.books.origin.log

  synced-turn : (records : ℕ) → MayTurn records b → MayTurn records mid
  synced-turn records turn = (subst (λ (n : ℕ). records < n) (sym synced.cells) turn.0, synced-moves ∙ turn.1)

  pub synced-room : HasRoom b → HasRoom mid
  synced-room room = subst (λ (z : Bool × List Entry). most_events true < most_events z.0 - length z.1) (λ i. (sym synced.books.origin.kept i, sym synced.entries i)) room

  pub synced-may : may_move_refusal w b ≡ None → may_move_refusal w mid ≡ None
  synced-may none =
      (λ i. first_of (call_refusal (synced.books.origin.kept i) (synced.entries i)) (option_map book.Splitting (first_open (state_after w (synced.books.origin.opening i) (synced.entries i)).splits)))
      ∙ none

  was-synced : (old took : Known) → WasTaken drive b old took → WasTaken drive mid old took
  was-synced old took was = record {
    entries = synced.entries ∙ was.entries;
    origin = same-origin drive b mid synced.books.origin ∙ was.origin;
    later = was.later;
    took_is = was.took_is;
    off = was.off;
    alone = was.alone;
    ends = was.ends;
    below = was.below;
  }

-- The drive that a move returned is kept for the book.
module _ {D : Type 0} (drive : D → Drive) (w : ℕ) (mid new : BookView D) (spare : D) where
  replaced-moves : (first : D) → Replaces drive w Clears mid new spare first → moves_in new.log ≡ moves_in mid.log
  replaced-moves first on = fresh-moves drive w mid new on.seen on.log on.start on.takes.new_is

  not-moves : (e : NotMovedOver D) → NotReplaced drive w mid new spare e → moves_in new.log ≡ moves_in mid.log
  not-moves (Stays left cause) on = ap (λ (v : BookView D). moves_in v.log) on.0
  not-moves (Unsynced left) on = absurd on
  not-moves (SpareFailed left) on = stopped-moves drive w mid new on.0
  not-moves (FirstFailed first) on =
      stopped-moves drive w on.mid new on.stopped ∙ fresh-moves drive w mid on.mid on.replaces.seen on.replaces.log on.replaces.start on.replaces.takes.new_is

module _ {D : Type 0} (drive : D → Drive) (w records : ℕ) (b new : BookView D) (spare : D) where
  abbrev pub Ends : Result D (NotMovedOver D) → Type 0
  Ends (Ok first) = AfterSync drive w b (λ mid. Replaces drive w Clears mid new spare first)
  Ends (Err e) = NotTurned drive w b new spare e

  ends-as : (moved : Result D (NotMovedOver D)) → IfOk moved (λ first. AfterSync drive w b (λ mid. Replaces drive w Clears mid new spare first)) → IfErr moved (λ e. NotTurned drive w b new spare e) → Ends moved
  ends-as (Ok first) on none = on
  ends-as (Err e) none on = on

  after-moves : (mid : BookView D) (synced : IsSynced drive w b mid) → moves_in new.log ≡ moves_in mid.log → moves_in new.log ≡ moves_in b.log
  after-moves mid synced same = same ∙ synced-moves drive w b mid synced

  pub turned-moves : (moved : Result D (NotMovedOver D)) → Ends moved → moves_in new.log ≡ moves_in b.log
  turned-moves (Ok first) on = after-moves on.0 on.1 (replaced-moves drive w on.0 new spare first on.2)
  turned-moves (Err (Stays left cause)) (inl on) = not-moves drive w b new spare (Stays left cause) on
  turned-moves (Err (Stays left cause)) (inr on) = after-moves on.0 on.1 (not-moves drive w on.0 new spare (Stays left cause) on.2)
  turned-moves (Err (Unsynced left)) on = moves-since b.log new.log on.0.books.origin.log
  turned-moves (Err (SpareFailed left)) on = after-moves on.0 on.1 (not-moves drive w on.0 new spare (SpareFailed left) on.2)
  turned-moves (Err (FirstFailed first)) on = after-moves on.0 on.1 (not-moves drive w on.0 new spare (FirstFailed first) on.2)

  turns : (moved : Result D (NotMovedOver D)) → Ends moved → MayTurn records b → TurnsBook drive w records b new (rotation_of moved)
  turns (Ok first) on turn = (on.0, on.1, (synced-turn drive w b on.0 on.1 records turn, (spare, first, on.2)))
  turns (Err (Stays left cause)) (inl on) turn = inl (turn.0, (spare, left, on))
  turns (Err (Stays left cause)) (inr on) turn = inr (on.0, on.1, ((synced-turn drive w b on.0 on.1 records turn).0, (spare, left, on.2)))
  turns (Err (Unsynced left)) on turn = (on.0, turn.1)
  turns (Err (SpareFailed left)) on turn = (on.0, on.1, (synced-turn drive w b on.0 on.1 records turn, (spare, left, on.2)))
  turns (Err (FirstFailed first)) on turn = (on.0, on.1, (synced-turn drive w b on.0 on.1 records turn, (spare, first, on.2)))

  pub turns-to : (from to : BookView D) (moved : Result D (NotMovedOver D)) (r : Result Rotation NotRotatedOver) → b ≡ from → to ≡ new → r ≡ rotation_of moved
      → IfOk moved (λ first. AfterSync drive w b (λ mid. Replaces drive w Clears mid new spare first)) → IfErr moved (λ e. NotTurned drive w b new spare e) → MayTurn records from → TurnsBook drive w records from to r
  turns-to from to moved r same kept is on not turn =
      subst (λ (v : BookView D). TurnsBook drive w records v to r) same
      (subst (λ (v : BookView D). TurnsBook drive w records b v r) (sym kept)
      (subst (λ (x : Result Rotation NotRotatedOver). TurnsBook drive w records b new x) (sym is)
      (turns moved (ends-as moved on not) (subst (MayTurn records) (sym same) turn))))

  pub moves-kept : (from : BookView D) (moved : Result D (NotMovedOver D)) → b ≡ from → moves_in from.log ≡ true
      → IfOk moved (λ first. AfterSync drive w b (λ mid. Replaces drive w Clears mid new spare first)) → IfErr moved (λ e. NotTurned drive w b new spare e) → moves_in new.log ≡ true
  moves-kept from moved same moves on not = turned-moves moved (ends-as moved on not) ∙ ap (λ (v : BookView D). moves_in v.log) same ∙ moves

-- The book was taken from the lock, and is given back after the call.
module _ {D : Type 0} (drive : D → Drive) (w records : ℕ) (b new : BookView D) (old took : Known) (was : WasTaken drive b old took) where
  same_entries : (Came : ℕ → Drive → Drive → Type 0) (mid : BookView D) (spare first : D) → Replaces drive w Came b mid spare first → mid.entries ≡ b.entries
  same_entries Came mid spare first replaces = ap (λ (v : BookView D). v.entries) replaces.takes.new_is

  taken-origin : took.origin ≡ old.origin
  taken-origin = ap (λ (k : Known). k.origin) was.took_is

  -- A stopped book has one entry more than the pass has seen.
  stop_entries : (mid : BookView D) → mid.entries ≡ b.entries → IsStopped drive w mid new → new.entries ≡ took.seen ++ Fail (written_in mid.log) lost_stop ∷ []
  stop_entries mid same stopped = stopped.stops.entries ∙ ap (λ (h : List Entry). h ++ Fail (written_in mid.log) lost_stop ∷ []) (same ∙ was.entries)

  stop_may : (mid : BookView D) → mid.entries ≡ b.entries → IsStopped drive w mid new → MayGive took true new.entries
  stop_may mid same stopped = (Fail (written_in mid.log) lost_stop, stop_entries mid same stopped, fail-may (written_in mid.log) lost_stop took.seen took.own)

  mid_entries : (spare first : D) (fails : NotReplaced drive w b new spare (FirstFailed first)) → fails.mid.entries ≡ b.entries
  mid_entries spare first fails = same_entries (λ count. FailsToClear) fails.mid spare first fails.replaces

  as-taken : new ≡ b → origin_of drive new ≡ took.origin
  as-taken same = ap (origin_of drive) same ∙ was.origin ∙ sym taken-origin

  -- It has the origin of the lock.
  pub given-origin : (r : Result Rotation NotRotatedOver) → RotatesBook drive w records b new r → origin_of drive new ≡ took.origin
  given-origin (Ok Enough) on = as-taken on.0
  given-origin (Ok NoSpare) on = as-taken on.0
  given-origin (Ok Done) on = moved-given drive w b new old took took was on.1.2.takes.books.origin
  given-origin (Err (over.Stays cause)) on = as-taken on.1.2.0
  given-origin (Err over.Unsynced) on = absurd on
  given-origin (Err over.SpareFailed) on = stopped-given drive w b new old took took was on.1.2.0.books
  given-origin (Err over.FirstFailed) on =
      same-origin drive on.1.2.mid new on.1.2.stopped.books.origin ∙ moved-given drive w b on.1.2.mid old took took was on.1.2.replaces.takes.books.origin

  as-seen : new ≡ b → new.entries ≡ took.seen
  as-seen same = ap (λ (v : BookView D). v.entries) same ∙ was.entries

  -- It may be given back.
  pub given-may : (r : Result Rotation NotRotatedOver) → RotatesBook drive w records b new r → MayGive took (has_stopped r) new.entries
  given-may (Ok Enough) on = as-seen on.0
  given-may (Ok NoSpare) on = as-seen on.0
  given-may (Ok Done) on = moved-may drive w b new old took took was (same_entries Clears new on.1.0 on.1.1 on.1.2)
  given-may (Err (over.Stays cause)) on = as-seen on.1.2.0
  given-may (Err over.Unsynced) on = absurd on
  given-may (Err over.SpareFailed) on = stop_may b refl on.1.2.0
  given-may (Err over.FirstFailed) on = stop_may on.1.2.mid (mid_entries on.1.0 on.1.1 on.1.2) on.1.2.stopped

  lost-origin : LosesSync drive w b new → origin_of drive new ≡ took.origin
  lost-origin lost = same-origin drive b new lost.books.origin ∙ was.origin ∙ sym taken-origin

  lost_entries : (lost : LosesSync drive w b new) → new.entries ≡ took.seen ++ Fail lost.cell lost_sync ∷ []
  lost_entries lost = lost.closes.entries ∙ ap (λ (h : List Entry). h ++ Fail lost.cell lost_sync ∷ []) was.entries

  module _ (is_book : IsBook drive w b) (back : Known) where
    seen-origin : (grown : Bool) → back ≡ has_given took grown new.entries → took.origin ≡ back.origin
    seen-origin true given = sym (ap (λ (k : Known). k.origin) given)
    seen-origin false given = sym (ap (λ (k : Known). k.origin) given)

    from-origin : (grown : Bool) → back ≡ has_given took grown new.entries → origin_of drive b ≡ back.origin
    from-origin grown given = was.origin ∙ sym taken-origin ∙ seen-origin grown given

    leaves-as-is : (Holds : BookView D → Type 0) → Holds b → back ≡ has_given took false new.entries → LeavesBook drive w Holds old back
    leaves-as-is Holds holds given = record {
      looked = held-looked drive w b new old took back was given;
      stood = record { book = b; is_book = is_book; entries = was.entries ∙ sym (ap (λ (k : Known). k.seen) given); origin = from-origin false given };
      holds = holds;
    }

    moves-back : (grown : Bool) → moves_in b.log ≡ true → back ≡ has_given took grown new.entries → moves_of back.origin ≡ true
    moves-back grown moves given = sym (moves-now drive b back (from-origin grown given)) ∙ moves

    moves-over : waiting_in b.log ≡ [] → (spare first : D) → MayTurn records b → Replaces drive w Clears b new spare first → back ≡ has_given took false new.entries → MovesOver drive w records old back
    moves-over none spare first more replaces given = record {
      looked = held-looked drive w b new old took back was given;
      stood = record {
        book = new;
        is_book = replaces.takes.books.after;
        entries = same_entries Clears new spare first replaces ∙ was.entries ∙ sym (ap (λ (k : Known). k.seen) given);
        origin = moved-given drive w b new old took took was replaces.takes.books.origin ∙ seen-origin false given;
      };
      before = b;
      entries = was.entries ∙ sym (ap (λ (k : Known). k.seen) given);
      origin = from-origin false given;
      moves = moves-back false more.1 given;
      more = more.0;
      none_waited = none;
      spare = spare;
      first = first;
      replaces = replaces;
    }

    stops-store : waiting_in b.log ≡ [] → failed_cell b.entries ≡ None → (failed : D → NotMovedOver D) (spare left : D) (cell : ℕ) → MayTurn records b → NotReplaced drive w b new spare (failed left) → IsBook drive w new → origin_of drive new ≡ took.origin
        → new.entries ≡ took.seen ++ Fail cell lost_stop ∷ [] → back ≡ has_given took true new.entries → StopsStore drive w records failed old back
    stops-store none good failed spare left cell more fails after origin entries given = record {
      before = b;
      later = subst (IsPrefix old.seen) (sym was.entries) was.later;
      alone = λ all. was.entries ∙ was.alone all;
      cell = cell;
      added = adds old took back new.entries (Fail cell lost_stop) was.off was.took_is entries given ∙ ap (λ (h : List Entry). has_added old h (Fail cell lost_stop)) (sym was.entries);
      origin = from-origin true given;
      moves = moves-back true more.1 given;
      stood = record { book = new; is_book = after; entries = sym (ap (λ (k : Known). k.seen) given); origin = origin ∙ seen-origin true given };
      more = more.0;
      none_waited = none;
      going = good;
      spare = spare;
      left = left;
      fails = fails;
    }

    stops-spare : waiting_in b.log ≡ [] → failed_cell b.entries ≡ None → RotatesBook drive w records b new (Err over.SpareFailed) → back ≡ has_given took true new.entries → StopsStore drive w records SpareFailed old back
    stops-spare none good on given =
        stops-store none good SpareFailed on.1.0 on.1.1 (written_in b.log) on.0 on.1.2 on.1.2.0.books.after (given-origin (Err over.SpareFailed) on) (stop_entries b refl on.1.2.0) given

    stops-first : waiting_in b.log ≡ [] → failed_cell b.entries ≡ None → RotatesBook drive w records b new (Err over.FirstFailed) → back ≡ has_given took true new.entries → StopsStore drive w records FirstFailed old back
    stops-first none good on given =
        stops-store none good FirstFailed on.1.0 on.1.1 (written_in on.1.2.mid.log) on.0 on.1.2 on.1.2.stopped.books.after (given-origin (Err over.FirstFailed) on) (stop_entries on.1.2.mid (mid_entries on.1.0 on.1.1 on.1.2) on.1.2.stopped) given

    -- The append of the records that waited has failed.
    loses-sync : (lost : LosesSync drive w b new) → moves_in b.log ≡ true → back ≡ has_given took true new.entries → LeavesUnsynced drive w old back
    loses-sync lost moves given =
        let refused : call_refusal old.origin.kept b.entries ≡ None = ap (λ (o : Origin). call_refusal o.kept b.entries) (sym was.origin) ∙ lost.refused in
        record {
          cell = lost.cell;
          syncs = record {
            before = b.entries;
            later = subst (IsPrefix old.seen) (sym was.entries) was.later;
            alone = λ all. was.entries ∙ was.alone all;
            refused = subst (λ (c : Option BookFault). IsRefusedBy {A = ℕ} IsMemoryOrDisk c (Err (book.Disk lost.cell))) (sym refused) (inr tt);
            leaves = adds old took back new.entries (Fail lost.cell lost_sync) was.off was.took_is (lost_entries lost) given ∙ ap (λ (h : List Entry). has_added old h (Fail lost.cell lost_sync)) (sym was.entries);
          };
          stood = record { book = new; is_book = lost.books.after; entries = sym (ap (λ (k : Known). k.seen) given); origin = lost-origin lost ∙ seen-origin true given };
          moves = moves-back true moves given;
        }

-- The same, if the records that waited were written first.
module _ {D : Type 0} (drive : D → Drive) (w records : ℕ) (b new : BookView D) (old took : Known) (was : WasTaken drive b old took) where
  pub turned-origin : (r : Result Rotation NotRotatedOver) → TurnsBook drive w records b new r → origin_of drive new ≡ took.origin
  turned-origin (Ok Enough) on = given-origin drive w records b new old took was (Ok Enough) on
  turned-origin (Ok NoSpare) on = given-origin drive w records b new old took was (Ok NoSpare) on
  turned-origin (Ok Done) on = given-origin drive w records on.0 new old took (was-synced drive w b on.0 on.1 old took was) (Ok Done) on.2
  turned-origin (Err (over.Stays cause)) (inl on) = given-origin drive w records b new old took was (Err (over.Stays cause)) on
  turned-origin (Err (over.Stays cause)) (inr on) = given-origin drive w records on.0 new old took (was-synced drive w b on.0 on.1 old took was) (Err (over.Stays cause)) on.2
  turned-origin (Err over.Unsynced) on = lost-origin drive w records b new old took was on.0
  turned-origin (Err over.SpareFailed) on = given-origin drive w records on.0 new old took (was-synced drive w b on.0 on.1 old took was) (Err over.SpareFailed) on.2
  turned-origin (Err over.FirstFailed) on = given-origin drive w records on.0 new old took (was-synced drive w b on.0 on.1 old took was) (Err over.FirstFailed) on.2

  pub turned-may : (r : Result Rotation NotRotatedOver) → TurnsBook drive w records b new r → MayGive took (has_stopped r) new.entries
  turned-may (Ok Enough) on = given-may drive w records b new old took was (Ok Enough) on
  turned-may (Ok NoSpare) on = given-may drive w records b new old took was (Ok NoSpare) on
  turned-may (Ok Done) on = given-may drive w records on.0 new old took (was-synced drive w b on.0 on.1 old took was) (Ok Done) on.2
  turned-may (Err (over.Stays cause)) (inl on) = given-may drive w records b new old took was (Err (over.Stays cause)) on
  turned-may (Err (over.Stays cause)) (inr on) = given-may drive w records on.0 new old took (was-synced drive w b on.0 on.1 old took was) (Err (over.Stays cause)) on.2
  turned-may (Err over.Unsynced) on = (Fail on.0.cell lost_sync, lost_entries drive w records b new old took was on.0, fail-may on.0.cell lost_sync took.seen took.own)
  turned-may (Err over.SpareFailed) on = given-may drive w records on.0 new old took (was-synced drive w b on.0 on.1 old took was) (Err over.SpareFailed) on.2
  turned-may (Err over.FirstFailed) on = given-may drive w records on.0 new old took (was-synced drive w b on.0 on.1 old took was) (Err over.FirstFailed) on.2

  module _ (is_book : IsBook drive w b) (back : Known) where
    stays-so : (mid : BookView D) → WasTaken drive mid old took → IsBook drive w mid → (cause : StayCause) → RotatesBook drive w records mid new (Err (over.Stays cause)) → back ≡ has_given took false new.entries
        → LeavesBook drive w (StaysOver drive w records cause) old back
    stays-so mid was_mid is_mid cause on given = leaves-as-is drive w records mid new old took was_mid is_mid back (StaysOver drive w records cause) (on.0, (on.1.0, on.1.1, on.1.2.1)) given

    -- What the call leaves of the pass.
    pub turns-above : (r : Result Rotation NotRotatedOver) → TurnsBook drive w records b new r → back ≡ has_given took (has_stopped r) new.entries → RotatesAbove drive w records old back r
    turns-above (Ok Enough) on given = leaves-as-is drive w records b new old took was is_book back (HasEnough records) on.1 given
    turns-above (Ok NoSpare) on given = leaves-as-is drive w records b new old took was is_book back (HasNoSpare records) on.1 given
    turns-above (Ok Done) on given =
        moves-over drive w records on.0 new old took (was-synced drive w b on.0 on.1 old took was) on.1.books.after back on.1.none_wait on.2.1.0 on.2.1.1 on.2.0 on.2.1.2 given
    turns-above (Err (over.Stays cause)) (inl on) given = stays-so b was is_book cause on given
    turns-above (Err (over.Stays cause)) (inr on) given = stays-so on.0 (was-synced drive w b on.0 on.1 old took was) on.1.books.after cause on.2 given
    turns-above (Err over.Unsynced) on given = loses-sync drive w records b new old took was is_book back on.0 on.1 given
    turns-above (Err over.SpareFailed) on given = stops-spare drive w records on.0 new old took (was-synced drive w b on.0 on.1 old took was) on.1.books.after back on.1.none_wait on.1.going on.2 given
    turns-above (Err over.FirstFailed) on given = stops-first drive w records on.0 new old took (was-synced drive w b on.0 on.1 old took was) on.1.books.after back on.1.none_wait on.1.going on.2 given

-- A call says at which record it stopped the store.
pub stop-told : (took back : Known) (entries : List Entry) (r : Result Rotation NotRotatedOver) (grown : Bool) (lost : Option ℕ) → grown ≡ has_stopped r → back ≡ has_given took grown entries
    → (grown ≡ true → lost ≡ failed_cell entries) → (grown ≡ false → lost ≡ None) → lost ≡ stopped_at back.seen r
stop-told took back entries r true lost is given told none =
    told refl ∙ ap failed_cell (sym (ap (λ (k : Known). k.seen) given)) ∙ ap (λ (t : Bool). cond t (failed_cell back.seen) None) is
stop-told took back entries r false lost is given told none = none refl ∙ ap (λ (t : Bool). cond t (failed_cell back.seen) None) is
