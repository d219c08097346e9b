-- A store whose log a fresh one may replace: how it begins, and what its close leaves.
use Rattle.std.proofs.Common.{◌≡◌, ◌∙◌, ℕ, Bool, true, false, List, [], ◌∷◌, ◌++◌, length, Option, Some, None, is_some, refl, sym, ap, subst}
use Rattle.std.specs.Prelude.{⊤}
use mathlib.Core.Bool.{true≢false}
use Rattle.std.specs.Option.{option_map, option_map_or}
use Rattle.std.proofs.lemmas.Option.{same_Some}
use Rattle.cell_format.specs.declared.cell.Cell.{Cell}
use Rattle.disk_trait.specs.Drive.{Drive}
use Rattle.plain_list.specs.declared.entries.Entry.{Entry}
use Rattle.plain_list.specs.History.{failed_cell}
use Rattle.plain_list.specs.State.{State, IsLegal}
use Rattle.log_state.specs.Changes.{cells_of}
use Rattle.kept_log.specs.KeptView.{KeptView}
use Rattle.kept_log.specs.Journal.{KeepsIn, KeepsWaiting, disk_in, moves_from, moves_in, waiting_in, written_in}
use Rattle.kept_log.proofs.Moving.{unmoved-keeps}
use Rattle.kept_log.proofs.Waiting.{in-failed, keeps-synced}
use Rattle.book_lock.specs.Own.{times, once_below}
use Rattle.book_lock.specs.Pass.{Known}
use Rattle.book_lock.specs.declared.origin.Origin.{Origin}
use Rattle.book_lock.specs.declared.origin.LogStart.{LogStart}
use Rattle.commit_book.specs.BookView.{BookView}
use Rattle.commit_book.specs.IsBook.{IsBook}
use Rattle.sessions.specs.Shared.{StartsAs, moves_of, origin_of, start_in, start_of}
use Rattle.store_file.specs.Closed.{ClosesStore}
use Rattle.store_file.specs.Rotating.{ClosesMoved, rotating_origin}

-- A book whose log a fresh one may replace from now on.
module _ {D : Type 0} (drive : D → Drive) where
  rotating-start : (log : Option (KeptView D)) → option_map (start_in drive) (option_map moves_from log) ≡ option_map (λ (start : LogStart). record start { moves = true }) (option_map (start_in drive) log)
  rotating-start None = refl
  rotating-start (Some log) = refl

  pub rotating-of : (b : BookView D) → origin_of drive (record b { log = option_map moves_from b.log }) ≡ rotating_origin (origin_of drive b)
  rotating-of b = λ i. record {
    world = b.opening.world;
    leaves = b.opening.leaves;
    begun = b.opening.begun;
    log = rotating-start b.log i;
    bucket = b.bucket;
    kept = b.kept;
  }

  pub disk-moves : (log : Option (KeptView D)) → disk_in (option_map moves_from log) ≡ disk_in log
  disk-moves None = refl
  disk-moves (Some log) = refl

  module _ (unlogged : Type 0) (Is : Drive → Bool → Bool → Type 0) (logged : unlogged → ⊥) where
    pub has-moves : (log : Option (KeptView D)) → StartsAs drive unlogged Is log → moves_in (option_map moves_from log) ≡ true
    has-moves None starts = absurd (logged starts)
    has-moves (Some log) starts = refl

    pub keeps-logged : (log : Option (KeptView D)) → StartsAs drive unlogged Is log → is_some (option_map moves_from log) ≡ true
    keeps-logged None starts = absurd (logged starts)
    keeps-logged (Some log) starts = refl

    module _ (still : (start : D) (waits moves : Bool) → Is (drive start) waits moves → moves ≡ false) where
      pub starts-rotating : (log : Option (KeptView D)) → StartsAs drive unlogged Is log
          → StartsAs drive ⊥ (λ start waits moves. Is start waits false × (moves ≡ true)) (option_map moves_from log)
      starts-rotating None starts = absurd (logged starts)
      starts-rotating (Some log) starts = (subst (Is (drive log.start) log.at_sync) (still log.start log.at_sync log.moves starts) starts, refl)

      pub not-moved : (log : Option (KeptView D)) → StartsAs drive unlogged Is log → moves_in log ≡ false
      not-moved None starts = absurd (logged starts)
      not-moved (Some log) starts = still log.start log.at_sync log.moves starts

-- Whether a fresh log may replace the log of a book is what its origin says.
pub moves-now : {D : Type 0} (drive : D → Drive) (b : BookView D) (pass : Known) → origin_of drive b ≡ pass.origin → moves_in b.log ≡ moves_of pass.origin
moves-now {D = D} drive b pass same = by b.log ∙ ap moves_of same
  where
    by : (log : Option (KeptView D)) → moves_in log ≡ option_map_or (λ (l : LogStart). l.moves) (option_map (start_in drive) log) false
    by None = refl
    by (Some log) = refl

pub moves-then : {D : Type 0} (drive : D → Drive) (Is : Drive → Bool → Type 0) (log : Option (KeptView D)) → StartsAs drive ⊥ (λ start waits moves. Is start waits × (moves ≡ true)) log → moves_in log ≡ true
moves-then drive Is None starts = absurd starts
moves-then drive Is (Some log) starts = starts.1

-- No cell waits before the first entry.
last-nil : (cells waiting : List Cell) → [] ≡ cells ++ waiting → waiting ≡ []
last-nil [] waiting is = sym is
last-nil (c ∷ cells) waiting is = absurd (cc is)

none-waits : {D : Type 0} (drive : D → Drive) (w : ℕ) (s : State) (h : List Entry) (log : KeptView D) → h ≡ [] → KeepsWaiting drive w s h log → log.waiting ≡ []
none-waits drive w s h log none kept = last-nil (cells_of s.world kept.written) log.waiting (sym (ap (cells_of s.world) none) ∙ kept.cells)

-- The book of a store that was closed.
module _ {D : Type 0} (drive : D → Drive) (w : ℕ) (pass : Known) (b : BookView D) (is_book : IsBook drive w b) (value : (b.entries ≡ pass.seen) × (origin_of drive b ≡ pass.origin))
    (own : (p : ℕ) → times p pass.own ≡ once_below p (length pass.seen)) (disk : D) (disk_is : disk_in b.log ≡ Some disk) (good : failed_cell pass.seen ≡ None) where
  began-at : b.opening ≡ start_of pass.origin
  began-at = (λ i. record { world = b.opening.world; leaves = b.opening.leaves; splits = is_book.opening.rests i; begun = b.opening.begun }) ∙ ap start_of value.1

  -- The log has the same number of cells.
  closed-by : (log : Option (KeptView D)) → b.log ≡ log → waiting_in log ≡ [] → (closed : ClosesMoved drive w pass disk) × (closed.log.cells ≡ written_in log)
  closed-by None is none = absurd (true≢false (sym (ap is_some (sym (ap disk_in is) ∙ disk_is))))
  closed-by (Some log) is none = (
    record {
      own = own;
      legal = subst (λ (s : State). IsLegal w s pass.seen) began-at (subst (λ (h : List Entry). IsLegal w b.opening h) value.0 is_book.legal);
      log = log;
      disk_is = same_Some log.disk disk (sym (ap disk_in is) ∙ disk_is);
      began = sym (ap (λ (o : Origin). o.log) value.1) ∙ ap (λ (l : Option (KeptView D)). option_map (start_in drive) l) is;
      keeps = subst (λ (s : State). KeepsIn drive w s pass.seen (Some log)) began-at
          (subst (λ (h : List Entry). KeepsIn drive w b.opening h (Some log)) value.0
          (subst (λ (l : Option (KeptView D)). KeepsIn drive w b.opening b.entries l) is is_book.on_log));
      none_wait = none;
      good = good;
    },
    refl,
  )

  -- No record waits.
  pub closes-moved : waiting_in b.log ≡ [] → (closed : ClosesMoved drive w pass disk) × (closed.log.cells ≡ written_in b.log)
  closes-moved none = closed-by b.log refl none

module _ {D : Type 0} (drive : D → Drive) (w : ℕ) (pass : Known) (disk : D) where
  moves-began : (closed : ClosesMoved drive w pass disk) → closed.log.moves ≡ moves_of pass.origin
  moves-began closed = sym (ap (λ (l : Option LogStart). option_map_or (λ (s : LogStart). s.moves) l false) closed.began)

  -- If no fresh log may replace the log, it keeps the history by itself.
  pub closes-unmoved : (closed : ClosesMoved drive w pass disk) → moves_of pass.origin ≡ false → ClosesStore drive w (λ start. ⊤) pass disk
  closes-unmoved closed fixed =
      let still = moves-began closed ∙ fixed in
      let s = start_of pass.origin in
      record {
        own = closed.own;
        legal = closed.legal;
        log = closed.log;
        disk_is = closed.disk_is;
        began = closed.began;
        still = still;
        starts = tt;
        keeps = keeps-synced drive w s pass.seen closed.log (unmoved-keeps drive w s pass.seen closed.log still closed.keeps) closed.none_wait
            (in-failed drive w s pass.seen (Some closed.log) closed.keeps ∙ closed.good);
      }

  pub unmoved-counted : (count : ℕ) → (closed : ClosesMoved drive w pass disk) × (closed.log.cells ≡ count) → moves_of pass.origin ≡ false
      → (closed : ClosesStore drive w (λ start. ⊤) pass disk) × (closed.log.cells ≡ count)
  unfolding closes-unmoved
  unmoved-counted count closed fixed = (closes-unmoved closed.0 fixed, closed.1)

-- A store that nobody has called was closed, and no fresh log could replace its log.
module _ {D : Type 0} (drive : D → Drive) (w : ℕ) (unlogged : Type 0) (Is : Drive → Bool → Bool → Type 0) (logged : unlogged → ⊥) (still : (start : D) (waits moves : Bool) → Is (drive start) waits moves → moves ≡ false)
    (pass : Known) (b : BookView D) (is_book : IsBook drive w b) (value : (b.entries ≡ pass.seen) × (origin_of drive b ≡ pass.origin)) (own : (p : ℕ) → times p pass.own ≡ once_below p (length pass.seen))
    (starts : StartsAs drive unlogged Is b.log) (new : pass.seen ≡ []) (disk : D) (disk_is : disk_in b.log ≡ Some disk) where
  fixed : moves_in b.log ≡ false
  fixed = not-moved drive unlogged Is logged still b.log starts

  waits-none : (log : Option (KeptView D)) → b.log ≡ log → waiting_in log ≡ []
  waits-none None is = refl
  waits-none (Some log) is =
      none-waits drive w b.opening b.entries log (value.0 ∙ new)
      (unmoved-keeps drive w b.opening b.entries log (sym (ap moves_in is) ∙ fixed) (subst (λ (l : Option (KeptView D)). KeepsIn drive w b.opening b.entries l) is is_book.on_log))

  pub closes-new : ClosesStore drive w (λ start. ⊤) pass disk
  closes-new =
      closes-unmoved drive w pass disk (closes-moved drive w pass b is_book value own disk disk_is (ap failed_cell new) (waits-none b.log refl)).0
      (sym (moves-now drive b pass value.1) ∙ fixed)
