-- Rows that lanes played, over a store that was closed.
use Rattle.std.proofs.lemmas.Bool.Decides.{nat_tests}
use Rattle.std.proofs.Common.{◌≡◌, ◌⊎◌, inl, inr, ℕ, ◌<◌, ◌≤◌, Bool, true, false, cond, List, [], ◌∷◌, length, Option, Some, None, refl, sym, ap, subst, ◌∙◌, arith}
use Rattle.std.specs.Prelude.{nat_lt}
use Rattle.std.specs.Option.{option_map, option_map_or}
use Rattle.plain_list.specs.declared.entries.Entry.{Entry}
use Rattle.plain_list.specs.State.{State, IsLegal}
use Rattle.plain_list.specs.History.{failed_cell}
use Rattle.plain_list.specs.Played.{IsPlayed, IsPlayedWhole}
use Rattle.csv_rows.specs.declared.rows.InRow.{InRow}
use Rattle.csv_rows.specs.InRows.{AreInRows}
use Rattle.disk_trait.specs.Drive.{Drive}
use Rattle.book_lock.specs.Pass.{Known}
use Rattle.book_lock.specs.Own.{times, once_below}
use Rattle.book_lock.specs.declared.origin.Origin.{Origin}
use Rattle.book_lock.specs.declared.origin.LogStart.{LogStart}
use Rattle.commit_book.specs.BookView.{BookView}
use Rattle.commit_book.specs.IsBook.{IsBook}
use Rattle.kept_log.specs.KeptView.{KeptView}
use Rattle.kept_log.specs.Journal.{moves_in}
use Rattle.kept_log.specs.Counts.{first_in}
use Rattle.sessions.specs.Shared.{start_in, start_of, origin_of, first_cells, moves_of}
use Rattle.sessions.specs.Steps.{cells_at}
use Rattle.sessions.proofs.Origins.{first-in}
use Rattle.sessions.proofs.StepLemmas.{cells-at}
use Rattle.lane_history.specs.SessionRows.{session_rows}
use Rattle.lane_history.specs.Lanes.{IsPlayedOut, OwnsAll}
use Rattle.lane_history.specs.LostSteps.{IsNextStep, LosesStep}
use Rattle.lane_history.specs.Settled.{SplitsAreDone, IsWithinLimits, IsPlayStart}
use Rattle.play_run.specs.declared.lanes.LaneEnd.{LaneEnd}
use Rattle.play_run.specs.inside.Dealt.{sessions_to}
use Rattle.play_run.specs.inside.Joined.{HasRun, HasNotRun, HasAllParts}
use Rattle.play_run.specs.inside.Books.{IsNewBook}
use Rattle.play_run.specs.inside.Answered.{HasAnswers, IsPlayedBook, IsAnsweredBook}
use Rattle.play_run.proofs.Dealing.{sessions-are}
use Rattle.play_run.proofs.Answering.{has-answers}
use Rattle.lane_history.proofs.PlayedOut.{played, whole, kept_right, loses}
use Rattle.lane_history.proofs.Settled.{settled}
use Rattle.lane_history.proofs.Limits.{within_limits}

positive : (n : ℕ) → 0 < n → nat_lt 0 n ≡ true
positive n lt = grind (arith, nat_tests)

-- a pass that owns nothing of the whole history has seen none
unseen : (h : List Entry) (own : List ℕ) → ((p : ℕ) → times p own ≡ once_below p (length h)) → ((p : ℕ) → times p own ≡ 0) → h ≡ []
unseen [] own all none = refl
unseen (e ∷ h) own all none =
    let one : once_below 0 (length (e ∷ h)) ≡ 1 = ap {B = ℕ} (λ (b : Bool). cond {A = ℕ} b 1 0) (positive (length (e ∷ h)) (omega arith)) in
    absurd (omega (arith, all 0, none 0, one))

-- rows were played on a store of this origin
record ArePlayed (w : ℕ) (origin : Origin) (rows : List InRow) (h : List Entry) : Type 0 where
  pub played : IsPlayed (session_rows rows) h
  pub loses : (cell : ℕ) → failed_cell h ≡ Some cell → LosesStep (IsNextStep w (start_of origin) rows) h cell
  pub limits : IsWithinLimits w origin.bucket (start_of origin) (first_cells origin) rows h

-- each row was answered, and the splits at the end were settled
record AreAnswered (w : ℕ) (origin : Origin) (rows : List InRow) (h : List Entry) (ends : List LaneEnd) : Type 0 where
  pub whole : IsPlayedWhole (session_rows rows) h
  pub answers : HasAnswers origin.world h rows ends
  pub settled : failed_cell h ≡ None → SplitsAreDone w origin.bucket (start_of origin) (first_cells origin) h

played-none : (w : ℕ) (origin : Origin) (rows : List InRow) (h : List Entry) → IsPlayStart origin → h ≡ [] → ArePlayed w origin rows h
played-none w origin rows [] start none = record {
  played = λ s. (session_rows rows s, refl);
  loses = λ cell failed. absurd (cc failed);
  limits = record { entries = omega arith; cells = omega arith; stray = omega arith; begins = inl (omega arith) };
}
played-none w origin rows (e ∷ h) start none = absurd (cc none)

module _ {I D O P : Type 0} (w : ℕ) (origin : Origin) (rows : List InRow) (ends : List LaneEnd) (last : Known) (are : AreInRows rows) (own : OwnsAll last) where
  abbrev out : (done : Bool) (ran : HasRun I D O P w origin rows ends last done) → IsPlayedOut w origin rows (sessions_to 16 rows) ran.lanes last
  out done ran = record { sessions_are = sessions-are rows are; played = ran.played; pass = ran.pass; joined = ran.joined; goes_on = ran.goes_on; whole = own }

  are-played : (done : Bool) → HasRun I D O P w origin rows ends last done ⊎ HasNotRun last done → IsLegal w (start_of origin) last.seen → IsPlayStart origin → ArePlayed w origin rows last.seen
  are-played done (inl ran) legal start = record {
    played = played w origin rows (sessions_to 16 rows) ran.lanes last (out done ran);
    loses = λ cell failed. loses w origin rows (sessions_to 16 rows) ran.lanes last (out done ran) cell legal failed;
    limits = within_limits w origin rows (sessions_to 16 rows) ran.lanes last (out done ran) start legal are.most;
  }
  are-played done (inr none) legal start = played-none w origin rows last.seen start (unseen last.seen last.own own none.own)

  are-answered : HasRun I D O P w origin rows ends last true ⊎ HasNotRun last true → IsLegal w (start_of origin) last.seen → IsPlayStart origin → AreAnswered w origin rows last.seen ends
  are-answered (inr none) legal start = absurd (cc none.not_done)
  are-answered (inl ran) legal start =
      let all = out true ran in
      let calm = ran.is_done.0 in
      let sessions = sessions_to 16 rows in
      record {
        whole = whole w origin rows sessions ran.lanes last all calm;
        answers = subst (λ (l : List LaneEnd). HasAnswers origin.world last.seen rows l) (sym ran.ends_are)
            (has-answers w origin origin.world last.seen rows sessions ran.lanes (sessions-are rows are) ran.played calm (kept_right w origin rows sessions ran.lanes last all));
        settled = λ going. settled w origin rows sessions ran.lanes last ran.is_done.1.0 all ran.is_done.1.1 ran.is_done.1.2 legal are.most start going;
      }

-- whether a fresh log may replace the log of a book is the same of its origin
moves-start : {D : Type 0} (drive : D → Drive) (log : Option (KeptView D)) → option_map_or (λ (start : LogStart). start.moves) (option_map (start_in drive) log) false ≡ moves_in log
moves-start drive None = refl
moves-start drive (Some log) = refl

-- a book of an origin begins as that says
opening-is : {D : Type 0} (drive : D → Drive) (w : ℕ) (b : BookView D) → IsBook drive w b → start_of (origin_of drive b) ≡ b.opening
opening-is drive w b book = same
  where
    same : start_of (origin_of drive b) ≡ b.opening
    same i = record { world = b.opening.world; leaves = b.opening.leaves; splits = (sym book.opening.rests) i; begun = b.opening.begun }

module _ {D : Type 0} (drive : D → Drive) (w : ℕ) (rows : List InRow) (old new : BookView D) (before : IsBook drive w old) (after : IsBook drive w new) (begins : IsNewBook old) where
  -- no fresh log may replace the log
  still-first : moves_of (origin_of drive old) ≡ false
  still-first = moves-start drive old.log ∙ begins.still

  -- the log has few cells at first
  few-first : cells_at (origin_of drive old) [] ≤ 16000000
  few-first = subst (λ (h : List Entry). cells_at (origin_of drive old) h ≤ 16000000) begins.entries (subst (λ (n : ℕ). n ≤ 16000000) (cells-at drive w old before still-first) begins.few)

  play-first : IsPlayStart (origin_of drive old)
  play-first = record { kept = begins.kept; few = few-first; still = still-first }

  played-book : origin_of drive new ≡ origin_of drive old → ArePlayed w (origin_of drive old) rows new.entries → IsPlayedBook w rows old new
  played-book same are = record {
    opening = sym (opening-is drive w new after) ∙ ap start_of same ∙ opening-is drive w old before;
    first = sym (first-in drive w new after (ap moves_of same ∙ still-first)) ∙ ap first_cells same ∙ first-in drive w old before still-first;
    played = are.played;
    loses = λ cell failed. subst (λ (s : State). LosesStep (IsNextStep w s rows) new.entries cell) (opening-is drive w old before) (are.loses cell failed);
    limits =
        subst (λ (s : State). IsWithinLimits w old.bucket s (first_in old.log) rows new.entries) (opening-is drive w old before)
        (subst (λ (first : Option ℕ). IsWithinLimits w old.bucket (start_of (origin_of drive old)) first rows new.entries) (first-in drive w old before still-first) are.limits);
    kept = ap (λ (o : Origin). o.kept) same ∙ begins.kept;
  }

  answered-book : (ends : List LaneEnd) → AreAnswered w (origin_of drive old) rows new.entries ends → IsAnsweredBook w rows old new ends
  answered-book ends are = record {
    whole = are.whole;
    answers = are.answers;
    settled = λ going.
        subst (λ (s : State). SplitsAreDone w old.bucket s (first_in old.log) new.entries) (opening-is drive w old before)
        (subst (λ (first : Option ℕ). SplitsAreDone w old.bucket (start_of (origin_of drive old)) first new.entries) (first-in drive w old before still-first) (are.settled going));
  }

  -- the same book, where no row was played
  pub played-not : new ≡ old → IsPlayedBook w rows old new
  played-not same =
      let none : new.entries ≡ [] = ap (λ (b : BookView D). b.entries) same ∙ begins.entries in
      played-book (ap (origin_of drive) same) (played-none w (origin_of drive old) rows new.entries play-first none)

-- a book that a store gave back, on which rows were played
module _ {I D O P : Type 0} (drive : D → Drive) (w : ℕ) (rows : List InRow) (old new : BookView D) (made last : Known) (ends : List LaneEnd) (done : Bool) (are : AreInRows rows) (before : IsBook drive w old) (after : IsBook drive w new)
    (begins : IsNewBook old) (from : made.origin ≡ origin_of drive old) (value : (new.entries ≡ last.seen) × (origin_of drive new ≡ last.origin)) (own : OwnsAll last) (parts : HasAllParts made last)
    (ran : HasRun I D O P w made.origin rows ends last done ⊎ HasNotRun last done) where
  same-origin : origin_of drive new ≡ origin_of drive old
  same-origin = value.1 ∙ parts.origin ∙ from

  legal-seen : IsLegal w (start_of (origin_of drive old)) last.seen
  legal-seen =
      subst (λ (h : List Entry). IsLegal w (start_of (origin_of drive old)) h) value.0
      (subst (λ (s : State). IsLegal w s new.entries) (sym (opening-is drive w new after) ∙ ap start_of same-origin) after.legal)

  from-old : HasRun I D O P w (origin_of drive old) rows ends last done ⊎ HasNotRun last done
  from-old = subst (λ (o : Origin). HasRun I D O P w o rows ends last done ⊎ HasNotRun last done) from ran

  start : IsPlayStart (origin_of drive old)
  start = play-first drive w rows old new before after begins

  pub store-played : IsPlayedBook w rows old new
  store-played =
      played-book drive w rows old new before after begins same-origin
      (subst (λ (h : List Entry). ArePlayed w (origin_of drive old) rows h) (sym value.0) (are-played w (origin_of drive old) rows ends last are own done from-old legal-seen start))

  pub store-answered : done ≡ true → IsAnsweredBook w rows old new ends
  store-answered sure =
      answered-book drive w rows old new before after begins ends
      (subst (λ (h : List Entry). AreAnswered w (origin_of drive old) rows h ends) (sym value.0)
      (are-answered w (origin_of drive old) rows ends last are own (subst (λ (d : Bool). HasRun I D O P w (origin_of drive old) rows ends last d ⊎ HasNotRun last d) sure from-old) legal-seen start))
