-- How rows end that are played over a book.
use Rattle.std.proofs.Common.{◌≡◌, ◌≢◌, inl, inr, ◌∙◌, ℕ, ◌+◌, ◌≤◌, false, List, length, Option, Some, None, is_some, refl, sym, ap, subst, arith}
use Rattle.std.specs.Option.{option_map}
use Rattle.std.proofs.lemmas.Option.{same_Some}
use Rattle.causes.specs.Causes.{Rose}
use Rattle.disk_trait.specs.Drive.{Drive, AttachedOne, Stays}
use Rattle.disk_trait.proofs.Calls.{attached-still}
use Rattle.plain_list.specs.declared.entries.Entry.{Entry}
use Rattle.plain_list.specs.State.{State, empty_state}
use Rattle.recovery.proofs.OnlyReading.{rose-earlier, stays-trans}
use Rattle.kept_log.specs.KeptView.{KeptView, Earlier}
use Rattle.kept_log.specs.Journal.{disk_in, KeepsLog, KeepsIn}
use Rattle.kept_log.proofs.Moving.{unmoved-keeps, unmoved}
use Rattle.kept_log.proofs.Waiting.{keeps-at-once}
use Rattle.commit_book.specs.BookView.{BookView}
use Rattle.kept_log.specs.Counts.{first_of, first_in, count_after}
use Rattle.csv_rows.specs.declared.rows.InRow.{InRow}
use Rattle.io_edge.specs.Streams.{Output}
use Rattle.run_ends.specs.declared.refusals.Refusal.{Refusal}
use Rattle.run_ends.specs.declared.ended.Drives.{Drives}
use Rattle.run_ends.specs.Ends.{targets}
use Rattle.run_ends.specs.Status.{status_of, WritesLines}
use Rattle.play_run.specs.Origin.{Origin, new_origin}
use Rattle.log_state.specs.Changes.{cells_of}
use Rattle.lane_history.specs.Settled.{SplitsAreDone, IsWithinLimits}
use Rattle.recovery.specs.Calls.{StopsAtFault}
use Rattle.recovery.proofs.CallLemmas.{well-none}
use Rattle.play_run.specs.Crash.{KeepsPlayed, KeepsText}
use Rattle.plain_list.specs.declared.entries.Lost.{Lost}
use Rattle.plain_list.specs.History.{failed_cell}
use Rattle.plain_list.proofs.Histories.{failed_cell-last, has_failed-none}
use Rattle.lane_history.specs.LostSteps.{IsNextStep, LosesStep}
use Rattle.play_run.specs.declared.reports.Report.{Report}
use Rattle.play_run.specs.Answers.{AnswersAsOneList}
use Rattle.play_run.specs.Playing.{IsStop, EndsRows, IsAnswered}
use Rattle.play_run.specs.inside.Books.{IsLike, IsPlain, BeginsAs, StopsBook, LeavesLog, OpensBook}
use Rattle.play_run.specs.inside.Ended.{EndsBook}
use Rattle.play_run.proofs.CrashFacts.{keeps-opened, text-opened, calls-opened}

-- the log of a book, as it is left
record KeptSince {D : Type 0} (drive : D → Drive) (w : ℕ) (s : State) (h : List Entry) (opened : KeptView D) (disk : D) : Type 0 where
  pub now : KeptView D
  pub like : IsLike (drive opened.start) (drive now.start)
  pub first : now.first ≡ opened.first
  pub keeps : KeepsLog drive w s h now
  pub still : now.moves ≡ false
  pub disk_is : now.disk ≡ disk

-- a log that has replaced none tells how many cells it had when it was opened
first-whole : {D : Type 0} (log : KeptView D) → log.earlier ≡ None → first_in (Some log) ≡ Some log.first
first-whole {D} log whole = ap (λ (e : Option (Earlier D)). first_of log.first e) whole

since-in : {D : Type 0} (drive : D → Drive) (w : ℕ) (s : State) (h : List Entry) (opened : KeptView D) (disk : D) (old new : Option (KeptView D)) → old ≡ Some opened → IsPlain opened → BeginsAs drive old new → first_in new ≡ first_in old
    → KeepsIn drive w s h new → Some disk ≡ disk_in new → KeptSince drive w s h opened disk
since-in drive w s h opened disk None new is plain begins first keeps told = absurd (cc is)
since-in drive w s h opened disk (Some old) None is plain begins first keeps told = absurd begins
since-in {D} drive w s h opened disk (Some old) (Some new) is plain begins first keeps told =
    let same : old ≡ opened = same_Some old opened is in
    let still : new.moves ≡ false = begins.2 ∙ ap (λ (v : KeptView D). v.moves) same ∙ plain.still in
    let count : Some new.first ≡ Some opened.first =
    sym (first-whole new (unmoved drive w s h new still keeps)) ∙ first ∙ ap (λ (v : KeptView D). first_in (Some v)) same ∙ first-whole opened plain.whole in
    record {
      now = new;
      like = subst (λ (v : KeptView D). IsLike (drive v.start) (drive new.start)) same begins.0;
      first = same_Some new.first opened.first count;
      keeps = keeps-at-once drive w s h new (unmoved-keeps drive w s h new still keeps) (begins.1 ∙ ap (λ (v : KeptView D). v.at_sync) same ∙ plain.once);
      still = still;
      disk_is = sym (same_Some disk new.disk told);
    }

-- what a history that ends with a failed append names
loses-cell : (Step : List Entry → Lost → Type 0) (h : List Entry) (cell : ℕ) → LosesStep Step h cell → failed_cell h ≡ Some cell
loses-cell Step h cell loses = ap failed_cell loses.entries ∙ failed_cell-last loses.before cell loses.lost (has_failed-none loses.before loses.going)

none-some : (n : ℕ) → None ≡ Some n → ⊥
none-some n e = cc e

-- without a log no append fails
none-failed : {D : Type 0} (drive : D → Drive) (w : ℕ) (s : State) (h : List Entry) (old new : Option (KeptView D)) → old ≡ None → BeginsAs drive old new → KeepsIn drive w s h new → failed_cell h ≡ None
none-failed drive w s h None None is begins keeps = keeps
none-failed drive w s h None (Some new) is begins keeps = absurd begins
none-failed drive w s h (Some old) new is begins keeps = absurd (cc is)

new-stop : {D : Type 0} (drive : D → Drive) (w : ℕ) (Step : List Entry → Lost → Type 0) (from : Origin) (rows : List InRow) (was now : Drive) (s : State) (h : List Entry) (log : Option (KeptView D)) (disk : Option D) → log ≡ None
    → LeavesLog drive w s h log disk → (why : Refusal) → StopsBook Step h why → IsStop None from rows was now h why
new-stop drive w Step from rows was now s h log disk is leaves why (inl (memory, none)) = subst (IsStop None from rows was now h) (sym memory) none
new-stop drive w Step from rows was now s h log disk is leaves why (inr (cell, named, loses)) =
    absurd (none-some cell (sym (none-failed drive w s h log leaves.log is leaves.begins leaves.keeps) ∙ loses-cell Step h cell loses))

-- what a weaker cause gives
ends-weaker : (P Q : Refusal → Type 0) (status : ℕ) (before after : Output) → ((why : Refusal) → P why → Q why) → EndsRows P status before after → EndsRows Q status before after
ends-weaker P Q status before after weaker (inl all) = inl all
ends-weaker P Q status before after weaker (inr (inl front)) = inr (inl front)
ends-weaker P Q status before after weaker (inr (inr (why, cause, refuses))) = inr (inr (why, weaker why cause, refuses))

-- where the drive didn't fail, no append did
unfailed : (Step : List Entry → Lost → Type 0) (h : List Entry) (status : ℕ) (before after : Output) → EndsRows (StopsBook Step h) status before after → (WritesLines status → failed_cell h ≡ None) → status ≢ 7 → failed_cell h ≡ None
unfailed Step h status before after (inl all) going other = going (inl all.0)
unfailed Step h status before after (inr (inl front)) going other = going (inr front.0)
unfailed Step h status before after (inr (inr (why, inl (memory, none), refuses))) going other = none
unfailed Step h status before after (inr (inr (why, inr (cell, named, failed), refuses))) going other = absurd (other (refuses.status_is ∙ ap status_of named))

-- what is said of splits from where a book begins is said from the origin
moved : (P : ℕ → ℕ → State → Option ℕ → Type 0) (w v bucket size : ℕ) (s t : State) (first cells : Option ℕ) → w ≡ v → bucket ≡ size → s ≡ t → first ≡ cells → P w bucket s first → P v size t cells
moved P w v bucket size s t first cells width sized state count holds =
    subst (λ (n : ℕ). P n size t cells) width
    (subst (λ (o : State). P w size o cells) state (subst (λ (n : ℕ). P w n s cells) sized (subst (λ (c : Option ℕ). P w bucket s c) count holds)))

-- rows that were answered on a log
module _ {D : Type 0} (drive : D → Drive) (report : Report) (file : List ℕ) (w size : ℕ) (rows : List InRow) (b : BookView D) (was disk other : D) (before after : Output) (status : ℕ) (h : List Entry) (opens : OpensBook drive file (drive was) w size b)
    (ended : EndsBook drive w report rows b h status (Some disk) before after) where
  kept : KeptSince drive w b.opening h opens.log disk
  kept = let left = ended.log in since-in drive w b.opening h opens.log disk b.log left.log opens.log_is opens.plain left.begins left.first left.keeps left.disk_is

  -- what holds of the log's drive in the end
  at-end : (P : Drive → Type 0) → P (drive kept.now.disk) → P (drive disk)
  at-end P = subst (λ (d : D). P (drive d)) kept.disk_is

  -- what holds from where the book begins holds from the origin
  from-origin : (P : ℕ → ℕ → State → Option ℕ → Type 0) → P w b.bucket b.opening (first_in b.log) → P opens.from.width size opens.from.state (option_map length opens.from.first)
  from-origin P = moved P w opens.from.width b.bucket size b.opening opens.from.state (first_in b.log) (option_map length opens.from.first) (sym opens.width) opens.bucket opens.state opens.count

  going : status ≢ 7 → failed_cell h ≡ None
  going = unfailed (IsNextStep w b.opening rows) h status before after ended.ends (λ writes. (ended.splits writes).going)

  stays : Stays (drive was) (drive kept.now.start)
  stays = stays-trans (drive was) (drive opens.log.start) (drive kept.now.start) opens.stays kept.like.stays

  keeps : KeepsLog drive opens.from.width b.opening h kept.now
  keeps = subst (λ (v : ℕ). KeepsLog drive v b.opening h kept.now) (sym opens.width) kept.keeps

  -- the number of a failed record is the log's number of records
  number : (cell : ℕ) → failed_cell h ≡ Some cell → cell ≡ count_after (option_map length opens.from.first) opens.from.state.world h
  number cell failed =
      let count : cell ≡ opens.log.first + length (cells_of b.opening.world h) = omega (arith, kept.keeps.named cell failed, kept.keeps.keeps.count, kept.first) in
      let first : Some opens.log.first ≡ first_in b.log = sym (ap (λ (l : Option (KeptView D)). first_in l) opens.log_is ∙ first-whole opens.log opens.plain.whole) in
      count ∙ from-origin (λ v n s f. opens.log.first + length (cells_of b.opening.world h) ≡ count_after f s.world h) (ap (λ (n : Option ℕ). count_after n b.opening.world h) first)

  -- a failed append raised the count
  stop : (why : Refusal) → StopsBook (IsNextStep w b.opening rows) h why → IsStop (Some file) opens.from rows (drive was) (drive disk) h why
  stop why (inl (memory, none)) = subst (IsStop (Some file) opens.from rows (drive was) (drive disk) h) (sym memory) none
  stop why (inr (cell, is, loses)) =
      let failed = loses-cell (IsNextStep w b.opening rows) h cell loses in
      let calm : (drive kept.now.start).faults ≡ (drive was).faults = kept.like.calm ∙ opens.calm in
      let rose = rose-earlier (drive was).faults (drive kept.now.start).faults (drive kept.now.disk).faults (omega (arith, calm)) (kept.keeps.rose kept.still (ap is_some failed)) in
      subst (IsStop (Some file) opens.from rows (drive was) (drive disk) h) (sym is) (record {
        loses = from-origin (λ v n s f. LosesStep (IsNextStep v s rows) h cell) loses;
        number = number cell failed;
        rose = at-end (λ d. Rose (drive was).faults d.faults) rose;
      })

  pub answered-over : IsAnswered {D = D} report (Some file) size rows (targets (λ o. o) drive before (record { disk = was; other = other })) (targets (λ o. o) drive after (record { disk = disk; other = other })) status h
  answered-over = record {
    from = opens.from;
    begins = opens.found;
    book = opens.shows;
    one_list = from-origin (λ v n s f. AnswersAsOneList report v s rows h status before after) ended.one_list;
    ends = ends-weaker (StopsBook (IsNextStep w b.opening rows) h) (IsStop (Some file) opens.from rows (drive was) (drive disk) h) status before after stop ended.ends;
    splits = λ writes. from-origin (λ v n s f. SplitsAreDone v n s f h) (ended.splits writes);
    limits = from-origin (λ v n s f. IsWithinLimits v n s f rows h) ended.limits;
    crash = at-end (λ d. KeepsPlayed opens.from (drive was) d status h) (keeps-opened drive (drive was) kept.now opens.from b.opening h status stays keeps going opens.found opens.state);
    text = at-end (λ d. KeepsText opens.from (drive was) d status h) (text-opened drive (drive was) kept.now opens.from b.opening h status stays keeps going opens.found opens.state);
    calls = at-end (λ d. StopsAtFault (drive was) d) (calls-opened drive (drive was) kept.now opens.from b.opening h status stays keeps going opens.found opens.state kept.still);
    told = at-end (λ d. is_some d.bytes ≡ is_some (drive was).bytes) (kept.keeps.told ∙ ap is_some stays.bytes);
    calm = λ other. at-end (λ d. d.faults ≡ (drive was).faults) (kept.keeps.calm (going other) ∙ kept.like.calm ∙ opens.calm);
    attached = at-end (λ d. AttachedOne file false (drive was) d) (attached-still file false (drive was) (drive opens.log.start) (drive kept.now.disk) opens.attached (λ all told. kept.like.file all (kept.keeps.file all told)));
  }

-- rows that were answered over no log
pub answered-new : {D : Type 0} (drive : D → Drive) (report : Report) (size : ℕ) (rows : List InRow) (b : BookView D) (drives : Drives D) (left : Option D) (before after : Output) (status : ℕ) (h : List Entry) → b.opening ≡ empty_state → b.bucket ≡ size → b.log ≡ None
    → EndsBook drive 1 report rows b h status left before after
    → IsAnswered {D = D} report None size rows (targets (λ o. o) drive before drives) (targets (λ o. o) drive after drives) status h
answered-new {D = D} drive report size rows b drives left before after status h opening bucket none ended = record {
  from = new_origin;
  begins = refl;
  book = refl;
  one_list = subst (λ (o : State). AnswersAsOneList report 1 o rows h status before after) opening ended.one_list;
  ends = ends-weaker (StopsBook (IsNextStep 1 b.opening rows) h) (IsStop None new_origin rows (drive drives.disk) (drive drives.disk) h) status before after (new-stop drive 1 (IsNextStep 1 b.opening rows) new_origin rows (drive drives.disk) (drive drives.disk) b.opening h b.log left none ended.log) ended.ends;
  splits = λ writes.
      moved (λ v n s first. SplitsAreDone v n s first h) 1 1 b.bucket size b.opening empty_state (first_in b.log) None refl bucket opening (ap (λ (l : Option (KeptView D)). first_in l) none) (ended.splits writes);
  limits = moved (λ v n s first. IsWithinLimits v n s first rows h) 1 1 b.bucket size b.opening empty_state (first_in b.log) None refl bucket opening (ap (λ (l : Option (KeptView D)). first_in l) none) ended.limits;
  crash = λ bytes first told is settled. absurd (cc is);
  text = λ bytes first told is whole. absurd (cc is);
  told = refl;
  calls = inl (well-none (drive drives.disk) (drive drives.disk) (λ all told. told));
  calm = λ other. refl;
  attached = tt;
}
