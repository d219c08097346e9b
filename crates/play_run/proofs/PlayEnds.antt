-- How rows end that were played over a book.
use Rattle.std.proofs.Common.{◌≡◌, ◌⊎◌, inl, inr, ℕ, List, take, Option, Some, None, Result, Ok, Err, refl, subst, arith}
use Rattle.std.specs.Prelude.{IfSome}
use Rattle.std.specs.Option.{option_map}
use Rattle.std.specs.Io.KnownBytes.{Appends}
use Rattle.causes.specs.Causes.{Counts}
use Rattle.disk_trait.specs.Drive.{Drive}
use Rattle.plain_list.specs.declared.entries.Entry.{Entry}
use Rattle.plain_list.specs.World.{places_of}
use Rattle.plain_list.specs.State.{State, IsLegal, state_after}
use Rattle.plain_list.specs.History.{world_after, failed_cell}
use Rattle.index_layer.specs.Stands.{Stands}
use Rattle.kept_log.specs.Journal.{disk_in, KeepsIn}
use Rattle.commit_book.specs.BookView.{BookView}
use Rattle.commit_book.specs.IsBook.{IsBook}
use Rattle.csv_rows.specs.declared.rows.InRow.{InRow}
use Rattle.csv_rows.specs.InRows.{AreInRows}
use Rattle.io_edge.specs.Streams.{Output}
use Rattle.io_edge.specs.Puts.{Puts}
use Rattle.lane_history.specs.LostSteps.{IsNextStep}
use Rattle.kept_log.specs.Counts.{first_in}
use Rattle.lane_history.specs.Settled.{SplitsAreDone}
use Rattle.run_ends.specs.declared.refusals.Refusal.{Refusal}
use Rattle.run_ends.specs.declared.refusals.Refusal.TheVariants as refusal
use Rattle.play_run.specs.declared.reports.Report.{Report}
use Rattle.play_run.specs.Lines.{text_of}
use Rattle.run_ends.specs.Status.{WritesLines, written_status}
use Rattle.run_ends.specs.Ending.{EndsRefused, EndsWriting}
use Rattle.run_ends.specs.Taking.{Refuses}
use Rattle.play_run.specs.Playing.{EndsRows}
use Rattle.play_run.specs.Answers.{AnswersAsOneList}
use Rattle.play_run.specs.declared.lanes.LaneEnd.{LaneEnd}
use Rattle.play_run.specs.inside.Books.{BeginsAs, IsNewBook, StopsBook, LeavesLog}
use Rattle.play_run.specs.inside.Answered.{HasNumbers, IsPlayedBook, IsAnsweredBook, HasObjects, WritesText, EndsPlay}
use Rattle.play_run.specs.inside.Ended.{EndsBook}
use Rattle.run_ends.proofs.Ends.{no-lines}
use Rattle.play_run.proofs.Objects.{played-world}

-- the status of a text that was written, or not
pub ends-writing : {T E : Type 0} (text : List ℕ) (before after : Output) (result : Result T E) → Puts before.taken after.taken text result → Counts before.faults after.faults result → EndsWriting text (written_status result) before after
ends-writing text before after (Ok x) bytes cause = inl (refl, bytes, cause.same)
ends-writing text before after (Err e) bytes cause = inr (refl, cause.failed, (bytes.0, bytes.2))

-- what holds of a list, from what holds of a value that has it
pub if-mapped : {A B : Type 0} (f : A → B) (P : B → Type 0) (o : Option A) → IfSome o (λ a. P (f a)) → IfSome (option_map f o) P
if-mapped f P None holds = holds
if-mapped f P (Some a) holds = holds

-- the lanes of rows that were all answered kept as many, with their numbers
pub answered-numbers : {A D : Type 0} (f : A → List LaneEnd) (w : ℕ) (rows : List InRow) (old new : BookView D) (o : Option A) → IfSome o (λ a. IsAnsweredBook w rows old new (f a)) → IfSome o (λ a. HasNumbers rows (f a))
answered-numbers f w rows old new None holds = tt
answered-numbers f w rows old new (Some a) holds = λ s. (holds.answers s).numbers

module _ {D : Type 0} (drive : D → Drive) (w : ℕ) (report : Report) (rows : List InRow) (old new : BookView D) (ends : Option (List LaneEnd)) (status : ℕ) (before after : Output) (are : AreInRows rows) (begins : IsNewBook old)
    (played : IsPlayedBook w rows old new) (answered : IfSome ends (λ e. IsAnsweredBook w rows old new e)) (book : IsBook drive w new) (end : EndsPlay report rows (failed_cell new.entries) new.leaves ends status before after) where
  abbrev h : List Entry
  h = new.entries

  abbrev text : List ℕ
  text = text_of report rows old.opening.world h

  legal : IsLegal w old.opening h
  legal = subst (λ (s : State). IsLegal w s h) played.opening book.legal

  -- the index stands for the objects at the end
  objects : HasObjects new.leaves (world_after old.opening.world h)
  objects = record {
    is_world = played-world rows old.opening.world h are played.played begins.world;
    names = (state_after w new.opening h).leaves;
    stands = subst (λ (s : State). Stands new.leaves (places_of (world_after s.world h)) (state_after w new.opening h).leaves) played.opening book.stands;
  }

  no-text : (why : Refusal) → Refuses why status before after → WritesLines status → ⊥
  no-text why refuses = no-lines why status refuses.status_is

  -- rows end with a refusal and its cause, or were all answered and their text was written
  abbrev Ending : Type 0
  Ending = EndsRefused (StopsBook (IsNextStep w old.opening rows) h) status before after ⊎ ((failed_cell h ≡ None) × ((e : List LaneEnd) × IsAnsweredBook w rows old new e) × EndsWriting text status before after)

  ending : Ending
  ending = by_end end
    where
      by_end : EndsPlay report rows (failed_cell h) new.leaves ends status before after → Ending
      by_end (inl (cell, failed, refuses)) = inl (refusal.Disk (Some cell), inr (cell, refl, played.loses cell failed), refuses)
      by_end (inr (inl (none, refuses))) = inl (refusal.Memory, inl (refl, none), refuses)
      by_end (inr (inr (none, wrote))) =
          let all : IsAnsweredBook w rows old new wrote.some = subst (λ (o : Option (List LaneEnd)). IfSome o (λ x. IsAnsweredBook w rows old new x)) wrote.ends_are answered in
          inr (none, (wrote.some, all), wrote.writes old.opening.world h all.answers objects)

  all-lines : EndsWriting text status before after → status ≡ 0 → Appends before.taken after.taken text
  all-lines (inl (zero, all, same)) e = all
  all-lines (inr (six, rose, part)) e = absurd (omega (arith, six, e))

  some-lines : EndsWriting text status before after → status ≡ 6 → (n : ℕ) × Appends before.taken after.taken (take n text)
  some-lines (inl (zero, all, same)) e = absurd (omega (arith, zero, e))
  some-lines (inr (six, rose, part)) e = part

  end-answers : Ending → AnswersAsOneList report w old.opening rows h status before after
  end-answers (inl (why, stops, refuses)) = record {
    legal = legal;
    played = played.played;
    whole = λ written. absurd (no-text why refuses written);
    lines = λ e. absurd (no-text why refuses (inl e));
    part = λ e. absurd (no-text why refuses (inr e));
  }
  end-answers (inr (none, (e, all), wrote)) = record { legal = legal; played = played.played; whole = λ written. all.whole; lines = all-lines wrote; part = some-lines wrote }

  end-rows : Ending → EndsRows (StopsBook (IsNextStep w old.opening rows) h) status before after
  end-rows (inl refused) = inr (inr refused)
  end-rows (inr (none, some, inl (zero, all, same))) = inl (zero, same)
  end-rows (inr (none, some, inr (six, rose, part))) = inr (inl (six, rose))

  end-splits : Ending → WritesLines status → SplitsAreDone w old.bucket old.opening (first_in old.log) h
  end-splits (inl (why, stops, refuses)) written = absurd (no-text why refuses written)
  end-splits (inr (none, (e, all), wrote)) written = all.settled none

  end-log : BeginsAs drive old.log new.log → LeavesLog drive w old.opening h old.log (disk_in new.log)
  end-log starts = record {
    log = new.log;
    begins = starts;
    first = played.first;
    keeps = subst (λ (s : State). KeepsIn drive w s h new.log) played.opening book.on_log;
    disk_is = refl;
  }

  pub ends-book : BeginsAs drive old.log new.log → EndsBook drive w report rows old h status (disk_in new.log) before after
  ends-book starts = record { one_list = end-answers ending; ends = end-rows ending; splits = end-splits ending; limits = played.limits; log = end-log starts }
