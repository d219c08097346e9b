-- How rows end that were played on a book.
use Rattle.std.specs.Prelude.{ℕ, List, Option}
use Rattle.disk_trait.specs.Drive.{Drive}
use Rattle.plain_list.specs.declared.entries.Entry.{Entry}
use Rattle.kept_log.specs.Counts.{first_in}
use Rattle.commit_book.specs.BookView.{BookView}
use Rattle.csv_rows.specs.declared.rows.InRow.{InRow}
use Rattle.io_edge.specs.Streams.{Output}
use Rattle.lane_history.specs.LostSteps.{IsNextStep}
use Rattle.lane_history.specs.Settled.{SplitsAreDone, IsWithinLimits}
use Rattle.play_run.specs.declared.reports.Report.{Report}
use Rattle.run_ends.specs.Status.{WritesLines}
use Rattle.play_run.specs.Answers.{AnswersAsOneList}
use Rattle.play_run.specs.Playing.{EndsRows}
use Rattle.play_run.specs.inside.Books.{StopsBook, LeavesLog}

-- what rows leave on a book of this width: the history, the text or refusal for it, and the drive of the log, if there
-- is one
pub record EndsBook {D : Type 0} (drive : D → Drive) (w : ℕ) (report : Report) (rows : List InRow) (b : BookView D) (h : List Entry) (status : ℕ) (disk : Option D) (old new : Output) : Type 0 where
  pub one_list : AnswersAsOneList report w b.opening rows h status old new
  pub ends : EndsRows (StopsBook (IsNextStep w b.opening rows) h) status old new
  pub splits : WritesLines status → SplitsAreDone w b.bucket b.opening (first_in b.log) h
  pub limits : IsWithinLimits w b.bucket b.opening (first_in b.log) rows h
  pub log : LeavesLog drive w b.opening h b.log disk
