-- Rows that are answered as one list of objects answers them.
use Rattle.std.specs.Prelude.{◌≡◌, ℕ, List, take}
use Rattle.std.specs.Io.KnownBytes.{Appends}
use Rattle.plain_list.specs.declared.entries.Entry.{Entry}
use Rattle.plain_list.specs.State.{State, IsLegal}
use Rattle.plain_list.specs.Played.{IsPlayed, IsPlayedWhole}
use Rattle.csv_rows.specs.declared.rows.InRow.{InRow}
use Rattle.io_edge.specs.Streams.{Output}
use Rattle.lane_history.specs.SessionRows.{session_rows}
use Rattle.play_run.specs.declared.reports.Report.{Report}
use Rattle.play_run.specs.Lines.{text_of}
use Rattle.run_ends.specs.Status.{WritesLines}

-- There is one history, legal from the state at the beginning. It has the calls of a prefix of each session's rows, in
-- order.
pub record AnswersAsOneList (report : Report) (w : ℕ) (s : State) (rows : List InRow) (h : List Entry) (status : ℕ) (old new : Output) : Type 0 where
  pub legal : IsLegal w s h
  pub played : IsPlayed (session_rows rows) h
  -- if lines are written, all of them or a prefix, it has the calls of all rows
  pub whole : WritesLines status → IsPlayedWhole (session_rows rows) h
  -- With status 0 the output is the whole text. For each row it has the place of the row's call, and the answer of one
  -- plain list of objects there. For made rows it has three numbers of that list at the end.
  pub lines : status ≡ 0 → Appends old.taken new.taken (text_of report rows s.world h)
  -- with status 6 the output is a prefix of that text
  pub part : status ≡ 6 → (n : ℕ) × Appends old.taken new.taken (take n (text_of report rows s.world h))
