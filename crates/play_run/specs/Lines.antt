-- What a run writes about its rows: a line for each row, or three numbers.
use Rattle.std.specs.Prelude.{ℕ, List, [], ◌++◌, length, Option, Some, None}
use Rattle.std.specs.List.{flat_map, range_with_len}
use Rattle.plain_list.specs.declared.ops.Answer.{Answer}
use Rattle.plain_list.specs.declared.entries.Entry.{Entry}
use Rattle.plain_list.specs.World.{World, places_of}
use Rattle.plain_list.specs.History.{reply_at, world_after}
use Rattle.csv_rows.specs.declared.rows.InRow.{InRow}
use Rattle.csv_rows.specs.Lines.{line_text, title_line}
use Rattle.lane_history.specs.SessionRows.{row_place}
use Rattle.table_share.specs.Sums.{sums_of}
use Rattle.run_ends.specs.declared.log_lines.Summary.{Summary}
use Rattle.run_ends.specs.LogLines.{summary_text}
use Rattle.play_run.specs.declared.reports.Report.{Report}
use Rattle.play_run.specs.declared.reports.Report.TheVariants as reports

-- the line of a row with this place and this answer
abbrev pub line_if : ℕ → ℕ → Option Answer → List ℕ
line_if row place None = []
line_if row place (Some answer) = line_text row place answer

abbrev pub line_at : World → List Entry → ℕ → Option ℕ → List ℕ
line_at world h row None = []
line_at world h row (Some place) = line_if row place (reply_at world h place)

-- the title, and a line for each row, with the place of its call and the answer there
abbrev pub lines_of : World → ℕ → List Entry → List ℕ
lines_of world rows h = title_line ++ flat_map (λ row. line_at world h row (row_place row h)) (range_with_len 1 rows)

-- how many rows there were, how many objects the world has, and the sum of their keys modulo 2^64
abbrev pub summary_of : ℕ → World → Summary
summary_of rows world = record { rows = rows; points = (sums_of (places_of world)).points; sum = (sums_of (places_of world)).sum }

-- the text for rows, from the world at the start and a history: a line for each row, or the three numbers of the world
-- at the end
abbrev pub text_of : Report → List InRow → World → List Entry → List ℕ
text_of reports.Lines rows world h = lines_of world (length rows) h
text_of reports.Summary rows world h = summary_text (summary_of (length rows) (world_after world h))
