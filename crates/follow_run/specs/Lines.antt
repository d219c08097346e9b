-- The lines of a run of `follow`.
use Rattle.std.specs.Prelude.{ℕ, ◌+◌, List, [], ◌∷◌, ◌++◌, codes}
use Rattle.std.specs.Fmt.{decimal}
use Rattle.follower.specs.declared.turns.Report.{Report}

-- The first line.
abbrev pub report_title : List ℕ
report_title = codes "turn,held,known\n"

-- The number of a turn, and its report.
abbrev pub report_line : ℕ → Report → List ℕ
report_line turn report = decimal turn ++ codes "," ++ decimal report.held ++ codes "," ++ decimal report.known ++ codes "\n"

-- A line for each report, from the turn of this number on.
abbrev pub lines_from : ℕ → List Report → List ℕ
lines_from turn [] = []
lines_from turn (report ∷ reports) = report_line turn report ++ lines_from (turn + 1) reports

-- The first line, and a line for each report. Turns have numbers from 1 on.
unfoldable pub reports_text : List Report → List ℕ
reports_text reports = report_title ++ lines_from 1 reports
