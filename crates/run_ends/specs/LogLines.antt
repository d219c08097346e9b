-- The texts that commands on a log write.
use Rattle.std.specs.Prelude.{ℕ, List, ◌++◌, codes}
use Rattle.std.specs.Fmt.{decimal}
use Rattle.run_ends.specs.declared.log_lines.LogCounts.{LogCounts}
use Rattle.run_ends.specs.declared.log_lines.Summary.{Summary}

-- the line of `init`
abbrev pub made_line : List ℕ
made_line = codes "made\n"

-- the line of a word and a number, in which the word ends with a space
abbrev pub count_line : List ℕ → ℕ → List ℕ
count_line word n = word ++ decimal n ++ codes "\n"

-- the four lines of `check`
unfoldable pub counts_text : LogCounts → List ℕ
counts_text c = count_line (codes "cells ") c.cells ++ count_line (codes "points ") c.points ++ count_line (codes "leaves ") c.leaves ++ count_line (codes "unfinished ") c.unfinished

-- the three lines of `trial`
unfoldable pub summary_text : Summary → List ℕ
summary_text s = count_line (codes "rows ") s.rows ++ count_line (codes "points ") s.points ++ count_line (codes "sum ") s.sum

-- the line of `compact`, with the number of records of the new log
abbrev pub compacted_line : ℕ → List ℕ
compacted_line cells = count_line (codes "compacted ") cells
