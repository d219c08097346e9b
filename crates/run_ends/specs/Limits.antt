-- The limits of a run.
use Rattle.std.specs.Prelude.{ℕ}
use Rattle.cell_format.specs.Spelling.{newest}

-- how many bytes an input may have: 16 MiB
abbrev pub most_bytes : ℕ
most_bytes = 16777216

-- how many records a log may have that is only read
abbrev pub most_inspected : ℕ
most_inspected = 16777216

-- the oldest version of a log that is only read; then the oldest on which rows are played
abbrev pub oldest_read : ℕ
oldest_read = 1

abbrev pub oldest_played : ℕ
oldest_played = newest

-- the bucket size in rows for made rows
abbrev pub trial_bucket : ℕ
trial_bucket = 64

-- how many records a log may have on which rows are played
abbrev pub most_played : ℕ
most_played = 16000000
