-- The number of cells in a log, if there is one.
use Rattle.std.specs.Prelude.{ℕ, ◌+◌, List, length, Option, Some, None}
use Rattle.std.specs.Option.{option_map_or}
use Rattle.plain_list.specs.World.{World}
use Rattle.plain_list.specs.declared.entries.Entry.{Entry}
use Rattle.log_state.specs.Changes.{cells_of}
use Rattle.kept_log.specs.KeptView.{KeptView, Earlier}

-- The number of cells when the log was opened, if it has replaced no other one.
abbrev pub first_of : {D : Type 0} → ℕ → Option (Earlier D) → Option ℕ
first_of first None = Some first
first_of first (Some earlier) = None

-- The same, if there is a log.
abbrev pub first_in : {D : Type 0} → Option (KeptView D) → Option ℕ
first_in None = None
first_in (Some log) = first_of log.first log.earlier

-- The number of cells after a history that began in this world, with `first` cells before it. It is 0 without a log.
abbrev pub count_after : Option ℕ → World → List Entry → ℕ
count_after first world h = option_map_or (λ (n : ℕ). n + length (cells_of world h)) first 0
