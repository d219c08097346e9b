-- Open splits, as a caller of a table passes them.
use Rattle.std.specs.Prelude.{List, map}
use Rattle.plain_list.specs.State.{OpenSplit}
use Rattle.point_table.specs.declared.crowded.Begun.{Begun}

abbrev pub split_of : Begun → OpenSplit
split_of b = record { number = b.number; name = b.name }

abbrev pub splits_of : List Begun → List OpenSplit
splits_of open_ones = map split_of open_ones
