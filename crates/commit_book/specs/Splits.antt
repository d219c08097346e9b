-- Open splits, as a book keeps them.
use Rattle.std.specs.Prelude.{◌+◌, ◌≤◌, length, vec_capacity}
use Rattle.point_table.specs.Splits.{splits_of}
use Rattle.commit_book.specs.SplitsView.{SplitsView}
use Rattle.commit_book.specs.declared.open_splits.OpenSplits.TheInside.{Inside}

abbrev pub opens_of : Inside → SplitsView
opens_of s = record { splits = splits_of s.splits.items; begun = s.begun; room = s.room }

-- the vector has the capacity for the promised room
abbrev pub HasRoom : Inside → Type 0
HasRoom s = length s.splits.items + s.room ≤ vec_capacity s.splits
