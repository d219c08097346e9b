use Rattle.std.proofs.Common.{◌≡◌, drop}
use Rattle.plain_list.specs.State.{split_name}
use Rattle.point_table.specs.Splits.{splits_of}
use Rattle.commit_book.proofs.open_splits.name_among.Given as goal

-- no split so far has the number
abbrev pub invariant-loop-split : goal.invariant-loop-split
invariant-loop-split l = split_name (splits_of (drop l.split-index l.splits)) l.number ≡ split_name (splits_of l.splits) l.number
