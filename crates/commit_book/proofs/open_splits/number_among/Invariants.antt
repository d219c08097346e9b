use Rattle.std.proofs.Common.{◌≡◌, drop}
use Rattle.commit_book.specs.Refusals.{split_number}
use Rattle.point_table.specs.Splits.{splits_of}
use Rattle.commit_book.proofs.open_splits.number_among.Given as goal

-- no split so far has the name
abbrev pub invariant-loop-split : goal.invariant-loop-split
invariant-loop-split l = split_number (splits_of (drop l.split-index l.splits)) l.name ≡ split_number (splits_of l.splits) l.name
