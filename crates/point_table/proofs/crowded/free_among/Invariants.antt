use Rattle.std.proofs.Common.{◌≡◌, drop}
use Rattle.point_table.specs.Crowded.{first_free}
use Rattle.point_table.specs.Splits.{splits_of}
use Rattle.point_table.proofs.crowded.free_among.Given as goal

-- no name so far is free
abbrev pub invariant-loop-name : goal.invariant-loop-name
invariant-loop-name l = first_free (splits_of l.begun) (drop l.name-index l.names) ≡ first_free (splits_of l.begun) l.names
