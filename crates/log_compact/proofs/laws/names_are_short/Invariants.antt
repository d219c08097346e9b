use Rattle.std.proofs.Common.{take}
use Rattle.log_compact.specs.Walk.{AreShort}
use Rattle.log_compact.proofs.laws.names_are_short.Given as goal

abbrev pub invariant-loop-name : goal.invariant-loop-name
invariant-loop-name l = AreShort (take l.name-index l.names)
