use Rattle.std.proofs.Common.{take}
use Rattle.std.specs.List.{AllByRecursion}
use Rattle.plain_list.specs.Answer.{FitsOp}
use Rattle.sessions.proofs.shared.told_all.Given as goal

abbrev pub invariant-loop-op : goal.invariant-loop-op
invariant-loop-op l = AllByRecursion FitsOp (take l.op-index l.ops)
