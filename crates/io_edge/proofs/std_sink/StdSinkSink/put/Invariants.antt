use Rattle.std.proofs.Common.{length, ◌-◌}
use Rattle.io_edge.proofs.Progress.{HasPut}
use Rattle.io_edge.proofs.std_sink.StdSinkSink.put.Given as goal

abbrev pub invariant-loop-at : goal.invariant-loop-at
invariant-loop-at g l = HasPut (g.W.Write.contents l.fn.self.writer) (g.W.Write.contents l.self.writer) l.piece l.at l.fn.self.faults l.self.faults

abbrev pub decreases-loop-at : goal.decreases-loop-at
decreases-loop-at g l = length l.piece - l.at
