use Rattle.std.proofs.Common.{◌-◌, vec_len}
use Rattle.io_edge.proofs.Progress.{HasRead}
use Rattle.io_edge.proofs.reading.read_all.Given as goal

abbrev pub invariant-loop-all : goal.invariant-loop-all
invariant-loop-all g l = HasRead l.most (g.S.Source.input l.fn.source).left (g.S.Source.input l.source).left l.all.items (g.S.Source.input l.fn.source).faults (g.S.Source.input l.source).faults

abbrev pub decreases-loop-all : goal.decreases-loop-all
decreases-loop-all g l = l.most - vec_len l.all
