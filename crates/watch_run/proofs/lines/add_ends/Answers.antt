use Rattle.std.proofs.Common.{arith}
use Rattle.fence_watch.specs.declared.counts.FenceCount.{FenceCount}
use Rattle.csv_rows.proofs.PiecesFacts.{added-all, added-lost, added-more, added-none, counts-lost, holds-lost}
use Rattle.watch_run.specs.inside.Lines.{counted_line}
use Rattle.watch_run.proofs.lines.add_ends.Goals as goal

abbrev blank : FenceCount
blank = record { fence = record { id = 0; region = record { lo = record { x = 0; y = 0 }; hi = record { x = 0; y = 0 } } }; inside = 0 }

pub loop-count-init : goal.loop-count-init
loop-count-init g c = added-none counted_line _ _ c.args.piece.now.items c.args.counts.now

pub loop-count-preserved : goal.loop-count-preserved
loop-count-preserved g c =
    added-more counted_line _ _ c.args.piece.now.items c.args.counts.now _ _ _ _ _ _ c.make_room.new.piece.items _ blank c.loop-count.invariant c.in_ok-make_room.ensures.bytes c.in_ok-make_room.ensures.cause.same c.add_inside.ensures c.loop-count-test.true

pub returns-in_err-make_room-clause-bytes : goal.returns-in_err-make_room-clause-bytes
returns-in_err-make_room-clause-bytes g c =
    let lost = c.in_err-make_room.ensures.bytes in
    let moved = added-lost counted_line _ _ c.args.piece.now.items c.args.counts.now _ _ _ _ _ _ c.loop-count.invariant lost.1 in
    holds-lost _ _ _ _ _ c.from_residual.result c.from_residual.ensures.0 moved lost.2

pub returns-in_err-make_room-clause-cause : goal.returns-in_err-make_room-clause-cause
returns-in_err-make_room-clause-cause g c = counts-lost _ _ _ c.from_residual.result c.from_residual.ensures.0 c.loop-count.invariant.same c.in_err-make_room.ensures.cause.later c.in_err-make_room.ensures.cause.failed

pub returns-clause-bytes : goal.returns-clause-bytes
returns-clause-bytes g c = added-all counted_line _ _ c.args.piece.now.items c.args.counts.now _ _ _ _ c.loop-count.invariant (omega arith)
