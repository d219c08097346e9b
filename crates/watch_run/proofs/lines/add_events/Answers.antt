use Rattle.std.proofs.Common.{arith}
use Rattle.fence_watch.specs.declared.fences.Event.{Event}
use Rattle.fence_watch.specs.declared.fences.Crossing.TheVariants.{Enter}
use Rattle.csv_rows.proofs.PiecesFacts.{added-all, added-lost, added-more, added-none, counts-lost, holds-lost}
use Rattle.watch_run.specs.WatchLines.{event_line}
use Rattle.watch_run.proofs.lines.add_events.Goals as goal

abbrev blank : Event
blank = record { at = 0; crossing = Enter; id = 0; fence = 0 }

pub loop-event-init : goal.loop-event-init
loop-event-init g c = added-none event_line _ _ c.args.piece.now.items c.args.events.now

pub loop-event-preserved : goal.loop-event-preserved
loop-event-preserved g c =
    added-more event_line _ _ c.args.piece.now.items c.args.events.now _ _ _ _ _ _ c.make_room.new.piece.items _ blank c.loop-event.invariant c.in_ok-make_room.ensures.bytes c.in_ok-make_room.ensures.cause.same c.add_event.ensures c.loop-event-test.true

pub returns-in_err-make_room-clause-bytes : goal.returns-in_err-make_room-clause-bytes
returns-in_err-make_room-clause-bytes g c =
    let lost = c.in_err-make_room.ensures.bytes in
    let moved = added-lost event_line _ _ c.args.piece.now.items c.args.events.now _ _ _ _ _ _ c.loop-event.invariant lost.1 in
    holds-lost _ _ _ _ _ c.from_residual.result c.from_residual.ensures.0 moved lost.2

pub returns-in_err-make_room-clause-cause : goal.returns-in_err-make_room-clause-cause
returns-in_err-make_room-clause-cause g c = counts-lost _ _ _ c.from_residual.result c.from_residual.ensures.0 c.loop-event.invariant.same c.in_err-make_room.ensures.cause.later c.in_err-make_room.ensures.cause.failed

pub returns-clause-bytes : goal.returns-clause-bytes
returns-clause-bytes g c = added-all event_line _ _ c.args.piece.now.items c.args.events.now _ _ _ _ c.loop-event.invariant (omega arith)
