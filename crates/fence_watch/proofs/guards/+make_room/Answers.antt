use Rattle.std.proofs.Common.{◌∙◌, List, length, sym, subst, arith}
use Rattle.fence_watch.specs.declared.passages.Pair.{Pair}
use Rattle.fence_watch.specs.Guards.{HaveRoom}
use Rattle.fence_watch.specs.Passages.{turns_in, turns_of}
use Rattle.fence_watch.proofs.AlongParts.{no-items, near-turns, far-turns}
use Rattle.fence_watch.proofs.Parts.{no-room, room-word, room-both}
use Rattle.fence_watch.proofs.guards.+make_room.Goals as goal

pub returns-in_default-clause-room : goal.returns-in_default-clause-room
returns-in_default-clause-room t c =
    subst (λ (l : List Pair). HaveRoom c.args.guards.now (turns_of l)) (sym (no-items c.args.passage.now (c.in_default.ensures.cases))) (no-room c.args.guards.now)

pub returns-then-guards-le64-clause-room : goal.returns-then-guards-le64-clause-room
returns-then-guards-le64-clause-room t c =
    room-word c.make_room_in.result (length c.args.guards.now) c.make_room_in.new.guards c.in-Some.pair.now c.in-Some.passage.now c.args.passage.now
    c.in-Some.ensures.cases.0 c.make_room_in.auto.guards (omega (arith, c.if-guards-le64.true)) c.make_room_in.ensures.room

pub returns-clause-room : goal.returns-clause-room
returns-clause-room t c =
    let cut = c.split_at_mut-these in
    room-both c.make_room.result 64 c.make_room_in-2.new.guards c.make_room.new.guards (turns_of c.args.passage.now) (turns_in (length cut.result.0.now) c.in-Some.pair.now) (turns_of c.in-Some.passage.now)
    (near-turns (length cut.result.0.now) c.in-Some.pair.now c.in-Some.passage.now c.args.passage.now c.in-Some.ensures.cases.0 cut.ensures.front_len)
    (far-turns c.in-Some.pair.now c.in-Some.passage.now c.args.passage.now c.in-Some.ensures.cases.0)
    (c.make_room_in-2.auto.guards ∙ cut.ensures.front_len) c.in_ok-make_room_in.ensures.room c.make_room.ensures.room
