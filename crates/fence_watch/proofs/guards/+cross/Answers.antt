use Rattle.std.proofs.Common.{◌∙◌, ◌<◌, length, sym, ap, arith, length-append}
use Rattle.fence_watch.specs.Guards.{behind_by, guards_of, crossed_by}
use Rattle.fence_watch.specs.Passages.{turns_in, turns_of}
use Rattle.fence_watch.proofs.AlongParts.{no-items, near-turns, far-turns, along-nil}
use Rattle.fence_watch.proofs.Parts.{along-word, room-of_word, rising-front, rising-back, room-front, room-back, crossed-of}
use Rattle.fence_watch.proofs.guards.+cross.Goals as goal

pub returns-in_default : goal.returns-in_default
returns-in_default t c =
    sym (ap (crossed_by c.args.id c.args.guards.now) (no-items c.args.passage.now c.in_default.ensures.cases) ∙ along-nil (behind_by c.args.id) (guards_of c.args.guards.now))

pub cross_in-requires-clause-room : goal.cross_in-requires-clause-room
cross_in-requires-clause-room t c =
    room-of_word c.args.guards.now c.in-Some.pair.now c.in-Some.passage.now c.args.passage.now c.in-Some.ensures.cases.0 (omega (arith, c.if-guards-le64.true)) c.requires.room

pub returns-then-guards-le64 : goal.returns-then-guards-le64
returns-then-guards-le64 t c =
    c.cross_in.ensures ∙ along-word c.args.id c.args.guards.now c.in-Some.pair.now c.in-Some.passage.now c.args.passage.now c.in-Some.ensures.cases.0 (omega (arith, c.if-guards-le64.true))

pub cross_in-requires-2-clause-rising : goal.cross_in-requires-2-clause-rising
cross_in-requires-2-clause-rising t c =
    let cut = c.split_at_mut-these in
    rising-front 64 c.args.guards.now cut.result.0.now cut.result.1.now cut.ensures.value cut.ensures.front_len c.requires.rising

pub cross_in-requires-2-clause-room : goal.cross_in-requires-2-clause-room
cross_in-requires-2-clause-room t c =
    let cut = c.split_at_mut-these in
    room-front 64 c.args.guards.now cut.result.0.now cut.result.1.now (turns_of c.args.passage.now) (turns_in (length cut.result.0.now) c.in-Some.pair.now)
    cut.ensures.value cut.ensures.front_len (near-turns (length cut.result.0.now) c.in-Some.pair.now c.in-Some.passage.now c.args.passage.now c.in-Some.ensures.cases.0 cut.ensures.front_len) c.requires.room

pub cross-requires : goal.cross-requires
cross-requires t c =
    let cut = c.split_at_mut-these in
    let less : length cut.result.1.now < length c.args.guards.now =
    omega (arith, ap length cut.ensures.value, length-append cut.result.0.now cut.result.1.now, cut.ensures.front_len) in (
      omega (arith, less, c.decreases),
      (
        rising-back 64 c.args.guards.now cut.result.0.now cut.result.1.now cut.ensures.value cut.ensures.front_len c.requires.rising,
        room-back 64 c.args.guards.now cut.result.0.now cut.result.1.now (turns_of c.args.passage.now) (turns_of c.in-Some.passage.now) cut.ensures.value cut.ensures.front_len (far-turns c.in-Some.pair.now c.in-Some.passage.now c.args.passage.now c.in-Some.ensures.cases.0) c.requires.room,
      ),
    )

pub returns : goal.returns
returns t c =
    let cut = c.split_at_mut-these in
    crossed-of c.args.id 64 c.args.guards.now cut.result.0.now cut.result.1.now c.cross_in-2.new.guards c.cross.new.guards (turns_of c.args.passage.now) (turns_in (length cut.result.0.now) c.in-Some.pair.now) (turns_of c.in-Some.passage.now)
    cut.ensures.value cut.ensures.front_len (near-turns (length cut.result.0.now) c.in-Some.pair.now c.in-Some.passage.now c.args.passage.now c.in-Some.ensures.cases.0 cut.ensures.front_len) (far-turns c.in-Some.pair.now c.in-Some.passage.now c.args.passage.now c.in-Some.ensures.cases.0) c.cross_in-2.ensures c.cross.ensures
