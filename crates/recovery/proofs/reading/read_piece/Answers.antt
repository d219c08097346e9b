use Rattle.std.proofs.Common.{◌≡◌, ◌-◌, take, drop, length, min, arith, length-take, length-drop, length-append}
use Rattle.recovery.proofs.ReadingLemmas.{piece_read}
use Rattle.recovery.proofs.reading.read_piece.Goals as goal

pub slice_bounds-read-end : goal.slice_bounds-read-end
slice_bounds-read-end g c = omega (arith, c.min-room.ensures, c.requires.long)

pub returns-clause-ok : goal.returns-clause-ok
returns-clause-ok g c =
    let room = c.min-room.result in
    let is : min 65537 (c.args.len - c.args.at) ≡ c.min-room.result = omega (arith, c.min-room.ensures) in
    let long : length (take c.min-room.result c.args.buffer.now) ≡ c.min-room.result = omega (arith, length-take c.min-room.result c.args.buffer.now, c.min-room.ensures, c.requires.long) in
    piece_read (g.D.LogDisk.drive c.args.disk.now) c.args.at room (min 65537 (c.args.len - c.args.at)) c.args.buffer.now c.read.new.into (drop room c.args.buffer.now) c.read.result is long c.read.auto.into c.read.ensures.bytes

pub returns-clause-cause : goal.returns-clause-cause
returns-clause-cause g c = c.read.ensures.cause

pub returns-clause-stays : goal.returns-clause-stays
returns-clause-stays g c = c.read.ensures.stays

pub returns-clause-long : goal.returns-clause-long
returns-clause-long g c =
    omega (arith, length-append c.read.new.into (drop c.min-room.result c.args.buffer.now), c.read.auto.into, length-take c.min-room.result c.args.buffer.now, length-drop c.min-room.result c.args.buffer.now, c.min-room.ensures, c.requires.long)
