use Rattle.std.proofs.Common.{◌+◌, ◌++◌, take, drop, arith, refl, rules}
use Rattle.std.proofs.lemmas.Grind.{common_steps}
use Rattle.std.proofs.lemmas.List.{length-take}
use Rattle.io_edge.proofs.Progress.{HasRead-more, HasRead-end}
use Rattle.io_edge.proofs.reading.read_all.Goals as goal

pub returns-in-Ok-clause-taken : goal.returns-in-Ok-clause-taken
returns-in-Ok-clause-taken g c =
    let filled = length-take c.in-Ok.n c.read.new.into in
    let room = length-take (c.min-room.result + 1) c.loop-all.piece in
    let within = c.in-Ok.ensures.bound in
    HasRead-end _ (take c.in-Ok.n c.read.new.into) c.loop-all.invariant c.in-Ok.ensures.bytes.0 (omega arith)

pub loop-all-preserved : goal.loop-all-preserved
loop-all-preserved g c =
    let long = c.read.auto.into in
    let within = c.in-Ok.ensures.bound in
    let same = c.in-Ok.ensures.cause.same in
    HasRead-more c.in-Ok.n c.read.new.into (c.read.new.into ++ drop (c.min-room.result + 1) c.loop-all.piece) (drop (c.min-room.result + 1) c.loop-all.piece) c.loop-all.invariant c.in-Ok.ensures.bytes.0
    (omega arith) (omega arith) refl c.in_ok-keep-in-Ok-2.ensures.items same

pub returns-in_err-keep-in-Ok-2-clause-taken : goal.returns-in_err-keep-in-Ok-2-clause-taken
returns-in_err-keep-in-Ok-2-clause-taken g c =
    let filled = length-take c.in-Ok.n c.read.new.into in
    HasRead-end _ (take c.in-Ok.n c.read.new.into) c.loop-all.invariant c.in-Ok.ensures.bytes.0 (omega arith)

pub loop-all-smaller : goal.loop-all-smaller
loop-all-smaller g c = grind (arith, common_steps)

pub returns-in-Err-clause-too_long : goal.returns-in-Err-clause-too_long
returns-in-Err-clause-too_long g c = search rules

pub returns-in-Ok-clause-too_long : goal.returns-in-Ok-clause-too_long
returns-in-Ok-clause-too_long g c = grind (arith, common_steps)
