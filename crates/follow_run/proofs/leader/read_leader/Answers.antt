use Rattle.recovery.proofs.WidthLemmas.{recovers_width}
use Rattle.follow_run.proofs.LeaderFacts.{along-width, led-found, led-fault, led-exact, led-whole, led-reads}
use Rattle.follow_run.proofs.leader.read_leader.Goals as goal

pub returns-in-Ok-clause-found : goal.returns-in-Ok-clause-found
returns-in-Ok-clause-found g c =
    let walk = c.in-Ok.walk in
    let told = c.walk_leader.ensures in
    let a = g.D.LogDisk.drive c.args.disk in
    let b = g.D.LogDisk.drive walk.disk in
    let w = walk.reading.replay.width in
    led-found g.D.LogDisk.drive a b tt c.in-Ok.ensures.reads w (along-width a b w c.in-Ok.ensures.reads.stays c.in-Ok.ensures.begins.along.width) c.walk_leader.result told.found told.fault told.reads

pub returns-in-Ok-clause-fault : goal.returns-in-Ok-clause-fault
returns-in-Ok-clause-fault g c =
    let walk = c.in-Ok.walk in
    let told = c.walk_leader.ensures in
    let a = g.D.LogDisk.drive c.args.disk in
    let b = g.D.LogDisk.drive walk.disk in
    let w = walk.reading.replay.width in
    led-fault g.D.LogDisk.drive a b tt c.in-Ok.ensures.reads w (along-width a b w c.in-Ok.ensures.reads.stays c.in-Ok.ensures.begins.along.width) c.walk_leader.result told.found told.fault told.reads

pub returns-in-Ok-clause-exact : goal.returns-in-Ok-clause-exact
returns-in-Ok-clause-exact g c =
    let walk = c.in-Ok.walk in
    let told = c.walk_leader.ensures in
    let a = g.D.LogDisk.drive c.args.disk in
    let b = g.D.LogDisk.drive walk.disk in
    let w = walk.reading.replay.width in
    led-exact g.D.LogDisk.drive a b tt c.in-Ok.ensures.reads w (along-width a b w c.in-Ok.ensures.reads.stays c.in-Ok.ensures.begins.along.width) c.walk_leader.result told.found told.fault told.reads

pub returns-in-Ok-clause-whole : goal.returns-in-Ok-clause-whole
returns-in-Ok-clause-whole g c =
    let walk = c.in-Ok.walk in
    let told = c.walk_leader.ensures in
    let a = g.D.LogDisk.drive c.args.disk in
    let b = g.D.LogDisk.drive walk.disk in
    let w = walk.reading.replay.width in
    led-whole g.D.LogDisk.drive a b tt c.in-Ok.ensures.reads w (along-width a b w c.in-Ok.ensures.reads.stays c.in-Ok.ensures.begins.along.width) c.walk_leader.result told.found told.fault told.reads

pub returns-in-Ok-clause-reads : goal.returns-in-Ok-clause-reads
returns-in-Ok-clause-reads g c =
    let walk = c.in-Ok.walk in
    let told = c.walk_leader.ensures in
    let a = g.D.LogDisk.drive c.args.disk in
    let b = g.D.LogDisk.drive walk.disk in
    let w = walk.reading.replay.width in
    led-reads g.D.LogDisk.drive a b tt c.in-Ok.ensures.reads w (along-width a b w c.in-Ok.ensures.reads.stays c.in-Ok.ensures.begins.along.width) c.walk_leader.result told.found told.fault told.reads

pub returns-in-Err-clause-fault : goal.returns-in-Err-clause-fault
returns-in-Err-clause-fault g c = c.in-Err.ensures.refused.fault.shows

pub returns-in-Err-clause-may : goal.returns-in-Err-clause-may
returns-in-Err-clause-may g c = c.in-Err.ensures.refused.fault.may

pub returns-in-Err-clause-exact : goal.returns-in-Err-clause-exact
returns-in-Err-clause-exact g c = c.in-Err.ensures.refused.fault.exact

pub returns-in-Err-clause-whole : goal.returns-in-Err-clause-whole
returns-in-Err-clause-whole g c = λ w cells recovers. c.in-Err.ensures.refused.named recovers.bytes w recovers.told recovers.known (recovers_width w cells recovers.bytes recovers.known recovers.recovers)
