use Rattle.std.proofs.Common.{ℕ, [], sym, subst}
use Rattle.recovery.specs.Walks.{ComesTo}
use Rattle.follower.specs.Opening.{most_held}
use Rattle.follower.proofs.CountLemmas.{not_started, compared, not_counted}
use Rattle.follower.proofs.comparing.compare.Goals as goal

pub returns-in-Err-clause-refused : goal.returns-in-Err-clause-refused
returns-in-Err-clause-refused g c =
    not_started c.args.width (g.D.LogDisk.drive c.args.disk) (g.D.LogDisk.drive c.in-Err.refused.disk) c.in-Err.refused.cause c.in-Err.ensures.refused.fault.shows c.in-Err.ensures.refused.head c.in-Err.ensures.refused.fault.may c.in-Err.ensures.reads

pub returns-in-Ok-judged-clause-compared : goal.returns-in-Ok-judged-clause-compared
returns-in-Ok-judged-clause-compared g c =
    let drive = g.D.LogDisk.drive in
    compared drive c.args.width c.args.cells.now (drive c.args.disk) c.requires.long c.in-Ok.walk c.count_same-counted.new.walk c.finish-disk.result.seen.version c.finish-disk.result.disk c.in-Ok.ensures.begins.along.comes
    c.in-Ok.ensures.reads c.count_same-counted.result c.count_same-counted.ensures.counted c.count_same-counted.ensures.stopped c.count_same-counted.ensures.reads c.finish-disk.ensures.disk c.finish-disk.ensures.named
    c.in-Ok-judged.tally c.in-Ok-judged.ensures

pub returns-clause-refused : goal.returns-clause-refused
returns-clause-refused g c =
    let drive = g.D.LogDisk.drive in
    not_counted drive c.args.width c.args.cells.now (drive c.args.disk) c.requires.long c.in-Ok.walk c.count_same-counted.new.walk c.finish-disk.result.seen.version c.finish-disk.result.disk c.in-Ok.ensures.begins.along.comes
    c.in-Ok.ensures.reads c.count_same-counted.result c.count_same-counted.ensures.counted c.count_same-counted.ensures.stopped c.count_same-counted.ensures.reads c.finish-disk.ensures.disk c.finish-disk.ensures.named
    c.in-Err-judged.cause c.in-Err-judged.ensures

pub count_same-counted-requires : goal.count_same-counted-requires
count_same-counted-requires g c =
    let come = c.in-Ok.ensures.begins.along.comes in
    subst (λ (v : ℕ). ComesTo v most_held [] (g.D.LogDisk.drive c.in-Ok.walk.disk) c.in-Ok.walk) (sym come.width) come
