use Rattle.std.proofs.Common.{◌+◌, Err, ap, ◌∙◌}
use Rattle.follower.proofs.AddLemmas.{pushed, add_done, add_failed}
use Rattle.follower.proofs.follower.Follower.add.Goals as goal

pub returns-in-Ok-clause-added : goal.returns-in-Ok-clause-added
returns-in-Ok-clause-added g c =
    let inside = c.self.inside in
    add_done g.D.LogDisk.drive c.args.cell.now inside.log c.append.new.self inside.width inside.known inside.packets.items inside.acks.items c.args.self c.self.view_is c.append.ensures.any_moment
    c.push.new.self.items
    (pushed c.push.result c.is_err.result inside.acks.items c.push.new.self.items _ _ c.is_err.ensures.value c.if-is_err.false (ap (λ n. n + 1) c.cells-held.ensures.cells) c.push.ensures.items)
    c.in-Ok.ensures.ok

pub returns-in-Err-Disk-clause-lost : goal.returns-in-Err-Disk-clause-lost
returns-in-Err-Disk-clause-lost g c =
    let inside = c.self.inside in
    add_failed g.D.LogDisk.drive c.args.cell.now inside.log c.append.new.self inside.width inside.known inside.packets.items inside.acks.items c.args.self c.self.view_is c.append.ensures.any_moment
    c.give_back.result c.in-Err-Disk.cell c.give_back.ensures c.append.ensures.later
    (c.append.ensures.disk c.in-Err-Disk.cell (c.in-Err-Disk.is ∙ ap (λ e. Err e) c.in-Err-Disk.field-0-is))
