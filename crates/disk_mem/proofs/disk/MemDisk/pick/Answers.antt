use Rattle.std.proofs.Common.{◌≤◌, arith, subst, take, length, ap}
use Rattle.disk_mem.specs.Changes.{started, changed_by}
use Rattle.disk_mem.specs.Drives.{DiskView, mem_drive}
use Rattle.disk_mem.specs.Laws.{sound}
use Rattle.disk_mem.proofs.ImageLemmas.{IsImage-picks}
use Rattle.disk_mem.proofs.disk.MemDisk.pick.Goals as goal

pub returns-clause-image : goal.returns-clause-image
returns-clause-image c =
    let file = c.self.inside.file in
    let changes = ap (λ (d : DiskView). length d.changes) c.self.view_is in
    let within : c.args.moment ≤ length file.changes = omega (arith, changes, c.moments-moments.ensures, c.if-moments-moment.false) in
    subst (λ (d : DiskView). (mem_drive d).since c.args.moment c.in_ok-image.image.items) c.self.view_is
    (c.args.moment, omega arith, within, IsImage-picks (changed_by (started file.first) (take c.args.moment file.changes)) c.args.len c.args.fill.now c.in_ok-image.image.items (sound file.first (take c.args.moment file.changes)) c.in_ok-image.ensures)
