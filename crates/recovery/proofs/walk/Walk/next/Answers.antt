use Rattle.recovery.proofs.WalkLemmas.{tells, tells_fault, tells_all}
use Rattle.recovery.proofs.walk.Walk.next.Goals as goal

pub returns-clause-tells : goal.returns-clause-tells
returns-clause-tells g c =
    let drive = g.D.LogDisk.drive in
    rw (← c.self.view_is)
    (λ w most cells come. tells w most cells (drive c.self.inside.disk) (drive c.advance.new.disk) _ _ come c.advance.ensures.reads.stays.bytes c.advance.result c.advance.ensures.advances)

pub returns-clause-exact : goal.returns-clause-exact
returns-clause-exact g c =
    let drive = g.D.LogDisk.drive in
    rw (← c.self.view_is)
    (λ w most cells bytes fault come known shown is.
    tells_fault w most cells (drive c.self.inside.disk) (drive c.advance.new.disk) (record { disk = c.advance.new.disk; reading = c.advance.new.self }) bytes known fault c.advance.result come.few shown is c.advance.ensures.reads
    (tells w most cells (drive c.self.inside.disk) (drive c.advance.new.disk) _ _ come c.advance.ensures.reads.stays.bytes c.advance.result c.advance.ensures.advances))

pub returns-clause-whole : goal.returns-clause-whole
returns-clause-whole g c =
    let drive = g.D.LogDisk.drive in
    rw (← c.self.view_is)
    (λ w most all cells bytes come known recovers few.
    tells_all w most cells (drive c.self.inside.disk) (drive c.advance.new.disk) (record { disk = c.advance.new.disk; reading = c.advance.new.self }) bytes known all c.advance.result recovers few c.advance.ensures.reads
    (tells w most cells (drive c.self.inside.disk) (drive c.advance.new.disk) _ _ come c.advance.ensures.reads.stays.bytes c.advance.result c.advance.ensures.advances))
