use Rattle.std.proofs.Common.{◌≡◌, ◌≢◌, inl, inr, ℕ, subst, arith}
use Rattle.zorder.specs.Width.{IsWidth}
use Rattle.play_run.specs.inside.Books.{OpensFile}
use Rattle.play_run.proofs.playing.play_rows.Goals as goal

-- another width than 1
other-width : (w : ℕ) → IsWidth w → w ≢ 1 → w ≡ 2
other-width w (inl one) other = absurd (other one)
other-width w (inr two) other = two

pub returns-then-width-eq1-clause-plays : goal.returns-then-width-eq1-clause-plays
returns-then-width-eq1-clause-plays g c =
    let drive = g.D.LogDisk.drive in
    let found = c.in-Ok.field-0 in
    let file = c.in-Some.file.now in
    let width : found.width ≡ 1 = omega (arith, c.if-width-eq1.true, c.in-Ok.width-is) in
    rw c.in-Some.is
    (c.over_opened.ensures.plays file c.args.drives.disk
    (subst (λ (w : ℕ). OpensFile file (drive c.args.drives.disk) (drive found.opened.start.value) (drive found.opened.log.disk) w found.opened.seen) width c.in-Ok.ensures.opened))

pub returns-else-width-eq1-clause-plays : goal.returns-else-width-eq1-clause-plays
returns-else-width-eq1-clause-plays g c =
    let drive = g.D.LogDisk.drive in
    let found = c.in-Ok.field-0 in
    let file = c.in-Some.file.now in
    let width : found.width ≡ 2 = other-width found.width c.in-Ok.ensures.opened.known (λ one. omega (arith, one, c.if-width-eq1.false, c.in-Ok.width-is)) in
    rw c.in-Some.is
    (c.over_opened-else-width-eq1.ensures.plays file c.args.drives.disk
    (subst (λ (w : ℕ). OpensFile file (drive c.args.drives.disk) (drive found.opened.start.value) (drive found.opened.log.disk) w found.opened.seen) width c.in-Ok.ensures.opened))
