use Rattle.std.proofs.Common.{None, Err, ◌∙◌, ap}
use Rattle.disk_trait.specs.Drive.{Drive}
use Rattle.recovery.proofs.OnlyReading.{rose-earlier}
use Rattle.recovery.proofs.PieceLemmas.{passed_on}
use Rattle.recovery.proofs.WantedLemmas.{refuses_walk}
use Rattle.recovery.proofs.WidthLemmas.{has_width}
use Rattle.recovery.proofs.heads.width_of.Goals as goal

pub returns-in_err-len-clause-refused : goal.returns-in_err-len-clause-refused
returns-in_err-len-clause-refused g c =
    passed_on c.from_residual.result _ _ c.from_residual.ensures.1
    (λ other. cc other, λ most. refuses_walk None most (g.D.LogDisk.drive c.args.disk.now) (g.D.LogDisk.drive c.len.new.self) _ (λ bytes told. tt) tt tt (λ disk. c.in_err-len.ensures.cause.failed))

pub returns-in_err-head-clause-refused : goal.returns-in_err-head-clause-refused
returns-in_err-head-clause-refused g c =
    let before : Drive = g.D.LogDisk.drive c.args.disk.now in
    let after : Drive = g.D.LogDisk.drive c.read_wanted.new.disk in
    let refused = c.in_err-head.ensures.err in
    passed_on c.from_residual-in_err-head.result _ _ c.from_residual-in_err-head.ensures.1 (
      refused.sound,
      λ most. refuses_walk None most before after _ (λ bytes told. refused.shows bytes (c.len.ensures.stays.bytes ∙ told) most) refused.head (refused.may most)
          (λ e. rose-earlier before.faults (g.D.LogDisk.drive c.len.new.self).faults after.faults c.len.ensures.cause.later (c.in_err-head.ensures.reads.failed (ap (λ x. Err x) e))),
    )

pub returns-clause-told : goal.returns-clause-told
returns-clause-told g c =
    let head = c.in_ok-head.head in
    let at = c.in_ok-head.ensures.ok in
    record { known = at.known; named = λ bytes told. has_width head.version head.width bytes (at.has bytes (c.len.ensures.stays.bytes ∙ told)) at.is_wanted at.known }
