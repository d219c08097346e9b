use Rattle.std.proofs.Common.{sym, ◌∙◌}
use Rattle.recovery.proofs.OnlyReading.{reads_sound, stays-trans}
use Rattle.recovery.proofs.PieceLemmas.{passed_on}
use Rattle.recovery.proofs.ReadingLemmas.{starts}
use Rattle.recovery.proofs.reading.Reading.start.Goals as goal

pub returns-in_err-head-clause-err : goal.returns-in_err-head-clause-err
returns-in_err-head-clause-err g c =
    passed_on c.from_residual-in_err-head.result _ _ c.from_residual-in_err-head.ensures.1 (λ bytes told. c.in_err-head.ensures.err.shows bytes (c.len.ensures.stays.bytes ∙ told) c.args.wanted.most)

pub returns-in_err-head-clause-head : goal.returns-in_err-head-clause-head
returns-in_err-head-clause-head g c =
    passed_on c.from_residual-in_err-head.result _ _ c.from_residual-in_err-head.ensures.1 (c.in_err-head.ensures.err.head, c.in_err-head.ensures.err.may c.args.wanted.most)

pub returns-clause-ok : goal.returns-clause-ok
returns-clause-ok g c =
    let head = c.in_ok-head.head in
    let at = c.in_ok-head.ensures.ok in
    starts c.args.oldest c.args.wanted.width head.version head.width c.args.wanted.most c.in_ok-len.len (g.D.LogDisk.drive c.args.disk.now) c.in_ok-replay.replay c.in_ok-replay.ensures at.is_wanted at.known at.fits at.long
    (λ xs told. sym (c.in_ok-len.ensures.len xs told)) (λ xs told. at.has xs (c.len.ensures.stays.bytes ∙ told))

pub returns-clause-reads : goal.returns-clause-reads
returns-clause-reads g c =
    reads_sound (g.D.LogDisk.drive c.args.disk.now) (g.D.LogDisk.drive c.read_wanted.new.disk) _
    (stays-trans (g.D.LogDisk.drive c.args.disk.now) (g.D.LogDisk.drive c.len.new.self) (g.D.LogDisk.drive c.read_wanted.new.disk) c.len.ensures.stays c.read_wanted.ensures.reads.stays)
    (c.in_ok-head.ensures.reads.same ∙ c.in_ok-len.ensures.cause.same) (λ all told. c.len.ensures.cause.file all (c.read_wanted.ensures.reads.file all told)) tt
