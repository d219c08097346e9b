use Rattle.std.proofs.Common.{Some, [], sym, subst, ◌∙◌}
use Rattle.recovery.specs.Faults.{IsFault}
use Rattle.recovery.specs.Reading.{IsBehind, IsFoundFor}
use Rattle.recovery.proofs.PieceLemmas.{passed_on}
use Rattle.recovery.proofs.ReadingLemmas.{behind_may, has_read-stays}
use Rattle.recovery.proofs.WalkLemmas.{found_read}
use Rattle.recovery.proofs.WantedLemmas.{finds_wanted, starts_width, fault_for}
use Rattle.recovery.proofs.inspecting.read_log.Goals as goal

pub returns-in_err-reading-clause-may : goal.returns-in_err-reading-clause-may
returns-in_err-reading-clause-may g c =
    passed_on c.from_residual.result _ _ c.from_residual.ensures.1 c.in_err-reading.ensures.head.1

pub returns-in_err-read_cells-clause-fault : goal.returns-in_err-read_cells-clause-fault
returns-in_err-read_cells-clause-fault g c =
    let drive = g.D.LogDisk.drive in
    let begun = c.in_ok-reading.ensures.ok in
    let first = c.in_ok-reading.reading in
    let kept = c.start.ensures.reads.stays.bytes in
    let e = c.in_err-read_cells.field-0.0 in
    passed_on c.from_residual-in_err-read_cells.result _ _ c.from_residual-in_err-read_cells.ensures.1
    (λ bytes told.
    fault_for c.args.oldest c.args.wanted.most bytes c.args.wanted.width first.replay.width begun.fits
    ((starts_width c.args.oldest c.args.wanted.width c.args.wanted.most (drive c.args.disk.now) first c.requires.oldest begun).named bytes told) e
    (subst (λ m. IsFault c.args.oldest (Some first.replay.width) m bytes e) begun.starts.most_is
    (c.in_err-read_cells.ensures.err.fails [] (has_read-stays [] (drive c.args.disk.now) (drive c.start.new.disk) first kept begun.starts.read) bytes (kept ∙ told) c.args.oldest begun.starts.wanted)))

pub returns-in_err-read_cells-clause-may : goal.returns-in_err-read_cells-clause-may
returns-in_err-read_cells-clause-may g c =
    let drive = g.D.LogDisk.drive in
    let begun = c.in_ok-reading.ensures.ok in
    let first = c.in_ok-reading.reading in
    let kept = c.start.ensures.reads.stays.bytes in
    let e = c.in_err-read_cells.field-0.0 in
    passed_on c.from_residual-in_err-read_cells.result _ _ c.from_residual-in_err-read_cells.ensures.1
    (let behind = c.in_err-read_cells.ensures.err.behind [] (has_read-stays [] (drive c.args.disk.now) (drive c.start.new.disk) first kept begun.starts.read) in
    behind_may c.args.oldest c.args.wanted.width c.args.wanted.most behind.0 e (subst (λ m. IsBehind m behind.0 e) begun.starts.most_is behind.1))

pub returns-clause-found : goal.returns-clause-found
returns-clause-found g c =
    let drive = g.D.LogDisk.drive in
    let begun = c.in_ok-reading.ensures.ok in
    let first = c.in_ok-reading.reading in
    let all = c.in_ok-read_cells.ensures.ok in
    let within = found_read c.args.oldest first.replay.width c.args.wanted.most c.len.result (drive c.args.disk.now) (drive c.start.new.disk) first c.read_cells.new.reading c.seen_in.result begun.starts
    c.start.ensures.reads.stays.bytes all c.seen_in.ensures c.len.ensures in
    subst (λ w. IsFoundFor c.args.oldest c.args.wanted.width c.args.wanted.most (drive c.args.disk.now) w c.seen_in.result c.len.result) (sym all.same.width ∙ sym c.width.ensures.is) (record {
      log = finds_wanted c.args.oldest c.args.wanted.width c.args.wanted.most (drive c.args.disk.now) first.replay.width c.seen_in.result c.requires.oldest
          (starts_width c.args.oldest c.args.wanted.width c.args.wanted.most (drive c.args.disk.now) first c.requires.oldest begun) begun.fits within.found;
      within = within;
    })
