use Rattle.std.proofs.Common.{◌≤◌, ℕ, List, drop, take, sym, subst, arith}
use Rattle.recovery.specs.Reading.{ReadingView, IsFilled}
use Rattle.recovery.proofs.OnlyReading.{reads_sound, in_bytes-other}
use Rattle.recovery.proofs.ReadingLemmas.{filled_by, same_items}
use Rattle.recovery.proofs.reading.Reading.fill.Goals as goal

pub returns-clause-ok : goal.returns-clause-ok
returns-clause-ok g c =
    let w = c.self.inside in
    let old : ReadingView = record { replay = w.replay; number = w.number; most = w.most; len = w.len; rest = drop w.at (take w.filled w.buffer.items) } in
    let room : 65537 ≤ c.self.inside.buffer.len = omega (arith, c.self.invariant.long, c.self.inside.buffer.ok) in
    let same = same_items w.buffer.len c.read_piece.new.buffer w.buffer.items c.read_piece.ensures.long c.self.invariant.long room in
    rw (← c.self.view_is)
    (subst (λ (l : List ℕ). IsFilled (g.D.LogDisk.drive c.args.disk.now) old (record old { rest = take c.in_ok-got.got l })) (sym same)
    (filled_by (g.D.LogDisk.drive c.args.disk.now) old c.read_piece.new.buffer c.in_ok-got.got c.in_ok-got.ensures.ok c.read_piece.ensures.long (omega (arith, c.if-got-eq0.false)) c.self.invariant.room))

pub returns-then-got-eq0-clause-reads : goal.returns-then-got-eq0-clause-reads
returns-then-got-eq0-clause-reads g c =
    reads_sound (g.D.LogDisk.drive c.args.disk.now) (g.D.LogDisk.drive c.read_piece.new.disk) _ c.read_piece.ensures.stays c.in_ok-got.ensures.cause.same c.read_piece.ensures.cause.file
    (in_bytes-other c.unread.result c.unread.ensures.other)
