use Rattle.std.proofs.Common.{sym, subst, List}
use Rattle.std.specs.Option.{option_map}
use Rattle.kept_log.specs.Journal.{disk_in}
use Rattle.play_run.specs.declared.lanes.LaneEnd.{LaneEnd}
use Rattle.play_run.specs.inside.Books.{IsNewBook}
use Rattle.play_run.specs.inside.Answered.{IsAnsweredBook}
use Rattle.play_run.specs.inside.Ended.{EndsBook}
use Rattle.play_run.proofs.PlayEnds.{if-mapped, answered-numbers, ends-book}
use Rattle.play_run.proofs.play_book.play_and_tell.Goals as goal

pub tell_book-requires-clause-numbers : goal.tell_book-requires-clause-numbers
tell_book-requires-clause-numbers g c =
    let played = c.play_sessions-played in
    answered-numbers (λ e. e.items) g.I.Index.WIDTH c.args.job.now.rows.now c.make_room.new.self played.result.book played.result.ends played.ensures.answered

pub returns : goal.returns
returns g c =
    let drive = g.D.LogDisk.drive in
    let w = g.I.Index.WIDTH in
    let job = c.args.job.now in
    let old = c.make_room.new.self in
    let played = c.play_sessions-played in
    let told = c.tell_book.ensures in
    let answered = if-mapped (λ e. e.items) (λ (e : List LaneEnd). IsAnsweredBook w job.rows.now old played.result.book e) played.result.ends played.ensures.answered in
    rw (told.disk, told.history, sym c.make_room.ensures)
    (ends-book drive w job.report job.rows.now old played.result.book (option_map (λ e. e.items) played.result.ends) c.tell_book.result.status (g.K.Sink.output c.args.sink.now) (g.K.Sink.output c.tell_book.new.sink) c.requires.rows
    (subst IsNewBook (sym c.make_room.ensures) c.requires.new) played.ensures.played answered played.ensures.book told.ends played.ensures.starts)
