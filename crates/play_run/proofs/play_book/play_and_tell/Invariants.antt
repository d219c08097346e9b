use Rattle.play_run.specs.inside.Books.{is_unlogged, is_opened}
use Rattle.play_run.proofs.play_book.play_and_tell.Given as goal

abbrev pub ghosts-play_sessions : goal.ghosts-play_sessions
ghosts-play_sessions g a = record { unlogged = is_unlogged a.book.log; is = is_opened g.D.LogDisk.drive a.book.log }
