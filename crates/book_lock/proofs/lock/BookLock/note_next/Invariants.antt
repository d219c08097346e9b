use Rattle.book_lock.specs.Ends.{next_of}
use Rattle.book_lock.proofs.lock.BookLock.note_next.Given as goal

abbrev pub ghosts-add : goal.ghosts-add
ghosts-add g a = record { entry = next_of a.pass.now.seen (g.V.Held.entries a.value.now) }
