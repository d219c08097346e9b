use Rattle.book_lock.proofs.lock.BookLock.split_parts.Given as goal

abbrev pub ghosts-cut : goal.ghosts-cut
ghosts-cut g a = record { parts = a.parts }
