use Rattle.std.proofs.Common.{refl}
use Rattle.commit_book.proofs.book.Book.check_call.Goals as goal

pub returns-in-Some : goal.returns-in-Some
returns-in-Some g c = rw (← c.in-Some.ensures.closed) refl
