use Rattle.commit_book.proofs.EarlyReturns.{hands_first}
use Rattle.commit_book.proofs.book.Book.check_install.Goals as goal

pub returns-in_err-check_end : goal.returns-in_err-check_end
returns-in_err-check_end g c = hands_first (Unit {0}) _ _ c.in_err-check_end.field-0.0 _ c.in_err-check_end.ensures c.from_residual.ensures.1
