use Rattle.csv_rows.proofs.NumbersFacts.{number_in-some}
use Rattle.csv_rows.proofs.fields.number_at.Goals as goal

pub returns-in-Some-clause-fits : goal.returns-in-Some-clause-fits
returns-in-Some-clause-fits c = let found = number_in-some _ _ _ _ c.in-Some.ensures in rw c.in-Between.is (found.2, found.3)
