use Rattle.std.proofs.Common.{sym, ap}
use Rattle.csv_rows.specs.Rows.{fault_at}
use Rattle.csv_rows.proofs.read.fault_at.Goals as goal

pub returns-in-Column : goal.returns-in-Column
returns-in-Column c = ap (fault_at c.args.row) (sym c.in-Column.is)
