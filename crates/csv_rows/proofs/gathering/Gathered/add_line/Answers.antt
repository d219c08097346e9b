use Rattle.std.proofs.Common.{sym}
use Rattle.csv_rows.proofs.gathering.Gathered.add_line.Goals as goal

pub returns-clause-bytes : goal.returns-clause-bytes
returns-clause-bytes g c = rw (sym c.self.view_is) c.add_line.ensures.bytes
