use Rattle.std.proofs.Common.{List, ℕ, [], sym, subst}
use Rattle.csv_rows.specs.Records.{StandsBehind}
use Rattle.csv_rows.proofs.read.read_records.Goals as goal

pub read_all-requires : goal.read_all-requires
read_all-requires c = let reader = c.reader_of-reader in subst (λ (text : List ℕ). StandsBehind text [] reader.result) (sym reader.ensures.source) reader.ensures.start
