use Rattle.csv_rows.proofs.RecordsFacts.{taken}
use Rattle.csv_rows.proofs.records.next_record.Goals as goal

pub returns-in-Ok-clause-found : goal.returns-in-Ok-clause-found
returns-in-Ok-clause-found c text so_far stands =
    let read = c.in-Ok.ensures in
    taken text so_far _ _ c.in-Ok.found _ stands (read.reads stands.trim stands.ready) (read.ready stands.trim) read.flexible
