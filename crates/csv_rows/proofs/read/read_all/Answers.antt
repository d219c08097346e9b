use Rattle.std.proofs.Common.{◌∙◌, sym, ap, Ok}
use Rattle.csv_rows.proofs.read.read_all.Goals as goal

pub read_behind-requires : goal.read_behind-requires
read_behind-requires g c = rw c.new-rows.ensures.items c.in_ok-read_header.ensures.header

pub returns-clause-rows : goal.returns-clause-rows
returns-clause-rows g c = c.in_ok-read_behind.ensures.rows.0 ∙ ap (λ l. Ok l) (sym c.from_vec.ensures)
