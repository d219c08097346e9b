use Rattle.csv_rows.proofs.read.read_all.Given as goal

abbrev pub ghost-read_header : goal.ghost-read_header
ghost-read_header g a = g.text

abbrev pub ghost-read_behind : goal.ghost-read_behind
ghost-read_behind g a = g.text
