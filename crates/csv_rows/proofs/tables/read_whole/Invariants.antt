use Rattle.csv_rows.proofs.tables.read_whole.Given as goal

abbrev pub ghost-read_title : goal.ghost-read_title
ghost-read_title g a = g.text

abbrev pub ghost-read_below : goal.ghost-read_below
ghost-read_below g a = g.text
