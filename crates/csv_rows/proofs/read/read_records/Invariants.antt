use Rattle.csv.specs.Reading.{reader_source}
use Rattle.csv_rows.proofs.read.read_records.Given as goal

abbrev pub ghost-read_all : goal.ghost-read_all
ghost-read_all a = (reader_source a.reader.now).now
