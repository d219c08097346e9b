use Rattle.std.proofs.Common.{◌∙◌, sym, refl, inr}
use Rattle.csv.specs.Reading.{Reached, strip_bom}
use Rattle.csv_rows.proofs.records.reader_of.Goals as goal

pub returns-clause-start : goal.returns-clause-start
unfolding Reached
returns-clause-start c =
    let fr = c.from_reader.ensures in
    let e = c.has_headers.ensures in
    let h = c.flexible.ensures in
    record {
      trim = rw (h, e) at fr.trim ∙ c.new.ensures.trim;
      ready = inr (inr (rw (h, e) at fr.has_headers, fr.headers));
      flexible = rw h at fr.flexible;
      config = rw (h, e) at fr.config ∙ c.new.ensures.config;
      left = strip_bom c.args.text.now;
      source = fr.source;
      reached = (sym fr.state, refl);
    }
