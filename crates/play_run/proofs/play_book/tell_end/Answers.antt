use Rattle.std.proofs.Common.{inr, sym, ap, subst}
use Rattle.std.specs.Option.{option_map}
use Rattle.play_run.specs.Lines.{text_of}
use Rattle.run_ends.specs.Ending.{EndsWriting}
use Rattle.play_run.specs.inside.Answered.{HasAnswers}
use Rattle.play_run.proofs.PlayEnds.{ends-writing}
use Rattle.play_run.proofs.play_book.tell_end.Goals as goal

pub returns-in-Some-ends : goal.returns-in-Some-ends
returns-in-Some-ends g c =
    let rows = c.args.job.now.rows.now in
    let report = c.args.job.now.report in
    let ends = c.in-Some-ends.ends in
    let before = g.K.Sink.output c.args.sink.now in
    let after = g.K.Sink.output c.tell_report.new.sink in
    inr (inr (
      c.in_default.is,
      record {
        some = ends.items;
        ends_are = ap (option_map (λ e. e.items)) c.in-Some-ends.is;
        writes = λ world h answers objects.
            subst (λ n. EndsWriting (text_of report rows world h) n before after) (sym c.written.ensures)
            (ends-writing (text_of report rows world h) before after c.tell_report.result
            (c.tell_report.ensures.bytes world h (subst (λ l. HasAnswers world h rows l) (sym c.as_slice-ends.ensures.value) answers) objects) c.tell_report.ensures.cause);
      },
    ))
