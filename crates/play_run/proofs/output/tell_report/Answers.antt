use Rattle.std.proofs.Common.{sym, subst}
use Rattle.io_edge.specs.Puts.{Puts}
use Rattle.play_run.specs.Lines.{text_of}
use Rattle.play_run.proofs.output.tell_report.Goals as goal

pub returns-in-Lines-clause-bytes : goal.returns-in-Lines-clause-bytes
returns-in-Lines-clause-bytes g c = λ world h answers objects.
    let before = g.K.Sink.output c.args.sink.now in
    let after = g.K.Sink.output c.write_lines.new.sink in
    subst (λ r. Puts before.taken after.taken (text_of r c.args.rows.now world h) c.write_lines.result) (sym c.in-Lines.is) (c.write_lines.ensures.bytes world h answers)
