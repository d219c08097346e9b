use Rattle.std.proofs.Common.{◌≡◌, ◌∙◌, ℕ, List, [], ◌++◌, sym, ap, subst, arith}
use Rattle.std.proofs.lemmas.List.{append-nil}
use Rattle.csv_rows.proofs.PiecesFacts.{counts-lost, puts-fault, puts-is, puts-last}
use Rattle.follower.specs.declared.turns.Report.{Report}
use Rattle.follow_run.specs.Lines.{report_title}
use Rattle.follow_run.proofs.LineFacts.{HasLines, lines-none, lines-more, lines-lost, lines-all}
use Rattle.follow_run.proofs.lines.write_reports.Goals as goal

abbrev blank : Report
blank = record { held = 0; known = 0 }

pub loop-before-init : goal.loop-before-init
loop-before-init g c =
    let at = g.K.Sink.output c.args.sink.now in
    let title : c.push_str.new.piece.items ≡ report_title = c.push_str.ensures.bytes ∙ ap (λ (l : List ℕ). l ++ report_title) c.new-piece.ensures in
    subst (λ (held : List ℕ). HasLines at.taken at.taken at.faults at.faults c.args.reports.now 0 held) (sym title) (lines-none at.taken at.faults c.args.reports.now)

pub loop-before-preserved : goal.loop-before-preserved
loop-before-preserved g c = lines-more _ _ c.args.reports.now _ _ _ _ _ _ _ blank c.loop-before.invariant c.in_ok-add_report.ensures.bytes c.in_ok-add_report.ensures.cause.same c.loop-before-test.true

pub returns-in_err-add_report-clause-bytes : goal.returns-in_err-add_report-clause-bytes
returns-in_err-add_report-clause-bytes g c =
    let lost = c.in_err-add_report.ensures.bytes in
    let moved = lines-lost _ _ c.args.reports.now _ _ _ _ _ lost.0 blank c.loop-before.invariant lost.1 c.loop-before-test.true in
    puts-is _ _ _ _ c.from_residual.result (append-nil _) (puts-fault _ _ _ _ [] c.from_residual.result c.from_residual.ensures.0 moved)

pub returns-in_err-add_report-clause-cause : goal.returns-in_err-add_report-clause-cause
returns-in_err-add_report-clause-cause g c = counts-lost _ _ _ c.from_residual.result c.from_residual.ensures.0 c.loop-before.invariant.same c.in_err-add_report.ensures.cause.later c.in_err-add_report.ensures.cause.failed

pub returns-clause-bytes : goal.returns-clause-bytes
returns-clause-bytes g c =
    let moved = lines-all _ _ c.args.reports.now _ _ _ _ c.loop-before.invariant (omega arith) in
    puts-last _ _ _ _ _ c.put.result moved (puts-is _ _ c.as_slice.result.now _ c.put.result c.as_slice.ensures.value c.put.ensures.bytes)
