use Rattle.std.proofs.Common.{◌≡◌, true, Some, sym, ◌∙◌, ap}
use Rattle.kept_log.specs.Journal.{moves_in}
use Rattle.kept_log.proofs.MovedLogs.{kept-moved, seen-moves}
use Rattle.kept_log.proofs.journal.Journal.move_to.Goals as goal

pub returns-clause-keeps : goal.returns-clause-keeps
returns-clause-keeps g c w s moves sound whole rests begun opened =
    let first : c.args.log.cells ≡ c.of-cells.result.value = sym c.cells.ensures.cells ∙ sym c.of-cells.ensures in
    let moved : moves_in (Some c.in_ok-current.current) ≡ true = ap moves_in (c.in_ok-current.ensures.value ∙ c.self.view_is) ∙ moves in
    kept-moved g.D.LogDisk.drive w s _ _
    (ap (λ v. v.moves) c.kept.view_is ∙ sym (seen-moves c.current.inside.kept c.current.inside.before) ∙ ap (λ v. v.moves) c.current.view_is ∙ moved) sound whole rests begun opened
    first c.cells.ensures.most c.emptied.ensures.none
