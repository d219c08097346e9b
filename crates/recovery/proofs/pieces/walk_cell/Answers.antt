use Rattle.std.proofs.Common.{Err, refl, sym, subst, ◌∙◌}
use Rattle.cell_format.specs.Decodes.{Decodes}
use Rattle.cell_format.specs.Spelling.{Spells}
use Rattle.recovery.specs.Faults.{IsWrong}
use Rattle.recovery.specs.Room.{HasRoomAfter}
use Rattle.recovery.proofs.CellEffects.{grows}
use Rattle.recovery.proofs.PieceLemmas.{wrong_cell}
use Rattle.recovery.proofs.pieces.walk_cell.Goals as goal

pub returns-in-Err-Impossible-clause-err : goal.returns-in-Err-Impossible-clause-err
returns-in-Err-Impossible-clause-err c most lt =
    let decoded = subst (λ v. Spells v c.in-Ok.cell c.front.result) c.version.ensures.value c.in-Ok.ensures.says.spelled in
    let spelled = subst (Spells c.args.replay.now.version c.in-Ok.cell) c.front.ensures decoded in
    let bad = c.step.ensures.steps.refused (rw c.in-Err-Impossible.field-0-is at c.in-Err-Impossible.is) in
    rw c.damaged-in-Err-Impossible.ensures (refl, lt, c.requires.committed, (c.requires.long, c.in-Ok.cell, spelled, bad))

pub returns-in-Err-clause-err : goal.returns-in-Err-clause-err
returns-in-Err-clause-err c most lt =
    let says = subst (λ v. Decodes v c.front.result (Err c.in-Err.fault)) c.version.ensures.value c.in-Err.ensures.says in
    let wrong = wrong_cell c.args.replay.now.version c.args.replay.now.width c.args.replay.now.state c.args.piece.now c.front.result c.in-Err.fault c.front.ensures c.requires.long says in
    let told = subst (IsWrong c.args.replay.now.version c.args.replay.now.width c.args.replay.now.state c.args.piece.now) (sym c.cause_of.ensures) wrong in
    rw c.damaged.ensures (refl, lt, c.requires.committed, told)

pub returns-in-Ok-step-clause-ok : goal.returns-in-Ok-step-clause-ok
returns-in-Ok-step-clause-ok c =
    let r = c.args.replay.now in
    let spells = subst (λ v. Spells v c.in-Ok.cell c.front.result) c.version.ensures.value c.in-Ok.ensures.says.spelled in
    let done = (rw c.in-Ok-step.is at c.step.ensures.steps).done in
    record {
      at = refl;
      long = c.requires.long;
      set = c.requires.committed;
      fits = spells.fits;
      spelled = sym c.front.ensures ∙ spells.spelled;
      possible = done.0;
      version = c.step.ensures.version;
      width = c.step.ensures.width;
      state = done.1;
      before = done.2;
      after = c.place_after.ensures;
      grows = subst (HasRoomAfter r.state) (sym done.1) (grows r.width r.state c.in-Ok.cell c.version.ensures.width);
    }
