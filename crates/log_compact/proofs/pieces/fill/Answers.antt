-- Each cell goes into the piece with the commit byte of the next one.
use Rattle.std.proofs.Common.{◌≡◌, ◌+◌, ◌-◌, ◌*◌, ◌∷◌, ◌++◌, length, take, ◌∙◌, ap, subst, sym, arith}
use borrow.Rule.Slice.PartMut.{same_len_mid}
use Rattle.split_log.specs.LogText.{behind_first}
use Rattle.log_compact.specs.Staging.{AreCells}
use Rattle.log_compact.proofs.PieceTexts.{piece-more, piece-last}
use Rattle.log_compact.proofs.pieces.fill.Goals as goal

pub loop-place-preserved : goal.loop-place-preserved
loop-place-preserved c = record {
  text = piece-more _ c.loop-place.piece c.copy_from_slice.new.self c.loop-place.place c.loop-place.cell c.loop-place.cells c.loop-place.invariant.long c.loop-place-test.true c.loop-place.invariant.text
      c.in-Some.next c.next.new.self c.in-Some.ensures.steps (c.copy_from_slice.ensures.after ∙ c.behind.ensures.bytes);
  fits = λ rest. c.loop-place.invariant.fits (c.behind.ensures.fits, subst AreCells (sym c.in-Some.ensures.steps) rest);
  fewer = omega (arith, c.loop-place.invariant.fewer, ap length c.in-Some.ensures.steps);
  long = same_len_mid (32 * c.loop-place.place) (32 * c.loop-place.place + 32 - 32 * c.loop-place.place) c.loop-place.piece c.copy_from_slice.new.self c.copy_from_slice.ensures.len ∙ c.loop-place.invariant.long;
}

pub returns-in-None-clause-text : goal.returns-in-None-clause-text
returns-in-None-clause-text c =
    piece-last _ c.loop-place.piece c.copy_from_slice-in-None.new.self c.loop-place.place c.loop-place.cell c.loop-place.cells c.loop-place.invariant.long c.loop-place-test.true c.loop-place.invariant.text
    c.in-None.ensures.steps.0 (c.copy_from_slice-in-None.ensures.after ∙ c.behind-in-None.ensures.bytes)

pub returns-clause-text : goal.returns-clause-text
returns-clause-text c =
    let all : 32 * c.loop-place.place ≡ 65536 = omega (arith, c.loop-place-test.false, c.loop-place.auto.place-end) in
    c.loop-place.invariant.text ∙ ap (λ n. take n c.loop-place.piece ++ behind_first (c.loop-place.cell ∷ c.loop-place.cells)) all
