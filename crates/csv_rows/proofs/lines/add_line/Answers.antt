use Rattle.std.proofs.Common.{◌≡◌, ◌++◌, List, ℕ, ap, refl, subst, sym}
use Rattle.std.specs.Prelude.{codes, Option}
use Rattle.plain_list.specs.declared.ops.Answer.{Answer}
use Rattle.csv_rows.specs.Pieces.{Moves}
use Rattle.csv_rows.specs.Lines.{detail_text, front_text, line_text}
use Rattle.csv_rows.proofs.PiecesFacts.{holds-lost, moves-is, moves-line, moves-more}
use Rattle.csv_rows.proofs.lines.add_line.Goals as goal

-- the line of a row, of which the last piece is held back
line-moves : (a b d : Option (List ℕ)) (row place : ℕ) (answer : Answer) (old kept begun held more : List ℕ) → begun ≡ kept ++ front_text row place answer → more ≡ held ++ codes "\n" → Moves a b old kept
    → Moves b d (begun ++ detail_text answer) held → Moves a d (old ++ line_text row place answer) more
unfolding line_text
line-moves a b d row place answer old kept begun held more is ends first second =
    subst (λ (l : List ℕ). Moves a d (old ++ line_text row place answer) l) (sym ends) (moves-line a b d old kept (front_text row place answer) (detail_text answer) (codes "\n") held first (moves-is b d _ _ held (ap (λ l. l ++ detail_text answer) is) second))

pub returns-in_err-make_room-clause-bytes : goal.returns-in_err-make_room-clause-bytes
returns-in_err-make_room-clause-bytes g c =
    let lost = c.in_err-make_room.ensures.bytes in
    holds-lost _ _ _ _ _ c.from_residual.result c.from_residual.ensures.0 (moves-more _ _ _ lost.0 (line_text c.args.row c.args.place c.args.answer.now) lost.1) lost.2

pub returns-in_err-add_detail-clause-bytes : goal.returns-in_err-add_detail-clause-bytes
returns-in_err-add_detail-clause-bytes g c =
    let lost = c.in_err-add_detail.ensures.bytes in
    holds-lost _ _ _ _ _ c.from_residual-in_err-add_detail.result c.from_residual-in_err-add_detail.ensures.0
    (line-moves _ _ _ c.args.row c.args.place c.args.answer.now _ _ _ lost.0 _ c.add_front.ensures.bytes refl c.in_ok-make_room.ensures.bytes lost.1) lost.2

pub returns-clause-bytes : goal.returns-clause-bytes
returns-clause-bytes g c =
    line-moves _ _ _ c.args.row c.args.place c.args.answer.now _ _ _ _ _ c.add_front.ensures.bytes c.push_str.ensures.bytes c.in_ok-make_room.ensures.bytes c.in_ok-add_detail.ensures.bytes
