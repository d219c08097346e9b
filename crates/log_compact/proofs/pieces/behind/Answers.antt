use Rattle.std.proofs.Common.{◌≤◌, ℕ, List, [], ◌∷◌, ◌++◌, length, take, drop, ap, ◌∙◌, arith}
use Rattle.std.proofs.lemmas.List.{take_all}
use Rattle.cell_format.specs.Spelling.{body_of}
use Rattle.cell_format.proofs.Decoded.{length-spelling}
use Rattle.log_compact.proofs.pieces.behind.Goals as goal

pub returns-clause-bytes : goal.returns-clause-bytes
returns-clause-bytes c =
    let short : length (body_of c.args.cell.now) ≤ 31 = omega (arith, length-spelling c.args.cell.now) in
    ap (λ (l : List ℕ). l ++ c.args.commit_byte ∷ []) (c.copy_from_slice.ensures.after ∙ ap (λ (l : List ℕ). take 31 (drop 1 l)) c.encode.ensures.spells.spelled ∙ take_all 31 (body_of c.args.cell.now) short)
