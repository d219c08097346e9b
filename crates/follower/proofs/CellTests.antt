-- Cells that are equal.
use Rattle.std.proofs.Common.{◌≡◌, ℕ, ◌<◌, Bool, zero, suc, List, [], ◌∷◌, length, get_or, refl, sym, ◌∙◌, ap, arith}
use Rattle.std.specs.Prelude.{◌==◌, ◌↔◌, IsTrue}
use Rattle.std.specs.Cmp.Lexicographic.{pointwise, pointwise_decides}
use Rattle.std.specs.Cmp.{unsigned_Decides}
use Rattle.cell_format.specs.declared.cell.Cell.{Cell}
use Rattle.cell_format.specs.Spelling.{newest, Spells, spelling}
use Rattle.cell_format.proofs.Decoded.{same_cell}

-- Cells are equal if and only if their bytes are.
pub same_test : (a b : Cell) (x y : List ℕ) (test : Bool) → Spells newest a x → Spells newest b y → test ≡ pointwise (λ p q. p == q) x y → IsTrue test ↔ (a ≡ b)
same_test a b x y test first second is = (
  λ yes. same_cell a b first.fits second.fits (sym first.spelled ∙ (pointwise_decides unsigned_Decides x y).0 (sym is ∙ yes) ∙ second.spelled),
  λ same. is ∙ (pointwise_decides unsigned_Decides x y).1 (first.spelled ∙ ap spelling same ∙ sym second.spelled),
)

any_default : (xs : List Cell) (n : ℕ) (d e : Cell) → n < length xs → get_or xs n d ≡ get_or xs n e
any_default [] n d e lt = absurd (omega (arith, lt))
any_default (x ∷ xs) zero d e lt = refl
any_default (x ∷ xs) (suc n) d e lt = any_default xs n d e (omega (arith, lt))

-- The cell at a place.
pub at_test : (cells : List Cell) (n : ℕ) (there cell : Cell) (test : Bool) → n < length cells → there ≡ get_or cells n there → IsTrue test ↔ (there ≡ cell) → IsTrue test ↔ ((n < length cells) × (get_or cells n cell ≡ cell))
at_test cells n there cell test lt is same = (
  λ yes. (lt, any_default cells n cell there lt ∙ sym is ∙ same.0 yes),
  λ at. same.1 (is ∙ any_default cells n there cell lt ∙ at.1),
)
