-- Lines that were pushed piece by piece.
use Rattle.std.proofs.Common.{◌≡◌, ◌∙◌, ℕ, List, ◌++◌, ap, append_assoc}
use Rattle.std.specs.Prelude.{codes}
use Rattle.std.specs.Fmt.{decimal}

pushed-five : (a b c d e : List ℕ) → a ++ b ++ c ++ d ++ e ≡ a ++ (b ++ c ++ d ++ e)
pushed-five a b c d e = simp append_assoc

-- four numbers with commas between them, which were pushed one by one, and the end of the line
pub pushed-object : (old id x y moment : List ℕ) → old ++ id ++ codes "," ++ x ++ codes "," ++ y ++ codes "," ++ moment ++ codes "\n" ≡ old ++ (id ++ codes "," ++ x ++ codes "," ++ y ++ codes "," ++ moment ++ codes "\n")
pushed-object old id x y moment = simp append_assoc

-- two words behind a text, each with a number
pub two_counted : {middle after : List ℕ} {m n k l : ℕ} (before first second : List ℕ) → m ≡ k → n ≡ l → middle ≡ before ++ first ++ decimal m → after ≡ middle ++ second ++ decimal n
    → after ≡ before ++ (first ++ decimal k ++ second ++ decimal l)
two_counted {m = m} {n = n} {k = k} {l = l} before first second m_is n_is middle_is after_is =
    after_is ∙ ap (λ t. t ++ second ++ decimal n) (middle_is ∙ ap (λ i. before ++ first ++ decimal i) m_is) ∙ ap (λ i. before ++ first ++ decimal k ++ second ++ decimal i) n_is
    ∙ pushed-five before first (decimal k) second (decimal l)
