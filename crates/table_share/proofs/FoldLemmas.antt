-- Folds over two lists, one after the other.
use Rattle.std.proofs.Common.{List, [], ◌∷◌, ◌++◌, sym, subst}
use Rattle.std.specs.List.{FoldsTo}

pub FoldsTo-join : {P A : Type 0} (R : P → A → P → Type 0) (xs ys : List A) (p q r : P) → FoldsTo R p xs q → FoldsTo R q ys r → FoldsTo R p (xs ++ ys) r
FoldsTo-join R [] ys p q r f g = subst (λ k. FoldsTo R k ys r) (sym f) g
FoldsTo-join R (x ∷ xs) ys p q r f g = (f.0, f.1, FoldsTo-join R xs ys f.0 q r f.2 g)
