-- The buckets of a leaf's two children, and of four.
use Rattle.std.proofs.Common.{◌≡◌, List, [], ◌∷◌, length, map, get_or, sym, arith}

-- a list of two, by what was read of it
pub two_items : {A B : Type 0} (f : A → B) (xs : List A) (x y : A) → length xs ≡ 2 → x ≡ get_or xs 0 x → y ≡ get_or xs 1 y → map f xs ≡ f x ∷ f y ∷ []
two_items f [] x y long first second = absurd (omega arith)
two_items f (a ∷ []) x y long first second = absurd (omega arith)
two_items f (a ∷ b ∷ []) x y long first second = λ j. f (sym first j) ∷ f (sym second j) ∷ []
two_items f (a ∷ b ∷ e ∷ xs) x y long first second = absurd (omega arith)

-- a list of four, likewise
pub four_items : {A B : Type 0} (f : A → B) (xs : List A) (x y z w : A) → length xs ≡ 4 → x ≡ get_or xs 0 x → y ≡ get_or xs 1 y → z ≡ get_or xs 2 z → w ≡ get_or xs 3 w
    → map f xs ≡ f x ∷ f y ∷ f z ∷ f w ∷ []
four_items f [] x y z w long first second third fourth = absurd (omega arith)
four_items f (a ∷ []) x y z w long first second third fourth = absurd (omega arith)
four_items f (a ∷ b ∷ []) x y z w long first second third fourth = absurd (omega arith)
four_items f (a ∷ b ∷ c ∷ []) x y z w long first second third fourth = absurd (omega arith)
four_items f (a ∷ b ∷ c ∷ d ∷ []) x y z w long first second third fourth = λ j. f (sym first j) ∷ f (sym second j) ∷ f (sym third j) ∷ f (sym fourth j) ∷ []
four_items f (a ∷ b ∷ c ∷ d ∷ e ∷ xs) x y z w long first second third fourth = absurd (omega arith)
