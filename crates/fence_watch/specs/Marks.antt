-- Marks, a bit for each fence.
use Rattle.std.specs.Prelude.{ℕ, zero, suc, ◌==◌, ◌%◌, ◌/◌, Bool, false, List, [], ◌∷◌, ◌++◌}

-- The `n` lowest bits of a word.
abbrev pub marks_in : ℕ → ℕ → List Bool
marks_in zero word = []
marks_in (suc n) word = (word % 2 == 1) ∷ marks_in n (word / 2)

-- All bits of a word.
unfoldable pub word_marks : ℕ → List Bool
word_marks word = marks_in 64 word

-- All bits of words.
abbrev pub marks_of : List ℕ → List Bool
marks_of [] = []
marks_of (word ∷ words) = word_marks word ++ marks_of words

-- The first elements of a list, filled up to this length with `none`.
abbrev pub filled : {X : Type 0} → X → ℕ → List X → List X
filled none zero xs = []
filled none (suc n) [] = none ∷ filled none n []
filled none (suc n) (x ∷ xs) = x ∷ filled none n xs

-- A mark for each of the fences that there may be.
unfoldable pub all_marks : List Bool → List Bool
all_marks marks = filled false 256 marks
