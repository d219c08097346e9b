-- Positions in a history that are one pass's own, as rising numbers.
use Rattle.std.specs.Prelude.{ℕ, ◌+◌, ◌<◌, ◌≤◌, List, [], ◌∷◌, ◌==◌, if◌then◌else◌, nat_lt}

-- How often a number occurs in a list.
abbrev pub times : ℕ → List ℕ → ℕ
times x [] = 0
times x (y ∷ ys) = (if y == x then 1 else 0) + times x ys

-- 1 for a position in a history of this length, and 0 after its end.
abbrev pub once_below : ℕ → ℕ → ℕ
once_below x n = if nat_lt x n then 1 else 0

-- The position is own.
abbrev pub Owns : List ℕ → ℕ → Type 0
Owns own p = 1 ≤ times p own

-- Each position is above those before it.
abbrev pub Rises : List ℕ → Type 0
Rises [] = Unit {0}
Rises (x ∷ xs) = ((p : ℕ) → Owns xs p → x < p) × Rises xs

-- Each position is in a history of this length.
abbrev pub IsBelow : ℕ → List ℕ → Type 0
IsBelow n own = (p : ℕ) → Owns own p → p < n

-- A number inserted in its place among rising ones.
abbrev pub insert : ℕ → List ℕ → List ℕ
insert x [] = x ∷ []
insert x (y ∷ ys) = if nat_lt x y then x ∷ y ∷ ys else y ∷ insert x ys

-- The numbers of both lists, rising.
abbrev pub merge : List ℕ → List ℕ → List ℕ
merge [] ys = ys
merge (x ∷ xs) ys = insert x (merge xs ys)
