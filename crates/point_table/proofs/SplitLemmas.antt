-- Open splits as a book keeps them, and those that contracts see.
use Rattle.std.proofs.Common.{◌≡◌, ℕ, Bool, true, false, cond, not, List, [], ◌∷◌, refl, ap}
use Rattle.std.specs.Prelude.{◌||◌, ◌==◌}
use Rattle.std.specs.List.{list_any, filter}
use Rattle.zorder.specs.SameName.{same_name}
use Rattle.plain_list.specs.State.{OpenSplit, is_splitting, without_number}
use Rattle.point_table.specs.declared.crowded.Begun.{Begun}
use Rattle.point_table.specs.Splits.{split_of, splits_of}

pub is_splitting-splits_of : (name : List Bool) (begun : List Begun) → list_any (λ b. same_name b.name name) begun ≡ is_splitting (splits_of begun) name
is_splitting-splits_of name [] = refl
is_splitting-splits_of name (b ∷ begun) = ap (λ (rest : Bool). same_name b.name name || rest) (is_splitting-splits_of name begun)

pub without_number-splits_of : (number : ℕ) (begun : List Begun) → splits_of (filter (λ (b : Begun). not (b.number == number)) begun) ≡ without_number number (splits_of begun)
without_number-splits_of number [] = refl
without_number-splits_of number (b ∷ begun) = by_test (not (b.number == number)) (without_number-splits_of number begun)
  where
    by_test : (t : Bool) → splits_of (filter (λ (b : Begun). not (b.number == number)) begun) ≡ without_number number (splits_of begun)
        → splits_of (cond t (b ∷ filter (λ (b : Begun). not (b.number == number)) begun) (filter (λ (b : Begun). not (b.number == number)) begun)) ≡ cond t (split_of b ∷ without_number number (splits_of begun)) (without_number number (splits_of begun))
    by_test true rest = ap (λ (splits : List OpenSplit). split_of b ∷ splits) rest
    by_test false rest = rest
