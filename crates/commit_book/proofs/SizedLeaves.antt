-- Leaves among which none is over the size.
use Rattle.std.proofs.Common.{◌≡◌, ℕ, Bool, true, false, not, ◌&&◌, cond, List, [], ◌∷◌, Some, None, refl, ap}
use mathlib.Core.Bool.{true≢false}
use Rattle.std.specs.List.{find, list_all}
use Rattle.plain_list.specs.World.{World, places_of}
use Rattle.plain_list.specs.State.{OpenSplit, is_splitting}
use Rattle.plain_list.specs.Size.{is_over, IsSized}

-- where no leaf is found that is over the size, and no split is open, each is sized
pub sized-none : (w size : ℕ) (world : World) (splits : List OpenSplit) (leaves : List (List Bool)) → splits ≡ []
    → find (λ n. is_over w size (places_of world) n && not (is_splitting splits n)) leaves ≡ None → IsSized w size world leaves
sized-none w size world splits [] ended none = refl
sized-none w size world splits (l ∷ leaves) ended none =
    by_test (is_over w size (places_of world) l) (is_splitting splits l) (ap (λ (s : List OpenSplit). is_splitting s l) ended) none (sized-none w size world splits leaves ended)
  where
    by_test : (over splitting : Bool) → splitting ≡ false → cond (over && not splitting) (Some l) (find (λ n. is_over w size (places_of world) n && not (is_splitting splits n)) leaves) ≡ None
        → (find (λ n. is_over w size (places_of world) n && not (is_splitting splits n)) leaves ≡ None → list_all (λ n. not (is_over w size (places_of world) n)) leaves ≡ true)
        → (not over && list_all (λ n. not (is_over w size (places_of world) n)) leaves) ≡ true
    by_test true true split here rest = absurd (true≢false split)
    by_test true false split here rest = absurd (cc)
    by_test false splitting split here rest = rest here
