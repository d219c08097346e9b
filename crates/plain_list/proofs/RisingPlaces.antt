-- Places whose ids rise: what stands further on, and their order.
use Rattle.std.proofs.Common.{◌≡◌, ℕ, zero, suc, ◌<◌, length, false, List, [], ◌∷◌, None, get_or, refl, sym, subst, arith, add-one}
use Rattle.std.specs.List.Sorted.{IsSortedBy}
use Rattle.std.specs.Ordering.{nat_cmp, is_lt}
use Rattle.std.proofs.lemmas.Bool.Decides.{nat_tests}
use Rattle.std.proofs.lemmas.Grind.{common_steps}
use Rattle.zorder.specs.declared.points.Placed.{Placed}
use Rattle.plain_list.specs.Places.{IsRising, IsAbove, place_of}

-- an id above which all others are is below each of them
pub above_at : (id : ℕ) (ms : List Placed) (i : ℕ) (d : Placed) → IsAbove id ms → i < length ms → id < (get_or ms i d).id
above_at id [] i d above lt = absurd (omega (arith, lt))
above_at id (m ∷ ms) zero d above lt = above.0
above_at id (m ∷ ms) (suc i) d above lt = above_at id ms i d above.1 (omega (arith, lt))

-- neighbours rise
pub sorted_from_rising : (ms : List Placed) → IsRising ms → IsSortedBy (λ a b. is_lt (nat_cmp a.id b.id)) ms
sorted_from_rising ms rising = λ k d low lt. subst (λ j. is_lt (nat_cmp (get_or ms j d).id (get_or ms k d).id) ≡ false) (sym (add-one k)) (by_id ms k d rising (omega (arith, lt)))
  where
    not_less : (a b : ℕ) → b < a → is_lt (nat_cmp a b) ≡ false
    not_less a b lt = grind (arith, nat_tests)

    by_id : (ms : List Placed) (k : ℕ) (d : Placed) → IsRising ms → suc k < length ms → is_lt (nat_cmp (get_or ms (suc k) d).id (get_or ms k d).id) ≡ false
    by_id [] k d rising lt = absurd (omega (arith, lt))
    by_id (m ∷ ms) zero d rising lt = not_less (get_or ms 0 d).id m.id (above_at m.id ms 0 d rising.0 (omega (arith, lt)))
    by_id (m ∷ ms) (suc k) d rising lt = by_id ms k d rising.1 (omega (arith, lt))

-- an id below all others has no object
pub place_of-above : (id : ℕ) (ms : List Placed) → IsAbove id ms → place_of ms id ≡ None
place_of-above id [] above = refl
place_of-above id (m ∷ ms) above =
    let rest : place_of ms id ≡ None = place_of-above id ms above.1 in
    let lt : id < m.id = above.0 in
    grind (arith, nat_tests, common_steps)
