-- The leaves that fit a bucket size are the fewest that have no leaf to split for that size.
use Rattle.std.proofs.Common.{◌≡◌, ℕ, suc, ◌≤◌, Bool, true, false, not, List, [], ◌∷◌, ◌++◌, length, map, cond, refl, sym, ◌∙◌, ap, subst, arith, append_assoc, length-append}
use Rattle.std.proofs.lemmas.List.{length-map}
use Rattle.std.specs.Cmp.{first_so, second_so}
use Rattle.std.specs.List.{list_all, fold, AllByRecursion}
use Rattle.std.specs.Prelude.{IsTrue, zero}
use mathlib.Core.Bool.{true≢false}
use Rattle.zorder.specs.SameName.{same_name, same_name-decides}
use Rattle.zorder.specs.Tile.{bit_lists, children}
use Rattle.plain_list.specs.World.{World, places_of}
use Rattle.plain_list.specs.Size.{is_over, IsSized}
use Rattle.plain_list.specs.State.{split_leaf, ComesBySplits}
use Rattle.point_table.specs.Sized.{FitsSize}
use Rattle.log_compact.proofs.Forest.{Forest, none, leaf, split, ComesBy, forest_of}

-- A name has at least one child, for any width.
some_bits : (w : ℕ) → 1 ≤ length (bit_lists w)
some_bits zero = omega arith
some_bits (suc w) =
    omega (
      arith,
      some_bits w,
      length-append (map (λ bits. false ∷ bits) (bit_lists w)) (map (λ bits. true ∷ bits) (bit_lists w)),
      length-map (bit_lists w) (λ (bits : List Bool). false ∷ bits),
    )

-- So there are at least as many leaves as roots above them.
no_fewer : (w : ℕ) (roots leaves inner : List (List Bool)) → Forest w roots leaves inner → length roots ≤ length leaves
no_fewer w _ _ _ none = omega arith
no_fewer w _ _ _ (leaf n roots leaves inner f) = omega (arith, no_fewer w roots leaves inner f)
no_fewer w _ _ _ (split n roots leaves inner f) =
    omega (arith, no_fewer w (children w n ++ roots) leaves inner f, length-append (children w n) roots, length-map (bit_lists w) (λ bits. n ++ bits), some_bits w)

-- None of these names passes a test.
abbrev NonePass : (List Bool → Bool) → List (List Bool) → Type 0
NonePass test names = IsTrue (list_all (λ name. not (test name)) names)

-- A name that passes a test which no leaf passes. If the name is a root, it was split. So the leaves also come by
-- splits from the roots after its split.
module _ (w : ℕ) (test : List Bool → Bool) (name : List Bool) (passes : test name ≡ true) where
  -- Some roots may come before those in which the name is looked up.
  split-behind : (all leaves inner : List (List Bool)) → Forest w all leaves inner → NonePass test leaves → (front roots : List (List Bool)) → all ≡ front ++ roots
      → ComesBy w (front ++ split_leaf w name roots) leaves
  split-behind _ _ _ none low [] roots e = subst (λ (l : List (List Bool)). ComesBy w (split_leaf w name l) []) e ([], none)
  split-behind _ _ _ none low (c ∷ front) roots e = cc e
  split-behind _ _ _ (leaf n rest leaves inner f) low [] roots e =
      let own = first_so (not (test n)) (list_all (λ m. not (test m)) leaves) low in
      let others = second_so (not (test n)) (list_all (λ m. not (test m)) leaves) low in
      subst (λ (l : List (List Bool)). ComesBy w (split_leaf w name l) (n ∷ leaves)) e
      (by_test (same_name n name) (same_name-decides n name).0 own (split-behind rest leaves inner f others [] rest refl))
    where
      by_test : (b : Bool) → (b ≡ true → n ≡ name) → not (test n) ≡ true → ComesBy w (split_leaf w name rest) leaves
          → ComesBy w (cond b (children w name ++ rest) (n ∷ split_leaf w name rest)) (n ∷ leaves)
      by_test true same own behind = absurd (true≢false (sym own ∙ ap not (ap test (same refl) ∙ passes)))
      by_test false same own behind = (behind.0, leaf n (split_leaf w name rest) leaves behind.0 behind.1)
  split-behind _ _ _ (leaf n rest leaves inner f) low (c ∷ front) roots e =
      let others = second_so (not (test n)) (list_all (λ m. not (test m)) leaves) low in
      let behind = split-behind rest leaves inner f others front roots (cc e) in
      let first : n ≡ c = cc e in
      subst (λ (m : List Bool). ComesBy w (m ∷ front ++ split_leaf w name roots) (n ∷ leaves)) first
      (behind.0, leaf n (front ++ split_leaf w name roots) leaves behind.0 behind.1)
  split-behind _ _ _ (split n rest leaves inner f) low [] roots e =
      subst (λ (l : List (List Bool)). ComesBy w (split_leaf w name l) leaves) e
      (by_test (same_name n name) (same_name-decides n name).0 (split-behind (children w n ++ rest) leaves inner f low (children w n) rest refl))
    where
      by_test : (b : Bool) → (b ≡ true → n ≡ name) → ComesBy w (children w n ++ split_leaf w name rest) leaves
          → ComesBy w (cond b (children w name ++ rest) (n ∷ split_leaf w name rest)) leaves
      by_test true same behind = subst (λ (m : List Bool). ComesBy w (children w m ++ rest) leaves) (same refl) (inner, f)
      by_test false same behind = (n ∷ behind.0, split n (split_leaf w name rest) leaves behind.0 behind.1)
  split-behind _ _ _ (split n rest leaves inner f) low (c ∷ front) roots e =
      let later : rest ≡ front ++ roots = cc e in
      let first : n ≡ c = cc e in
      let below = split-behind (children w n ++ rest) leaves inner f low (children w n ++ front) roots
      (ap (λ (l : List (List Bool)). children w n ++ l) later ∙ sym (append_assoc (children w n) front roots)) in
      let behind : ComesBy w (children w n ++ (front ++ split_leaf w name roots)) leaves =
      subst (λ (l : List (List Bool)). ComesBy w l leaves) (append_assoc (children w n) front (split_leaf w name roots)) below in
      subst (λ (m : List Bool). ComesBy w (m ∷ front ++ split_leaf w name roots) leaves) first
      (n ∷ behind.0, split n (front ++ split_leaf w name roots) leaves behind.0 behind.1)

-- The same after the splits of any names that pass the test.
splits-behind : (w : ℕ) (test : List Bool → Bool) (leaves : List (List Bool)) → NonePass test leaves → (names : List (List Bool)) → AllByRecursion (λ name. IsTrue (test name)) names
    → (roots : List (List Bool)) → ComesBy w roots leaves → ComesBy w (fold (λ (ls : List (List Bool)) name. split_leaf w name ls) roots names) leaves
splits-behind w test leaves low [] pass roots by = by
splits-behind w test leaves low (name ∷ names) pass roots by =
    splits-behind w test leaves low names pass.1 (split_leaf w name roots) (split-behind w test name pass.0 roots leaves by.0 by.1 low [] roots refl)

-- Other leaves that come by splits, with no leaf to split for that size, aren't fewer.
pub fewest : (w size : ℕ) (world : World) (leaves other : List (List Bool)) → FitsSize w size world leaves → ComesBySplits w other → IsSized w size world other
    → length leaves ≤ length other
fewest w size world leaves other fits by sized =
    let made : List (List Bool) = fold (λ (ls : List (List Bool)) name. split_leaf w name ls) ([] ∷ []) fits.comes.names in
    let both : ComesBy w made other =
    splits-behind w (is_over w size (places_of world)) other sized fits.comes.names fits.comes.needed ([] ∷ []) (forest_of w other by) in
    omega (arith, ap length fits.comes.leaves_are, no_fewer w made other both.0 both.1)
