-- Fences from code, checked one after the other.
use Rattle.std.proofs.Common.{◌≡◌, ◌≤◌, ◌<◌, ◌+◌, ◌∙◌, ℕ, Bool, true, false, cond, List, [], ◌∷◌, ◌++◌, length, take, drop, get_or, Option, Some, None, refl, sym, ap, subst, arith}
use Rattle.std.specs.Prelude.{nat_lt}
use Rattle.std.proofs.lemmas.Bool.{lt-ltb}
use Rattle.std.proofs.lemmas.Bool.Decides.{nat_tests}
use Rattle.std.proofs.lemmas.List.{drop_more, drop_all, length-take-le, take_all, take_more}
use Rattle.fence_watch.specs.declared.fences.Fence.{Fence}
use Rattle.fence_watch.specs.declared.making.BadFences.{BadFences}
use Rattle.fence_watch.specs.declared.making.BadFences.TheVariants.{TooMany, NoBox, Twice}
use Rattle.fence_watch.specs.Fences.{AreFences, IsFence, has_fence}
use Rattle.fence_watch.specs.FenceFaults.{is_box, fault_behind, first_of_two, fault_among, fault_of}
use Rattle.fence_watch.proofs.MoreFences.{fence-more}

-- The first `i` fences keep the rules.
pub record Looked (i : ℕ) (fences : List Fence) : Type 0 where
  pub same : fault_among [] fences ≡ fault_among (take i fences) (drop i fences)
  pub good : AreFences (take i fences)

pub looked-first : (fences : List Fence) → Looked 0 fences
looked-first fences = record { same = refl; good = record { each = tt; distinct = tt; most = omega arith } }

no-more : (n : ℕ) → n ≤ 256 → nat_lt 256 n ≡ false
no-more n few = grind (arith, nat_tests)

fault-few : (fences : List Fence) → length fences ≤ 256 → fault_of fences ≡ fault_among [] fences
fault-few fences few = ap (λ b. cond b (Some TooMany) (fault_among [] fences)) (no-more (length fences) few)

pub too-many : (fences : List Fence) → 256 < length fences → fault_of fences ≡ Some TooMany
too-many fences many = ap (λ b. cond b (Some TooMany) (fault_among [] fences)) (lt-ltb 256 (length fences) many)

new-id : (earlier : List Fence) (f : Fence) → fault_behind earlier f ≡ None → has_fence f.id earlier ≡ false
new-id earlier f none = by_test (is_box f.region) (has_fence f.id earlier) none
  where
    by_test : (box there : Bool) → cond box (cond there (Some (Twice (length earlier))) None) (Some (NoBox (length earlier))) ≡ None → there ≡ false
    by_test true true e = cc e
    by_test true false e = refl
    by_test false there e = cc e

-- The next one.
module _ (i : ℕ) (fences : List Fence) (d : Fence) (lt : i < length fences) (few : length fences ≤ 256) (looked : Looked i fences) where
  split : fault_among (take i fences) (drop i fences) ≡ first_of_two (fault_behind (take i fences) (get_or fences i d)) (fault_among (take i fences ++ get_or fences i d ∷ []) (drop (i + 1) fences))
  split = ap (fault_among (take i fences)) (drop_more fences i d lt)

  pub looked-next : fault_behind (take i fences) (get_or fences i d) ≡ None → IsFence (get_or fences i d) → Looked (i + 1) fences
  looked-next none fence = record {
    same = looked.same ∙ split
        ∙ ap (λ (o : Option BadFences). first_of_two o (fault_among (take i fences ++ get_or fences i d ∷ []) (drop (i + 1) fences))) none
        ∙ ap (λ (l : List Fence). fault_among l (drop (i + 1) fences)) (sym (take_more fences i d lt));
    good = subst AreFences (sym (take_more fences i d lt))
        (fence-more (take i fences) (get_or fences i d) (omega (arith, length-take-le i fences (omega (arith, lt)), few, lt)) (record { fence = fence; other = new-id (take i fences) (get_or fences i d) none }) looked.good);
  }

  pub looked-fault : (e : BadFences) → fault_behind (take i fences) (get_or fences i d) ≡ Some e → fault_of fences ≡ Some e
  looked-fault e at = fault-few fences few ∙ looked.same ∙ split
      ∙ ap (λ (o : Option BadFences). first_of_two o (fault_among (take i fences ++ get_or fences i d ∷ []) (drop (i + 1) fences))) at

-- All of them.
module _ (i : ℕ) (fences : List Fence) (le : length fences ≤ i) (few : length fences ≤ 256) (looked : Looked i fences) where
  pub looked-none : fault_of fences ≡ None
  looked-none = fault-few fences few ∙ looked.same ∙ ap (fault_among (take i fences)) (drop_all i fences le)

  pub looked-all : AreFences fences
  looked-all = subst AreFences (take_all i fences le) looked.good
