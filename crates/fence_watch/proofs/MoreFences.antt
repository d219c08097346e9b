-- Fences with one more.
use Rattle.std.proofs.Common.{◌≡◌, ◌≢◌, ◌<◌, ◌==◌, ◌||◌, Bool, true, false, List, [], ◌∷◌, ◌++◌, length, refl, sym, arith, length-append}
use Rattle.std.proofs.lemmas.Bool.{eqb-false}
use Rattle.std.specs.List.{AllByRecursion}
use Rattle.fence_watch.specs.declared.fences.Fence.{Fence}
use Rattle.fence_watch.specs.Fences.{AreDistinct, AreFences, IsFence, has_fence}

-- A fence whose id no earlier one has.
pub record IsNew (earlier : List Fence) (f : Fence) : Type 0 where
  pub fence : IsFence f
  pub other : has_fence f.id earlier ≡ false

all-more : (P : Fence → Type 0) (fences : List Fence) (f : Fence) → AllByRecursion P fences → P f → AllByRecursion P (fences ++ f ∷ [])
all-more P [] f all last = (last, tt)
all-more P (g ∷ fences) f all last = (all.0, all-more P fences f all.1 last)

or-parts : (a b : Bool) → (a || b) ≡ false → (a ≡ false) × (b ≡ false)
or-parts false b e = (refl, e)
or-parts true b e = cc e

distinct-more : (fences : List Fence) (f : Fence) → AreDistinct fences → has_fence f.id fences ≡ false → AreDistinct (fences ++ f ∷ [])
distinct-more [] f distinct other = (tt, tt)
distinct-more (g ∷ fences) f distinct other =
    let parts = or-parts (g.id == f.id) (has_fence f.id fences) other in
    (all-more (λ (h : Fence). h.id ≢ g.id) fences f distinct.0 (λ same. eqb-false g.id f.id parts.0 (sym same)), distinct-more fences f distinct.1 parts.1)

-- One more fence.
pub fence-more : (fences : List Fence) (f : Fence) → length fences < 256 → IsNew fences f → AreFences fences → AreFences (fences ++ f ∷ [])
fence-more fences f few new good = record {
  each = all-more IsFence fences f good.each new.fence;
  distinct = distinct-more fences f good.distinct new.other;
  most = omega (arith, few, length-append fences (f ∷ []));
}
