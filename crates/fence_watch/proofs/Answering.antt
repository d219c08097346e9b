-- The ids inside the fence of a number, as a watch that follows cells returns them.
use Rattle.std.proofs.Common.{◌≡◌, ℕ, zero, suc, ◌<◌, Bool, true, false, List, [], ◌∷◌, length, map, get_or, Option, Some, None, refl, sym, ◌∙◌, ap, subst, arith, cond, ◌==◌}
use Rattle.std.specs.Option.{MatchOption}
use Rattle.std.proofs.lemmas.Bool.{eq-eqb, eqb-true}
use Rattle.cell_format.specs.declared.cell.Cell.{Cell}
use Rattle.plain_list.specs.World.{World}
use Rattle.log_state.specs.Recovers.{state_of}
use Rattle.fence_watch.specs.declared.fences.Fence.{Fence}
use Rattle.fence_watch.specs.Fences.{AreOthers, AreDistinct, inside_of}
use Rattle.fence_watch.specs.Crossings.{world_after_cells}
use Rattle.fence_watch.specs.Watches.{Guard, WatchView, guard_in, inside_at, IsInside, FollowsCells}
use Rattle.fence_watch.proofs.Following.{world-of_state}

true_false : true ≡ false → ⊥
true_false t = cc t

behind : (id : ℕ) (world : World) (f : Fence) (fences : List Fence) (ids : List ℕ) → IsInside id world fences ids → IsInside id world (f ∷ fences) ids
behind id world f fences ids is = record {
  fence = is.fence;
  there = (suc is.there.0, omega (arith, is.there.1), is.there.2);
  named = is.named;
  ids = is.ids;
}

answers : (id : ℕ) (world : World) (fences : List Fence) → MatchOption (inside_at id (map (guard_in world) fences)) (AreOthers id fences) (λ ids. IsInside id world fences ids)
answers id world [] = tt
answers id world (f ∷ fences) = by_test (f.id == id) refl (inside_at id (map (guard_in world) fences)) (answers id world fences)
  where
    by_test : (b : Bool) → (f.id == id) ≡ b → (o : Option (List ℕ)) → MatchOption o (AreOthers id fences) (λ ids. IsInside id world fences ids)
        → MatchOption (cond b (Some (inside_of world f)) o) (AreOthers id (f ∷ fences)) (λ ids. IsInside id world (f ∷ fences) ids)
    by_test true same o rest = record { fence = f; there = (0, omega arith, refl); named = eqb-true f.id id same; ids = refl }
    by_test false other None rest = ((λ is. true_false (sym (eq-eqb f.id id is) ∙ other)), rest)
    by_test false other (Some ids) rest = behind id world f fences ids rest

-- The same, as a watch that holds a world returns them.
told : (world : World) (fences : List Fence) (v : WatchView) (id : ℕ) → v.guards ≡ map (guard_in world) fences → MatchOption (inside_at id v.guards) (AreOthers id fences) (λ ids. IsInside id world fences ids)
told world fences v id is = subst (λ (guards : List Guard). MatchOption (inside_at id guards) (AreOthers id fences) (λ ids. IsInside id world fences ids)) (sym is) (answers id world fences)

pub some-in : (world : World) (fences : List Fence) (v : WatchView) (id : ℕ) (ids : List ℕ) → inside_at id v.guards ≡ Some ids → v.guards ≡ map (guard_in world) fences → IsInside id world fences ids
some-in world fences v id ids is held =
    let t : MatchOption (Some ids) (AreOthers id fences) (λ ids. IsInside id world fences ids) =
    subst (λ (o : Option (List ℕ)). MatchOption o (AreOthers id fences) (λ ids. IsInside id world fences ids)) is (told world fences v id held) in
    t

pub none-in : (world : World) (fences : List Fence) (v : WatchView) (id : ℕ) → inside_at id v.guards ≡ None → v.guards ≡ map (guard_in world) fences → AreOthers id fences
none-in world fences v id is held =
    let t : MatchOption None (AreOthers id fences) (λ ids. IsInside id world fences ids) =
    subst (λ (o : Option (List ℕ)). MatchOption o (AreOthers id fences) (λ ids. IsInside id world fences ids)) is (told world fences v id held) in
    t

-- The same, in terms of the state after the cells.
pub some-follows : (w : ℕ) (cells : List Cell) (fences : List Fence) (v : WatchView) (id : ℕ) (ids : List ℕ) → inside_at id v.guards ≡ Some ids → FollowsCells cells fences v → IsInside id (state_of w cells).world fences ids
some-follows w cells fences v id ids is f = some-in (state_of w cells).world fences v id ids is (f.guards ∙ ap (λ (world : World). map (guard_in world) fences) (sym (world-of_state w cells)))

pub none-follows : (cells : List Cell) (fences : List Fence) (v : WatchView) (id : ℕ) → inside_at id v.guards ≡ None → FollowsCells cells fences v → AreOthers id fences
none-follows cells fences v id is f = none-in (world_after_cells [] cells) fences v id is f.guards

-- If the fences are distinct, the fence of a number is found.
pub inside-named : (world : World) (fences : List Fence) (i : ℕ) (d : Fence) → AreDistinct fences → i < length fences
    → inside_at (get_or fences i d).id (map (guard_in world) fences) ≡ Some (inside_of world (get_or fences i d))
inside-named world [] i d distinct lt = absurd (omega (arith, lt))
inside-named world (f ∷ fences) zero d distinct lt = ap (λ b. cond b (Some (inside_of world f)) (inside_at f.id (map (guard_in world) fences))) (eq-eqb f.id f.id refl)
inside-named world (f ∷ fences) (suc i) d distinct lt =
    by_test (f.id == (get_or fences i d).id) (λ e. other fences i distinct.0 (omega (arith, lt)) (sym (eqb-true f.id (get_or fences i d).id e)))
    ∙ inside-named world fences i d distinct.1 (omega (arith, lt))
  where
    other : (rest : List Fence) (k : ℕ) → AreOthers f.id rest → k < length rest → (get_or rest k d).id ≡ f.id → ⊥
    other [] k others lt is = absurd (omega (arith, lt))
    other (g ∷ rest) zero others lt is = others.0 is
    other (g ∷ rest) (suc k) others lt is = other rest k others.1 (omega (arith, lt)) is

    by_test : (b : Bool) → (b ≡ true → ⊥) → cond b (Some (inside_of world f)) (inside_at (get_or fences i d).id (map (guard_in world) fences)) ≡ inside_at (get_or fences i d).id (map (guard_in world) fences)
    by_test true never = absurd (never refl)
    by_test false never = refl
