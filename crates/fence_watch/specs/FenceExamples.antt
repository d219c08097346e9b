-- Worked fences.
use Rattle.std.specs.Prelude.{◌≡◌, ℕ, [], ◌∷◌, Some, None}
use Rattle.std.proofs.Common.{refl}
use Rattle.fence_watch.specs.declared.fences.Fence.{Fence}
use Rattle.fence_watch.specs.declared.making.BadFences.TheVariants as bad
use Rattle.fence_watch.specs.FenceFaults.{fault_of}

abbrev fence : (id x y a b : ℕ) → Fence
fence id x y a b = record { id = id; region = record { lo = record { x = x; y = y }; hi = record { x = a; y = b } } }

-- Fences from code: one that is no box, an id for the second time, and both together.
no_box : fault_of (fence 1 0 0 5 5 ∷ fence 2 5 0 4 5 ∷ []) ≡ Some (bad.NoBox 1)
no_box = refl

twice : fault_of (fence 1 0 0 5 5 ∷ fence 2 5 0 5 0 ∷ fence 1 4 4 9 9 ∷ []) ≡ Some (bad.Twice 2)
twice = refl

both_at_once : fault_of (fence 1 0 0 5 5 ∷ fence 1 4 4 9 3 ∷ []) ≡ Some (bad.NoBox 1)
both_at_once = refl

good : fault_of (fence 1 0 0 5 5 ∷ fence 2 4 4 9 9 ∷ []) ≡ None
good = refl
