-- The unopened subtrees of a search, each with its place in the index.
use Rattle.std.specs.Prelude.{◌≡◌, ◌≤◌, ◌⊎◌, ◌∷◌, Bool, List, map}
use Rattle.std.specs.declared.cmp.Ordering.{Ordering}
use Rattle.std.specs.Ordering.{nat_cmp}
use Rattle.std.specs.List.{All}
use Rattle.std.specs.List.Sorted.{IsPermutation}
use denote.Ref.{Bor}
use Rattle.knn_query.specs.declared.ahead.Ahead.{Ahead}
use Rattle.knn_query.specs.declared.ahead.Waiting.{Waiting}

-- a subtree and its place
abbrev pub waiting_at : {P : Type 0} → Ahead → P → Waiting P
waiting_at a p = record { ahead = a; place = p }

-- the order of the heap: the nearer subtree is the greater one
abbrev pub waiting_cmp : {P : Type 0} → Waiting P → Waiting P → Ordering
waiting_cmp v w = nat_cmp w.ahead.least.0 v.ahead.least.0

-- the subtrees without their places
abbrev pub ahead_of : {P : Type 0} → List (Waiting P) → List Ahead
ahead_of {P} waiting = map (λ (w : Waiting P). w.ahead) waiting

-- the nearest subtree was removed from the heap
pub record IsNearest {P : Type 0} (w : Waiting P) (old new : List (Waiting P)) : Type 0 where
  pub taken : IsPermutation old (w ∷ new)
  pub low : All (λ (v : Waiting P). w.ahead.least.0 ≤ v.ahead.least.0) (w ∷ new)

-- the two subtrees in either order, the first no farther than the second
pub record IsOrder {P : Type 0} (one two near far : Waiting P) : Type 0 where
  pub either : ((near ≡ one) × (far ≡ two)) ⊎ ((near ≡ two) × (far ≡ one))
  pub low : near.ahead.least.0 ≤ far.ahead.least.0

-- each place has the name of its subtree
abbrev pub AreAt : {P : Type 0} → (P → List Bool → Type 0) → List (Waiting (Bor P)) → Type 0
AreAt {P} is_at waiting = All (λ (w : Waiting (Bor P)). is_at w.place.now w.ahead.name) waiting
