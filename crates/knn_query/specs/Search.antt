-- The state of a best-first search.
use Rattle.std.specs.Prelude.{◌≡◌, ◌⊎◌, ◌≤◌, ◌<◌, ◌+◌, ◌∷◌, ◌++◌, [], ℕ, Bool, true, false, nat_le, List, Option, Some, None, length}
use Rattle.std.specs.Arc.{arc_value}
use Rattle.std.specs.declared.sync.Arc.{Arc}
use denote.Ref.{Bor}
use Rattle.std.specs.List.{All, sum_by}
use Rattle.std.specs.List.Sorted.{IsPermutation}
use Rattle.zorder.specs.declared.points.Point.{Point}
use Rattle.zorder.specs.declared.points.Region.{Region}
use Rattle.bucket_versions.specs.Rows.{Rows}
use Rattle.index_layer.specs.Leaves.{Leaf, leaf_named}
use Rattle.table_share.specs.Subtree.{leaves_of}
use Rattle.table_share.specs.Standing.{OfPlaces}
use Rattle.knn_query.specs.Ahead.{least_to, reach_of, number_nearer, IsAhead, leaves_ahead, objects_ahead, Searches, weight_of}
use Rattle.knn_query.specs.Passes.{held, IsHeld}
use Rattle.knn_query.specs.Waiting.{waiting_at, IsOrder}
use Rattle.knn_query.specs.declared.ahead.Ahead.{Ahead}
use Rattle.knn_query.specs.declared.ahead.Waiting.{Waiting}
use Rattle.knn_query.specs.declared.kept.Kept.{Kept}

-- all names (every), and names whose region may have a point within this squared distance (within)
abbrev pub every : List Bool → Bool
every name = true

abbrev pub within : Point → ℕ → List Bool → Bool
within p reach name = nat_le (least_to p name) reach

-- of the leaves that pass the test, at most those that are not left were opened
abbrev pub Counts : List Leaf → ℕ → (List Bool → Bool) → ℕ → List Leaf → Type 0
Counts leaves before passes now left = now + length (leaves_of passes left) ≤ before + length (leaves_of passes leaves)

-- the same for the leaves that may have a point as near as the k-th object, if there are k objects
abbrev pub CountsNear : Point → ℕ → List Leaf → ℕ → ℕ → List Leaf → Type 0
CountsNear p k leaves before now left = OfPlaces leaves (λ places. (d : _) → k ≤ length places → Counts leaves before (within p (reach_of p k places d)) now left)

-- the state after `now` steps: the unopened subtrees, and the kept objects
pub record State (p : Point) (k : ℕ) (leaves : List Leaf) (before now : ℕ) (ahead : List Ahead) (kept : Kept) : Type 0 where
  pub from : kept.from ≡ p
  pub k_is : kept.k ≡ k
  pub is_held : IsHeld kept
  pub are : All (IsAhead p) ahead
  pub searches : OfPlaces leaves (λ places. Searches p k places (objects_ahead leaves ahead) kept)
  pub opened : Counts leaves before every now (leaves_ahead leaves ahead)
  pub near : CountsNear p k leaves before now (leaves_ahead leaves ahead)
  pub some : now ≡ before → held kept ≡ []

-- fewer than k kept objects are nearer than this subtree, and no waiting subtree is nearer
pub record IsWanted (kept : Kept) (a : Ahead) (waiting : List Ahead) : Type 0 where
  pub is_held : IsHeld kept
  pub some : 1 ≤ kept.k
  pub is : IsAhead kept.from a
  pub low : All (λ (b : Ahead). a.least.0 ≤ b.least.0) waiting
  pub few : number_nearer kept.from a.least.0 (held kept) < kept.k

-- of the unopened subtrees, a leaf with this bucket and those in `new` are left; the rest has none of the nearest
-- objects
pub record LeadsTo (leaves : List Leaf) (b : Rows) (kept : Kept) (old new : List Ahead) : Type 0 where
  pub leaf : Ahead
  pub found : leaf_named leaf.name leaves ≡ Some (record { name = leaf.name; bucket = b })
  pub wanted : IsWanted kept leaf new
  pub less : sum_by weight_of new < sum_by weight_of old
  pub state : (p : Point) (k before now : ℕ) → State p k leaves before now old kept → State p k leaves before now (leaf ∷ new) kept

-- of the unopened subtrees, those in `new` are left; the rest has none of the nearest objects
pub record LeadsNowhere (leaves : List Leaf) (kept : Kept) (old new : List Ahead) : Type 0 where
  pub less : sum_by weight_of new < sum_by weight_of old
  pub state : (p : Point) (k before now : ℕ) → State p k leaves before now old kept → State p k leaves before now new kept

-- Some: the search comes to a leaf with this bucket. None: it comes to no leaf.
abbrev pub Leads : {Z : Type 0} → List Leaf → Kept → List Ahead → List Ahead → Option (Region × Bor (Arc Rows Z)) → Type 0
Leads leaves kept old new None = LeadsNowhere leaves kept old new
Leads leaves kept old new (Some found) = LeadsTo leaves (arc_value found.1.now) kept old new

-- the two halves at these places, the nearer first; the nearer half is as near as the whole
pub record AreHalves {P : Type 0} (p : Point) (a : Ahead) (zero one : P) (near far : Waiting P) : Type 0 where
  pub fore : Ahead
  pub hind : Ahead
  pub fore_name : fore.name ≡ a.name ++ false ∷ []
  pub hind_name : hind.name ≡ a.name ++ true ∷ []
  pub fore_is : IsAhead p fore
  pub hind_is : IsAhead p hind
  pub order : IsOrder (waiting_at fore zero) (waiting_at hind one) near far
  pub as_near : near.ahead.least.0 ≤ a.least.0

-- either the subtree waits too, or k kept objects are nearer
abbrev pub IsPutOrOut : {P : Type 0} → Kept → Waiting P → List (Waiting P) → List (Waiting P) → Type 0
IsPutOrOut kept far old new = IsPermutation (far ∷ old) new ⊎ ((new ≡ old) × (kept.k ≤ number_nearer kept.from far.ahead.least.0 (held kept)))
