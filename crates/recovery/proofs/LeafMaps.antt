-- A map from first keys to leaves that tile the key space, and the list of leaves that it represents.
use Rattle.std.proofs.Common.{◌≡◌, ◌≢◌, ℕ, suc, ◌+◌, ◌-◌, ◌*◌, ◌^◌, ◌<◌, ◌≤◌, Bool, true, false, ◌&&◌, inl, inr, ◌==◌, List, [], ◌∷◌, ◌++◌, length, map, Option, Some, None, is_some, refl, sym, ◌∙◌, ap, arith, cond, length-append, append_assoc}
use Rattle.std.specs.Prelude.{nat_le, ◌||◌}
use Rattle.std.specs.Cmp.{first_so, second_so}
use Rattle.std.specs.Ordering.{nat_cmp}
use Rattle.std.specs.BTreeMap.{insert_entry, is_at}
use Rattle.std.specs.Map.{lookup}
use Rattle.std.proofs.lemmas.Bool.{leb-true, eqb-true, cases_Bool}
use Rattle.std.proofs.lemmas.Bool.Decides.{nat_tests}
use Rattle.std.proofs.lemmas.Grind.{common_steps}
use Rattle.std.proofs.lemmas.Nat.{pow_pos}
use Rattle.std.proofs.Math.Nat.{pow-succ'}
use mathlib.Core.Bool.{true≢false}
use Rattle.zorder.specs.Name.{first_key}
use Rattle.zorder.specs.SameName.{same_name, same_name-decides}
use Rattle.zorder.specs.Tile.{tiles_from, next_key}
use Rattle.zorder.proofs.Tiles.{first_left, first_right, halves}
use Rattle.plain_list.specs.State.{is_leaf, split_leaf}
use Rattle.recovery.specs.declared.leaf_map.MarkedLeaf.{MarkedLeaf}
use Rattle.recovery.specs.LeafMap.{leaves_of, IsLeafMap, keyed, names_of, split_at, with_begun, new_leaf, halved, KeepsMarks}

pub same : (a b : List Bool) → same_name a b ≡ true → a ≡ b
same a b e = (same_name-decides a b).0 e

pub one : (a b : List Bool) → a ≡ b → same_name a b ≡ true
one a b e = (same_name-decides a b).1 e

pub differs : (a b : List Bool) → (a ≡ b → ⊥) → same_name a b ≡ false
differs a b other = elim (cases_Bool (same_name a b)) [
  | inl e ↦ absurd (other (same a b e))
  | inr e ↦ e
]

pub first_key-next : (name : List Bool) → first_key name < next_key name
first_key-next name = omega (arith, pow_pos (64 - length name))

-- What holds of the first leaf, if the leaves tile the keys from `k` on.
module _ (k : ℕ) (l : MarkedLeaf) (leaves : List MarkedLeaf) (tile : tiles_from k (names_of (l ∷ leaves)) ≡ true) where
  pub tile_short : length l.name ≤ 64
  tile_short =
      leb-true (length l.name) 64 (first_so (nat_le (length l.name) 64) (first_key l.name == k) (first_so (nat_le (length l.name) 64 && (first_key l.name == k)) (tiles_from (next_key l.name) (names_of leaves)) tile))

  pub tile_first : first_key l.name ≡ k
  tile_first =
      eqb-true (first_key l.name) k (second_so (nat_le (length l.name) 64) (first_key l.name == k) (first_so (nat_le (length l.name) 64 && (first_key l.name == k)) (tiles_from (next_key l.name) (names_of leaves)) tile))

  pub tile_rest : tiles_from (next_key l.name) (names_of leaves) ≡ true
  tile_rest = second_so (nat_le (length l.name) 64 && (first_key l.name == k)) (tiles_from (next_key l.name) (names_of leaves)) tile

or_false : (a b : Bool) → a ≡ false → (a || b) ≡ true → b ≡ true
or_false true b e h = absurd (true≢false e)
or_false false b e h = h

-- A leaf that isn't the first is one of the others.
pub rest_leaf : (l : MarkedLeaf) (leaves : List MarkedLeaf) (name : List Bool) → same_name l.name name ≡ false → is_leaf (names_of (l ∷ leaves)) name ≡ true → is_leaf (names_of leaves) name ≡ true
rest_leaf l leaves name other leaf = or_false (same_name l.name name) (is_leaf (names_of leaves) name) other leaf

-- No leaf begins before the first one does.
pub leaf_from : (k : ℕ) (leaves : List MarkedLeaf) (name : List Bool) → tiles_from k (names_of leaves) ≡ true → is_leaf (names_of leaves) name ≡ true → k ≤ first_key name
leaf_from k [] name tile leaf = absurd (true≢false (sym leaf))
leaf_from k (l ∷ leaves) name tile leaf = elim (cases_Bool (same_name l.name name)) [
  | inl e ↦ omega (arith, tile_first k l leaves tile, ap first_key (same l.name name e))
  | inr e ↦ omega (arith, tile_first k l leaves tile, first_key-next l.name, leaf_from (next_key l.name) leaves name (tile_rest k l leaves tile) (rest_leaf l leaves name e leaf))
]

-- A leaf that isn't the first begins after it.
later : (k : ℕ) (l : MarkedLeaf) (leaves : List MarkedLeaf) (name : List Bool) → tiles_from k (names_of (l ∷ leaves)) ≡ true → same_name l.name name ≡ false → is_leaf (names_of (l ∷ leaves)) name ≡ true
    → next_key l.name ≤ first_key name
later k l leaves name tile other leaf = leaf_from (next_key l.name) leaves name (tile_rest k l leaves tile) (rest_leaf l leaves name other leaf)

-- A name differs from each of its halves.
longer : (name : List Bool) (b : Bool) → name ≡ name ++ b ∷ [] → ⊥
longer name b e = absurd (omega (arith, ap length e, length-append name (b ∷ [])))

half_first : (name : List Bool) (b : Bool) → length name + 1 ≤ 64 → (first_key name ≤ first_key (name ++ b ∷ [])) × (first_key (name ++ b ∷ []) < next_key name)
half_first name false room = (omega (arith, first_left name room), omega (arith, first_left name room, first_key-next name))
half_first name true room =
    let e : 64 - length name ≡ suc (63 - length name) = omega (arith, room) in
    let double : 2 ^ suc (63 - length name) ≡ 2 * 2 ^ (63 - length name) = pow-succ' 2 (63 - length name) in
    (omega (arith, first_right name room), omega (arith, first_right name room, ap (λ n. 2 ^ n) e, double, pow_pos (63 - length name)))

-- No leaf has the name of a half of another leaf.
pub no_half : (k : ℕ) (leaves : List MarkedLeaf) (name : List Bool) (b : Bool) → length name + 1 ≤ 64 → tiles_from k (names_of leaves) ≡ true → is_leaf (names_of leaves) name ≡ true → is_leaf (names_of leaves) (name ++ b ∷ []) ≡ true → ⊥
no_half k [] name b room tile leaf half = true≢false (sym leaf)
no_half k (l ∷ leaves) name b room tile leaf half =
    let inside = half_first name b room in
    elim (cases_Bool (same_name l.name name)) [
      | inl e ↦
          let other : same_name l.name (name ++ b ∷ []) ≡ false = differs l.name (name ++ b ∷ []) (λ h. longer name b (sym (same l.name name e) ∙ h)) in
          omega (arith, later k l leaves (name ++ b ∷ []) tile other half, inside.1, ap next_key (same l.name name e))
      | inr e ↦ elim (cases_Bool (same_name l.name (name ++ b ∷ []))) [
        | inl h ↦ omega (arith, later k l leaves name tile e leaf, inside.0, first_key-next l.name, ap first_key (same l.name (name ++ b ∷ []) h))
        | inr h ↦ no_half (next_key l.name) leaves name b room (tile_rest k l leaves tile) (rest_leaf l leaves name e leaf) (rest_leaf l leaves (name ++ b ∷ []) h half)
      ]
    ]

-- What the leaf at a name's first key says about the name.
abbrev pub picked : List Bool → Option MarkedLeaf → Option ℕ
picked name None = None
picked name (Some l) = cond (same_name l.name name) (Some l.split) None

split_at-before : (k : ℕ) (leaves : List MarkedLeaf) (name : List Bool) → tiles_from k (names_of leaves) ≡ true → first_key name < k → split_at leaves name ≡ None
split_at-before k [] name tile lt = refl
split_at-before k (l ∷ leaves) name tile lt =
    let other : same_name l.name name ≡ false = differs l.name name (λ e. omega (arith, ap first_key e, tile_first k l leaves tile, lt)) in
    let rest : split_at leaves name ≡ None = split_at-before (next_key l.name) leaves name (tile_rest k l leaves tile) (omega (arith, first_key-next l.name, tile_first k l leaves tile, lt)) in
    grind (arith, common_steps)

pub picked-lookup : (k : ℕ) (leaves : List MarkedLeaf) (name : List Bool) → tiles_from k (names_of leaves) ≡ true
    → picked name (lookup (is_at (nat_cmp (first_key name))) (map keyed leaves)) ≡ split_at leaves name
picked-lookup k [] name tile = refl
picked-lookup k (l ∷ leaves) name tile =
    let rest : picked name (lookup (is_at (nat_cmp (first_key name))) (map keyed leaves)) ≡ split_at leaves name = picked-lookup (next_key l.name) leaves name (tile_rest k l leaves tile) in
    elim (cases_Bool (same_name l.name name)) [
      | inl e ↦
          let key : first_key l.name ≡ first_key name = ap first_key (same l.name name e) in
          grind (arith, nat_tests, common_steps)
      | inr e ↦
          let none : first_key l.name ≡ first_key name → split_at leaves name ≡ None =
          λ key. split_at-before (next_key l.name) leaves name (tile_rest k l leaves tile) (omega (arith, key, first_key-next l.name)) in
          grind (arith, nat_tests, common_steps)
    ]

-- A leaf is found at its first key.
pub lookup-leaf : (k : ℕ) (leaves : List MarkedLeaf) (name : List Bool) → tiles_from k (names_of leaves) ≡ true → is_leaf (names_of leaves) name ≡ true
    → (l : MarkedLeaf) × (lookup (is_at (nat_cmp (first_key name))) (map keyed leaves) ≡ Some l)
lookup-leaf k [] name tile leaf = absurd (true≢false (sym leaf))
lookup-leaf k (l ∷ leaves) name tile leaf = elim (cases_Bool (same_name l.name name)) [
  | inl e ↦
      let key : first_key l.name ≡ first_key name = ap first_key (same l.name name e) in
      (l, grind (arith, nat_tests, common_steps))
  | inr e ↦
      let rest = lookup-leaf (next_key l.name) leaves name (tile_rest k l leaves tile) (rest_leaf l leaves name e leaf) in
      let found : lookup (is_at (nat_cmp (first_key name))) (map keyed leaves) ≡ Some rest.0 = rest.1 in
      let lt : first_key l.name < first_key name = omega (arith, later k l leaves name tile e leaf, first_key-next l.name) in
      (rest.0, grind (arith, nat_tests, common_steps))
]

with_begun-before : (k : ℕ) (leaves : List MarkedLeaf) (name : List Bool) (number : ℕ) → tiles_from k (names_of leaves) ≡ true → first_key name < k → with_begun name number leaves ≡ leaves
with_begun-before k [] name number tile lt = refl
with_begun-before k (l ∷ leaves) name number tile lt =
    let other : same_name l.name name ≡ false = differs l.name name (λ e. omega (arith, ap first_key e, tile_first k l leaves tile, lt)) in
    let rest : with_begun name number leaves ≡ leaves = with_begun-before (next_key l.name) leaves name number (tile_rest k l leaves tile) (omega (arith, first_key-next l.name, tile_first k l leaves tile, lt)) in
    λ i. cond (other i) (record { name = name; split = number }) l ∷ rest i

-- A leaf that is inserted at the first key of its own name replaces the old one.
pub keyed-with_begun : (k : ℕ) (leaves : List MarkedLeaf) (name : List Bool) (number : ℕ) → tiles_from k (names_of leaves) ≡ true → is_leaf (names_of leaves) name ≡ true
    → insert_entry nat_cmp (map keyed leaves) (first_key name) (record { name = name; split = number }) ≡ map keyed (with_begun name number leaves)
keyed-with_begun k [] name number tile leaf = absurd (true≢false (sym leaf))
keyed-with_begun k (l ∷ leaves) name number tile leaf = elim (cases_Bool (same_name l.name name)) [
  | inl e ↦
      let key : first_key l.name ≡ first_key name = ap first_key (same l.name name e) in
      let rest : with_begun name number leaves ≡ leaves = with_begun-before (next_key l.name) leaves name number (tile_rest k l leaves tile) (omega (arith, key, first_key-next l.name)) in
      grind (arith, nat_tests, common_steps)
  | inr e ↦
      let rest : insert_entry nat_cmp (map keyed leaves) (first_key name) (record { name = name; split = number }) ≡ map keyed (with_begun name number leaves)
      = keyed-with_begun (next_key l.name) leaves name number (tile_rest k l leaves tile) (rest_leaf l leaves name e leaf) in
      let lt : first_key l.name < first_key name = omega (arith, later k l leaves name tile e leaf, first_key-next l.name) in
      grind (arith, nat_tests, common_steps)
]

pub names_of-with_begun : (leaves : List MarkedLeaf) (name : List Bool) (number : ℕ) → names_of (with_begun name number leaves) ≡ names_of leaves
names_of-with_begun [] name number = refl
names_of-with_begun (l ∷ leaves) name number =
    let rest : names_of (with_begun name number leaves) ≡ names_of leaves = names_of-with_begun leaves name number in
    elim (cases_Bool (same_name l.name name)) [
      | inl e ↦ (λ i. (cond (e i) (record { name = name; split = number }) l).name ∷ rest i) ∙ ap (λ n. n ∷ names_of leaves) (sym (same l.name name e))
      | inr e ↦ λ i. (cond (e i) (record { name = name; split = number }) l).name ∷ rest i
    ]

-- After a begin the leaf is marked with that split.
pub split_at-begun : (leaves : List MarkedLeaf) (name : List Bool) (number : ℕ) → is_leaf (names_of leaves) name ≡ true → split_at (with_begun name number leaves) name ≡ Some number
split_at-begun [] name number leaf = absurd (true≢false (sym leaf))
split_at-begun (l ∷ leaves) name number leaf =
    let itself : same_name name name ≡ true = one name name refl in
    elim (cases_Bool (same_name l.name name)) [
      | inl e ↦ grind (arith, common_steps)
      | inr e ↦
          let rest : split_at (with_begun name number leaves) name ≡ Some number = split_at-begun leaves name number (rest_leaf l leaves name e leaf) in
          grind (arith, common_steps)
    ]

-- Every other leaf keeps its mark.
pub split_at-begun-other : (leaves : List MarkedLeaf) (name : List Bool) (number : ℕ) (other : List Bool) → other ≢ name → split_at (with_begun name number leaves) other ≡ split_at leaves other
split_at-begun-other [] name number other unlike = refl
split_at-begun-other (l ∷ leaves) name number other unlike =
    let rest : split_at (with_begun name number leaves) other ≡ split_at leaves other = split_at-begun-other leaves name number other unlike in
    let apart : same_name name other ≡ false = differs name other (λ e. unlike (sym e)) in
    elim (cases_Bool (same_name l.name name)) [
      | inl e ↦
          let too : same_name l.name other ≡ false = differs l.name other (λ h. unlike (sym h ∙ same l.name name e)) in
          grind (arith, common_steps)
      | inr e ↦ grind (arith, common_steps)
    ]

insert-front : (k : ℕ) (leaves : List MarkedLeaf) (key : ℕ) (l : MarkedLeaf) → tiles_from k (names_of leaves) ≡ true → key < k → insert_entry nat_cmp (map keyed leaves) key l ≡ (key, l) ∷ map keyed leaves
insert-front k [] key l tile lt = refl
insert-front k (m ∷ leaves) key l tile lt =
    let below : key < first_key m.name = omega (arith, tile_first k m leaves tile, lt) in
    grind (arith, nat_tests, common_steps)

-- Insert the second half, and then the first half at the leaf's own key.
pub keyed-halved : (k : ℕ) (leaves : List MarkedLeaf) (name : List Bool) → length name + 1 ≤ 64 → tiles_from k (names_of leaves) ≡ true → is_leaf (names_of leaves) name ≡ true
    → insert_entry nat_cmp (insert_entry nat_cmp (map keyed leaves) (first_key (name ++ true ∷ [])) (new_leaf (name ++ true ∷ []))) (first_key name) (new_leaf (name ++ false ∷ [])) ≡ map keyed (halved name leaves)
keyed-halved k [] name room tile leaf = absurd (true≢false (sym leaf))
keyed-halved k (l ∷ leaves) name room tile leaf =
    let inside = half_first name true room in
    let above : first_key name < first_key (name ++ true ∷ []) = omega (arith, first_right name room, pow_pos (63 - length name)) in
    let left : first_key (name ++ false ∷ []) ≡ first_key name = first_left name room in
    elim (cases_Bool (same_name l.name name)) [
      | inl e ↦
          let key : first_key l.name ≡ first_key name = ap first_key (same l.name name e) in
          let rest : insert_entry nat_cmp (map keyed leaves) (first_key (name ++ true ∷ [])) (new_leaf (name ++ true ∷ [])) ≡ (first_key (name ++ true ∷ []), new_leaf (name ++ true ∷ [])) ∷ map keyed leaves
          = insert-front (next_key l.name) leaves (first_key (name ++ true ∷ [])) (new_leaf (name ++ true ∷ [])) (tile_rest k l leaves tile) (omega (arith, inside.1, ap next_key (same l.name name e))) in
          grind (arith, nat_tests, common_steps)
      | inr e ↦
          let rest : insert_entry nat_cmp (insert_entry nat_cmp (map keyed leaves) (first_key (name ++ true ∷ [])) (new_leaf (name ++ true ∷ []))) (first_key name) (new_leaf (name ++ false ∷ [])) ≡ map keyed (halved name leaves)
          = keyed-halved (next_key l.name) leaves name room (tile_rest k l leaves tile) (rest_leaf l leaves name e leaf) in
          let lt : first_key l.name < first_key name = omega (arith, later k l leaves name tile e leaf, first_key-next l.name) in
          grind (arith, nat_tests, common_steps)
    ]

pub tile-halved : (k : ℕ) (leaves : List MarkedLeaf) (name : List Bool) → length name + 1 ≤ 64 → tiles_from k (names_of (halved name leaves)) ≡ tiles_from k (names_of leaves)
tile-halved k [] name room = refl
tile-halved k (l ∷ leaves) name room = elim (cases_Bool (same_name l.name name)) [
  | inl e ↦
      ap (λ t. tiles_from k (names_of (cond t (new_leaf (name ++ false ∷ []) ∷ new_leaf (name ++ true ∷ []) ∷ leaves) (l ∷ halved name leaves)))) e
      ∙ halves name room k (names_of leaves)
      ∙ ap (λ n. tiles_from k (n ∷ names_of leaves)) (sym (same l.name name e))
  | inr e ↦
      ap (λ t. tiles_from k (names_of (cond t (new_leaf (name ++ false ∷ []) ∷ new_leaf (name ++ true ∷ []) ∷ leaves) (l ∷ halved name leaves)))) e
      ∙ ap (λ b. nat_le (length l.name) 64 && (first_key l.name == k) && b) (tile-halved (next_key l.name) leaves name room)
]

pub names_of-halved : (leaves : List MarkedLeaf) (name : List Bool) → names_of (halved name leaves) ≡ split_leaf 1 name (names_of leaves)
names_of-halved [] name = refl
names_of-halved (l ∷ leaves) name = by_test (names_of-halved leaves name) (same_name l.name name)
  where
    by_test : names_of (halved name leaves) ≡ split_leaf 1 name (names_of leaves) → (t : Bool) → names_of (cond t (new_leaf (name ++ false ∷ []) ∷ new_leaf (name ++ true ∷ []) ∷ leaves) (l ∷ halved name leaves))
        ≡ cond t ((name ++ false ∷ []) ∷ (name ++ true ∷ []) ∷ names_of leaves) (l.name ∷ split_leaf 1 name (names_of leaves))
    by_test rest true = refl
    by_test rest false = ap (λ ns. l.name ∷ ns) rest

-- Both halves of a leaf are leaves afterwards.
pub leaf-halved : (leaves : List MarkedLeaf) (name : List Bool) → is_leaf (names_of leaves) name ≡ true
    → (is_leaf (names_of (halved name leaves)) (name ++ false ∷ []) ≡ true) × (is_leaf (names_of (halved name leaves)) (name ++ true ∷ []) ≡ true)
leaf-halved [] name leaf = absurd (true≢false (sym leaf))
leaf-halved (l ∷ leaves) name leaf =
    let first : same_name (name ++ false ∷ []) (name ++ false ∷ []) ≡ true = one (name ++ false ∷ []) (name ++ false ∷ []) refl in
    let second : same_name (name ++ true ∷ []) (name ++ true ∷ []) ≡ true = one (name ++ true ∷ []) (name ++ true ∷ []) refl in
    elim (cases_Bool (same_name l.name name)) [
      | inl e ↦ (grind (arith, common_steps), grind (arith, common_steps))
      | inr e ↦
          let rest = leaf-halved leaves name (rest_leaf l leaves name e leaf) in
          let false_half : is_leaf (names_of (halved name leaves)) (name ++ false ∷ []) ≡ true = rest.0 in
          let true_half : is_leaf (names_of (halved name leaves)) (name ++ true ∷ []) ≡ true = rest.1 in
          (grind (arith, common_steps), grind (arith, common_steps))
    ]

-- Every other leaf stays a leaf.
pub leaf-halved-other : (leaves : List MarkedLeaf) (name other : List Bool) → other ≢ name → is_leaf (names_of leaves) other ≡ true → is_leaf (names_of (halved name leaves)) other ≡ true
leaf-halved-other [] name other unlike leaf = leaf
leaf-halved-other (l ∷ leaves) name other unlike leaf = elim (cases_Bool (same_name l.name name)) [
  | inl e ↦
      let apart : same_name l.name other ≡ false = differs l.name other (λ h. unlike (sym h ∙ same l.name name e)) in
      let rest : is_leaf (names_of leaves) other ≡ true = rest_leaf l leaves other apart leaf in
      grind (arith, common_steps)
  | inr e ↦ elim (cases_Bool (same_name l.name other)) [
    | inl h ↦ grind (arith, common_steps)
    | inr h ↦
        let rest : is_leaf (names_of (halved name leaves)) other ≡ true = leaf-halved-other leaves name other unlike (rest_leaf l leaves other h leaf) in
        grind (arith, common_steps)
  ]
]

-- A leaf that has a mark is a leaf.
pub leaf_marked : (leaves : List MarkedLeaf) (name : List Bool) (number : ℕ) → split_at leaves name ≡ Some number → is_leaf (names_of leaves) name ≡ true
leaf_marked [] name number found = cc
leaf_marked (l ∷ leaves) name number found = elim (cases_Bool (same_name l.name name)) [
  | inl e ↦ grind (arith, common_steps)
  | inr e ↦
      let rest : split_at leaves name ≡ Some number → is_leaf (names_of leaves) name ≡ true = leaf_marked leaves name number in
      grind (arith, common_steps)
]

split_at-halved-other : (leaves : List MarkedLeaf) (name other : List Bool) → other ≢ name → other ≢ name ++ false ∷ [] → other ≢ name ++ true ∷ [] → split_at (halved name leaves) other ≡ split_at leaves other
split_at-halved-other [] name other unlike first second = refl
split_at-halved-other (l ∷ leaves) name other unlike first second =
    let rest : split_at (halved name leaves) other ≡ split_at leaves other = split_at-halved-other leaves name other unlike first second in
    let apart_first : same_name (name ++ false ∷ []) other ≡ false = differs (name ++ false ∷ []) other (λ h. first (sym h)) in
    let apart_second : same_name (name ++ true ∷ []) other ≡ false = differs (name ++ true ∷ []) other (λ h. second (sym h)) in
    elim (cases_Bool (same_name l.name name)) [
      | inl e ↦
          let apart : same_name l.name other ≡ false = differs l.name other (λ h. unlike (sym h ∙ same l.name name e)) in
          grind (arith, common_steps)
      | inr e ↦ grind (arith, common_steps)
    ]

pub leaves_of-keyed : (leaves : List MarkedLeaf) → leaves_of (map keyed leaves) ≡ leaves
leaves_of-keyed [] = refl
leaves_of-keyed (l ∷ leaves) = ap (λ ls. l ∷ ls) (leaves_of-keyed leaves)

pub is_leaf_map : (entries : List (ℕ × MarkedLeaf)) (leaves : List MarkedLeaf) → entries ≡ map keyed leaves → tiles_from 0 (names_of leaves) ≡ true → IsLeafMap entries
is_leaf_map entries leaves keys tile =
    let same_leaves : leaves_of entries ≡ leaves = ap leaves_of keys ∙ leaves_of-keyed leaves in
    record { keys = keys ∙ ap (λ ls. map keyed ls) (sym same_leaves); tile = ap (λ ls. tiles_from 0 (names_of ls)) same_leaves ∙ tile }

pub IsLeafMap-with_begun : (entries : List (ℕ × MarkedLeaf)) (leaves : List MarkedLeaf) (name : List Bool) (number : ℕ) → entries ≡ map keyed (with_begun name number leaves) → tiles_from 0 (names_of leaves) ≡ true → IsLeafMap entries
IsLeafMap-with_begun entries leaves name number keys tile =
    is_leaf_map entries (with_begun name number leaves) keys (ap (tiles_from 0) (names_of-with_begun leaves name number) ∙ tile)

pub IsLeafMap-halved : (entries : List (ℕ × MarkedLeaf)) (leaves : List MarkedLeaf) (name : List Bool) → length name + 1 ≤ 64 → entries ≡ map keyed (halved name leaves) → tiles_from 0 (names_of leaves) ≡ true → IsLeafMap entries
IsLeafMap-halved entries leaves name room keys tile = is_leaf_map entries (halved name leaves) keys (tile-halved 0 leaves name room ∙ tile)

-- The leaf is still found after its second half was inserted.
pub lookup-beside : (k : ℕ) (leaves : List MarkedLeaf) (name : List Bool) (l : MarkedLeaf) → length name + 1 ≤ 64 → tiles_from k (names_of leaves) ≡ true
    → lookup (is_at (nat_cmp (first_key name))) (insert_entry nat_cmp (map keyed leaves) (first_key (name ++ true ∷ [])) l) ≡ lookup (is_at (nat_cmp (first_key name))) (map keyed leaves)
lookup-beside k [] name l room tile =
    let above : first_key name < first_key (name ++ true ∷ []) = omega (arith, first_right name room, pow_pos (63 - length name)) in
    grind (arith, nat_tests, common_steps)
lookup-beside k (m ∷ leaves) name l room tile =
    let above : first_key name < first_key (name ++ true ∷ []) = omega (arith, first_right name room, pow_pos (63 - length name)) in
    let rest : lookup (is_at (nat_cmp (first_key name))) (insert_entry nat_cmp (map keyed leaves) (first_key (name ++ true ∷ [])) l) ≡ lookup (is_at (nat_cmp (first_key name))) (map keyed leaves)
    = lookup-beside (next_key m.name) leaves name l room (tile_rest k m leaves tile) in
    grind (arith, nat_tests, common_steps)

-- Halving a leaf keeps the marks of the others.
pub keeps-halved : (leaves : List MarkedLeaf) (name : List Bool) → length name + 1 ≤ 64 → tiles_from 0 (names_of leaves) ≡ true → is_leaf (names_of leaves) name ≡ true → KeepsMarks name leaves (halved name leaves)
keeps-halved leaves name room tile leaf other number unlike found =
    let marked = leaf_marked leaves other number found in
    let half : (b : Bool) → other ≢ name ++ b ∷ [] = λ b e. no_half 0 leaves name b room tile leaf (ap (is_leaf (names_of leaves)) (sym e) ∙ marked) in
    split_at-halved-other leaves name other unlike (half false) (half true) ∙ found

halves_differ : (name : List Bool) → name ++ true ∷ [] ≢ name ++ false ∷ []
halves_differ [] e = cc e
halves_differ (b ∷ name) e = halves_differ name (cc e)

-- The four children of a leaf, by three halvings.
module _ (leaves : List MarkedLeaf) (name : List Bool) (room : length name + 2 ≤ 64) (tile : tiles_from 0 (names_of leaves) ≡ true) (leaf : is_leaf (names_of leaves) name ≡ true) where
  one_more : length name + 1 ≤ 64
  one_more = omega (arith, room)

  two_more : (b : Bool) → length (name ++ b ∷ []) + 1 ≤ 64
  two_more b = omega (arith, room, length-append name (b ∷ []))

  first_tile : tiles_from 0 (names_of (halved name leaves)) ≡ true
  first_tile = tile-halved 0 leaves name one_more ∙ tile

  pub first_half_leaf : is_leaf (names_of (halved name leaves)) (name ++ false ∷ []) ≡ true
  first_half_leaf = (leaf-halved leaves name leaf).0

  pub second_half_leaf : is_leaf (names_of (halved (name ++ false ∷ []) (halved name leaves))) (name ++ true ∷ []) ≡ true
  second_half_leaf = leaf-halved-other (halved name leaves) (name ++ false ∷ []) (name ++ true ∷ []) (halves_differ name) (leaf-halved leaves name leaf).1

  pub keeps-three : KeepsMarks name leaves (halved (name ++ false ∷ []) (halved name leaves))
  keeps-three other number unlike found =
      let marked = leaf_marked leaves other number found in
      let half : (b : Bool) → other ≢ name ++ b ∷ [] = λ b e. no_half 0 leaves name b one_more tile leaf (ap (is_leaf (names_of leaves)) (sym e) ∙ marked) in
      keeps-halved (halved name leaves) (name ++ false ∷ []) (two_more false) first_tile first_half_leaf other number (half false)
      (keeps-halved leaves name one_more tile leaf other number unlike found)

  pub keeps-quartered : KeepsMarks name leaves (halved (name ++ true ∷ []) (halved (name ++ false ∷ []) (halved name leaves)))
  keeps-quartered other number unlike found =
      let marked = leaf_marked leaves other number found in
      let half : (b : Bool) → other ≢ name ++ b ∷ [] = λ b e. no_half 0 leaves name b one_more tile leaf (ap (is_leaf (names_of leaves)) (sym e) ∙ marked) in
      let second_tile = tile-halved 0 (halved name leaves) (name ++ false ∷ []) (two_more false) ∙ first_tile in
      keeps-halved (halved (name ++ false ∷ []) (halved name leaves)) (name ++ true ∷ []) (two_more true) second_tile second_half_leaf other number (half true)
      (keeps-three other number unlike found)

quarter : (name : List Bool) (a b : Bool) → (name ++ a ∷ []) ++ b ∷ [] ≡ name ++ a ∷ b ∷ []
quarter name a b = append_assoc name (a ∷ []) (b ∷ [])

-- The second half after the halves of the first.
quartered_there : (name : List Bool) (leaves : List MarkedLeaf)
    → same_name ((name ++ false ∷ []) ++ false ∷ []) (name ++ true ∷ []) ≡ false → same_name ((name ++ false ∷ []) ++ true ∷ []) (name ++ true ∷ []) ≡ false → same_name (name ++ true ∷ []) (name ++ true ∷ []) ≡ true
    → names_of (halved (name ++ true ∷ []) (new_leaf ((name ++ false ∷ []) ++ false ∷ []) ∷ new_leaf ((name ++ false ∷ []) ++ true ∷ []) ∷ new_leaf (name ++ true ∷ []) ∷ leaves))
    ≡ ((name ++ false ∷ []) ++ false ∷ []) ∷ ((name ++ false ∷ []) ++ true ∷ []) ∷ ((name ++ true ∷ []) ++ false ∷ []) ∷ ((name ++ true ∷ []) ++ true ∷ []) ∷ names_of leaves
quartered_there name leaves first second itself = grind (arith, common_steps)

pub names_of-quartered : (k : ℕ) (leaves : List MarkedLeaf) (name : List Bool) → length name + 2 ≤ 64 → tiles_from k (names_of leaves) ≡ true → is_leaf (names_of leaves) name ≡ true
    → names_of (halved (name ++ true ∷ []) (halved (name ++ false ∷ []) (halved name leaves))) ≡ split_leaf 2 name (names_of leaves)
names_of-quartered k [] name room tile leaf = refl
names_of-quartered k (l ∷ leaves) name room tile leaf =
    let one_more : length name + 1 ≤ 64 = omega (arith, room) in
    let itself : same_name (name ++ false ∷ []) (name ++ false ∷ []) ≡ true = one (name ++ false ∷ []) (name ++ false ∷ []) refl in
    let itself_too : same_name (name ++ true ∷ []) (name ++ true ∷ []) ≡ true = one (name ++ true ∷ []) (name ++ true ∷ []) refl in
    let shorter : (b : Bool) → same_name ((name ++ false ∷ []) ++ b ∷ []) (name ++ true ∷ []) ≡ false = λ b. differs ((name ++ false ∷ []) ++ b ∷ []) (name ++ true ∷ [])
    (λ e. absurd (omega (arith, ap length e, length-append (name ++ false ∷ []) (b ∷ []), length-append name (false ∷ []), length-append name (true ∷ [])))) in
    let first_shorter : same_name ((name ++ false ∷ []) ++ false ∷ []) (name ++ true ∷ []) ≡ false = shorter false in
    let second_shorter : same_name ((name ++ false ∷ []) ++ true ∷ []) (name ++ true ∷ []) ≡ false = shorter true in
    elim (cases_Bool (same_name l.name name)) [
      | inl e ↦
          let q0 = quarter name false false in
          let q1 = quarter name false true in
          let q2 = quarter name true false in
          let q3 = quarter name true true in
          (λ i. names_of (halved (name ++ true ∷ []) (halved (name ++ false ∷ []) (cond (e i) (new_leaf (name ++ false ∷ []) ∷ new_leaf (name ++ true ∷ []) ∷ leaves) (l ∷ halved name leaves)))))
          ∙ (λ i. names_of (halved (name ++ true ∷ []) (cond (itself i) (new_leaf ((name ++ false ∷ []) ++ false ∷ []) ∷ new_leaf ((name ++ false ∷ []) ++ true ∷ []) ∷ new_leaf (name ++ true ∷ []) ∷ leaves) (new_leaf (name ++ false ∷ []) ∷ halved (name ++ false ∷ []) (new_leaf (name ++ true ∷ []) ∷ leaves)))))
          ∙ quartered_there name leaves first_shorter second_shorter itself_too
          ∙ (λ i. q0 i ∷ q1 i ∷ q2 i ∷ q3 i ∷ names_of leaves)
          ∙ sym (ap (λ t. cond t ((name ++ false ∷ false ∷ []) ∷ (name ++ false ∷ true ∷ []) ∷ (name ++ true ∷ false ∷ []) ∷ (name ++ true ∷ true ∷ []) ∷ names_of leaves) (l.name ∷ split_leaf 2 name (names_of leaves))) e)
      | inr e ↦
          let here : is_leaf (names_of (l ∷ leaves)) l.name ≡ true = ap (λ t. t || is_leaf (names_of leaves) l.name) (one l.name l.name refl) in
          let half : (b : Bool) → same_name l.name (name ++ b ∷ []) ≡ false = λ b. differs l.name (name ++ b ∷ []) (λ h. no_half k (l ∷ leaves) name b one_more tile leaf (ap (is_leaf (names_of (l ∷ leaves))) (sym h) ∙ here)) in
          let half_first : same_name l.name (name ++ false ∷ []) ≡ false = half false in
          let half_second : same_name l.name (name ++ true ∷ []) ≡ false = half true in
          let rest : names_of (halved (name ++ true ∷ []) (halved (name ++ false ∷ []) (halved name leaves))) ≡ split_leaf 2 name (names_of leaves)
          = names_of-quartered (next_key l.name) leaves name room (tile_rest k l leaves tile) (rest_leaf l leaves name e leaf) in
          (λ i. names_of (halved (name ++ true ∷ []) (halved (name ++ false ∷ []) (cond (e i) (new_leaf (name ++ false ∷ []) ∷ new_leaf (name ++ true ∷ []) ∷ leaves) (l ∷ halved name leaves)))))
          ∙ (λ i. names_of (halved (name ++ true ∷ []) (cond (half_first i) (new_leaf ((name ++ false ∷ []) ++ false ∷ []) ∷ new_leaf ((name ++ false ∷ []) ++ true ∷ []) ∷ halved name leaves) (l ∷ halved (name ++ false ∷ []) (halved name leaves)))))
          ∙ (λ i. names_of (cond (half_second i) (new_leaf ((name ++ true ∷ []) ++ false ∷ []) ∷ new_leaf ((name ++ true ∷ []) ++ true ∷ []) ∷ halved (name ++ false ∷ []) (halved name leaves)) (l ∷ halved (name ++ true ∷ []) (halved (name ++ false ∷ []) (halved name leaves)))))
          ∙ ap (λ ns. l.name ∷ ns) rest
          ∙ sym (ap (λ t. cond t ((name ++ false ∷ false ∷ []) ∷ (name ++ false ∷ true ∷ []) ∷ (name ++ true ∷ false ∷ []) ∷ (name ++ true ∷ true ∷ []) ∷ names_of leaves) (l.name ∷ split_leaf 2 name (names_of leaves))) e)
    ]

-- A name is a leaf if and only if it has a mark.
pub is_leaf-marked : (leaves : List MarkedLeaf) (name : List Bool) → is_leaf (names_of leaves) name ≡ is_some (split_at leaves name)
is_leaf-marked [] name = refl
is_leaf-marked (l ∷ leaves) name =
    let rest : is_leaf (names_of leaves) name ≡ is_some (split_at leaves name) = is_leaf-marked leaves name in
    grind (arith, common_steps)
