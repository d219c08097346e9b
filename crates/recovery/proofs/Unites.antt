-- A leaf that was halved replaces its halves again.
use Rattle.std.proofs.Common.{◌≡◌, ℕ, ◌+◌, ◌-◌, ◌<◌, ◌≤◌, Bool, true, false, inl, inr, List, [], ◌∷◌, ◌++◌, length, map, Option, Some, None, is_some, refl, sym, ◌∙◌, ap, arith}
use Rattle.std.specs.Prelude.{◌||◌}
use Rattle.std.specs.Option.{unwrap_or}
use Rattle.plain_list.specs.State.{is_leaf}
use Rattle.std.specs.Ordering.{nat_cmp}
use Rattle.std.specs.BTreeMap.{insert_entry, is_at}
use Rattle.std.specs.Map.{lookup, remove_entry}
use Rattle.std.proofs.lemmas.Bool.{cases_Bool, true≢false}
use Rattle.std.proofs.lemmas.Bool.Decides.{nat_tests}
use Rattle.std.proofs.lemmas.Grind.{common_steps}
use Rattle.std.proofs.lemmas.Nat.{pow_pos}
use Rattle.zorder.specs.Name.{first_key}
use Rattle.zorder.specs.SameName.{same_name}
use Rattle.zorder.specs.Tile.{tiles_from, next_key}
use Rattle.zorder.proofs.Tiles.{first_left, first_right}
use Rattle.recovery.specs.declared.leaf_map.MarkedLeaf.{MarkedLeaf}
use Rattle.recovery.specs.LeafMap.{leaves_of, IsLeafMap, keyed, names_of, split_at, halved, new_leaf, HasHalved}
use Rattle.recovery.proofs.LeafMaps.{same, one, differs, no_half, rest_leaf, first_key-next, tile_rest, leaf_from, leaf_marked, is_leaf-marked}

-- The other leaves begin before a leaf that isn't the first.
first_before : (k : ℕ) (l : MarkedLeaf) (leaves : List MarkedLeaf) (name : List Bool) (mark : ℕ) → tiles_from k (names_of (l ∷ leaves)) ≡ true → same_name l.name name ≡ false → split_at (l ∷ leaves) name ≡ Some mark
    → (split_at leaves name ≡ Some mark) × (first_key l.name < first_key name)
first_before k l leaves name mark tile other marked =
    let rest : split_at leaves name ≡ Some mark = grind (arith, common_steps) in
    (rest, omega (arith, first_key-next l.name, leaf_from (next_key l.name) leaves name (tile_rest k l leaves tile) (leaf_marked leaves name mark rest)))

-- Remove the second half, and replace the first half by the leaf.
pub unites : (k : ℕ) (leaves : List MarkedLeaf) (name : List Bool) (mark : ℕ) → length name + 1 ≤ 64 → tiles_from k (names_of leaves) ≡ true → split_at leaves name ≡ Some mark
    → insert_entry nat_cmp (remove_entry (is_at (nat_cmp (first_key (name ++ true ∷ [])))) (map keyed (halved name leaves))) (first_key name) (record { name = name; split = mark }) ≡ map keyed leaves
unites k [] name mark room tile marked = cc
unites k (l ∷ leaves) name mark room tile marked =
    let above : first_key name < first_key (name ++ true ∷ []) = omega (arith, first_right name room, pow_pos (63 - length name)) in
    let left : first_key (name ++ false ∷ []) ≡ first_key name = first_left name room in
    elim (cases_Bool (same_name l.name name)) [
      | inl e ↦
          let named : l.name ≡ name = same l.name name e in
          let split : l.split ≡ mark = grind (arith, common_steps) in
          let leaf : l ≡ record { name = name; split = mark } = λ i. record { name = named i; split = split i } in
          let rest : insert_entry nat_cmp (remove_entry (is_at (nat_cmp (first_key (name ++ true ∷ [])))) (map keyed (new_leaf (name ++ false ∷ []) ∷ new_leaf (name ++ true ∷ []) ∷ leaves))) (first_key name) (record { name = name; split = mark })
          ≡ map keyed (record { name = name; split = mark } ∷ leaves) = grind (arith, nat_tests, common_steps) in
          grind (arith, common_steps)
      | inr e ↦
          let before = first_before k l leaves name mark tile e marked in
          let lt : first_key l.name < first_key name = before.1 in
          let rest : insert_entry nat_cmp (remove_entry (is_at (nat_cmp (first_key (name ++ true ∷ [])))) (map keyed (halved name leaves))) (first_key name) (record { name = name; split = mark }) ≡ map keyed leaves
          = unites (next_key l.name) leaves name mark room (tile_rest k l leaves tile) before.0 in
          grind (arith, nat_tests, common_steps)
    ]

-- After the second half was removed, the first half is at the leaf's first key.
pub first_found : (k : ℕ) (leaves : List MarkedLeaf) (name : List Bool) (mark : ℕ) → length name + 1 ≤ 64 → tiles_from k (names_of leaves) ≡ true → split_at leaves name ≡ Some mark
    → lookup (is_at (nat_cmp (first_key name))) (remove_entry (is_at (nat_cmp (first_key (name ++ true ∷ [])))) (map keyed (halved name leaves))) ≡ Some (new_leaf (name ++ false ∷ []))
first_found k [] name mark room tile marked = cc
first_found k (l ∷ leaves) name mark room tile marked =
    let above : first_key name < first_key (name ++ true ∷ []) = omega (arith, first_right name room, pow_pos (63 - length name)) in
    let left : first_key (name ++ false ∷ []) ≡ first_key name = first_left name room in
    elim (cases_Bool (same_name l.name name)) [
      | inl e ↦ grind (arith, nat_tests, common_steps)
      | inr e ↦
          let before = first_before k l leaves name mark tile e marked in
          let lt : first_key l.name < first_key name = before.1 in
          let rest : lookup (is_at (nat_cmp (first_key name))) (remove_entry (is_at (nat_cmp (first_key (name ++ true ∷ [])))) (map keyed (halved name leaves))) ≡ Some (new_leaf (name ++ false ∷ []))
          = first_found (next_key l.name) leaves name mark room (tile_rest k l leaves tile) before.0 in
          grind (arith, nat_tests, common_steps)
    ]

-- The entries of the halves become those of the leaves.
pub united : (leaves halves : List MarkedLeaf) (name : List Bool) (mark : ℕ) (entries removed new : List (ℕ × MarkedLeaf)) → HasHalved name mark leaves halves → IsLeafMap entries → leaves_of entries ≡ halves
    → removed ≡ remove_entry (is_at (nat_cmp (first_key (name ++ true ∷ [])))) entries
    → ((old : MarkedLeaf) → lookup (is_at (nat_cmp (first_key name))) removed ≡ Some old → new ≡ insert_entry nat_cmp removed (first_key name) (record { name = name; split = mark }))
    → new ≡ map keyed leaves
united leaves halves name mark entries removed new h is view left inserted =
    let room : length name + 1 ≤ 64 = omega (arith, h.short) in
    let keys : entries ≡ map keyed (halved name leaves) = is.keys ∙ ap (λ (ls : List MarkedLeaf). map keyed ls) (view ∙ h.is) in
    let gone : removed ≡ remove_entry (is_at (nat_cmp (first_key (name ++ true ∷ [])))) (map keyed (halved name leaves)) = left ∙ ap (remove_entry (is_at (nat_cmp (first_key (name ++ true ∷ []))))) keys in
    inserted (new_leaf (name ++ false ∷ [])) (ap (lookup (is_at (nat_cmp (first_key name)))) gone ∙ first_found 0 leaves name mark room h.tile h.mark)
    ∙ ap (λ (es : List (ℕ × MarkedLeaf)). insert_entry nat_cmp es (first_key name) (record { name = name; split = mark })) gone
    ∙ unites 0 leaves name mark room h.tile h.mark

-- No split of a half was begun.
pub half_mark : (k : ℕ) (leaves : List MarkedLeaf) (name : List Bool) → length name + 1 ≤ 64 → tiles_from k (names_of leaves) ≡ true → is_leaf (names_of leaves) name ≡ true → split_at (halved name leaves) (name ++ false ∷ []) ≡ Some 0
half_mark k [] name room tile leaf = absurd (true≢false (sym leaf))
half_mark k (l ∷ leaves) name room tile leaf =
    let itself : same_name (name ++ false ∷ []) (name ++ false ∷ []) ≡ true = one (name ++ false ∷ []) (name ++ false ∷ []) refl in
    elim (cases_Bool (same_name l.name name)) [
      | inl e ↦ grind (arith, common_steps)
      | inr e ↦
          let here : is_leaf (names_of (l ∷ leaves)) l.name ≡ true = ap (λ t. t || is_leaf (names_of leaves) l.name) (one l.name l.name refl) in
          let other : same_name l.name (name ++ false ∷ []) ≡ false = differs l.name (name ++ false ∷ []) (λ h. no_half k (l ∷ leaves) name false room tile leaf (ap (is_leaf (names_of (l ∷ leaves))) (sym h) ∙ here)) in
          let rest : split_at (halved name leaves) (name ++ false ∷ []) ≡ Some 0 = half_mark (next_key l.name) leaves name room (tile_rest k l leaves tile) (rest_leaf l leaves name e leaf) in
          grind (arith, common_steps)
    ]

-- A leaf has a mark.
pub has_mark : (leaves : List MarkedLeaf) (name : List Bool) (mark : Option ℕ) → is_leaf (names_of leaves) name ≡ true → mark ≡ split_at leaves name → split_at leaves name ≡ Some (unwrap_or mark 0)
has_mark leaves name mark leaf is = sym is ∙ by_case mark (ap is_some is ∙ sym (is_leaf-marked leaves name) ∙ leaf)
  where
    by_case : (o : Option ℕ) → is_some o ≡ true → o ≡ Some (unwrap_or o 0)
    by_case None some = absurd (true≢false (sym some))
    by_case (Some n) some = refl
