-- The leaves from a key on, where the leaves' names tile the key space.
use Rattle.std.proofs.Common.{◌≡◌, ℕ, ◌+◌, ◌^◌, ◌<◌, ◌≤◌, Bool, true, false, List, [], ◌∷◌, ◌++◌, length, Option, Some, None, refl, sym, ◌∙◌, ap, subst, arith, cond}
use Rattle.std.specs.Prelude.{nat_le}
use Rattle.std.specs.List.{AllByRecursion}
use Rattle.std.specs.Option.{SomeIff}
use Rattle.std.proofs.lemmas.Bool.{le-leb, leb-true, eqb-true}
use Rattle.std.proofs.lemmas.Bool.Decides.{nat_tests}
use Rattle.zorder.specs.Key.{is_under}
use Rattle.zorder.specs.Name.{first_key}
use Rattle.zorder.specs.Tile.{tiles_from, next_key}
use Rattle.index_layer.specs.Leaves.{Leaf, names_of, leaf_under}
use Rattle.index_layer.proofs.LeafKeys.{first_from, tile_short, tile_first, tile_rest, ends_before, first_key-next, first_key-fits, first_key-under, next_key-end}
use Rattle.index_layer.proofs.LeafNames.{leaf_under-among}
use Rattle.index_layer.specs.Walk.{leaves_from, leaves_left, IsAt}

not_le : (m n : ℕ) → n < m → nat_le m n ≡ false
not_le m n h = grind (arith, nat_tests)

keep : (b : Bool) (l : Leaf) (kept : List Leaf) → b ≡ true → cond b (l ∷ kept) kept ≡ l ∷ kept
keep b l kept e = ap (λ c. cond c (l ∷ kept) kept) e

drop_first : (b : Bool) (l : Leaf) (kept : List Leaf) → b ≡ false → cond b (l ∷ kept) kept ≡ kept
drop_first b l kept e = ap (λ c. cond c (l ∷ kept) kept) e

leaves_from-all : (key : ℕ) (leaves : List Leaf) → AllByRecursion (λ (l : Leaf). key ≤ first_key l.name) leaves → leaves_from key leaves ≡ leaves
leaves_from-all key [] all = refl
leaves_from-all key (l ∷ leaves) all =
    keep (nat_le key (first_key l.name)) l (leaves_from key leaves) (le-leb key (first_key l.name) all.0) ∙ ap (λ (ls : List Leaf). l ∷ ls) (leaves_from-all key leaves all.1)

-- leaves that tile the keys from this one on are all of them
pub leaves_from-tiled : (key : ℕ) (leaves : List Leaf) → tiles_from key (names_of leaves) ≡ true → leaves_from key leaves ≡ leaves
leaves_from-tiled key leaves tile = leaves_from-all key leaves (first_from key key leaves (omega arith) tile)

-- the leaves that are left are the end of all leaves
cut_first : (key : ℕ) (f : Leaf) (leaves : List Leaf) (l : Leaf) (rest : List Leaf) (b : Bool) → nat_le key (first_key f.name) ≡ b → tiles_from (next_key f.name) (names_of leaves) ≡ true
    → (leaves_from key leaves ≡ l ∷ rest → (front : List Leaf) × (leaves ≡ front ++ l ∷ rest))
    → cond b (f ∷ leaves_from key leaves) (leaves_from key leaves) ≡ l ∷ rest → (front : List Leaf) × (f ∷ leaves ≡ front ++ l ∷ rest)
cut_first key f leaves l rest true is tile later e =
    let le : key ≤ next_key f.name = omega (arith, leb-true key (first_key f.name) is, first_key-next f.name) in
    let all = leaves_from-all key leaves (first_from key (next_key f.name) leaves le tile) in
    ([], ap (λ (ls : List Leaf). f ∷ ls) (sym all) ∙ e)
cut_first key f leaves l rest false is tile later e = let r = later e in (f ∷ r.0, ap (λ (ls : List Leaf). f ∷ ls) r.1)

left_split : (j key : ℕ) (leaves : List Leaf) (l : Leaf) (rest : List Leaf) → tiles_from j (names_of leaves) ≡ true → leaves_from key leaves ≡ l ∷ rest → (front : List Leaf) × (leaves ≡ front ++ l ∷ rest)
left_split j key [] l rest tile e = absurd (cc e)
left_split j key (f ∷ leaves) l rest tile e =
    cut_first key f leaves l rest (nat_le key (first_key f.name)) refl (tile_rest j f leaves tile) (left_split (next_key f.name) key leaves l rest (tile_rest j f leaves tile)) e

leaves_from-next : (j : ℕ) (front : List Leaf) (l : Leaf) (rest : List Leaf) → tiles_from j (names_of (front ++ l ∷ rest)) ≡ true → leaves_from (next_key l.name) (front ++ l ∷ rest) ≡ rest
leaves_from-next j [] l rest tile =
    drop_first (nat_le (next_key l.name) (first_key l.name)) l (leaves_from (next_key l.name) rest) (not_le (next_key l.name) (first_key l.name) (first_key-next l.name))
    ∙ leaves_from-tiled (next_key l.name) rest (tile_rest j l rest tile)
leaves_from-next j (f ∷ front) l rest tile =
    let before : next_key f.name ≤ first_key l.name = ends_before j f front l rest tile in
    let less : first_key f.name < next_key l.name = omega (arith, before, first_key-next f.name, first_key-next l.name) in
    drop_first (nat_le (next_key l.name) (first_key f.name)) f (leaves_from (next_key l.name) (front ++ l ∷ rest)) (not_le (next_key l.name) (first_key f.name) less)
    ∙ leaves_from-next (next_key f.name) front l rest (tile_rest j f (front ++ l ∷ rest) tile)

tiles_behind : (j : ℕ) (front : List Leaf) (l : Leaf) (rest : List Leaf) → tiles_from j (names_of (front ++ l ∷ rest)) ≡ true → tiles_from (next_key l.name) (names_of rest) ≡ true
tiles_behind j [] l rest tile = tile_rest j l rest tile
tiles_behind j (f ∷ front) l rest tile = tiles_behind (next_key f.name) front l rest (tile_rest j f (front ++ l ∷ rest) tile)

-- from a key at which a leaf begins, that leaf is the first that is left, and the others begin behind it
pub record IsNext (key : ℕ) (leaves : List Leaf) (l : Leaf) : Type 0 where
  pub left : leaves_from key leaves ≡ l ∷ leaves_from (next_key l.name) leaves
  pub tile : tiles_from (next_key l.name) (names_of (leaves_from (next_key l.name) leaves)) ≡ true
  pub end : next_key l.name ≤ 2 ^ 64

module _ (key : ℕ) (leaves : List Leaf) (l : Leaf) (tile : tiles_from 0 (names_of leaves) ≡ true) (at : IsAt (Some key) leaves) (found : leaf_under key leaves ≡ Some l) where
  next_is : (m : Leaf) (rest : List Leaf) → leaves_from key leaves ≡ m ∷ rest → IsNext key leaves m × (leaf_under key leaves ≡ Some m)
  next_is m rest e =
      let tiled : tiles_from key (names_of (m ∷ rest)) ≡ true = subst (λ (ls : List Leaf). tiles_from key (names_of ls) ≡ true) e at.1 in
      let first : first_key m.name ≡ key = tile_first key m rest tiled in
      let short : length m.name ≤ 64 = tile_short key m rest tiled in
      let cut = left_split 0 key leaves m rest tile e in
      let whole : tiles_from 0 (names_of (cut.0 ++ m ∷ rest)) ≡ true = subst (λ (ls : List Leaf). tiles_from 0 (names_of ls) ≡ true) cut.1 tile in
      let next : leaves_from (next_key m.name) leaves ≡ rest = ap (leaves_from (next_key m.name)) cut.1 ∙ leaves_from-next 0 cut.0 m rest whole in
      let under : is_under m.name key ≡ true = subst (λ k. is_under m.name k ≡ true) first (first_key-under m.name short) in (
        record {
          left = e ∙ ap (λ (ls : List Leaf). m ∷ ls) (sym next);
          tile = subst (λ (ls : List Leaf). tiles_from (next_key m.name) (names_of ls) ≡ true) (sym next) (tiles_behind 0 cut.0 m rest whole);
          end = next_key-end m.name short;
        },
        leaf_under-among leaves m key tile at.0 (cut.0, rest, cut.1) under,
      )

  pub next_leaf-is : IsNext key leaves l
  next_leaf-is = by_left (leaves_from key leaves) refl
    where
      inside : (a b : Leaf) → Some a ≡ Some b → a ≡ b
      inside a b e = cc e

      by_left : (ls : List Leaf) → leaves_from key leaves ≡ ls → IsNext key leaves l
      by_left [] e = absurd (omega (arith, at.0, eqb-true key (2 ^ 64) (subst (λ (ls : List Leaf). tiles_from key (names_of ls) ≡ true) e at.1)))
      by_left (m ∷ rest) e =
          let it = next_is m rest e in
          subst (IsNext key leaves) (inside m l (sym it.1 ∙ found)) it.0

-- behind the last key there is no leaf
pub none_behind : (key : ℕ) (leaves : List Leaf) → 2 ^ 64 ≤ key → tiles_from key (names_of leaves) ≡ true → leaves ≡ []
none_behind key [] le tile = refl
none_behind key (l ∷ leaves) le tile =
    absurd (omega (arith, le, tile_first key l leaves tile, first_key-fits l.name (tile_short key l leaves tile)))

-- what is left behind a leaf, from the key behind its last one on
pub left_after : (last : ℕ) (r : Option ℕ) (key : ℕ) (leaves : List Leaf) (l : Leaf) → last + 1 ≡ next_key l.name → SomeIff r (last + 1 < 2 ^ 64) (last + 1) → IsNext key leaves l
    → (leaves_left r leaves ≡ leaves_from (next_key l.name) leaves) × IsAt r leaves
left_after last (Some k) key leaves l is some next =
    let same : next_key l.name ≡ k = sym is ∙ sym some.1 in
    let less : k < 2 ^ 64 = omega (arith, some.0, some.1) in
    (ap (λ n. leaves_from n leaves) (sym same), (less, subst (λ n. tiles_from n (names_of (leaves_from n leaves)) ≡ true) same next.tile))
left_after last None key leaves l is none next = (sym (none_behind (next_key l.name) (leaves_from (next_key l.name) leaves) (by_end (next_key l.name) (last + 1) is none) next.tile), tt)
  where
    by_end : (n m : ℕ) → m ≡ n → (m < 2 ^ 64 → ⊥) → 2 ^ 64 ≤ n
    by_end n m e none = omega (arith, e, none)

-- from where a leaf begins on, the leaves tile the rest of the keys
pub tiles_at : (j : ℕ) (front : List Leaf) (l : Leaf) (rest : List Leaf) → tiles_from j (names_of (front ++ l ∷ rest)) ≡ true
    → tiles_from (first_key l.name) (names_of (leaves_from (first_key l.name) (front ++ l ∷ rest))) ≡ true
tiles_at j [] l rest tile =
    let first : first_key l.name ≡ j = tile_first j l rest tile in
    let here : tiles_from (first_key l.name) (names_of (l ∷ rest)) ≡ true = subst (λ k. tiles_from k (names_of (l ∷ rest)) ≡ true) (sym first) tile in
    subst (λ (ls : List Leaf). tiles_from (first_key l.name) (names_of ls) ≡ true) (sym (leaves_from-tiled (first_key l.name) (l ∷ rest) here)) here
tiles_at j (f ∷ front) l rest tile =
    let before : next_key f.name ≤ first_key l.name = ends_before j f front l rest tile in
    let less : first_key f.name < first_key l.name = omega (arith, before, first_key-next f.name) in
    subst (λ (ls : List Leaf). tiles_from (first_key l.name) (names_of ls) ≡ true) (sym (drop_first (nat_le (first_key l.name) (first_key f.name)) f (leaves_from (first_key l.name) (front ++ l ∷ rest)) (not_le (first_key l.name) (first_key f.name) less)))
    (tiles_at (next_key f.name) front l rest (tile_rest j f (front ++ l ∷ rest) tile))
