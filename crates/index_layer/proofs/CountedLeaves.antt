-- The rows below a name, counted leaf after leaf.
use Rattle.std.proofs.Common.{◌≡◌, ℕ, ◌+◌, ◌-◌, ◌^◌, ◌<◌, ◌≤◌, leb, Bool, true, false, ◌&&◌, List, [], ◌∷◌, ◌++◌, length, Some, refl, sym, ◌∙◌, ap, subst, arith, cond, length-append, min, zero-add}
use Rattle.std.specs.Prelude.{nat_le}
use Rattle.std.specs.List.{filter, starts_with}
use Rattle.std.specs.Cmp.{both_ways, first_so, second_so}
use Rattle.std.specs.Cmp.Derive.{both_true}
use Rattle.std.proofs.lemmas.Bool.{le-leb, leb-true, leb-false, false_from_ne_true}
use Rattle.std.proofs.lemmas.Bool.Decides.{nat_tests}
use mathlib.Core.Bool.{beq}
use Rattle.zorder.specs.Key.{is_under}
use Rattle.zorder.specs.Name.{first_key}
use Rattle.zorder.specs.Tile.{tiles_from, next_key}
use Rattle.zorder.proofs.Ranges.{under-range, range-under}
use Rattle.index_layer.specs.Leaves.{Leaf, names_of, all_rows, leaf_under}
use Rattle.index_layer.specs.Subtree.{subtree, leaves_until}
use Rattle.index_layer.specs.Walk.{leaves_from, IsAt}
use Rattle.index_layer.proofs.LeafKeys.{tile_first, tile_rest, first_key-next, first_key-fits, first_key-under}
use Rattle.index_layer.proofs.LeafNames.{IsFront, front-from_test, front-test, front-trans, front-length, under-fronts, under-front, IsAmong, later_leaf, find-among, short-among, one-leaf}
use Rattle.index_layer.proofs.WalkLemmas.{IsNext, next_leaf-is, tiles_at}

until-yes : (last : ℕ) (l : Leaf) (rest : List Leaf) → first_key l.name ≤ last → leaves_until last (l ∷ rest) ≡ l ∷ leaves_until last rest
until-yes last l rest le = ap (λ b. cond b (l ∷ leaves_until last rest) (leaves_until last rest)) (le-leb (first_key l.name) last le)

until-none : (k last : ℕ) (leaves : List Leaf) → last < k → tiles_from k (names_of leaves) ≡ true → leaves_until last leaves ≡ []
until-none k last [] lt tile = refl
until-none k last (l ∷ leaves) lt tile =
    let first : first_key l.name ≡ k = tile_first k l leaves tile in
    ap (λ b. cond b (l ∷ leaves_until last leaves) (leaves_until last leaves)) (not_le (first_key l.name) last (omega (arith, first, lt)))
    ∙ until-none (next_key l.name) last leaves (omega (arith, first, lt, first_key-next l.name)) (tile_rest k l leaves tile)
  where
    not_le : (m n : ℕ) → n < m → nat_le m n ≡ false
    not_le m n h = grind (arith, nat_tests)

-- the leaf at which a count stands, and then those behind it
module _ (key last : ℕ) (leaves : List Leaf) (l : Leaf) (at : IsAt (Some key) leaves) (next : IsNext key leaves l) (some : key ≤ last) where
  first : first_key l.name ≡ key
  first = tile_first key l (leaves_from (next_key l.name) leaves) (subst (λ (ls : List Leaf). tiles_from key (names_of ls) ≡ true) next.left at.1)

  counted-more : length (all_rows (leaves_until last (leaves_from key leaves))) ≡ length l.bucket.rows + length (all_rows (leaves_until last (leaves_from (next_key l.name) leaves)))
  counted-more =
      ap (λ (ls : List Leaf). length (all_rows ls)) (ap (leaves_until last) next.left ∙ until-yes last l (leaves_from (next_key l.name) leaves) (omega (arith, first, some)))
      ∙ length-append l.bucket.rows (all_rows (leaves_until last (leaves_from (next_key l.name) leaves)))

  counted-last : last < next_key l.name → length (all_rows (leaves_until last (leaves_from key leaves))) ≡ length l.bucket.rows
  counted-last lt =
      let none : length (all_rows (leaves_until last (leaves_from (next_key l.name) leaves))) ≡ 0 = ap (λ (ls : List Leaf). length (all_rows ls)) (until-none (next_key l.name) last (leaves_from (next_key l.name) leaves) lt next.tile) in
      omega (arith, counted-more, none)

  next_at : last < 2 ^ 64 → next_key l.name ≤ last → IsAt (Some (next_key l.name)) leaves
  next_at fits le = (omega (arith, fits, le), next.tile)

-- two tests that the leaves of a list meet alike
kept-alike : (p q : Leaf → Bool) (leaves : List Leaf) → ((l : Leaf) → IsAmong leaves l → p l ≡ q l) → filter p leaves ≡ filter q leaves
kept-alike p q [] alike = refl
kept-alike p q (l ∷ leaves) alike =
    (λ i. cond (alike l ([], leaves, refl) i) (l ∷ filter p leaves) (filter p leaves))
    ∙ ap (λ (ls : List Leaf). cond (q l) (l ∷ ls) ls) (kept-alike p q leaves (λ m at. alike m (later_leaf l leaves m at)))

-- the leaves below a name, by the leaf that its first key is under
module _ (leaves : List Leaf) (tile : tiles_from 0 (names_of leaves) ≡ true) (name : List Bool) (room : length name ≤ 64) (l : Leaf) (found : leaf_under (first_key name) leaves ≡ Some l) where
  at : IsAmong leaves l
  at = (find-among (λ (m : Leaf). is_under m.name (first_key name)) leaves l found).0

  over : is_under l.name (first_key name) ≡ true
  over = (find-among (λ (m : Leaf). is_under m.name (first_key name)) leaves l found).1

  begins_from : (m : Leaf) → IsAmong leaves m → starts_with beq m.name name ≡ true → is_under name (first_key m.name) ≡ true
  begins_from m at_m e = under-front name m.name (first_key m.name) (front-from_test name m.name e) (first_key-under m.name (short-among leaves m tile at_m))

  -- above the name there is one leaf, so below it there is none
  pub none-below : length l.name < length name → subtree name leaves ≡ []
  none-below lt = kept-alike (λ m. starts_with beq m.name name) (λ m. false) leaves not ∙ none leaves
    where
      none : (ls : List Leaf) → filter (λ (m : Leaf). false) ls ≡ []
      none [] = refl
      none (m ∷ ls) = none ls

      above : IsFront l.name name
      above = under-fronts l.name name (first_key name) over (first_key-under name room) (omega (arith, lt))

      not : (m : Leaf) → IsAmong leaves m → starts_with beq m.name name ≡ false
      not m at_m = false_from_ne_true (starts_with beq m.name name)
          (λ e. let front = front-from_test name m.name e in
          let short : length m.name ≤ 64 = short-among leaves m tile at_m in
          let key_m : is_under m.name (first_key m.name) ≡ true = first_key-under m.name short in
          let over_m : is_under l.name (first_key m.name) ≡ true = under-front l.name m.name (first_key m.name) (front-trans l.name name m.name above front) key_m in
          let same : m ≡ l = one-leaf leaves m l (first_key m.name) tile (first_key-fits m.name short) at_m at key_m over_m in
          let even : length m.name ≡ length l.name = ap (λ (n : Leaf). length n.name) same in
          omega (arith, even, lt, front-length name m.name front))

  module _ (le : length name ≤ length l.name) where
    front : IsFront name l.name
    front = under-fronts name l.name (first_key name) (first_key-under name room) over le

    -- the leaf begins where the name does
    begins_at : first_key l.name ≡ first_key name
    begins_at =
        let short : length l.name ≤ 64 = short-among leaves l tile at in
        let in_name = under-range name (first_key l.name) room (first_key-fits l.name short) (under-front name l.name (first_key l.name) front (first_key-under l.name short)) in
        let in_leaf = under-range l.name (first_key name) short (first_key-fits name room) over in
        omega (arith, in_name.0, in_leaf.0)

    -- a leaf that begins among the keys of the name is below it
    begins-in : (m : Leaf) → IsAmong leaves m → is_under name (first_key m.name) ≡ true → starts_with beq m.name name ≡ true
    begins-in m at_m under = by_length (leb (length name) (length m.name)) refl
      where
        short : length m.name ≤ 64
        short = short-among leaves m tile at_m

        key_m : is_under m.name (first_key m.name) ≡ true
        key_m = first_key-under m.name short

        by_length : (b : Bool) → leb (length name) (length m.name) ≡ b → starts_with beq m.name name ≡ true
        by_length true e = front-test name m.name (under-fronts name m.name (first_key m.name) under key_m (leb-true (length name) (length m.name) e))
        by_length false e =
            let less : length m.name < length name = omega (arith, leb-false (length name) (length m.name) e) in
            let above : IsFront m.name name = under-fronts m.name name (first_key m.name) key_m under (omega (arith, less)) in
            let over_m : is_under m.name (first_key name) ≡ true = under-front m.name name (first_key name) above (first_key-under name room) in
            let same : m ≡ l = one-leaf leaves m l (first_key name) tile (first_key-fits name room) at_m at over_m over in
            let even : length m.name ≡ length l.name = ap (λ (n : Leaf). length n.name) same in
            absurd (omega (arith, even, less, le))

    -- the leaves below a name begin from its first key to its last
    subtree-range : (last : ℕ) → last + 1 ≡ next_key name → subtree name leaves ≡ leaves_until last (leaves_from (first_key name) leaves)
    subtree-range last is = kept-alike (λ m. starts_with beq m.name name) (λ m. nat_le (first_key name) (first_key m.name) && nat_le (first_key m.name) last) leaves alike ∙ twice leaves
      where
        alike : (m : Leaf) → IsAmong leaves m → starts_with beq m.name name ≡ (nat_le (first_key name) (first_key m.name) && nat_le (first_key m.name) last)
        alike m at_m =
            both_ways (starts_with beq m.name name) (nat_le (first_key name) (first_key m.name) && nat_le (first_key m.name) last)
            (λ e. let range = under-range name (first_key m.name) room (first_key-fits m.name (short-among leaves m tile at_m)) (begins_from m at_m e) in
            both_true (le-leb (first_key name) (first_key m.name) range.0) (le-leb (first_key m.name) last (omega (arith, range.1, is))))
            (λ e. let lo : first_key name ≤ first_key m.name = leb-true (first_key name) (first_key m.name) (first_so (nat_le (first_key name) (first_key m.name)) (nat_le (first_key m.name) last) e) in
            let hi : first_key m.name ≤ last = leb-true (first_key m.name) last (second_so (nat_le (first_key name) (first_key m.name)) (nat_le (first_key m.name) last) e) in
            begins-in m at_m (range-under name (first_key m.name) room (first_key-fits m.name (short-among leaves m tile at_m)) lo (omega (arith, hi, is))))

        twice : (ls : List Leaf) → filter (λ m. nat_le (first_key name) (first_key m.name) && nat_le (first_key m.name) last) ls ≡ leaves_until last (leaves_from (first_key name) ls)
        twice [] = refl
        twice (m ∷ ls) = by_test (nat_le (first_key name) (first_key m.name)) (twice ls)
          where
            by_test : (b : Bool) → filter (λ m. nat_le (first_key name) (first_key m.name) && nat_le (first_key m.name) last) ls ≡ leaves_until last (leaves_from (first_key name) ls)
                → cond (b && nat_le (first_key m.name) last) (m ∷ filter (λ m. nat_le (first_key name) (first_key m.name) && nat_le (first_key m.name) last) ls) (filter (λ m. nat_le (first_key name) (first_key m.name) && nat_le (first_key m.name) last) ls)
                ≡ leaves_until last (cond b (m ∷ leaves_from (first_key name) ls) (leaves_from (first_key name) ls))
            by_test false rest = rest
            by_test true rest = ap (λ (ks : List Leaf). cond (nat_le (first_key m.name) last) (m ∷ ks) ks) rest

    -- and from the first key on the leaves tile the keys that are left
    at_first : IsAt (Some (first_key name)) leaves
    at_first = (first_key-fits name room, tiled)
      where
        whole : tiles_from 0 (names_of (at.0 ++ l ∷ at.1)) ≡ true
        whole = ap (λ (ls : List Leaf). tiles_from 0 (names_of ls)) (sym at.2) ∙ tile

        tiled : tiles_from (first_key name) (names_of (leaves_from (first_key name) leaves)) ≡ true
        tiled =
            subst (λ k. tiles_from k (names_of (leaves_from k leaves)) ≡ true) begins_at
            (ap (λ (ls : List Leaf). tiles_from (first_key l.name) (names_of (leaves_from (first_key l.name) ls))) at.2 ∙ tiles_at 0 at.0 l at.1 whole)

-- two sums that are each cut off
capped-more : (most before here rest so_far all : ℕ) → so_far ≡ min (before + here) most → all ≡ min (so_far + rest) most → all ≡ min (before + (here + rest)) most
capped-more most before here rest so_far all first second = omega arith

-- how many rows the leaves have from one key to another, and so many more, at most what 64 bits hold
abbrev pub counted_from : ℕ → ℕ → ℕ → List Leaf → ℕ
counted_from last key before leaves = min (before + length (all_rows (leaves_until last (leaves_from key leaves)))) (2 ^ 64 - 1)

-- a count of the rows below a name stands at a leaf that is below it
pub record IsCounting (name : List Bool) (last key count : ℕ) (leaves : List Leaf) : Type 0 where
  pub end : last + 1 ≡ next_key name
  pub at : IsAt (Some key) leaves
  pub some : key ≤ last
  pub counted : counted_from last key count leaves ≡ min (length (all_rows (subtree name leaves))) (2 ^ 64 - 1)

module _ (leaves : List Leaf) (tile : tiles_from 0 (names_of leaves) ≡ true) (name : List Bool) where
  -- it begins at the leaf that the name's first key is under
  pub counts-first : (from last : ℕ) (l : Leaf) → length name ≤ 64 → from ≡ first_key name → last + 1 ≡ next_key name → leaf_under from leaves ≡ Some l → length name ≤ length l.name
      → IsCounting name last from 0 leaves
  counts-first from last l room is end found le =
      let found_first : leaf_under (first_key name) leaves ≡ Some l = ap (λ k. leaf_under k leaves) (sym is) ∙ found in
      let all = subtree-range leaves tile name room l found_first le last end in
      record {
        end = end;
        at = subst (λ k. IsAt (Some k) leaves) (sym is) (at_first leaves tile name room l found_first le);
        some = omega (arith, is, end, first_key-next name);
        counted = ap (λ n. min n (2 ^ 64 - 1)) (zero-add (length (all_rows (leaves_until last (leaves_from from leaves))))) ∙ ap (λ k. min (length (all_rows (leaves_until last (leaves_from k leaves)))) (2 ^ 64 - 1)) is ∙ ap (λ (ls : List Leaf). min (length (all_rows ls)) (2 ^ 64 - 1)) (sym all);
      }

  -- what a look at the next leaf makes of it
  module _ (last key count more end : ℕ) (l : Leaf) (c : IsCounting name last key count leaves) (found : leaf_under key leaves ≡ Some l) (sum : more ≡ min (count + length l.bucket.rows) (2 ^ 64 - 1)) (is : end + 1 ≡ next_key l.name) where
    next : IsNext key leaves l
    next = next_leaf-is key leaves l tile c.at found

    pub counts-on : key ≤ end
    counts-on = omega (arith, first key last leaves l c.at next c.some, first_key-next l.name, is)

    pub counts-all : last ≤ end → more ≡ min (length (all_rows (subtree name leaves))) (2 ^ 64 - 1)
    counts-all le =
        sum ∙ ap (λ n. min (count + n) (2 ^ 64 - 1)) (sym (counted-last key last leaves l c.at next c.some (omega (arith, le, is)))) ∙ c.counted

    pub counts-next : last < 2 ^ 64 → end < last → IsCounting name last (end + 1) more leaves
    counts-next fits lt =
        let rest : ℕ → ℕ = λ k. length (all_rows (leaves_until last (leaves_from k leaves))) in
        let all : min (more + rest (next_key l.name)) (2 ^ 64 - 1) ≡ min (count + (length l.bucket.rows + rest (next_key l.name))) (2 ^ 64 - 1) = capped-more (2 ^ 64 - 1) count (length l.bucket.rows) (rest (next_key l.name)) more (min (more + rest (next_key l.name)) (2 ^ 64 - 1)) sum refl in
        record {
          end = c.end;
          at = subst (λ k. IsAt (Some k) leaves) (sym is) (next_at key last leaves l c.at next c.some fits (omega (arith, is, lt)));
          some = omega (arith, lt);
          counted = ap (λ k. min (more + rest k) (2 ^ 64 - 1)) is ∙ all ∙ ap (λ n. min (count + n) (2 ^ 64 - 1)) (sym (counted-more key last leaves l c.at next c.some)) ∙ c.counted;
        }
