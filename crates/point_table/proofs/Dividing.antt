-- Leaves of which one has given way to its children.
use Rattle.std.proofs.Common.{◌≡◌, ℕ, zero, suc, ◌+◌, ◌<◌, ◌≤◌, ◌^◌, Bool, true, false, cond, List, [], ◌∷◌, ◌++◌, length, map, refl, sym, ap, subst, ◌∙◌, arith, length-append}
use Rattle.std.specs.Prelude.{nat_lt, ◌==◌, ◌&&◌, ◌||◌}
use Rattle.std.specs.List.{AllByRecursion}
use Rattle.std.proofs.lemmas.List.{length-map}
use Rattle.std.proofs.lemmas.Bool.{eqb-true}
use Rattle.std.proofs.lemmas.Nat.{pow_pos}
use mathlib.Core.Bool.{true≢false}
use Rattle.zorder.specs.declared.points.Placed.{Placed}
use Rattle.zorder.specs.Key.{is_under}
use Rattle.zorder.specs.Name.{first_key}
use Rattle.zorder.specs.SameName.{same_name, same_name-decides}
use Rattle.zorder.specs.Tile.{tiles_from, next_key, bit_lists, children}
use Rattle.zorder.proofs.Ranges.{under-range}
use Rattle.zorder.proofs.Tiles.{tiles_from-children}
use Rattle.bucket_versions.specs.declared.row.Row.{Row}
use Rattle.bucket_versions.specs.Rows.{has_row}
use Rattle.plain_list.specs.State.{split_leaf}
use Rattle.index_layer.specs.Leaves.{Leaf, names_of, has_name, leaves_of, split, EachUnder, AreAllUnder}
use Rattle.index_layer.specs.Stands.{HasRowsOf, places_have}
use Rattle.index_layer.proofs.LeafKeys.{first_key-under, first_key-fits}
use Rattle.index_layer.proofs.LeafChanges.{length-children, names_of-leaves_of}
use Rattle.point_table.specs.Crowded.{AreFrom, AreRising, remarked, remarked_each, marked, unmarked}
use Rattle.point_table.specs.Crowds.{is_crowded, crowded_of, marked_later}
use Rattle.split_prepare.specs.Cut.{cut_out, cut}
use Rattle.split_prepare.proofs.CutLemmas.{AreUnder-rows_under}
use Rattle.point_table.specs.Divisions.{mark_of, marks_of}
use Rattle.point_table.proofs.Covered.{Tiles, tiles}
use Rattle.point_table.proofs.CrowdLemmas.{has_name-from, tiles-AreFrom, next-above, spliced, split-spliced, crowded_of-spliced}
use Rattle.point_table.proofs.Splitting.{under-front, rows_cut, rows_spliced}

-- the names of a split leaf's children
length_bits : (w : ℕ) → AllByRecursion (λ (bits : List Bool). length bits ≡ w) (bit_lists w)
length_bits zero = (refl, tt)
length_bits (suc w) = joined (map (λ bits. false ∷ bits) (bit_lists w)) (map (λ bits. true ∷ bits) (bit_lists w)) (longer false (bit_lists w) (length_bits w)) (longer true (bit_lists w) (length_bits w))
  where
    longer : (b : Bool) (lists : List (List Bool)) → AllByRecursion (λ (bits : List Bool). length bits ≡ w) lists → AllByRecursion (λ (bits : List Bool). length bits ≡ suc w) (map (λ bits. b ∷ bits) lists)
    longer b [] all = tt
    longer b (bits ∷ lists) all = (ap suc all.0, longer b lists all.1)

    joined : (xs ys : List (List Bool)) → AllByRecursion (λ (bits : List Bool). length bits ≡ suc w) xs → AllByRecursion (λ (bits : List Bool). length bits ≡ suc w) ys → AllByRecursion (λ (bits : List Bool). length bits ≡ suc w) (xs ++ ys)
    joined [] ys first second = second
    joined (x ∷ xs) ys first second = (first.0, joined xs ys first.1 second)

-- what holds of each child's name
pub all_children : (P : List Bool → Type 0) (w : ℕ) (name : List Bool) → ((bits : List Bool) → length bits ≡ w → P (name ++ bits)) → AllByRecursion P (children w name)
all_children P w name each = over (bit_lists w) (length_bits w)
  where
    over : (lists : List (List Bool)) → AllByRecursion (λ (bits : List Bool). length bits ≡ w) lists → AllByRecursion P (map (λ bits. name ++ bits) lists)
    over [] all = tt
    over (bits ∷ lists) all = (each bits all.0, over lists all.1)

pub short_children : (w : ℕ) (name : List Bool) → length name + w ≤ 64 → AllByRecursion (λ (n : List Bool). length n ≤ 64) (children w name)
short_children w name room = all_children (λ n. length n ≤ 64) w name (λ bits e. omega (arith, room, e, length-append name bits))

each_under : (rows : List Row) (names : List (List Bool)) → AllByRecursion (λ (n : List Bool). length n ≤ 64) names → EachUnder names (map (cut_out rows) names)
each_under rows [] short = tt
each_under rows (name ∷ names) short = (AreUnder-rows_under name rows short.0, each_under rows names short.1)

-- the rows of each child are under its name
pub under_children : (w : ℕ) (name : List Bool) (rows : List Row) → length name + w ≤ 64 → AreAllUnder w name (cut w name rows)
under_children w name rows room = each_under rows (children w name) (short_children w name room)

-- as many buckets as children
pub length-cut : (w : ℕ) (name : List Bool) (rows : List Row) → length (cut w name rows) ≡ 2 ^ w
length-cut w name rows = length-map (children w name) (cut_out rows) ∙ length-children w name

-- the names after a split
pub names_of-divided : (w : ℕ) (name : List Bool) (rows : List Row) (leaves : List Leaf) → names_of (split w name (cut w name rows) leaves) ≡ split_leaf w name (names_of leaves)
names_of-divided w name rows [] = refl
names_of-divided w name rows (l ∷ leaves) = by_test (same_name l.name name) (names_of-divided w name rows leaves)
  where
    by_test : (b : Bool) → names_of (split w name (cut w name rows) leaves) ≡ split_leaf w name (names_of leaves)
        → names_of (cond b (leaves_of (children w name) (cut w name rows) ++ leaves) (l ∷ split w name (cut w name rows) leaves))
        ≡ cond b (children w name ++ names_of leaves) (l.name ∷ split_leaf w name (names_of leaves))
    by_test true rest = names_of-leaves_of (children w name) (cut w name rows) leaves (length-cut w name rows ∙ sym (length-children w name))
    by_test false rest = ap (λ (names : List (List Bool)). l.name ∷ names) rest

-- the rows of the leaves after a split
rows_parts : (places : List Placed) (name : List Bool) (rows : List Row) (lists : List (List Bool)) → AllByRecursion (λ (n : List Bool). length n ≤ 64) (map (λ bits. name ++ bits) lists)
    → ((q : Row) → has_row q rows ≡ (places_have places q && is_under name q.key)) → AllByRecursion (HasRowsOf places) (leaves_of (map (λ bits. name ++ bits) lists) (map (cut_out rows) (map (λ bits. name ++ bits) lists)))
rows_parts places name rows [] short had = tt
rows_parts places name rows (bits ∷ lists) short had = (rows_cut places name bits rows short.0 had, rows_parts places name rows lists short.1 had)

pub rows_divided : (w : ℕ) (places : List Placed) (leaf : Leaf) (leaves : List Leaf) → length leaf.name + w ≤ 64 → HasRowsOf places leaf → AllByRecursion (HasRowsOf places) leaves
    → AllByRecursion (HasRowsOf places) (split w leaf.name (cut w leaf.name leaf.bucket.rows) leaves)
rows_divided w places leaf leaves room had rows =
    subst (AllByRecursion (HasRowsOf places)) (sym (split-spliced w leaf.name (cut w leaf.name leaf.bucket.rows) leaves))
    (rows_spliced (HasRowsOf places) leaf.name (leaves_of (children w leaf.name) (cut w leaf.name leaf.bucket.rows)) leaves
    (rows_parts places leaf.name leaf.bucket.rows (bit_lists w) (short_children w leaf.name room) had) rows)

-- the same, for a leaf that has the name
pub rows_of-divided : (w : ℕ) (places : List Placed) (name : List Bool) (leaf : Leaf) (leaves : List Leaf) → leaf.name ≡ name → length name + w ≤ 64 → HasRowsOf places leaf → AllByRecursion (HasRowsOf places) leaves
    → AllByRecursion (HasRowsOf places) (split w name (cut w name leaf.bucket.rows) leaves)
rows_of-divided w places name leaf leaves is room had rows =
    let P : List Bool → Type 0 = λ n. length n + w ≤ 64 → AllByRecursion (HasRowsOf places) (split w n (cut w n leaf.bucket.rows) leaves) in
    subst P is (λ short. rows_divided w places leaf leaves short had rows) room

-- no name has this first key
abbrev LacksKey : ℕ → List (List Bool) → Type 0
LacksKey k names = AllByRecursion (λ (n : List Bool). first_key n ≡ k → ⊥) names

unmark_if : (a b : Bool) (n : List Bool) (names more : List (List Bool)) → (b ≡ true → ⊥) → more ≡ names → cond a (n ∷ names) (cond b names (n ∷ more)) ≡ n ∷ names
unmark_if true b n names more other rest = refl
unmark_if false true n names more other rest = absurd (other refl)
unmark_if false false n names more other rest = ap (λ (l : List (List Bool)). n ∷ l) rest

unmarked-lacks : (name : List Bool) (names : List (List Bool)) → LacksKey (first_key name) names → unmarked name names ≡ names
unmarked-lacks name [] none = refl
unmarked-lacks name (n ∷ names) none =
    unmark_if (nat_lt (first_key name) (first_key n)) (first_key name == first_key n) n names (unmarked name names) (λ e. none.0 (sym (eqb-true (first_key name) (first_key n) e))) (unmarked-lacks name names none.1)

lacks_cond : (k : ℕ) (a b : Bool) (name n : List Bool) (names more : List (List Bool)) → (first_key name ≡ k → ⊥) → LacksKey k (n ∷ names) → LacksKey k more → LacksKey k (cond a (name ∷ n ∷ names) (cond b (name ∷ names) (n ∷ more)))
lacks_cond k true b name n names more other none rest = (other, none)
lacks_cond k false true name n names more other none rest = (other, none.1)
lacks_cond k false false name n names more other none rest = (none.0, rest)

marked-lacks : (k : ℕ) (name : List Bool) (names : List (List Bool)) → (first_key name ≡ k → ⊥) → LacksKey k names → LacksKey k (marked name names)
marked-lacks k name [] other none = (other, tt)
marked-lacks k name (n ∷ names) other none =
    lacks_cond k (nat_lt (first_key name) (first_key n)) (first_key name == first_key n) name n names (marked name names) other none (marked-lacks k name names other none.1)

later_if : (b : Bool) (k : ℕ) (name : List Bool) (names : List (List Bool)) → (first_key name ≡ k → ⊥) → LacksKey k names → LacksKey k (cond b (marked name names) names)
later_if true k name names other none = marked-lacks k name names other none
later_if false k name names other none = none

marked_later-lacks : (w size k : ℕ) (leaves : List Leaf) (names : List (List Bool)) → AreFrom (suc k) (names_of leaves) → LacksKey k names → LacksKey k (marked_later w size leaves names)
marked_later-lacks w size k [] names from none = none
marked_later-lacks w size k (l ∷ leaves) names from none =
    later_if (is_crowded w size l) k l.name (marked_later w size leaves names) (λ e. omega (arith, e, from.0)) (marked_later-lacks w size k leaves names from.1 none)

-- leaves whose first keys no name has are marked, and none is taken out
remark_if : (b : Bool) (name : List Bool) (names : List (List Bool)) → LacksKey (first_key name) names → remarked b name names ≡ cond b (marked name names) names
remark_if true name names none = refl
remark_if false name names none = unmarked-lacks name names none

remarked_each-later : (w size : ℕ) (others : List Leaf) (names : List (List Bool)) → AreRising (names_of others) → AllByRecursion (λ (l : Leaf). LacksKey (first_key l.name) names) others
    → remarked_each (map (mark_of w size) others) names ≡ marked_later w size others names
remarked_each-later w size [] names rising none = refl
remarked_each-later w size (l ∷ others) names rising none =
    ap (remarked (is_crowded w size l) l.name) (remarked_each-later w size others names rising.1 none.1)
    ∙ remark_if (is_crowded w size l) l.name (marked_later w size others names) (marked_later-lacks w size (first_key l.name) others names rising.0 none.0)

lacks_if : (k : ℕ) (b : Bool) (name : List Bool) (names : List (List Bool)) → (first_key name ≡ k → ⊥) → LacksKey k names → LacksKey k (cond b (name ∷ names) names)
lacks_if k true name names other none = (other, none)
lacks_if k false name names other none = none

crowded-lacks : (w size k : ℕ) (leaves : List Leaf) → LacksKey k (names_of leaves) → LacksKey k (crowded_of w size leaves)
crowded-lacks w size k [] none = tt
crowded-lacks w size k (l ∷ leaves) none = lacks_if k (is_crowded w size l) l.name (crowded_of w size leaves) none.0 (crowded-lacks w size k leaves none.1)

above-lacks : (j k : ℕ) (names : List (List Bool)) → k < j → AreFrom j names → LacksKey k names
above-lacks j k [] lt from = tt
above-lacks j k (n ∷ names) lt from = (λ e. omega (arith, e, lt, from.0), above-lacks j k names lt from.1)

-- a key in a leaf's range and behind its first one is no leaf's first key
inside-lacks : (j k : ℕ) (name : List Bool) (leaves : List Leaf) → tiles_from j (names_of leaves) ≡ true → has_name name leaves ≡ true → first_key name < k → k < next_key name → LacksKey k (names_of leaves)
inside-lacks j k name [] tile has low high = tt
inside-lacks j k name (l ∷ leaves) tile has low high = by_test (same_name l.name name) refl has (inside-lacks (next_key l.name) k name leaves)
  where
    t : Tiles j l.name (names_of leaves)
    t = tiles j l.name (names_of leaves) tile

    by_test : (b : Bool) → same_name l.name name ≡ b → (b || has_name name leaves) ≡ true
        → (tiles_from (next_key l.name) (names_of leaves) ≡ true → has_name name leaves ≡ true → first_key name < k → k < next_key name → LacksKey k (names_of leaves)) → LacksKey k (names_of (l ∷ leaves))
    by_test true e has rest =
        let is : l.name ≡ name = (same_name-decides l.name name).0 e in
        let first : first_key l.name ≡ first_key name = ap first_key is in
        let next : next_key l.name ≡ next_key name = ap next_key is in
        (λ same. omega (arith, same, first, low), above-lacks (next_key l.name) k (names_of leaves) (omega (arith, next, high)) (tiles-AreFrom (next_key l.name) (names_of leaves) t.rest))
    by_test false e has rest =
        let le = has_name-from (next_key l.name) name leaves (tiles-AreFrom (next_key l.name) (names_of leaves) t.rest) has in
        (λ same. omega (arith, same, le, next-above l.name, low), rest t.rest has low high)

-- a child's first key is in the name's range
child_range : (name bits : List Bool) → length (name ++ bits) ≤ 64 → (first_key name ≤ first_key (name ++ bits)) × (first_key (name ++ bits) < next_key name)
child_range name bits short =
    let under = under-front name bits (first_key (name ++ bits)) (first_key-under (name ++ bits) short) in
    under-range name (first_key (name ++ bits)) (omega (arith, short, length-append name bits)) (first_key-fits (name ++ bits) short) under

-- names that tile are in order
rising_front : (k : ℕ) (names rest : List (List Bool)) → tiles_from k (names ++ rest) ≡ true → AreRising names
rising_front k [] rest tile = tt
rising_front k (n ∷ names) rest tile =
    let t = tiles k n (names ++ rest) tile in
    (front_from (next_key n) names (tiles-AreFrom (next_key n) (names ++ rest) t.rest) (next-above n), rising_front (next_key n) names rest t.rest)
  where
    front_from : (j : ℕ) (front : List (List Bool)) → AreFrom j (front ++ rest) → first_key n < j → AreFrom (suc (first_key n)) front
    front_from j [] from lt = tt
    front_from j (m ∷ front) from lt = (omega (arith, from.0, lt), front_from j front from.1 lt)

-- the names from a leaf's on
pub record TilesOn (name : List Bool) : Type 0 where
  pub key : ℕ
  pub rest : List (List Bool)
  pub tile : tiles_from key (name ∷ rest) ≡ true

tiles_on : (k : ℕ) (name : List Bool) (leaves : List Leaf) → tiles_from k (names_of leaves) ≡ true → has_name name leaves ≡ true → TilesOn name
tiles_on k name [] tile has = absurd (true≢false (sym has))
tiles_on k name (l ∷ leaves) tile has = by_test (same_name l.name name) refl has (tiles_on (next_key l.name) name leaves)
  where
    by_test : (b : Bool) → same_name l.name name ≡ b → (b || has_name name leaves) ≡ true → (tiles_from (next_key l.name) (names_of leaves) ≡ true → has_name name leaves ≡ true → TilesOn name) → TilesOn name
    by_test true e has rest = record {
      key = k;
      rest = names_of leaves;
      tile = ap (λ (n : List Bool). tiles_from k (n ∷ names_of leaves)) (sym ((same_name-decides l.name name).0 e)) ∙ tile;
    }
    by_test false e has rest = rest (tiles k l.name (names_of leaves) tile).rest has

pub rising_children : (w : ℕ) (name : List Bool) (leaves : List Leaf) → length name + w ≤ 64 → tiles_from 0 (names_of leaves) ≡ true → has_name name leaves ≡ true → AreRising (children w name)
rising_children w name leaves room tile has =
    let on = tiles_on 0 name leaves tile has in
    rising_front on.key (children w name) on.rest (tiles_from-children w name on.key on.rest room ∙ on.tile)

names_of-cut : (names : List (List Bool)) (rows : List Row) → names_of (leaves_of names (map (cut_out rows) names)) ≡ names
names_of-cut [] rows = refl
names_of-cut (name ∷ names) rows = ap (λ (rest : List (List Bool)). name ∷ rest) (names_of-cut names rows)

-- the names of leaves that are to be split, where some in order lie in the range of one and stand in its place
crowded_parts : (w size : ℕ) (name : List Bool) (parts leaves : List Leaf) → tiles_from 0 (names_of leaves) ≡ true → tiles_from 0 (names_of (spliced name parts leaves)) ≡ true → has_name name leaves ≡ true
    → 0 < length (names_of parts) → AreRising (names_of parts) → AllByRecursion (λ (n : List Bool). (first_key name ≤ first_key n) × (first_key n < next_key name)) (names_of parts)
    → remarked_each (map (mark_of w size) parts) (crowded_of w size leaves) ≡ crowded_of w size (spliced name parts leaves)
crowded_parts w size name [] leaves tile tile2 has some rising within = absurd (omega (arith, some))
crowded_parts w size name (first ∷ others) leaves tile tile2 has some rising within =
    ap (remarked (is_crowded w size first) first.name) (remarked_each-later w size others (crowded_of w size leaves) rising.1 (each others rising.0 within.1))
    ∙ sym (crowded_of-spliced w size 0 name first others leaves tile tile2 has)
  where
    each : (ls : List Leaf) → AreFrom (suc (first_key first.name)) (names_of ls) → AllByRecursion (λ (n : List Bool). (first_key name ≤ first_key n) × (first_key n < next_key name)) (names_of ls)
        → AllByRecursion (λ (l : Leaf). LacksKey (first_key l.name) (crowded_of w size leaves)) ls
    each [] from all = tt
    each (l ∷ ls) from all =
        (crowded-lacks w size (first_key l.name) leaves (inside-lacks 0 (first_key l.name) name leaves tile has (omega (arith, from.0, within.0.0)) all.0.1), each ls from.1 all.1)

pub crowded_of-divided : (w size : ℕ) (name : List Bool) (rows : List Row) (leaves : List Leaf) → length name + w ≤ 64 → tiles_from 0 (names_of leaves) ≡ true
    → tiles_from 0 (names_of (split w name (cut w name rows) leaves)) ≡ true → has_name name leaves ≡ true
    → remarked_each (marks_of w size name (cut w name rows)) (crowded_of w size leaves) ≡ crowded_of w size (split w name (cut w name rows) leaves)
crowded_of-divided w size name rows leaves room tile tile2 has =
    let parts = leaves_of (children w name) (cut w name rows) in
    let names : names_of parts ≡ children w name = names_of-cut (children w name) rows in
    let same = split-spliced w name (cut w name rows) leaves in
    let tiled : tiles_from 0 (names_of (spliced name parts leaves)) ≡ true = ap (λ (ls : List Leaf). tiles_from 0 (names_of ls)) (sym same) ∙ tile2 in
    let short = short_children w name room in
    let P : List Bool → Type 0 = λ n. (first_key name ≤ first_key n) × (first_key n < next_key name) in
    let within : AllByRecursion P (children w name) = all_children P w name (λ bits e. child_range name bits (omega (arith, room, e, length-append name bits))) in
    let Q : List (List Bool) → Type 0 = λ ns. AllByRecursion P ns in
    crowded_parts w size name parts leaves tile tiled has
    (omega (arith, ap length names, length-children w name, pow_pos w))
    (subst AreRising (sym names) (rising_children w name leaves room tile has))
    (subst Q (sym names) within)
    ∙ ap (crowded_of w size) (sym same)
