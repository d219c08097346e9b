-- Which leaf a key is under, where the leaves' names tile the key space.
use Rattle.std.proofs.Common.{◌≡◌, ℕ, zero, suc, ◌-◌, ◌^◌, ◌<◌, ◌≤◌, Bool, true, false, ◌&&◌, ◌==◌, List, [], ◌∷◌, ◌++◌, length, get_or, leb, Some, refl, sym, ◌∙◌, ap, arith, cond}
use Rattle.std.specs.Prelude.{nat_le}
use Rattle.std.specs.List.{find, AllWithin, AllByRecursion}
use Rattle.std.specs.Cmp.{first_so, second_so}
use Rattle.std.proofs.lemmas.Bool.{leb-true, eqb-true, false_from_ne_true}
use Rattle.std.proofs.lemmas.Bool.Decides.{nat_tests}
use Rattle.std.proofs.lemmas.Nat.{pow_pos}
use mathlib.Core.Bool.{true≢false}
use Rattle.zorder.specs.Key.{is_under}
use Rattle.zorder.specs.Name.{first_key}
use Rattle.zorder.specs.Tile.{tiles_from, next_key}
use Rattle.zorder.proofs.Ranges.{under-range, range-under, high_number-end}
use Rattle.index_layer.specs.Leaves.{Leaf, names_of, leaf_under}

-- the keys under a name end within the key space
pub next_key-end : (name : List Bool) → length name ≤ 64 → next_key name ≤ 2 ^ 64
unfolding first_key
next_key-end name short = high_number-end 64 name short

pub first_key-next : (name : List Bool) → first_key name < next_key name
first_key-next name = omega (arith, pow_pos (64 - length name))

pub first_key-fits : (name : List Bool) → length name ≤ 64 → first_key name < 2 ^ 64
first_key-fits name short = omega (arith, first_key-next name, next_key-end name short)

-- a name's first key is under it
pub first_key-under : (name : List Bool) → length name ≤ 64 → is_under name (first_key name) ≡ true
first_key-under name short = range-under name (first_key name) short (first_key-fits name short) (omega arith) (first_key-next name)

-- what the first of some leaves says where they tile the keys from k on
pub tile_short : (k : ℕ) (l : Leaf) (leaves : List Leaf) → tiles_from k (names_of (l ∷ leaves)) ≡ true → length l.name ≤ 64
tile_short k l leaves tile =
    leb-true (length l.name) 64 (first_so (nat_le (length l.name) 64) (first_key l.name == k) (first_so (nat_le (length l.name) 64 && (first_key l.name == k)) (tiles_from (next_key l.name) (names_of leaves)) tile))

pub tile_first : (k : ℕ) (l : Leaf) (leaves : List Leaf) → tiles_from k (names_of (l ∷ leaves)) ≡ true → first_key l.name ≡ k
tile_first k l leaves tile =
    eqb-true (first_key l.name) k (second_so (nat_le (length l.name) 64) (first_key l.name == k) (first_so (nat_le (length l.name) 64 && (first_key l.name == k)) (tiles_from (next_key l.name) (names_of leaves)) tile))

pub tile_rest : (k : ℕ) (l : Leaf) (leaves : List Leaf) → tiles_from k (names_of (l ∷ leaves)) ≡ true → tiles_from (next_key l.name) (names_of leaves) ≡ true
tile_rest k l leaves tile = second_so (nat_le (length l.name) 64 && (first_key l.name == k)) (tiles_from (next_key l.name) (names_of leaves)) tile

-- the first keys of leaves that tile the keys from k on
pub first_from : (j k : ℕ) (leaves : List Leaf) → j ≤ k → tiles_from k (names_of leaves) ≡ true → AllByRecursion (λ (l : Leaf). j ≤ first_key l.name) leaves
first_from j k [] le tile = tt
first_from j k (l ∷ leaves) le tile =
    let first : first_key l.name ≡ k = tile_first k l leaves tile in
    (omega (arith, first, le), first_from j (next_key l.name) leaves (omega (arith, first, le, first_key-next l.name)) (tile_rest k l leaves tile))

-- what holds of each holds of one between others
pub all_at : (P : Leaf → Type 0) (front : List Leaf) (l : Leaf) (back : List Leaf) → AllByRecursion P (front ++ l ∷ back) → P l
all_at P [] l back all = all.0
all_at P (f ∷ front) l back all = all_at P front l back all.1

pub short_at : (k : ℕ) (front : List Leaf) (l : Leaf) (back : List Leaf) → tiles_from k (names_of (front ++ l ∷ back)) ≡ true → length l.name ≤ 64
short_at k [] l back tile = tile_short k l back tile
short_at k (f ∷ front) l back tile = short_at (next_key f.name) front l back (tile_rest k f (front ++ l ∷ back) tile)

-- a leaf before another ends before that one begins
pub ends_before : (k : ℕ) (f : Leaf) (front : List Leaf) (l : Leaf) (back : List Leaf) → tiles_from k (names_of (f ∷ (front ++ l ∷ back))) ≡ true → next_key f.name ≤ first_key l.name
ends_before k f front l back tile =
    let from : AllByRecursion (λ (m : Leaf). next_key f.name ≤ first_key m.name) (front ++ l ∷ back) = first_from (next_key f.name) (next_key f.name) (front ++ l ∷ back) (omega arith) (tile_rest k f (front ++ l ∷ back) tile) in
    all_at (λ (m : Leaf). next_key f.name ≤ first_key m.name) front l back from

-- the leaf that is found is the one that the key is under, wherever it stands
pub find_at : (p : Leaf → Bool) (f : Leaf) (leaves : List Leaf) (b : Bool) → p f ≡ b → find p (f ∷ leaves) ≡ cond b (Some f) (find p leaves)
find_at p f leaves b e = λ i. cond (e i) (Some f) (find p leaves)

pub leaf_under-at : (k key : ℕ) (front : List Leaf) (l : Leaf) (back : List Leaf) → tiles_from k (names_of (front ++ l ∷ back)) ≡ true → key < 2 ^ 64 → is_under l.name key ≡ true
    → leaf_under key (front ++ l ∷ back) ≡ Some l
leaf_under-at k key [] l back tile fits under = find_at (λ (m : Leaf). is_under m.name key) l back true under
leaf_under-at k key (f ∷ front) l back tile fits under =
    let rest = tile_rest k f (front ++ l ∷ back) tile in
    let before : next_key f.name ≤ first_key l.name = ends_before k f front l back tile in
    let range = under-range l.name key (short_at (next_key f.name) front l back rest) fits under in
    let other : is_under f.name key ≡ false =
    false_from_ne_true (is_under f.name key) (λ e. let first = under-range f.name key (tile_short k f (front ++ l ∷ back) tile) fits e in omega (arith, first.1, before, range.0)) in
    find_at (λ (m : Leaf). is_under m.name key) f (front ++ l ∷ back) false other ∙ leaf_under-at (next_key f.name) key front l back rest fits under

-- the leaf that a key is under is the last whose first key is at most the key
pub leaf_under-place : (k key i : ℕ) (leaves : List Leaf) (d : Leaf) → tiles_from k (names_of leaves) ≡ true → k ≤ key → key < 2 ^ 64
    → AllWithin (λ (l : Leaf). leb (first_key l.name) key ≡ true) leaves 0 i → AllWithin (λ (l : Leaf). leb (first_key l.name) key ≡ false) leaves i (length leaves) → i ≤ length leaves
    → (j : ℕ) × (i ≡ suc j) × (leaf_under key leaves ≡ Some (get_or leaves j d))
leaf_under-place k key i [] d tile from fits front back le = absurd (omega (arith, eqb-true k (2 ^ 64) tile))
leaf_under-place k key zero (l ∷ leaves) d tile from fits front back le =
    absurd (true≢false (sym (le-true (first_key l.name) key (omega (arith, tile_first k l leaves tile))) ∙ back 0 l (omega arith) (omega arith)))
  where
    le-true : (m n : ℕ) → m ≤ n → leb m n ≡ true
    le-true m n h = grind (arith, nat_tests)
leaf_under-place k key (suc zero) (l ∷ leaves) d tile from fits front back le = (
  0,
  refl,
  find_at (λ (m : Leaf). is_under m.name key) l leaves true
      (range-under l.name key (tile_short k l leaves tile) fits (omega (arith, tile_first k l leaves tile)) (ends leaves (tile_rest k l leaves tile) (λ m h. back 1 m (omega arith) (omega (arith, h))))),
)
  where
    above : (m n : ℕ) → leb m n ≡ false → n < m
    above m n h = grind (arith, nat_tests)

    ends : (rest : List Leaf) → tiles_from (next_key l.name) (names_of rest) ≡ true → ((m : Leaf) → 0 < length rest → leb (first_key (get_or rest 0 m).name) key ≡ false) → key < next_key l.name
    ends [] tile out = omega (arith, eqb-true (next_key l.name) (2 ^ 64) tile)
    ends (m ∷ rest) tile out = omega (arith, tile_first (next_key l.name) m rest tile, above (first_key m.name) key (out m (omega arith)))
leaf_under-place k key (suc (suc i)) (l ∷ []) d tile from fits front back le = absurd (omega arith)
leaf_under-place k key (suc (suc i)) (l ∷ m ∷ leaves) d tile from fits front back le =
    let rest = tile_rest k l (m ∷ leaves) tile in
    let at_most : first_key m.name ≤ key = leb-true (first_key m.name) key (front 1 m (omega arith) (omega arith)) in
    let begin : next_key l.name ≤ key = omega (arith, tile_first (next_key l.name) m leaves rest) in
    let other : is_under l.name key ≡ false = false_from_ne_true (is_under l.name key) (λ e. let range = under-range l.name key (tile_short k l (m ∷ leaves) tile) fits e in omega (arith, range.1, begin)) in
    let later = leaf_under-place (next_key l.name) key (suc i) (m ∷ leaves) d rest begin fits (λ j e lo hi. front (suc j) e (omega arith) (omega arith)) (λ j e lo hi. back (suc j) e (omega arith) (omega arith)) (omega arith) in
    (suc later.0, ap suc later.1, find_at (λ (n : Leaf). is_under n.name key) l (m ∷ leaves) false other ∙ later.2)

-- the first keys of the leaves rise
pub first_keys_rise : (k : ℕ) (leaves : List Leaf) (i j : ℕ) (d : Leaf) → tiles_from k (names_of leaves) ≡ true → i ≤ j → j < length leaves → first_key (get_or leaves i d).name ≤ first_key (get_or leaves j d).name
first_keys_rise k [] i j d tile le lt = absurd (omega arith)
first_keys_rise k (l ∷ leaves) zero zero d tile le lt = omega arith
first_keys_rise k (l ∷ leaves) (suc i) zero d tile le lt = absurd (omega arith)
first_keys_rise k (l ∷ leaves) (suc i) (suc j) d tile le lt = first_keys_rise (next_key l.name) leaves i j d (tile_rest k l leaves tile) (omega arith) (omega arith)
first_keys_rise k (l ∷ leaves) zero (suc j) d tile le lt =
    let from = first_from (next_key l.name) (next_key l.name) leaves (omega arith) (tile_rest k l leaves tile) in
    omega (arith, first_key-next l.name, at leaves j from (omega arith))
  where
    at : (rest : List Leaf) (j : ℕ) → AllByRecursion (λ (m : Leaf). next_key l.name ≤ first_key m.name) rest → j < length rest → next_key l.name ≤ first_key (get_or rest j d).name
    at [] j all lt = absurd (omega arith)
    at (m ∷ rest) zero all lt = all.0
    at (m ∷ rest) (suc j) all lt = at rest j all.1 (omega arith)

-- each key is under some leaf
some_from : (k : ℕ) (leaves : List Leaf) (key : ℕ) → tiles_from k (names_of leaves) ≡ true → k ≤ key → key < 2 ^ 64 → (l : Leaf) × (leaf_under key leaves ≡ Some l)
some_from k [] key tile from fits = absurd (omega (arith, eqb-true k (2 ^ 64) tile))
some_from k (l ∷ leaves) key tile from fits = by_test (leb (next_key l.name) key) refl (some_from (next_key l.name) leaves key (tile_rest k l leaves tile))
  where
    below : (m n : ℕ) → leb m n ≡ false → n < m
    below m n h = grind (arith, nat_tests)

    by_test : (b : Bool) → leb (next_key l.name) key ≡ b → (next_key l.name ≤ key → key < 2 ^ 64 → (m : Leaf) × (leaf_under key leaves ≡ Some m)) → (m : Leaf) × (leaf_under key (l ∷ leaves) ≡ Some m)
    by_test true e later =
        let begin : next_key l.name ≤ key = leb-true (next_key l.name) key e in
        let rest = later begin fits in
        let other : is_under l.name key ≡ false = false_from_ne_true (is_under l.name key) (λ u. let range = under-range l.name key (tile_short k l leaves tile) fits u in omega (arith, range.1, begin)) in
        (rest.0, find_at (λ (m : Leaf). is_under m.name key) l leaves false other ∙ rest.1)
    by_test false e later =
        (l, find_at (λ (m : Leaf). is_under m.name key) l leaves true (range-under l.name key (tile_short k l leaves tile) fits (omega (arith, tile_first k l leaves tile, from)) (below (next_key l.name) key e)))

pub leaf_under-some : (leaves : List Leaf) (key : ℕ) → tiles_from 0 (names_of leaves) ≡ true → key < 2 ^ 64 → (l : Leaf) × (leaf_under key leaves ≡ Some l)
leaf_under-some leaves key tile fits = some_from 0 leaves key tile (omega arith) fits
