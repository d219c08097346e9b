-- Leaves after a replaced bucket, and after a split.
use Rattle.std.proofs.Common.{◌≡◌, ℕ, zero, suc, ◌+◌, ◌*◌, ◌^◌, ◌<◌, ◌≤◌, Bool, true, false, ◌&&◌, ◌==◌, List, [], ◌∷◌, ◌++◌, length, map, refl, sym, ◌∙◌, ap, subst, arith, cond, length-append}
use Rattle.std.specs.Prelude.{nat_le}
use Rattle.std.specs.List.{AllByRecursion}
use Rattle.std.proofs.lemmas.List.{length-map}
use Rattle.std.proofs.Math.Nat.{pow-succ'}
use Rattle.std.proofs.lemmas.Bool.{false_from_ne_true}
use Rattle.zorder.specs.Name.{first_key}
use Rattle.zorder.specs.SameName.{same_name, same_name-decides}
use Rattle.zorder.specs.Tile.{tiles_from, next_key, bit_lists, children}
use Rattle.zorder.proofs.Tiles.{tiles_from-children}
use Rattle.bucket_versions.specs.declared.row.Row.{Row}
use Rattle.bucket_versions.specs.Rows.{Rows, IsRows}
use Rattle.index_layer.specs.Leaves.{Leaf, AreUnder, AreLeaves, names_of, with_bucket, replaced, leaves_of, split, EachUnder, AreAllUnder}
use Rattle.index_layer.proofs.LeafKeys.{first_key-next, tile_first, tile_rest, ends_before}

-- a leaf of the name with this bucket
abbrev pub leaf_at : List Bool → Rows → Leaf
leaf_at name bucket = record { name = name; bucket = bucket }

-- a name that begins before all leaves is none of theirs
differs : (a b : List Bool) → (first_key a ≡ first_key b → ⊥) → same_name a b ≡ false
differs a b other = false_from_ne_true (same_name a b) (λ e. other (ap first_key ((same_name-decides a b).0 e)))

pub replaced-before : (k : ℕ) (name : List Bool) (bucket : Rows) (leaves : List Leaf) → first_key name < k → tiles_from k (names_of leaves) ≡ true → replaced name bucket leaves ≡ leaves
replaced-before k name bucket [] lt tile = refl
replaced-before k name bucket (l ∷ leaves) lt tile =
    let first : first_key l.name ≡ k = tile_first k l leaves tile in
    let other : same_name l.name name ≡ false = differs l.name name (λ e. omega (arith, e, first, lt)) in
    let rest = replaced-before (next_key l.name) name bucket leaves (omega (arith, first, lt, first_key-next l.name)) (tile_rest k l leaves tile) in
    λ i. cond (other i) (leaf_at l.name bucket) l ∷ rest i

-- the leaf of the name gets the bucket, and no other leaf changes
pub replaced-at : (k : ℕ) (name : List Bool) (bucket : Rows) (front : List Leaf) (l : Leaf) (back : List Leaf) → tiles_from k (names_of (front ++ l ∷ back)) ≡ true → l.name ≡ name
    → replaced name bucket (front ++ l ∷ back) ≡ front ++ leaf_at name bucket ∷ back
replaced-at k name bucket [] l back tile named =
    let same : same_name l.name name ≡ true = (same_name-decides l.name name).1 named in
    let lt : first_key name < next_key l.name = omega (arith, first_key-next l.name, ap first_key named) in
    let rest = replaced-before (next_key l.name) name bucket back lt (tile_rest k l back tile) in
    (λ i. cond (same i) (leaf_at l.name bucket) l ∷ rest i) ∙ (λ i. leaf_at (named i) bucket ∷ back)
replaced-at k name bucket (f ∷ front) l back tile named =
    let before : next_key f.name ≤ first_key l.name = ends_before k f front l back tile in
    let other : same_name f.name name ≡ false = differs f.name name (λ e. omega (arith, e, before, first_key-next f.name, ap first_key named)) in
    let rest = replaced-at (next_key f.name) name bucket front l back (tile_rest k f (front ++ l ∷ back) tile) named in
    λ i. cond (other i) (leaf_at f.name bucket) f ∷ rest i

-- the leaf of the name makes place for its children
pub split-at : (k w : ℕ) (name : List Bool) (buckets : List Rows) (front : List Leaf) (l : Leaf) (back : List Leaf) → tiles_from k (names_of (front ++ l ∷ back)) ≡ true → l.name ≡ name
    → split w name buckets (front ++ l ∷ back) ≡ front ++ (leaves_of (children w name) buckets ++ back)
split-at k w name buckets [] l back tile named =
    let same : same_name l.name name ≡ true = (same_name-decides l.name name).1 named in
    λ i. cond (same i) (leaves_of (children w name) buckets ++ back) (l ∷ split w name buckets back)
split-at k w name buckets (f ∷ front) l back tile named =
    let before : next_key f.name ≤ first_key l.name = ends_before k f front l back tile in
    let other : same_name f.name name ≡ false = differs f.name name (λ e. omega (arith, e, before, first_key-next f.name, ap first_key named)) in
    let rest = split-at (next_key f.name) w name buckets front l back (tile_rest k f (front ++ l ∷ back) tile) named in
    λ i. cond (other i) (leaves_of (children w name) buckets ++ (front ++ l ∷ back)) (f ∷ rest i)

-- a leaf with another bucket has its name, and a replaced bucket keeps the names
pub with_bucket-name : (name : List Bool) (bucket : Rows) (l : Leaf) → (with_bucket name bucket l).name ≡ l.name
with_bucket-name name bucket l = by_test (same_name l.name name)
  where
    by_test : (b : Bool) → (cond b (leaf_at l.name bucket) l).name ≡ l.name
    by_test true = refl
    by_test false = refl

pub names_of-replaced : (name : List Bool) (bucket : Rows) (leaves : List Leaf) → names_of (replaced name bucket leaves) ≡ names_of leaves
names_of-replaced name bucket [] = refl
names_of-replaced name bucket (l ∷ leaves) = λ i. with_bucket-name name bucket l i ∷ names_of-replaced name bucket leaves i

-- what holds of a leaf that gets the bucket, and of each other leaf
rows_of_both : (name : List Bool) (bucket : Rows) (l : Leaf) → IsRows bucket.rows → IsRows l.bucket.rows → IsRows (with_bucket name bucket l).bucket.rows
rows_of_both name bucket l new old = by_test (same_name l.name name)
  where
    by_test : (b : Bool) → IsRows (cond b (leaf_at l.name bucket) l).bucket.rows
    by_test true = new
    by_test false = old

under_of_both : (name : List Bool) (bucket : Rows) (l : Leaf) → AreUnder name bucket.rows → AreUnder l.name l.bucket.rows → AreUnder (with_bucket name bucket l).name (with_bucket name bucket l).bucket.rows
under_of_both name bucket l new old = by_test (same_name l.name name) refl
  where
    by_test : (b : Bool) → same_name l.name name ≡ b → AreUnder (cond b (leaf_at l.name bucket) l).name (cond b (leaf_at l.name bucket) l).bucket.rows
    by_test true e = let P : List Bool → Type 0 = λ n. AreUnder n bucket.rows in subst P (sym ((same_name-decides l.name name).0 e)) new
    by_test false e = old

pub AreLeaves-replaced : (name : List Bool) (bucket : Rows) (leaves : List Leaf) → AreLeaves leaves → IsRows bucket.rows → AreUnder name bucket.rows → AreLeaves (replaced name bucket leaves)
AreLeaves-replaced name bucket leaves a rising under = record {
  tile = ap (tiles_from 0) (names_of-replaced name bucket leaves) ∙ a.tile;
  rows = each_rows leaves a.rows;
  under = each_under leaves a.under;
}
  where
    each_rows : (ls : List Leaf) → AllByRecursion (λ (l : Leaf). IsRows l.bucket.rows) ls → AllByRecursion (λ (l : Leaf). IsRows l.bucket.rows) (replaced name bucket ls)
    each_rows [] all = tt
    each_rows (l ∷ ls) all = (rows_of_both name bucket l rising all.0, each_rows ls all.1)

    each_under : (ls : List Leaf) → AllByRecursion (λ (l : Leaf). AreUnder l.name l.bucket.rows) ls → AllByRecursion (λ (l : Leaf). AreUnder l.name l.bucket.rows) (replaced name bucket ls)
    each_under [] all = tt
    each_under (l ∷ ls) all = (under_of_both name bucket l under all.0, each_under ls all.1)

-- a name has 2 ^ w children
pub length-children : (w : ℕ) (name : List Bool) → length (children w name) ≡ 2 ^ w
length-children w name = length-map (bit_lists w) (λ bits. name ++ bits) ∙ by_width w
  where
    by_width : (v : ℕ) → length (bit_lists v) ≡ 2 ^ v
    by_width zero = refl
    by_width (suc v) =
        let double : 2 ^ suc v ≡ 2 * 2 ^ v = pow-succ' 2 v in
        omega (arith, length-append (map (λ bits. false ∷ bits) (bit_lists v)) (map (λ bits. true ∷ bits) (bit_lists v)), length-map (bit_lists v) (λ bits. false ∷ bits), length-map (bit_lists v) (λ bits. true ∷ bits), by_width v, double)

-- leaves that are made of names and as many buckets
pub names_of-leaves_of : (names : List (List Bool)) (buckets : List Rows) (leaves : List Leaf) → length buckets ≡ length names → names_of (leaves_of names buckets ++ leaves) ≡ names ++ names_of leaves
names_of-leaves_of [] buckets leaves e = refl
names_of-leaves_of (name ∷ names) [] leaves e = absurd (omega (arith, e))
names_of-leaves_of (name ∷ names) (b ∷ buckets) leaves e = ap (λ (l : List (List Bool)). name ∷ l) (names_of-leaves_of names buckets leaves (omega (arith, e)))

rows_of_leaves_of : (names : List (List Bool)) (buckets : List Rows) (leaves : List Leaf) → AllByRecursion (λ (b : Rows). IsRows b.rows) buckets → AllByRecursion (λ (l : Leaf). IsRows l.bucket.rows) leaves
    → AllByRecursion (λ (l : Leaf). IsRows l.bucket.rows) (leaves_of names buckets ++ leaves)
rows_of_leaves_of [] buckets leaves new old = old
rows_of_leaves_of (name ∷ names) [] leaves new old = old
rows_of_leaves_of (name ∷ names) (b ∷ buckets) leaves new old = (new.0, rows_of_leaves_of names buckets leaves new.1 old)

under_leaves_of : (names : List (List Bool)) (buckets : List Rows) (leaves : List Leaf) → EachUnder names buckets → AllByRecursion (λ (l : Leaf). AreUnder l.name l.bucket.rows) leaves
    → AllByRecursion (λ (l : Leaf). AreUnder l.name l.bucket.rows) (leaves_of names buckets ++ leaves)
under_leaves_of [] buckets leaves new old = old
under_leaves_of (name ∷ names) [] leaves new old = old
under_leaves_of (name ∷ names) (b ∷ buckets) leaves new old = (new.0, under_leaves_of names buckets leaves new.1 old)

module _ (w : ℕ) (name : List Bool) (buckets : List Rows) (room : length name + w ≤ 64) (count : length buckets ≡ 2 ^ w) where
  tile_split : (k : ℕ) (leaves : List Leaf) → tiles_from k (names_of (split w name buckets leaves)) ≡ tiles_from k (names_of leaves)
  tile_split k [] = refl
  tile_split k (l ∷ leaves) = by_test (same_name l.name name) refl (tile_split (next_key l.name) leaves)
    where
      by_test : (b : Bool) → same_name l.name name ≡ b → tiles_from (next_key l.name) (names_of (split w name buckets leaves)) ≡ tiles_from (next_key l.name) (names_of leaves)
          → tiles_from k (names_of (cond b (leaves_of (children w name) buckets ++ leaves) (l ∷ split w name buckets leaves))) ≡ tiles_from k (names_of (l ∷ leaves))
      by_test true e rest =
          ap (tiles_from k) (names_of-leaves_of (children w name) buckets leaves (count ∙ sym (length-children w name)))
          ∙ tiles_from-children w name k (names_of leaves) room
          ∙ ap (λ (n : List Bool). tiles_from k (n ∷ names_of leaves)) (sym ((same_name-decides l.name name).0 e))
      by_test false e rest = ap (λ (b : Bool). nat_le (length l.name) 64 && (first_key l.name == k) && b) rest

  rows_split : (leaves : List Leaf) → AllByRecursion (λ (b : Rows). IsRows b.rows) buckets → AllByRecursion (λ (l : Leaf). IsRows l.bucket.rows) leaves → AllByRecursion (λ (l : Leaf). IsRows l.bucket.rows) (split w name buckets leaves)
  rows_split [] new old = tt
  rows_split (l ∷ leaves) new old = by_test (same_name l.name name) (rows_split leaves new old.1)
    where
      by_test : (b : Bool) → AllByRecursion (λ (m : Leaf). IsRows m.bucket.rows) (split w name buckets leaves)
          → AllByRecursion (λ (m : Leaf). IsRows m.bucket.rows) (cond b (leaves_of (children w name) buckets ++ leaves) (l ∷ split w name buckets leaves))
      by_test true rest = rows_of_leaves_of (children w name) buckets leaves new old.1
      by_test false rest = (old.0, rest)

  under_split : (leaves : List Leaf) → AreAllUnder w name buckets → AllByRecursion (λ (l : Leaf). AreUnder l.name l.bucket.rows) leaves → AllByRecursion (λ (l : Leaf). AreUnder l.name l.bucket.rows) (split w name buckets leaves)
  under_split [] new old = tt
  under_split (l ∷ leaves) new old = by_test (same_name l.name name) (under_split leaves new old.1)
    where
      by_test : (b : Bool) → AllByRecursion (λ (m : Leaf). AreUnder m.name m.bucket.rows) (split w name buckets leaves)
          → AllByRecursion (λ (m : Leaf). AreUnder m.name m.bucket.rows) (cond b (leaves_of (children w name) buckets ++ leaves) (l ∷ split w name buckets leaves))
      by_test true rest = under_leaves_of (children w name) buckets leaves new old.1
      by_test false rest = (old.0, rest)

  pub AreLeaves-split : (leaves : List Leaf) → AreLeaves leaves → AllByRecursion (λ (b : Rows). IsRows b.rows) buckets → AreAllUnder w name buckets → AreLeaves (split w name buckets leaves)
  AreLeaves-split leaves a rising under = record {
    tile = tile_split 0 leaves ∙ a.tile;
    rows = rows_split leaves rising a.rows;
    under = under_split leaves under a.under;
  }

-- one leaf for the whole key space
pub AreLeaves-one_leaf : (bucket : Rows) → IsRows bucket.rows → AreLeaves (leaf_at [] bucket ∷ [])
unfolding first_key
AreLeaves-one_leaf bucket rising = record {
  tile = refl;
  rows = (rising, tt);
  under = (each bucket.rows, tt);
}
  where
    each : (rows : List Row) → AreUnder [] rows
    each [] = tt
    each (r ∷ rows) = (refl, each rows)
