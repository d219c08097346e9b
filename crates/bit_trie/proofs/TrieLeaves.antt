-- A trie with another bucket on a path has the leaves with another bucket under one name.
use Rattle.std.proofs.Common.{◌≡◌, ℕ, zero, suc, ◌+◌, ◌-◌, ◌<◌, ◌≤◌, Bool, true, false, List, [], ◌∷◌, ◌++◌, length, take, Some, Ok, Err, max, refl, sym, ◌∙◌, ap, subst, arith, append_assoc, append-nil, ◌^◌, Result, OnOk, OnErr}
use Rattle.std.specs.List.{starts_with, AllByRecursion}
use Rattle.std.proofs.lemmas.Option.{same_Some}
use mathlib.Core.Bool.{beq}
use Rattle.zorder.specs.Bits.{low_bits}
use Rattle.zorder.specs.Name.{first_key, length-low_bits}
use Rattle.zorder.specs.Key.{key_bits, is_under}
use Rattle.zorder.specs.SameName.{same_name, same_name-decides}
use Rattle.zorder.specs.Tile.{tiles_from, children}
use Rattle.bucket_versions.specs.Rows.{Rows, IsRows}
use Rattle.index_layer.specs.Leaves.{Leaf, AreLeaves, AreUnder, AreAllUnder, names_of, has_name, replaced, leaves_of, split, leaf_under}
use Rattle.index_layer.proofs.LeafChanges.{leaf_at, replaced-at, split-at, AreLeaves-replaced, AreLeaves-split}
use Rattle.index_layer.proofs.LeafKeys.{leaf_under-at, first_key-fits, first_key-under}
use Rattle.index_layer.proofs.LeafNames.{any-among, one-leaf, short-among}
use Rattle.bit_trie.specs.Tries.{Trie, tip, fork, height, leaves_under, name_at, bucket_at, graft}

-- the leaves in front of the one on this path, those behind it, and its bucket
pub record Gap (name path : List Bool) (t : Trie) : Type 0 where
  pub front : List Leaf
  pub back : List Leaf
  pub old : Rows
  pub held : bucket_at path t ≡ Some old
  pub before : leaves_under name t ≡ front ++ leaf_at (name ++ name_at path t) old ∷ back
  pub filled : (s : Trie) → leaves_under name (graft path s t) ≡ front ++ (leaves_under (name ++ name_at path t) s ++ back)

height_zero : (z o : Trie) (n : ℕ) → height (fork z o) ≤ suc n → height z ≤ n
height_zero z o n h = omega (arith, h)

height_one : (z o : Trie) (n : ℕ) → height (fork z o) ≤ suc n → height o ≤ n
height_one z o n h = omega (arith, h)

pub gap : (name path : List Bool) (t : Trie) → height t ≤ length path → Gap name path t
gap name path (tip a) h = record {
  front = [];
  back = [];
  old = a;
  held = refl;
  before = λ i. leaf_at (sym (append-nil name) i) a ∷ [];
  filled = λ s. (λ i. leaves_under (sym (append-nil name) i) s) ∙ sym (append-nil (leaves_under (name ++ []) s));
}
gap name [] (fork z o) h = absurd (omega (arith, h))
gap name (true ∷ path) (fork z o) h =
    let r = gap (name ++ true ∷ []) path o (height_one z o (length path) h) in
    let first : List Leaf = leaves_under (name ++ false ∷ []) z in
    let named : (name ++ true ∷ []) ++ name_at path o ≡ name ++ true ∷ name_at path o = append_assoc name (true ∷ []) (name_at path o) in
    record {
      front = first ++ r.front;
      back = r.back;
      old = r.old;
      held = r.held;
      before = ap (λ (l : List Leaf). first ++ l) r.before
          ∙ (λ i. first ++ (r.front ++ leaf_at (named i) r.old ∷ r.back))
          ∙ sym (append_assoc first r.front (leaf_at (name ++ true ∷ name_at path o) r.old ∷ r.back));
      filled = λ s. ap (λ (l : List Leaf). first ++ l) (r.filled s)
          ∙ (λ i. first ++ (r.front ++ (leaves_under (named i) s ++ r.back)))
          ∙ sym (append_assoc first r.front (leaves_under (name ++ true ∷ name_at path o) s ++ r.back));
    }
gap name (false ∷ path) (fork z o) h =
    let r = gap (name ++ false ∷ []) path z (height_zero z o (length path) h) in
    let last : List Leaf = leaves_under (name ++ true ∷ []) o in
    let named : (name ++ false ∷ []) ++ name_at path z ≡ name ++ false ∷ name_at path z = append_assoc name (false ∷ []) (name_at path z) in
    record {
      front = r.front;
      back = r.back ++ last;
      old = r.old;
      held = r.held;
      before = ap (λ (l : List Leaf). l ++ last) r.before
          ∙ append_assoc r.front (leaf_at ((name ++ false ∷ []) ++ name_at path z) r.old ∷ r.back) last
          ∙ (λ i. r.front ++ leaf_at (named i) r.old ∷ (r.back ++ last));
      filled = λ s. ap (λ (l : List Leaf). l ++ last) (r.filled s)
          ∙ append_assoc r.front (leaves_under ((name ++ false ∷ []) ++ name_at path z) s ++ r.back) last
          ∙ (λ i. r.front ++ append_assoc (leaves_under (named i) s) r.back last i);
    }

-- the name on a path begins the path
name_begins : (path : List Bool) (t : Trie) → starts_with beq path (name_at path t) ≡ true
name_begins path (tip a) = refl
name_begins [] (fork z o) = refl
name_begins (true ∷ path) (fork z o) = name_begins path o
name_begins (false ∷ path) (fork z o) = name_begins path z

pub height-put : (path : List Bool) (b : Rows) (t : Trie) → height (graft path (tip b) t) ≡ height t
height-put path b (tip a) = refl
height-put [] b (fork z o) = refl
height-put (true ∷ path) b (fork z o) = ap (λ n. suc (max (height z) n)) (height-put path b o)
height-put (false ∷ path) b (fork z o) = ap (λ n. suc (max n (height o))) (height-put path b z)

-- a key has 64 bits
pub within : (key : ℕ) (t : Trie) → height t ≤ 64 → height t ≤ length (low_bits 64 key)
within key t h = omega (arith, h, length-low_bits 64 key)

pub name-under : (key : ℕ) (t : Trie) → is_under (name_at (low_bits 64 key) t) key ≡ true
unfolding key_bits
name-under key t = name_begins (low_bits 64 key) t

-- another bucket on a key's path is another bucket under the name there
pub leaves-put : (key : ℕ) (b : Rows) (t : Trie) → height t ≤ 64 → tiles_from 0 (names_of (leaves_under [] t)) ≡ true
    → leaves_under [] (graft (low_bits 64 key) (tip b) t) ≡ replaced (name_at (low_bits 64 key) t) b (leaves_under [] t)
leaves-put key b t h tile =
    let r = gap [] (low_bits 64 key) t (within key t h) in
    let tiled : tiles_from 0 (names_of (r.front ++ leaf_at (name_at (low_bits 64 key) t) r.old ∷ r.back)) ≡ true = ap (λ (l : List Leaf). tiles_from 0 (names_of l)) (sym r.before) ∙ tile in
    r.filled (tip b)
    ∙ sym (replaced-at 0 (name_at (low_bits 64 key) t) b r.front (leaf_at (name_at (low_bits 64 key) t) r.old) r.back tiled refl)
    ∙ ap (replaced (name_at (low_bits 64 key) t) b) (sym r.before)

-- the leaf that a key is under
pub leaf-at_key : (key : ℕ) (a : Rows) (t : Trie) → height t ≤ 64 → tiles_from 0 (names_of (leaves_under [] t)) ≡ true → key < 2 ^ 64 → bucket_at (low_bits 64 key) t ≡ Some a
    → leaf_under key (leaves_under [] t) ≡ Some (leaf_at (name_at (low_bits 64 key) t) a)
leaf-at_key key a t h tile lt held =
    let r = gap [] (low_bits 64 key) t (within key t h) in
    let same : r.old ≡ a = same_Some r.old a (sym r.held ∙ held) in
    let tiled : tiles_from 0 (names_of (r.front ++ leaf_at (name_at (low_bits 64 key) t) r.old ∷ r.back)) ≡ true = ap (λ (l : List Leaf). tiles_from 0 (names_of l)) (sym r.before) ∙ tile in
    ap (leaf_under key) r.before
    ∙ leaf_under-at 0 key r.front (leaf_at (name_at (low_bits 64 key) t) r.old) r.back tiled lt (name-under key t)
    ∙ ap (λ (b : Rows). Some (leaf_at (name_at (low_bits 64 key) t) b)) same

-- the first key of a leaf's name leads to that leaf
pub name-found : (name : List Bool) (t : Trie) → height t ≤ 64 → tiles_from 0 (names_of (leaves_under [] t)) ≡ true → has_name name (leaves_under [] t) ≡ true
    → name_at (low_bits 64 (first_key name)) t ≡ name
name-found name t h tile there =
    let key : ℕ = first_key name in
    let r = gap [] (low_bits 64 key) t (within key t h) in
    let l : Leaf = leaf_at (name_at (low_bits 64 key) t) r.old in
    let m = any-among (λ (n : Leaf). same_name n.name name) (leaves_under [] t) there in
    let named : m.0.name ≡ name = (same_name-decides m.0.name name).0 m.2 in
    let few : length m.0.name ≤ 64 = short-among (leaves_under [] t) m.0 tile m.1 in
    let fits : key < 2 ^ 64 = subst (λ (n : List Bool). first_key n < 2 ^ 64) named (first_key-fits m.0.name few) in
    let over : is_under m.0.name key ≡ true = ap (is_under m.0.name) (ap first_key (sym named)) ∙ first_key-under m.0.name few in
    let same : l ≡ m.0 = one-leaf (leaves_under [] t) l m.0 key tile fits (r.front, r.back, r.before) m.1 (name-under key t) over in
    ap (λ (n : Leaf). n.name) same ∙ named

-- a trie that differs from another one in one leaf's bucket
pub record Differs (name : List Bool) (b : Rows) (old new : Trie) : Type 0 where
  pub short : height new ≤ 64
  pub are_leaves : AreLeaves (leaves_under [] new)
  pub leaves : leaves_under [] new ≡ replaced name b (leaves_under [] old)

pub differs-put : (name : List Bool) (key : ℕ) (b : Rows) (t : Trie) → key ≡ first_key name → height t ≤ 64 → AreLeaves (leaves_under [] t) → IsRows b.rows → AreUnder name b.rows → has_name name (leaves_under [] t) ≡ true
    → Differs name b t (graft (low_bits 64 key) (tip b) t)
differs-put name key b t first h are rising under there =
    let path : List Bool = low_bits 64 key in
    let found : name_at path t ≡ name = ap (λ k. name_at (low_bits 64 k) t) first ∙ name-found name t h are.tile there in
    let leaves : leaves_under [] (graft path (tip b) t) ≡ replaced name b (leaves_under [] t) = leaves-put key b t h are.tile ∙ ap (λ (n : List Bool). replaced n b (leaves_under [] t)) found in
    record {
      short = subst (λ n. n ≤ 64) (sym (height-put path b t)) h;
      are_leaves = subst AreLeaves (sym leaves) (AreLeaves-replaced name b (leaves_under [] t) are rising under);
      leaves = leaves;
    }

-- what holds of a trie whether a change of it was made or not
pub short-kept : {A E : Type 0} (r : Result A E) (old made new : Trie) → height made ≤ 64 → height old ≤ 64 → OnOk r (new ≡ made) → OnErr r (new ≡ old) → height new ≤ 64
short-kept (Ok x) old made new hm ho ok err = subst (λ (t : Trie). height t ≤ 64) (sym ok) hm
short-kept (Err e) old made new hm ho ok err = subst (λ (t : Trie). height t ≤ 64) (sym err) ho

pub are_leaves-kept : {A E : Type 0} (r : Result A E) (old made new : Trie) → AreLeaves (leaves_under [] made) → AreLeaves (leaves_under [] old) → OnOk r (new ≡ made) → OnErr r (new ≡ old) → AreLeaves (leaves_under [] new)
are_leaves-kept (Ok x) old made new am ao ok err = subst (λ (t : Trie). AreLeaves (leaves_under [] t)) (sym ok) am
are_leaves-kept (Err e) old made new am ao ok err = subst (λ (t : Trie). AreLeaves (leaves_under [] t)) (sym err) ao

pub leaves-made : {A E : Type 0} (r : Result A E) (made new : Trie) (leaves : List Leaf) → leaves_under [] made ≡ leaves → OnOk r (new ≡ made) → OnOk r (leaves_under [] new ≡ leaves)
leaves-made (Ok x) made new leaves e ok = ap (leaves_under []) ok ∙ e
leaves-made (Err x) made new leaves e ok = tt

-- the name on a path is its first bits
name-front : (path : List Bool) (t : Trie) → take (length (name_at path t)) path ≡ name_at path t
name-front path (tip a) = refl
name-front [] (fork z o) = refl
name-front (true ∷ path) (fork z o) = ap (λ (n : List Bool). true ∷ n) (name-front path o)
name-front (false ∷ path) (fork z o) = ap (λ (n : List Bool). false ∷ n) (name-front path z)

-- the leaf that a key is under, where so many of its bits are left behind the leaf's name
pub leaf-named : (key left : ℕ) (a : Rows) (t : Trie) (name : List Bool) → height t ≤ 64 → tiles_from 0 (names_of (leaves_under [] t)) ≡ true → key < 2 ^ 64 → bucket_at (low_bits 64 key) t ≡ Some a
    → left + length (name_at (low_bits 64 key) t) ≡ 64 → name ≡ take (64 - left) (key_bits key) → leaf_under key (leaves_under [] t) ≡ Some (leaf_at name a)
unfolding key_bits
leaf-named key left a t name h tile lt held long named =
    let count : length (name_at (low_bits 64 key) t) ≡ 64 - left = omega (arith, long) in
    leaf-at_key key a t h tile lt held
    ∙ (λ i. Some (leaf_at (sym (name-front (low_bits 64 key) t) i) a))
    ∙ ap (λ (n : ℕ). Some (leaf_at (take n (low_bits 64 key)) a)) count
    ∙ ap (λ (n : List Bool). Some (leaf_at n a)) (sym named)

-- a part in the place of a leaf makes names longer by its own height, and no other
pub height-part : (path : List Bool) (s t : Trie) (n : ℕ) → height t ≤ n → length (name_at path t) + height s ≤ n → height (graft path s t) ≤ n
height-part path s (tip b) n h short = omega (arith, short)
height-part [] s (fork z o) n h short = h
height-part (true ∷ path) s (fork z o) zero h short = absurd (omega (arith, h))
height-part (true ∷ path) s (fork z o) (suc n) h short =
    let rest : height (graft path s o) ≤ n = height-part path s o n (height_one z o n h) (omega (arith, short)) in
    omega (arith, height_zero z o n h, rest)
height-part (false ∷ path) s (fork z o) zero h short = absurd (omega (arith, h))
height-part (false ∷ path) s (fork z o) (suc n) h short =
    let rest : height (graft path s z) ≤ n = height-part path s z n (height_zero z o n h) (omega (arith, short)) in
    omega (arith, height_one z o n h, rest)

-- a trie that has a leaf's children in its place
pub record Divides (w : ℕ) (name : List Bool) (buckets : List Rows) (old new : Trie) : Type 0 where
  pub short : height new ≤ 64
  pub are_leaves : AreLeaves (leaves_under [] new)
  pub leaves : leaves_under [] new ≡ split w name buckets (leaves_under [] old)

-- the part that has these children of a leaf
pub record HasChildren (w : ℕ) (name : List Bool) (buckets : List Rows) (s : Trie) : Type 0 where
  pub low : height s ≤ w
  pub count : length buckets ≡ 2 ^ w
  pub are : leaves_under name s ≡ leaves_of (children w name) buckets

pub divides-part : (w : ℕ) (name : List Bool) (buckets : List Rows) (s : Trie) (key : ℕ) (t : Trie) → HasChildren w name buckets s → key ≡ first_key name → height t ≤ 64 → AreLeaves (leaves_under [] t)
    → AllByRecursion (λ (b : Rows). IsRows b.rows) buckets → length name + w ≤ 64 → AreAllUnder w name buckets → has_name name (leaves_under [] t) ≡ true → Divides w name buckets t (graft (low_bits 64 key) s t)
divides-part w name buckets s key t part first h are rising short under there =
    let path : List Bool = low_bits 64 key in
    let found : name_at path t ≡ name = ap (λ k. name_at (low_bits 64 k) t) first ∙ name-found name t h are.tile there in
    let r = gap [] path t (within key t h) in
    let l : Leaf = leaf_at (name_at path t) r.old in
    let tiled : tiles_from 0 (names_of (r.front ++ l ∷ r.back)) ≡ true = ap (λ (ls : List Leaf). tiles_from 0 (names_of ls)) (sym r.before) ∙ are.tile in
    let leaves : leaves_under [] (graft path s t) ≡ split w name buckets (leaves_under [] t) =
    r.filled s
    ∙ (λ i. r.front ++ (leaves_under (found i) s ++ r.back))
    ∙ ap (λ (ls : List Leaf). r.front ++ (ls ++ r.back)) part.are
    ∙ sym (split-at 0 w name buckets r.front l r.back tiled found)
    ∙ ap (split w name buckets) (sym r.before) in
    record {
      short = height-part path s t 64 h (omega (arith, part.low, subst (λ (n : List Bool). length n + w ≤ 64) (sym found) short));
      are_leaves = subst AreLeaves (sym leaves) (AreLeaves-split w name buckets short part.count (leaves_under [] t) are rising under);
      leaves = leaves;
    }
