-- A trie with a row more or less in one leaf has leaves that are changed at that leaf.
use Rattle.std.proofs.Common.{◌≡◌, ℕ, ◌<◌, ◌≤◌, ◌^◌, Bool, true, false, List, [], ◌∷◌, Some, length, IfSome, Result, Ok, Err, IfOk, OnOk, refl, sym, ◌∙◌, ap, subst}
use Rattle.std.specs.List.{AllByRecursion}
use Rattle.std.proofs.lemmas.Option.{same_Some}
use Rattle.zorder.specs.Bits.{low_bits}
use Rattle.zorder.specs.Key.{is_under}
use Rattle.bucket_versions.specs.declared.row.Row.{Row}
use Rattle.bucket_versions.specs.declared.row.RowChange.{RowChange}
use Rattle.bucket_versions.specs.Rows.{Rows, IsRows, has_row, after_put, after_gone}
use Rattle.bucket_versions.proofs.RowOrder.{IsRows-with_row, IsRows-without_row}
use Rattle.index_layer.specs.Leaves.{Leaf, AreLeaves, AreUnder, replaced, leaf_under}
use Rattle.index_layer.proofs.LeafKeys.{all_at}
use Rattle.index_layer.proofs.FoundLeaves.{AreUnder-with_row, AreUnder-without_row}
use Rattle.index_layer.proofs.LeafChanges.{leaf_at, AreLeaves-replaced}
use Rattle.bit_trie.specs.Tries.{Trie, tip, fork, height, leaves_under, name_at, bucket_at, rows_at, changed_at, graft}
use Rattle.index_layer.specs.RowChanges.{Holds, ChangesAt, CountAt, Moves}
use Rattle.bit_trie.specs.Ways.{put_under, gone_under, MayMove}
use Rattle.bit_trie.proofs.TrieLeaves.{gap, within, name-under, leaves-put, leaf-at_key}
use Rattle.bit_trie.proofs.TrieRows.{height-changed, rows-bucket, absent-after}

changed-put : (path : List Bool) (change : Rows → Rows) (t : Trie) (a : Rows) → bucket_at path t ≡ Some a → changed_at path change t ≡ graft path (tip (change a)) t
changed-put path change (tip b) a e = ap (λ (r : Rows). tip (change r)) (same_Some b a e)
changed-put [] change (fork z o) a e = absurd (cc e)
changed-put (true ∷ path) change (fork z o) a e = ap (λ (s : Trie). fork z s) (changed-put path change o a e)
changed-put (false ∷ path) change (fork z o) a e = ap (λ (s : Trie). fork s o) (changed-put path change z a e)

-- the leaf that a key is under, and what holds of it
pub record Found (key : ℕ) (t : Trie) : Type 0 where
  pub name : List Bool
  pub bucket : Rows
  pub named : name_at (low_bits 64 key) t ≡ name
  pub held : bucket_at (low_bits 64 key) t ≡ Some bucket
  pub under : is_under name key ≡ true
  pub found : leaf_under key (leaves_under [] t) ≡ Some (leaf_at name bucket)
  pub in_order : IsRows bucket.rows
  pub all_under : AreUnder name bucket.rows

pub find-leaf : (key : ℕ) (t : Trie) → key < 2 ^ 64 → height t ≤ 64 → AreLeaves (leaves_under [] t) → Found key t
find-leaf key t lt h are =
    let r = gap [] (low_bits 64 key) t (within key t h) in
    let name : List Bool = name_at (low_bits 64 key) t in
    let l : Leaf = leaf_at name r.old in
    record {
      name = name;
      bucket = r.old;
      named = refl;
      held = r.held;
      under = name-under key t;
      found = leaf-at_key key r.old t h are.tile lt r.held;
      in_order = all_at (λ (m : Leaf). IsRows m.bucket.rows) r.front l r.back (subst (λ (ls : List Leaf). AllByRecursion (λ (m : Leaf). IsRows m.bucket.rows) ls) r.before are.rows);
      all_under = all_at (λ (m : Leaf). AreUnder m.name m.bucket.rows) r.front l r.back (subst (λ (ls : List Leaf). AllByRecursion (λ (m : Leaf). AreUnder m.name m.bucket.rows) ls) r.before are.under);
    }

-- a trie that is changed at the leaf of a key
pub record Changed (key : ℕ) (change : Rows → Rows) (old new : Trie) : Type 0 where
  pub short : height new ≤ 64
  pub are_leaves : AreLeaves (leaves_under [] new)
  pub changes : ChangesAt key change (leaves_under [] old) (leaves_under [] new)

changes : (key : ℕ) (change : Rows → Rows) (t : Trie) (f : Found key t) → height t ≤ 64 → AreLeaves (leaves_under [] t) → IsRows (change f.bucket).rows → AreUnder f.name (change f.bucket).rows
    → Changed key change t (changed_at (low_bits 64 key) change t)
changes key change t f h are rising under =
    let path : List Bool = low_bits 64 key in
    let leaves : leaves_under [] (changed_at path change t) ≡ replaced f.name (change f.bucket) (leaves_under [] t) =
    ap (leaves_under []) (changed-put path change t f.bucket f.held)
    ∙ leaves-put key (change f.bucket) t h are.tile
    ∙ ap (λ (n : List Bool). replaced n (change f.bucket) (leaves_under [] t)) f.named in
    record {
      short = subst (λ n. n ≤ 64) (sym (height-changed path change t)) h;
      are_leaves = subst AreLeaves (sym leaves) (AreLeaves-replaced f.name (change f.bucket) (leaves_under [] t) are rising under);
      changes = record { leaf = leaf_at f.name f.bucket; found = f.found; leaves = leaves };
    }

-- a row is in the leaf of its key exactly where it is in that leaf of the list
pub rows-found : (key : ℕ) (t : Trie) (row : Row) (b : Bool) → key < 2 ^ 64 → height t ≤ 64 → AreLeaves (leaves_under [] t) → IfSome (leaf_under key (leaves_under [] t)) (λ l. has_row row l.bucket.rows ≡ b)
    → has_row row (rows_at (low_bits 64 key) t) ≡ b
rows-found key t row b lt h are has =
    let f = find-leaf key t lt h are in
    ap (has_row row) (rows-bucket (low_bits 64 key) t f.bucket f.held) ∙ subst (λ o. IfSome o (λ (l : Leaf). has_row row l.bucket.rows ≡ b)) f.found has

puts : (put : RowChange) (t : Trie) → put.row.key < 2 ^ 64 → height t ≤ 64 → AreLeaves (leaves_under [] t) → has_row put.row (rows_at (low_bits 64 put.row.key) t) ≡ false
    → Changed put.row.key (after_put put) t (changed_at (low_bits 64 put.row.key) (after_put put) t)
puts put t lt h are absent =
    let row : Row = put.row in
    let f = find-leaf row.key t lt h are in
    let none : has_row row f.bucket.rows ≡ false = ap (has_row row) (sym (rows-bucket (low_bits 64 row.key) t f.bucket f.held)) ∙ absent in
    changes row.key (after_put put) t f h are (IsRows-with_row row f.bucket.rows none f.in_order) (AreUnder-with_row f.name row f.bucket.rows f.under f.all_under)

pub takes : (gone : RowChange) (t : Trie) → gone.row.key < 2 ^ 64 → height t ≤ 64 → AreLeaves (leaves_under [] t)
    → Changed gone.row.key (after_gone gone) t (changed_at (low_bits 64 gone.row.key) (after_gone gone) t)
takes gone t lt h are =
    let f = find-leaf gone.row.key t lt h are in
    changes gone.row.key (after_gone gone) t f h are (IsRows-without_row gone.row f.bucket.rows f.in_order) (AreUnder-without_row f.name gone.row f.bucket.rows f.all_under)

-- a row that comes, where the leaf that its key is under has none like it
pub puts-there : (put : RowChange) (t : Trie) → put.row.key < 2 ^ 64 → height t ≤ 64 → AreLeaves (leaves_under [] t) → Holds put.row (leaves_under [] t) false → Changed put.row.key (after_put put) t (put_under 64 put t)
puts-there put t lt h are absent = puts put t lt h are (rows-found put.row.key t put.row false lt h are absent)

-- a row that goes and another one that comes
pub record Shifted (from to : RowChange) (t : Trie) : Type 0 where
  pub may : MayMove 64 from 64 to t (gone_under 64 from t)
  pub goes : Changed from.row.key (after_gone from) t (gone_under 64 from t)
  pub comes : Changed to.row.key (after_put to) (gone_under 64 from t) (put_under 64 to (gone_under 64 from t))

pub shifts : (from to : RowChange) (t : Trie) → from.row.key < 2 ^ 64 → to.row.key < 2 ^ 64 → height t ≤ 64 → AreLeaves (leaves_under [] t) → Holds from.row (leaves_under [] t) true → Holds to.row (leaves_under [] t) false
    → Shifted from to t
shifts from to t from_lt to_lt h are present absent =
    let goes = takes from t from_lt h are in
    let none = absent-after (low_bits 64 to.row.key) (low_bits 64 from.row.key) to.row from t (rows-found to.row.key t to.row false to_lt h are absent) in
    record {
      may = record { present = rows-found from.row.key t from.row true from_lt h are present; absent = none };
      goes = goes;
      comes = puts to (gone_under 64 from t) to_lt goes.short goes.are_leaves none;
    }

-- what holds after a change that was made or not
pub changes-made : {A E : Type 0} (r : Result A E) (key : ℕ) (change : Rows → Rows) (old made new : Trie) → Changed key change old made → OnOk r (new ≡ made) → OnOk r (ChangesAt key change (leaves_under [] old) (leaves_under [] new))
changes-made (Ok x) key change old made new d ok = subst (λ (t : Trie). ChangesAt key change (leaves_under [] old) (leaves_under [] t)) (sym ok) d.changes
changes-made (Err e) key change old made new d ok = tt

pub moves-made : {A E : Type 0} (r : Result A E) (from to : RowChange) (old new : Trie) → Shifted from to old → OnOk r (new ≡ put_under 64 to (gone_under 64 from old)) → OnOk r (Moves from to (leaves_under [] old) (leaves_under [] new))
moves-made (Ok x) from to old new s ok = record {
  between = leaves_under [] (gone_under 64 from old);
  takes = s.goes.changes;
  puts = subst (λ (t : Trie). ChangesAt to.row.key (after_put to) (leaves_under [] (gone_under 64 from old)) (leaves_under [] t)) (sym ok) s.comes.changes;
}
moves-made (Err x) from to old new s ok = tt

-- how many rows a key leads to is how many the leaf has that it is under
pub counts-made : {E : Type 0} (r : Result ℕ E) (key : ℕ) (made new : Trie) → key < 2 ^ 64 → height made ≤ 64 → AreLeaves (leaves_under [] made) → OnOk r (new ≡ made)
    → IfOk r (λ n. n ≡ length (rows_at (low_bits 64 key) new)) → IfOk r (λ n. CountAt key n (leaves_under [] new))
counts-made (Ok n) key made new lt h are ok is =
    let f = find-leaf key made lt h are in
    λ l found.
    is
    ∙ ap (λ (t : Trie). length (rows_at (low_bits 64 key) t)) ok
    ∙ ap length (rows-bucket (low_bits 64 key) made f.bucket f.held)
    ∙ ap (λ (m : Leaf). length m.bucket.rows) (same_Some (leaf_at f.name f.bucket) l (sym f.found ∙ ap (λ (t : Trie). leaf_under key (leaves_under [] t)) (sym ok) ∙ found))
counts-made (Err e) key made new lt h are ok is = tt
