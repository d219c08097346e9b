-- An index that stands for places, after a change of both, and all its rows.
use Rattle.std.proofs.Common.{◌≡◌, ◌⊎◌, inl, inr, ℕ, ◌^◌, ◌<◌, Bool, true, false, not, ◌&&◌, ◌||◌, ◌==◌, List, [], ◌∷◌, ◌++◌, map, Option, Some, None, refl, sym, ◌∙◌, ap, subst, arith, cond}
use Rattle.std.specs.List.{filter, list_any, AllByRecursion}
use Rattle.std.specs.Cmp.{both_ways, first_so}
use Rattle.std.specs.Cmp.Derive.{both_true}
use Rattle.std.proofs.lemmas.Bool.{eqb-true, false_from_ne_true}
use mathlib.Core.Bool.{true≢false}
use Rattle.zorder.specs.declared.points.Point.{Point}
use Rattle.zorder.specs.declared.points.Placed.{Placed}
use Rattle.zorder.specs.Key.{key_of, is_under}
use Rattle.zorder.specs.SameName.{same_name, same_name-decides}
use Rattle.zorder.proofs.Places.{key_of-lt}
use Rattle.bucket_versions.specs.declared.row.Row.{Row}
use Rattle.bucket_versions.specs.Rows.{Rows, IsRows, has_row, with_row, without_row, same_row, is_below, put_row, gone_row}
use Rattle.bucket_versions.proofs.RowOrder.{IsRows-with_row, IsRows-without_row, same_row-eq, same_row-refl}
use Rattle.index_layer.specs.Leaves.{Leaf, AreUnder, leaf_under, with_bucket, replaced, all_rows}
use Rattle.index_layer.specs.Stands.{Stands, HasRowsOf, places_have, is_at_key}
use Rattle.index_layer.proofs.LeafKeys.{leaf_under-some}
use Rattle.index_layer.proofs.LeafNames.{IsAmong, later_leaf, find-among, any-among, among-any, one-leaf}
use Rattle.index_layer.proofs.LeafChanges.{leaf_at, names_of-replaced, AreLeaves-replaced}
use Rattle.index_layer.proofs.Puts.{where_is, HasMore, rows_with_put}

pub among-all : (P : Leaf → Type 0) (leaves : List Leaf) (l : Leaf) → AllByRecursion P leaves → IsAmong leaves l → P l
among-all P leaves l all at = by_front at.0 (let Q : List Leaf → Type 0 = λ ls. AllByRecursion P ls in subst Q at.2 all)
  where
    by_front : (front : List Leaf) → AllByRecursion P (front ++ l ∷ at.1) → P l
    by_front [] all = all.0
    by_front (f ∷ front) all = by_front front all.1

all-map : (P : Leaf → Type 0) (f : Leaf → Leaf) (leaves : List Leaf) → ((l : Leaf) → IsAmong leaves l → P (f l)) → AllByRecursion P (map f leaves)
all-map P f [] each = tt
all-map P f (l ∷ leaves) each = (each l ([], leaves, refl), all-map P f leaves (λ m at. each m (later_leaf l leaves m at)))

-- the rows without one
gone_step : (a b c h : Bool) → (a ≡ true → b ≡ c) → (a ≡ false → c ≡ true → b ≡ false) → (cond (not a) (b || (not c && h)) (not c && h)) ≡ (not c && (b || h))
gone_step true true true h same other = refl
gone_step true true false h same other = absurd (true≢false (same refl))
gone_step true false true h same other = refl
gone_step true false false h same other = refl
gone_step false true true h same other = absurd (true≢false (other refl refl))
gone_step false true false h same other = refl
gone_step false false true h same other = refl
gone_step false false false h same other = refl

pub has_row-without_row : (g : Row) (rows : List Row) (q : Row) → has_row q (without_row g rows) ≡ (not (same_row g q) && has_row q rows)
has_row-without_row g [] q = and_no (not (same_row g q))
  where
    and_no : (b : Bool) → false ≡ (b && false)
    and_no true = refl
    and_no false = refl
has_row-without_row g (s ∷ rows) q =
    any_cond (not (same_row s g)) s (without_row g rows)
    ∙ (λ i. cond (not (same_row s g)) (same_row s q || has_row-without_row g rows q i) (has_row-without_row g rows q i))
    ∙ gone_step (same_row s g) (same_row s q) (same_row g q) (has_row q rows)
    (λ e. ap (λ r. same_row r q) (same_row-eq s g e))
    (λ e one. false_from_ne_true (same_row s q) (λ both. true≢false (sym (same_row-refl s) ∙ ap (same_row s) (same_row-eq s q both ∙ sym (same_row-eq g q one)) ∙ e)))
  where
    any_cond : (b : Bool) (s : Row) (rest : List Row) → has_row q (cond b (s ∷ rest) rest) ≡ cond b (same_row s q || has_row q rest) (has_row q rest)
    any_cond true s rest = refl
    any_cond false s rest = refl

-- where an object is, of each id, after a removal
abbrev pub HasLess : List Placed → List Placed → ℕ → Type 0
HasLess old new gone = (id : ℕ) → where_is new id ≡ cond (gone == id) None (where_is old id)

-- the row of an object
abbrev pub row_of : Placed → Row
row_of m = record { key = key_of m.at; id = m.id }

-- a leaf that a changed object is not under has the rows of the new places
elsewhere : (same_id same_key under : Bool) (key : ℕ) (p : Point) (was now : Option Point) → same_key ≡ (key_of p == key) → (same_key ≡ true → under ≡ false)
    → (same_id ≡ true → ((was ≡ None) × (now ≡ Some p)) ⊎ ((was ≡ Some p) × (now ≡ None))) → (same_id ≡ false → now ≡ was) → (is_at_key key was && under) ≡ (is_at_key key now && under)
elsewhere false same_key under key p was now k out one other = ap (λ (o : Option Point). is_at_key key o && under) (sym (other refl))
elsewhere true true under key p was now k out one other = (λ i. is_at_key key was && out refl i) ∙ and_no (is_at_key key was) (is_at_key key now) ∙ (λ i. is_at_key key now && sym (out refl) i)
  where
    and_no : (a b : Bool) → (a && false) ≡ (b && false)
    and_no true true = refl
    and_no true false = refl
    and_no false true = refl
    and_no false false = refl
elsewhere true false under key p was now k out one other = by_cases (one refl)
  where
    by_cases : ((was ≡ None) × (now ≡ Some p)) ⊎ ((was ≡ Some p) × (now ≡ None)) → (is_at_key key was && under) ≡ (is_at_key key now && under)
    by_cases (inl e) = (λ i. is_at_key key (e.0 i) && under) ∙ (λ i. k i && under) ∙ (λ i. is_at_key key (sym e.1 i) && under)
    by_cases (inr e) = (λ i. is_at_key key (e.0 i) && under) ∙ (λ i. sym k i && under) ∙ (λ i. is_at_key key (sym e.1 i) && under)

module _ (leaves : List Leaf) (old new : List Placed) (names : List (List Bool)) (m : Placed) (l : Leaf) (stands : Stands leaves old names) (found : leaf_under (key_of m.at) leaves ≡ Some l) where
  at : IsAmong leaves l
  at = (find-among (λ (n : Leaf). is_under n.name (key_of m.at)) leaves l found).0

  over : is_under l.name (key_of m.at) ≡ true
  over = (find-among (λ (n : Leaf). is_under n.name (key_of m.at)) leaves l found).1

  had : HasRowsOf old l
  had = among-all (HasRowsOf old) leaves l stands.rows at

  -- no other leaf has the key
  not_under : (n : Leaf) → IsAmong leaves n → same_name n.name l.name ≡ false → is_under n.name (key_of m.at) ≡ false
  not_under n at_n other = false_from_ne_true (is_under n.name (key_of m.at)) (λ e.
      true≢false (sym ((same_name-decides n.name l.name).1 (ap (λ (o : Leaf). o.name) (one-leaf leaves n l (key_of m.at) stands.are_leaves.tile (key_of-lt m.at) at_n at e over))) ∙ other))

  -- the rows of each leaf, where one gets other rows
  changed : (bucket : Rows) → ((q : Row) → has_row q bucket.rows ≡ (places_have new q && is_under l.name q.key))
      → ((id : ℕ) → (m.id == id) ≡ true → ((where_is old id ≡ None) × (where_is new id ≡ Some m.at)) ⊎ ((where_is old id ≡ Some m.at) × (where_is new id ≡ None)))
      → ((id : ℕ) → (m.id == id) ≡ false → where_is new id ≡ where_is old id)
      → AllByRecursion (HasRowsOf new) (replaced l.name bucket leaves)
  changed bucket rows one other = all-map (HasRowsOf new) (with_bucket l.name bucket) leaves (λ n at_n. by_test n at_n (same_name n.name l.name) refl)
    where
      by_test : (n : Leaf) → IsAmong leaves n → (b : Bool) → same_name n.name l.name ≡ b → HasRowsOf new (cond b (leaf_at n.name bucket) n)
      by_test n at_n true e = λ q. rows q ∙ ap (λ (name : List Bool). places_have new q && is_under name q.key) (sym ((same_name-decides n.name l.name).0 e))
      by_test n at_n false e = λ q.
          among-all (HasRowsOf old) leaves n stands.rows at_n q
          ∙ elsewhere (m.id == q.id) (key_of m.at == q.key) (is_under n.name q.key) q.key m.at (where_is old q.id) (where_is new q.id) refl
          (λ k. ap (is_under n.name) (sym (eqb-true (key_of m.at) q.key k)) ∙ not_under n at_n e)
          (one q.id) (other q.id)

  -- a put of the row of an object that comes
  pub Stands-put : where_is old m.id ≡ None → HasMore old new m → Stands (replaced l.name (put_row (row_of m) l.bucket) leaves) new names
  Stands-put none more = record {
    names_are = names_of-replaced l.name (put_row (row_of m) l.bucket) leaves ∙ stands.names_are;
    are_leaves = AreLeaves-replaced l.name (put_row (row_of m) l.bucket) leaves stands.are_leaves
        (IsRows-with_row (row_of m) l.bucket.rows absent (among-all (λ (n : Leaf). IsRows n.bucket.rows) leaves l stands.are_leaves.rows at))
        (under_more l.bucket.rows (among-all (λ (n : Leaf). AreUnder n.name n.bucket.rows) leaves l stands.are_leaves.under at));
    rows = changed (put_row (row_of m) l.bucket) (rows_with_put old new m l.name l.bucket.rows none more over had)
        (λ id e. let same : m.id ≡ id = eqb-true m.id id e in inl (ap (where_is old) (sym same) ∙ none, more id ∙ (λ i. cond (e i) (Some m.at) (where_is old id))))
        (λ id e. more id ∙ (λ i. cond (e i) (Some m.at) (where_is old id)));
  }
    where
      absent : has_row (row_of m) l.bucket.rows ≡ false
      absent = had (row_of m) ∙ ap (λ (o : Option Point). is_at_key (key_of m.at) o && is_under l.name (key_of m.at)) none

      under_if : (b : Bool) (r s : Row) (rows rest : List Row) → is_under l.name r.key ≡ true → AreUnder l.name (s ∷ rows) → AreUnder l.name rest → AreUnder l.name (cond b (r ∷ s ∷ rows) (s ∷ rest))
      under_if true r s rows rest u all later = (u, all)
      under_if false r s rows rest u all later = (all.0, later)

      under_more : (rows : List Row) → AreUnder l.name rows → AreUnder l.name (with_row (row_of m) rows)
      under_more [] all = (over, tt)
      under_more (s ∷ rows) all = under_if (is_below (row_of m) s) (row_of m) s rows (with_row (row_of m) rows) over all (under_more rows all.1)

  -- a removal of the row of an object that goes
  pub Stands-gone : where_is old m.id ≡ Some m.at → HasLess old new m.id → Stands (replaced l.name (gone_row (row_of m) l.bucket) leaves) new names
  Stands-gone there less = record {
    names_are = names_of-replaced l.name (gone_row (row_of m) l.bucket) leaves ∙ stands.names_are;
    are_leaves = AreLeaves-replaced l.name (gone_row (row_of m) l.bucket) leaves stands.are_leaves
        (IsRows-without_row (row_of m) l.bucket.rows (among-all (λ (n : Leaf). IsRows n.bucket.rows) leaves l stands.are_leaves.rows at))
        (under_kept (λ s. not (same_row s (row_of m))) l.bucket.rows (among-all (λ (n : Leaf). AreUnder n.name n.bucket.rows) leaves l stands.are_leaves.under at));
    rows = changed (gone_row (row_of m) l.bucket) rows_gone
        (λ id e. let same : m.id ≡ id = eqb-true m.id id e in inr (ap (where_is old) (sym same) ∙ there, less id ∙ (λ i. cond (e i) None (where_is old id))))
        (λ id e. less id ∙ (λ i. cond (e i) None (where_is old id)));
  }
    where
      under_if : (b : Bool) (s : Row) (rest : List Row) → is_under l.name s.key ≡ true → AreUnder l.name rest → AreUnder l.name (cond b (s ∷ rest) rest)
      under_if true s rest u all = (u, all)
      under_if false s rest u all = all

      under_kept : (p : Row → Bool) (rows : List Row) → AreUnder l.name rows → AreUnder l.name (filter p rows)
      under_kept p [] all = tt
      under_kept p (s ∷ rows) all = under_if (p s) s (filter p rows) all.0 (under_kept p rows all.1)

      by_id : (same_id same_key under : Bool) (key : ℕ) (was now : Option Point) → same_key ≡ (key_of m.at == key) → (same_id ≡ true → (was ≡ Some m.at) × (now ≡ None)) → (same_id ≡ false → now ≡ was)
          → (not (same_key && same_id) && (is_at_key key was && under)) ≡ (is_at_key key now && under)
      by_id true true under key was now k one other = ap (λ (o : Option Point). is_at_key key o && under) (sym (one refl).1)
      by_id true false under key was now k one other = (λ i. is_at_key key ((one refl).0 i) && under) ∙ (λ i. sym k i && under) ∙ (λ i. is_at_key key (sym (one refl).1 i) && under)
      by_id false true under key was now k one other = ap (λ (o : Option Point). is_at_key key o && under) (sym (other refl))
      by_id false false under key was now k one other = ap (λ (o : Option Point). is_at_key key o && under) (sym (other refl))

      rows_gone : (q : Row) → has_row q (without_row (row_of m) l.bucket.rows) ≡ (places_have new q && is_under l.name q.key)
      rows_gone q =
          has_row-without_row (row_of m) l.bucket.rows q
          ∙ ap (λ (b : Bool). not (same_row (row_of m) q) && b) (had q)
          ∙ by_id (m.id == q.id) (key_of m.at == q.key) (is_under l.name q.key) q.key (where_is old q.id) (where_is new q.id) refl
          (λ e. let same : m.id ≡ q.id = eqb-true m.id q.id e in (ap (where_is old) (sym same) ∙ there, less q.id ∙ (λ i. cond (e i) None (where_is old q.id))))
          (λ e. less q.id ∙ (λ i. cond (e i) None (where_is old q.id)))

-- a row is among all rows exactly where some leaf has it
has_row-append : (r : Row) (xs ys : List Row) → has_row r (xs ++ ys) ≡ (has_row r xs || has_row r ys)
has_row-append r [] ys = refl
has_row-append r (x ∷ xs) ys = ap (λ (b : Bool). same_row x r || b) (has_row-append r xs ys) ∙ or_assoc (same_row x r) (has_row r xs) (has_row r ys)
  where
    or_assoc : (a b c : Bool) → (a || (b || c)) ≡ ((a || b) || c)
    or_assoc true b c = refl
    or_assoc false b c = refl

pub has_row-all_rows : (r : Row) (leaves : List Leaf) → has_row r (all_rows leaves) ≡ list_any (λ (l : Leaf). has_row r l.bucket.rows) leaves
has_row-all_rows r [] = refl
has_row-all_rows r (l ∷ leaves) = has_row-append r l.bucket.rows (all_rows leaves) ∙ ap (λ (b : Bool). has_row r l.bucket.rows || b) (has_row-all_rows r leaves)

-- a row of an object has a key of 64 bits
at_key : (o : Option Point) (k : ℕ) → is_at_key k o ≡ true → k < 2 ^ 64
at_key None k e = absurd (true≢false (sym e))
at_key (Some p) k e = let same : key_of p ≡ k = eqb-true (key_of p) k e in omega (arith, same, key_of-lt p)

pub placed_key-lt : (places : List Placed) (r : Row) → places_have places r ≡ true → r.key < 2 ^ 64
placed_key-lt places r e = at_key (where_is places r.id) r.key e

-- the rows of an index that stands for places are those of the objects there
pub rows_of_places : (leaves : List Leaf) (places : List Placed) (names : List (List Bool)) → Stands leaves places names → (r : Row) → has_row r (all_rows leaves) ≡ places_have places r
rows_of_places leaves places names stands r =
    has_row-all_rows r leaves
    ∙ both_ways (list_any (λ (l : Leaf). has_row r l.bucket.rows) leaves) (places_have places r)
    (λ e. let n = any-among (λ (l : Leaf). has_row r l.bucket.rows) leaves e in
    first_so (places_have places r) (is_under n.0.name r.key) (sym (among-all (HasRowsOf places) leaves n.0 stands.rows n.1 r) ∙ n.2))
    (λ e. let l = leaf_under-some leaves r.key stands.are_leaves.tile (placed_key-lt places r e) in
    let it = find-among (λ (m : Leaf). is_under m.name r.key) leaves l.0 l.1 in
    among-any (λ (m : Leaf). has_row r m.bucket.rows) leaves l.0 it.0 (among-all (HasRowsOf places) leaves l.0 stands.rows it.0 r ∙ both_true e it.1))
