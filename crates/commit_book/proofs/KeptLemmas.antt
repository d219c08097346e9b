-- The leaves of open splits keep their bases from step to step, and a further entry leaves each begin within room.
use Rattle.std.proofs.Common.{◌≡◌, ◌⊎◌, inl, inr, ℕ, Bool, true, false, cond, List, [], ◌∷◌, ◌++◌, length, append_assoc, Option, Some, refl, sym, ap, subst, ◌∙◌}
use Rattle.std.specs.Prelude.{◌&&◌}
use Rattle.std.specs.List.{AllByRecursion}
use Rattle.std.proofs.lemmas.Bool.{false_from_ne_true}
use mathlib.Core.Bool.{true≢false}
use Rattle.zorder.specs.declared.points.Placed.{Placed}
use Rattle.zorder.specs.Key.{is_under}
use Rattle.zorder.specs.Name.{first_key}
use Rattle.zorder.specs.SameName.{same_name, same_name-decides}
use Rattle.zorder.specs.Tile.{children}
use Rattle.bucket_versions.specs.Rows.{Rows, IsRows, has_row, as_base}
use Rattle.index_layer.specs.Leaves.{Leaf, AreLeaves, AreUnder, leaf_named, replaced, split, leaves_of}
use Rattle.bucket_versions.specs.declared.row.Row.{Row}
use Rattle.index_layer.specs.Stands.{HasRowsOf, places_have}
use Rattle.index_layer.proofs.LeafKeys.{first_key-under, first_key-fits}
use Rattle.index_layer.proofs.LeafNames.{IsAmong, later_leaf, find-among, among-any, some_found, short-among, one-leaf}
use Rattle.plain_list.specs.declared.entries.Entry.{Entry}
use Rattle.plain_list.specs.declared.entries.Entry.TheVariants.{Begin}
use Rattle.plain_list.specs.State.{State, OpenSplit, is_splitting, split_name, state_after}
use Rattle.plain_list.specs.World.{World, places_of}
use Rattle.plain_list.specs.History.{world_after}
use Rattle.kept_log.specs.Counts.{count_after}
use Rattle.point_table.specs.Changes.{LeafBase, open_base, base_of, bases_of}
use Rattle.point_table.proofs.Folding.{named_is}
use Rattle.point_table.specs.Divisions.{Folds}
use Rattle.commit_book.specs.KeptBases.{KeepsBase, KeepsBases}
use Rattle.commit_book.specs.Room.{has_no_room, BeginsInRoom}

-- a step of a history with one more is the last one, or was there
pub last_or_earlier : (h before after : List Entry) (e f : Entry) → h ++ e ∷ [] ≡ before ++ f ∷ after → (before ≡ h) × (f ≡ e) ⊎ ((rest : List Entry) × (h ≡ before ++ f ∷ rest))
last_or_earlier [] [] after e f same = inl (refl, head f e after [] (sym same))
  where
    head : (a b : Entry) (xs ys : List Entry) → a ∷ xs ≡ b ∷ ys → a ≡ b
    head a b xs ys e = cc e
last_or_earlier [] (b ∷ before) after e f same = absurd (none before (rest e b [] (before ++ f ∷ after) same))
  where
    rest : (a b : Entry) (xs ys : List Entry) → a ∷ xs ≡ b ∷ ys → xs ≡ ys
    rest a b xs ys e = cc e

    none : (xs : List Entry) → [] ≡ xs ++ f ∷ after → ⊥
    none [] e = cc e
    none (x ∷ xs) e = cc e
last_or_earlier (x ∷ h) [] after e f same = inr (h, ap (λ (y : Entry). y ∷ h) (head x f (h ++ e ∷ []) after same))
  where
    head : (a b : Entry) (xs ys : List Entry) → a ∷ xs ≡ b ∷ ys → a ≡ b
    head a b xs ys e = cc e
last_or_earlier (x ∷ h) (b ∷ before) after e f same = by_rest (head x b (h ++ e ∷ []) (before ++ f ∷ after) same) (last_or_earlier h before after e f (rest x b (h ++ e ∷ []) (before ++ f ∷ after) same))
  where
    head : (a b : Entry) (xs ys : List Entry) → a ∷ xs ≡ b ∷ ys → a ≡ b
    head a b xs ys e = cc e

    rest : (a b : Entry) (xs ys : List Entry) → a ∷ xs ≡ b ∷ ys → xs ≡ ys
    rest a b xs ys e = cc e

    by_rest : x ≡ b → (before ≡ h) × (f ≡ e) ⊎ ((more : List Entry) × (h ≡ before ++ f ∷ more)) → (b ∷ before ≡ x ∷ h) × (f ≡ e) ⊎ ((more : List Entry) × (x ∷ h ≡ b ∷ (before ++ f ∷ more)))
    by_rest first (inl last) = inl ((λ i. sym first i ∷ last.0 i), last.1)
    by_rest first (inr more) = inr (more.0, λ i. first i ∷ more.1 i)

-- what keeps the bases through a step: the new split's leaf has its base, and each leaf of a split that was open and stays open keeps it
pub record KeepsOn (w : ℕ) (o : State) (h : List Entry) (e : Entry) (old new : List Leaf) : Type 0 where
  pub begun : (number : ℕ) (name : List Bool) → Begin number name ≡ e → KeepsBase new (places_of (world_after o.world h)) name
  pub was : (before after : List Entry) (number : ℕ) (name : List Bool) → h ≡ before ++ Begin number name ∷ after → split_name (state_after w o (h ++ e ∷ [])).splits number ≡ Some name
      → split_name (state_after w o h).splits number ≡ Some name
  pub keeps : (number : ℕ) (name : List Bool) → split_name (state_after w o h).splits number ≡ Some name → split_name (state_after w o (h ++ e ∷ [])).splits number ≡ Some name
      → (places : List Placed) → KeepsBase old places name → KeepsBase new places name

pub KeepsBases-push : (w : ℕ) (o : State) (h : List Entry) (e : Entry) (old new : List Leaf) → KeepsOn w o h e old new → KeepsBases w o old h → KeepsBases w o new (h ++ e ∷ [])
KeepsBases-push w o h e old new on kept before after number name same now = by_place (last_or_earlier h before after e (Begin number name) same)
  where
    by_place : (before ≡ h) × (Begin number name ≡ e) ⊎ ((rest : List Entry) × (h ≡ before ++ Begin number name ∷ rest)) → KeepsBase new (places_of (world_after o.world before)) name
    by_place (inl last) = subst (λ (b : List Entry). KeepsBase new (places_of (world_after o.world b)) name) (sym last.0) (on.begun number name last.1)
    by_place (inr earlier) =
        let was = on.was before earlier.0 number name earlier.1 now in
        on.keeps number name was now (places_of (world_after o.world before)) (kept before earlier.0 number name earlier.1 was)

-- each begin was within room where each one before was, and the last entry, if it is a begin
pub BeginsInRoom-push : (k l : Bool) (old new : Option ℕ) (world : World) (h : List Entry) (e : Entry) → l ≡ k → new ≡ old
    → ((number : ℕ) (name : List Bool) → Begin number name ≡ e → has_no_room k (count_after old world h) (length h) ≡ false)
    → BeginsInRoom k old world h → BeginsInRoom l new world (h ++ e ∷ [])
BeginsInRoom-push k l old new world h e kind same last_one kept before after number name there = by_place (last_or_earlier h before after e (Begin number name) there)
  where
    by_place : (before ≡ h) × (Begin number name ≡ e) ⊎ ((rest : List Entry) × (h ≡ before ++ Begin number name ∷ rest)) → has_no_room l (count_after new world before) (length before) ≡ false
    by_place (inl last) =
        (λ i. has_no_room (kind i) (count_after (same i) world (last.0 i)) (length (last.0 i))) ∙ last_one number name last.1
    by_place (inr earlier) =
        (λ i. has_no_room (kind i) (count_after (same i) world before) (length before)) ∙ kept before earlier.0 number name earlier.1

-- a leaf among others that have the same names and bases
pub record SameBase (splits : List OpenSplit) (name : List Bool) (new : List Leaf) (b : LeafBase) : Type 0 where
  pub leaf : Leaf
  pub named : leaf_named name new ≡ Some leaf
  pub same : base_of splits leaf ≡ b

some_same : (a b : Leaf) → Some a ≡ Some b → a ≡ b
some_same a b e = cc e

pub leaf_named-bases : (splits : List OpenSplit) (name : List Bool) (old new : List Leaf) (leaf : Leaf) → bases_of splits new ≡ bases_of splits old → leaf_named name old ≡ Some leaf → SameBase splits name new (base_of splits leaf)
leaf_named-bases splits name [] new leaf same found = cc found
leaf_named-bases splits name (o ∷ old) [] leaf same found = absurd (none (base_of splits o) (bases_of splits old) same)
  where
    none : (b : LeafBase) (bs : List LeafBase) → [] ≡ b ∷ bs → ⊥
    none b bs e = cc e
leaf_named-bases splits name (o ∷ old) (n ∷ new) leaf same found =
    by_test (same_name o.name name) (same_name n.name name) (ap (λ (b : LeafBase). same_name b.name name) (head (base_of splits n) (base_of splits o) (bases_of splits new) (bases_of splits old) same)) found
    (leaf_named-bases splits name old new leaf (rest (base_of splits n) (base_of splits o) (bases_of splits new) (bases_of splits old) same)) refl
  where
    head : (a b : LeafBase) (xs ys : List LeafBase) → a ∷ xs ≡ b ∷ ys → a ≡ b
    head a b xs ys e = cc e

    rest : (a b : LeafBase) (xs ys : List LeafBase) → a ∷ xs ≡ b ∷ ys → xs ≡ ys
    rest a b xs ys e = cc e

    skip : (b : Bool) → b ≡ false → (l : Leaf) → leaf_named name new ≡ Some l → cond b (Some n) (leaf_named name new) ≡ Some l
    skip true e l found = absurd (true≢false e)
    skip false e l found = found

    here : (b : Bool) → b ≡ true → cond b (Some n) (leaf_named name new) ≡ Some n
    here true e = refl
    here false e = absurd (true≢false (sym e))

    by_test : (a b : Bool) → b ≡ a → cond a (Some o) (leaf_named name old) ≡ Some leaf → (leaf_named name old ≡ Some leaf → SameBase splits name new (base_of splits leaf))
        → b ≡ same_name n.name name → SameBase splits name (n ∷ new) (base_of splits leaf)
    by_test true b e found later test = record { leaf = n; named = here (same_name n.name name) (sym test ∙ e); same = head (base_of splits n) (base_of splits o) (bases_of splits new) (bases_of splits old) same ∙ ap (base_of splits) (some_same o leaf found) }
    by_test false b e found later test = let r = later found in record { leaf = r.leaf; named = skip (same_name n.name name) (sym test ∙ e) r.leaf r.named; same = r.same }

open_is : (b : Bool) (base : List Row) → b ≡ true → open_base b base ≡ Some base
open_is true base e = refl
open_is false base e = absurd (true≢false (sym e))

some_rows : (a b : List Row) → Some a ≡ Some b → a ≡ b
some_rows a b e = cc e

-- the names, and the bases of open splits, say what the base of an open split is
pub KeepsBase-bases : (splits : List OpenSplit) (old new : List Leaf) (places : List Placed) (name : List Bool) → bases_of splits new ≡ bases_of splits old → is_splitting splits name ≡ true
    → KeepsBase old places name → KeepsBase new places name
KeepsBase-bases splits old new places name same open_one kept =
    let found = leaf_named-bases splits name old new kept.leaf same kept.named in
    let name_is : found.leaf.name ≡ kept.leaf.name = ap (λ (b : LeafBase). b.name) found.same in
    let was : is_splitting splits kept.leaf.name ≡ true = ap (is_splitting splits) (named_is name old kept.leaf kept.named).1 ∙ open_one in
    let base_is : found.leaf.bucket.base ≡ kept.leaf.bucket.base =
    some_rows found.leaf.bucket.base kept.leaf.bucket.base
    (sym (open_is (is_splitting splits found.leaf.name) found.leaf.bucket.base (ap (is_splitting splits) name_is ∙ was))
    ∙ ap (λ (b : LeafBase). b.base) found.same
    ∙ open_is (is_splitting splits kept.leaf.name) kept.leaf.bucket.base was) in
    record {
      leaf = found.leaf;
      named = found.named;
      base = record {
        in_order = subst IsRows (sym base_is) kept.base.in_order;
        rows = λ r. ap (has_row r) base_is ∙ kept.base.rows r ∙ ap (λ (n : List Bool). places_have places r && is_under n r.key) (sym name_is);
      };
    }

other_leaf : (name other : List Bool) (l : Leaf) → same_name name other ≡ false → same_name l.name other ≡ true → same_name l.name name ≡ false
other_leaf name other l apart is = false_from_ne_true (same_name l.name name) (λ e.
    true≢false (sym ((same_name-decides name other).1 (sym ((same_name-decides l.name name).0 e) ∙ (same_name-decides l.name other).0 is)) ∙ apart))

-- a leaf where another one has another bucket
pub leaf_named-replaced_other : (name other : List Bool) (bucket : Rows) (leaves : List Leaf) → same_name name other ≡ false → leaf_named name (replaced other bucket leaves) ≡ leaf_named name leaves
leaf_named-replaced_other name other bucket [] apart = refl
leaf_named-replaced_other name other bucket (l ∷ leaves) apart = by_test (same_name l.name other) refl (leaf_named-replaced_other name other bucket leaves apart)
  where
    by_test : (b : Bool) → same_name l.name other ≡ b → leaf_named name (replaced other bucket leaves) ≡ leaf_named name leaves
        → leaf_named name (cond b (record { name = l.name; bucket = bucket }) l ∷ replaced other bucket leaves) ≡ leaf_named name (l ∷ leaves)
    by_test true is rest =
        let skip = other_leaf name other l apart is in
        let changed : Leaf = record { name = l.name; bucket = bucket } in
        (λ i. cond (skip i) (Some changed) (leaf_named name (replaced other bucket leaves))) ∙ rest ∙ (λ i. cond (sym skip i) (Some l) (leaf_named name leaves))
    by_test false is rest = ap (λ (o : Option Leaf). cond (same_name l.name name) (Some l) o) rest

-- the leaf that has another bucket
pub leaf_named-replaced : (name : List Bool) (bucket : Rows) (leaves : List Leaf) (leaf : Leaf) → leaf_named name leaves ≡ Some leaf → leaf_named name (replaced name bucket leaves) ≡ Some (record { name = leaf.name; bucket = bucket })
leaf_named-replaced name bucket [] leaf found = cc found
leaf_named-replaced name bucket (l ∷ leaves) leaf found = by_test (same_name l.name name) refl found (leaf_named-replaced name bucket leaves leaf)
  where
    by_test : (b : Bool) → same_name l.name name ≡ b → cond b (Some l) (leaf_named name leaves) ≡ Some leaf
        → (leaf_named name leaves ≡ Some leaf → leaf_named name (replaced name bucket leaves) ≡ Some (record { name = leaf.name; bucket = bucket }))
        → leaf_named name (cond b (record { name = l.name; bucket = bucket }) l ∷ replaced name bucket leaves) ≡ Some (record { name = leaf.name; bucket = bucket })
    by_test true is here later =
        let changed : Leaf = record { name = l.name; bucket = bucket } in
        (λ i. cond (is i) (Some changed) (leaf_named name (replaced name bucket leaves))) ∙ ap (λ (m : Leaf). Some (record { name = m.name; bucket = bucket })) (some_same l leaf here)
    by_test false is here later = (λ i. cond (is i) (Some l) (leaf_named name (replaced name bucket leaves))) ∙ later here

-- a leaf that is found by its name has what all have, and the name
pub named_has : (P : Leaf → Type 0) (name : List Bool) (leaves : List Leaf) (leaf : Leaf) → leaf_named name leaves ≡ Some leaf → AllByRecursion P leaves → P leaf × (leaf.name ≡ name)
named_has P name [] leaf found all = cc found
named_has P name (l ∷ leaves) leaf found all = by_test (same_name l.name name) refl found (named_has P name leaves leaf)
  where
    by_test : (b : Bool) → same_name l.name name ≡ b → cond b (Some l) (leaf_named name leaves) ≡ Some leaf → (leaf_named name leaves ≡ Some leaf → AllByRecursion P leaves → P leaf × (leaf.name ≡ name)) → P leaf × (leaf.name ≡ name)
    by_test true is here later = let same = some_same l leaf here in (subst P same all.0, ap (λ (m : Leaf). m.name) (sym same) ∙ (same_name-decides l.name name).0 is)
    by_test false is here later = later here all.1

-- the base of a leaf that was folded lies under its name
pub folded-under : (name : List Bool) (old new : List Leaf) (bucket : Rows) → AreLeaves old → Folds name old new bucket → AreUnder name bucket.base
folded-under name old new bucket are folds =
    let under = named_has (λ (l : Leaf). AreUnder l.name l.bucket.rows) name old folds.leaf folds.named are.under in
    subst (λ (b : Rows). AreUnder name b.base) (sym folds.bucket_is) (subst (λ (n : List Bool). AreUnder n folds.leaf.bucket.rows) under.1 under.0)

-- a leaf that was folded has the rows of the world as its base
pub KeepsBase-begun : (leaves : List Leaf) (places : List Placed) (name : List Bool) (leaf : Leaf) → AreLeaves leaves → AllByRecursion (HasRowsOf places) leaves → leaf_named name leaves ≡ Some leaf
    → KeepsBase (replaced name (as_base leaf.bucket.rows) leaves) places name
KeepsBase-begun leaves places name leaf are rows named = record {
  leaf = record { name = leaf.name; bucket = as_base leaf.bucket.rows };
  named = leaf_named-replaced name (as_base leaf.bucket.rows) leaves leaf named;
  base = record {
    in_order = (named_has (λ (l : Leaf). IsRows l.bucket.rows) name leaves leaf named are.rows).0;
    rows = (named_has (HasRowsOf places) name leaves leaf named rows).0;
  };
}

-- the leaf of another split where one is folded
pub KeepsBase-replaced : (leaves : List Leaf) (places : List Placed) (name other : List Bool) (bucket : Rows) → same_name name other ≡ false → KeepsBase leaves places name → KeepsBase (replaced other bucket leaves) places name
KeepsBase-replaced leaves places name other bucket apart kept = record {
  leaf = kept.leaf;
  named = leaf_named-replaced_other name other bucket leaves apart ∙ kept.named;
  base = kept.base;
}

-- a leaf stays among the others where another one gives way to its children
among-split : (w : ℕ) (other : List Bool) (buckets : List Rows) (front : List Leaf) (l : Leaf) (back : List Leaf) → same_name l.name other ≡ false → IsAmong (split w other buckets (front ++ l ∷ back)) l
among-split w other buckets [] l back apart = ([], split w other buckets back, λ i. cond (apart i) (leaves_of (children w other) buckets ++ back) (l ∷ split w other buckets back))
among-split w other buckets (f ∷ front) l back apart = by_test (same_name f.name other) (among-split w other buckets front l back apart)
  where
    by_test : (b : Bool) → IsAmong (split w other buckets (front ++ l ∷ back)) l → IsAmong (cond b (leaves_of (children w other) buckets ++ (front ++ l ∷ back)) (f ∷ split w other buckets (front ++ l ∷ back))) l
    by_test true rest = (leaves_of (children w other) buckets ++ front, back, sym (append_assoc (leaves_of (children w other) buckets) front (l ∷ back)))
    by_test false rest = later_leaf f (split w other buckets (front ++ l ∷ back)) l rest

-- the leaf of another split where one gives way to its children
pub KeepsBase-split : (w : ℕ) (leaves : List Leaf) (places : List Placed) (name other : List Bool) (buckets : List Rows) → AreLeaves (split w other buckets leaves) → same_name name other ≡ false
    → KeepsBase leaves places name → KeepsBase (split w other buckets leaves) places name
KeepsBase-split w leaves places name other buckets are apart kept =
    let after = split w other buckets leaves in
    let place = find-among (λ (l : Leaf). same_name l.name name) leaves kept.leaf kept.named in
    let is : kept.leaf.name ≡ name = (same_name-decides kept.leaf.name name).0 place.1 in
    let apart_too : same_name kept.leaf.name other ≡ false = ap (λ (n : List Bool). same_name n other) is ∙ apart in
    let at : IsAmong after kept.leaf = subst (λ (ls : List Leaf). IsAmong (split w other buckets ls) kept.leaf) (sym place.0.2) (among-split w other buckets place.0.0 kept.leaf place.0.1 apart_too) in
    let found = some_found (λ (l : Leaf). same_name l.name name) after (among-any (λ (l : Leaf). same_name l.name name) after kept.leaf at place.1) in
    let it = find-among (λ (l : Leaf). same_name l.name name) after found.0 found.1 in
    let short = short-among after kept.leaf are.tile at in
    let under : is_under kept.leaf.name (first_key kept.leaf.name) ≡ true = first_key-under kept.leaf.name short in
    let same_names : kept.leaf.name ≡ found.0.name = is ∙ sym ((same_name-decides found.0.name name).0 it.1) in
    let one : found.0 ≡ kept.leaf =
    one-leaf after found.0 kept.leaf (first_key kept.leaf.name) are.tile (first_key-fits kept.leaf.name short) it.0 at (ap (λ (n : List Bool). is_under n (first_key kept.leaf.name)) (sym same_names) ∙ under) under in
    record { leaf = kept.leaf; named = found.1 ∙ ap (λ (l : Leaf). Some l) one; base = kept.base }
