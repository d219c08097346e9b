-- An index that stands for a world goes on to stand for it where a row is put or taken out with its object.
use Rattle.std.proofs.Common.{◌≡◌, ℕ, Bool, true, false, cond, List, [], ◌∷◌, Option, Some, None, refl, sym, ap, ◌∙◌, arith}
use Rattle.std.specs.Prelude.{◌==◌, ◌&&◌}
use Rattle.std.specs.List.{find, AllByRecursion}
use Rattle.std.specs.Option.{option_map}
use Rattle.std.proofs.lemmas.Bool.{eqb-true as eqb-eq}
use Rattle.std.proofs.lemmas.Bool.Decides.{nat_tests}
use Rattle.std.proofs.lemmas.Grind.{common_steps}
use Rattle.zorder.specs.declared.points.Point.{Point}
use Rattle.zorder.specs.declared.points.Placed.{Placed}
use Rattle.zorder.specs.Key.{key_of, is_under}
use Rattle.zorder.specs.SameName.{same_name, same_name-decides}
use Rattle.bucket_versions.specs.Rows.{Rows, has_row, with_row}
use Rattle.index_layer.specs.Leaves.{Leaf, names_of, replaced, leaf_under}
use Rattle.index_layer.specs.Stands.{places_have, is_at_key, HasRowsOf}
use Rattle.index_layer.proofs.Puts.{where_is, HasMore, rows_with_put}

-- where a world has an object at each id after one has gone
abbrev pub HasLess : List Placed → List Placed → ℕ → Type 0
HasLess old new gone = (id : ℕ) → where_is new id ≡ cond (gone == id) None (where_is old id)

-- a leaf under whose name the row's key doesn't lie keeps its rows, whatever the world has at its id
by_other : (same_id under same_key : Bool) (key : ℕ) (p : Point) (was : Option Point) → same_key ≡ (key_of p == key) → (same_id ≡ true → was ≡ None) → (same_key ≡ true → under ≡ false)
    → (is_at_key key was && under) ≡ (is_at_key key (cond same_id (Some p) was) && under)
by_other false under same_key key p was k none other = refl
by_other true true true key p was k none other = ap (λ b. is_at_key key was && b) (other refl) ∙ and-false (is_at_key key was) ∙ sym (and-false (is_at_key key (Some p))) ∙ ap (λ b. is_at_key key (Some p) && b) (sym (other refl))
  where
    and-false : (b : Bool) → (b && false) ≡ false
    and-false true = refl
    and-false false = refl
by_other true true false key p was k none other = ap (λ o. is_at_key key o && true) (none refl) ∙ ap (λ b. b && true) k
by_other true false same_key key p was k none other = and-false (is_at_key key was) ∙ sym (and-false (is_at_key key (Some p)))
  where
    and-false : (b : Bool) → (b && false) ≡ false
    and-false true = refl
    and-false false = refl

pub rows_past_put : (old new : List Placed) (m : Placed) (leaf : Leaf) → where_is old m.id ≡ None → HasMore old new m → is_under leaf.name (key_of m.at) ≡ false → HasRowsOf old leaf → HasRowsOf new leaf
rows_past_put old new m leaf none more other before q =
    before q
    ∙ by_other (m.id == q.id) (is_under leaf.name q.key) (key_of m.at == q.key) q.key m.at (where_is old q.id) refl
    (λ e. sym (ap (where_is old) (eqb-eq m.id q.id e)) ∙ none)
    (λ e. sym (ap (is_under leaf.name) (eqb-eq (key_of m.at) q.key e)) ∙ other)
    ∙ ap (λ o. is_at_key q.key o && is_under leaf.name q.key) (sym (more q.id))

-- the leaves after one has another bucket
pub rows_replaced : (P Q : Leaf → Type 0) (name : List Bool) (bucket : Rows) (key : ℕ) (leaves : List Leaf)
    → AllByRecursion (λ (n : List Bool). is_under n key ≡ same_name n name) (names_of leaves) → AllByRecursion P leaves
    → ((l : Leaf) → l.name ≡ name → Q (record { name = l.name; bucket = bucket }))
    → ((l : Leaf) → is_under l.name key ≡ false → P l → Q l)
    → AllByRecursion Q (replaced name bucket leaves)
rows_replaced P Q name bucket key [] only before here elsewhere = tt
rows_replaced P Q name bucket key (l ∷ leaves) only before here elsewhere = (by_test (same_name l.name name) refl, rows_replaced P Q name bucket key leaves only.1 before.1 here elsewhere)
  where
    by_test : (b : Bool) → same_name l.name name ≡ b → Q (cond b (record { name = l.name; bucket = bucket }) l)
    by_test true e = here l ((same_name-decides l.name name).0 e)
    by_test false e = elsewhere l (only.0 ∙ e) before.0

pub find-names_of : (key : ℕ) (leaves : List Leaf) → find (λ n. is_under n key) (names_of leaves) ≡ option_map (λ (l : Leaf). l.name) (leaf_under key leaves)
find-names_of key [] = refl
find-names_of key (l ∷ leaves) = grind (arith, nat_tests, common_steps, find-names_of key leaves)

-- the rows of all leaves after a put
pub rows_after_put : (old new : List Placed) (m : Placed) (leaf : Leaf) (bucket : Rows) (leaves : List Leaf)
    → AllByRecursion (λ (n : List Bool). is_under n (key_of m.at) ≡ same_name n leaf.name) (names_of leaves) → is_under leaf.name (key_of m.at) ≡ true
    → where_is old m.id ≡ None → HasMore old new m → HasRowsOf old leaf → bucket.rows ≡ with_row (record { key = key_of m.at; id = m.id }) leaf.bucket.rows
    → AllByRecursion (HasRowsOf old) leaves → AllByRecursion (HasRowsOf new) (replaced leaf.name bucket leaves)
rows_after_put old new m leaf bucket leaves only under none more here rows all =
    rows_replaced (HasRowsOf old) (HasRowsOf new) leaf.name bucket (key_of m.at) leaves only all
    (λ l is q. ap (has_row q) rows ∙ rows_with_put old new m leaf.name leaf.bucket.rows none more under here q ∙ ap (λ n. places_have new q && is_under n q.key) (sym is))
    (λ l other before. rows_past_put old new m l none more other before)
