-- How many rows there are where a path leads to.
use Rattle.std.proofs.Common.{◌≡◌, ◌+◌, Bool, true, false, cond, List, [], ◌∷◌, ◌++◌, length, Some, refl, sym, ◌∙◌, ap, arith, append_assoc, append-nil, length-append}
use Rattle.std.specs.List.{starts_with, AllByRecursion}
use Rattle.std.proofs.lemmas.Bool.{eqb-true, false_from_ne_true}
use Rattle.std.proofs.lemmas.Grind.{flat_map-append}
use Rattle.std.proofs.lemmas.List.Elements.{filter-append}
use Rattle.std.proofs.lemmas.Option.{same_Some}
use mathlib.Core.Bool.{beq, true≢false}
use Rattle.index_layer.specs.Leaves.{Leaf, all_rows}
use Rattle.index_layer.specs.Subtree.{subtree}
use Rattle.index_layer.proofs.LeafNames.{IsFront, front-test, front-from_test}
use Rattle.bit_trie.specs.Tries.{Trie, tip, fork, halves, leaves_under, reach, rows_in, is_bare}
use Rattle.bit_trie.proofs.Walking.{fronts, same_bit}

-- the leaves of a trie have its rows
pub rows-under : (name : List Bool) (t : Trie) → length (all_rows (leaves_under name t)) ≡ rows_in t
rows-under name (tip b) = ap length (append-nil b.rows)
rows-under name (fork z o) =
    let zero : List Leaf = leaves_under (name ++ false ∷ []) z in
    let one : List Leaf = leaves_under (name ++ true ∷ []) o in
    ap length (flat_map-append (λ (l : Leaf). l.bucket.rows) zero one) ∙ length-append (all_rows zero) (all_rows one)
    ∙ (λ i. rows-under (name ++ false ∷ []) z i + rows-under (name ++ true ∷ []) o i)

kept-all : (name : List Bool) (ls : List Leaf) → AllByRecursion (λ (l : Leaf). IsFront name l.name) ls → subtree name ls ≡ ls
kept-all name [] all = refl
kept-all name (l ∷ ls) all =
    (λ i. cond (front-test name l.name all.0 i) (l ∷ subtree name ls) (subtree name ls)) ∙ ap (λ (ks : List Leaf). l ∷ ks) (kept-all name ls all.1)

kept-none : (name path : List Bool) (x y : Bool) (ls : List Leaf) → (x ≡ y → ⊥) → AllByRecursion (λ (l : Leaf). IsFront (name ++ x ∷ []) l.name) ls → subtree (name ++ y ∷ path) ls ≡ []
kept-none name path x y [] differ all = refl
kept-none name path x y (l ∷ ls) differ all =
    let out : starts_with beq l.name (name ++ y ∷ path) ≡ false =
    false_from_ne_true (starts_with beq l.name (name ++ y ∷ path))
    (λ e. let g = front-from_test (name ++ y ∷ path) l.name e in
    differ (same_bit name all.0.0 (path ++ g.0) x y (sym all.0.1 ∙ g.1 ∙ append_assoc name (y ∷ path) g.0 ∙ sym (append_assoc name (y ∷ []) (path ++ g.0))))) in
    (λ i. cond (out i) (l ∷ subtree (name ++ y ∷ path) ls) (subtree (name ++ y ∷ path) ls)) ∙ kept-none name path x y ls differ all.1

-- what is below a path's name are the leaves of what it leads to
pub subtree-reached : (name path : List Bool) (t u : Trie) → reach path t ≡ Some u → subtree (name ++ path) (leaves_under name t) ≡ leaves_under (name ++ path) u
subtree-reached name [] t u e =
    (λ i. subtree (append-nil name i) (leaves_under name t)) ∙ kept-all name (leaves_under name t) (fronts name t)
    ∙ (λ i. leaves_under (sym (append-nil name) i) (same_Some t u e i))
subtree-reached name (x ∷ path) (tip b) u e = absurd (cc e)
subtree-reached name (true ∷ path) (fork z o) u e =
    let zero : List Leaf = leaves_under (name ++ false ∷ []) z in
    let one : List Leaf = leaves_under (name ++ true ∷ []) o in
    filter-append (λ (l : Leaf). starts_with beq l.name (name ++ true ∷ path)) zero one
    ∙ ap (λ (ls : List Leaf). ls ++ subtree (name ++ true ∷ path) one) (kept-none name path false true zero (λ s. true≢false (sym s)) (fronts (name ++ false ∷ []) z))
    ∙ ap (λ (n : List Bool). subtree n one) (sym (append_assoc name (true ∷ []) path))
    ∙ subtree-reached (name ++ true ∷ []) path o u e
    ∙ ap (λ (n : List Bool). leaves_under n u) (append_assoc name (true ∷ []) path)
subtree-reached name (false ∷ path) (fork z o) u e =
    let zero : List Leaf = leaves_under (name ++ false ∷ []) z in
    let one : List Leaf = leaves_under (name ++ true ∷ []) o in
    filter-append (λ (l : Leaf). starts_with beq l.name (name ++ false ∷ path)) zero one
    ∙ ap (λ (ls : List Leaf). subtree (name ++ false ∷ path) zero ++ ls) (kept-none name path true false one true≢false (fronts (name ++ true ∷ []) o))
    ∙ append-nil (subtree (name ++ false ∷ path) zero)
    ∙ ap (λ (n : List Bool). subtree n zero) (sym (append_assoc name (false ∷ []) path))
    ∙ subtree-reached (name ++ false ∷ []) path z u e
    ∙ ap (λ (n : List Bool). leaves_under n u) (append_assoc name (false ∷ []) path)

-- and it has their rows
pub rows-reached : (name : List Bool) (t u : Trie) → reach name t ≡ Some u → length (all_rows (subtree name (leaves_under [] t))) ≡ rows_in u
rows-reached name t u e = ap (λ (ls : List Leaf). length (all_rows ls)) (subtree-reached [] name t u e) ∙ rows-under name u

-- a bare trie has none
pub rows-bare : (a : Trie) → is_bare a ≡ true → rows_in a ≡ 0
rows-bare (tip b) e = eqb-true (length b.rows) 0 e
rows-bare (fork z o) e = absurd (true≢false (sym e))

pub rows-halves : (b : Bool) (a t : Trie) → rows_in (halves b a t) ≡ rows_in a + rows_in t
rows-halves true a t = refl
rows-halves false a t = omega arith
