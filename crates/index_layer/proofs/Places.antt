-- What is below a name, by a leaf whose name begins with it.
use Rattle.std.proofs.Common.{◌≡◌, ℕ, ◌<◌, ◌≤◌, Bool, true, false, not, List, [], ◌∷◌, ◌++◌, length, Some, refl, sym, ap, subst, ◌∙◌, arith, leb, length-append}
use Rattle.std.specs.List.{starts_with}
use Rattle.std.specs.Cmp.{first_so, second_so}
use Rattle.std.specs.Cmp.Derive.{both_true}
use Rattle.std.proofs.lemmas.List.{append-nil}
use Rattle.std.proofs.lemmas.Bool.{leb-true, leb-false, false_from_ne_true}
use mathlib.Core.Bool.{beq, true≢false}
use Rattle.zorder.specs.Key.{is_under}
use Rattle.zorder.specs.Name.{first_key}
use Rattle.zorder.specs.SameName.{same_name, same_name-decides}
use Rattle.zorder.specs.Tile.{tiles_from}
use Rattle.index_layer.specs.Leaves.{Leaf, names_of, has_name, leaf_named}
use Rattle.index_layer.specs.Part.{goes_on, is_inner}
use Rattle.index_layer.specs.Below.{begins_some}
use Rattle.index_layer.proofs.LeafKeys.{first_key-fits, first_key-under, leaf_under-some}
use Rattle.index_layer.proofs.LeafNames.{IsFront, IsAmong, front-from_test, front-test, front-trans, under-fronts, under-front, any-among, among-any, find-among, leaf_under-among, leaf_named-first, short-among, one-leaf}

not-true : (b : Bool) → not b ≡ true → b ≡ false
not-true true e = sym e
not-true false e = refl

longer-front : (name long : List Bool) → IsFront name long → same_name long name ≡ false → length name < length long
longer-front name long ([], is) other = absurd (true≢false (sym ((same_name-decides long name).1 (is ∙ append-nil name)) ∙ other))
longer-front name long (b ∷ rest, is) other = omega (arith, ap length is, length-append name (b ∷ rest))

module _ (leaves : List Leaf) (tile : tiles_from 0 (names_of leaves) ≡ true) where
  -- each leaf is found by its name
  pub named-among : (l : Leaf) → IsAmong leaves l → leaf_named l.name leaves ≡ Some l
  named-among l at =
      let short : length l.name ≤ 64 = short-among leaves l tile at in
      leaf_named-first leaves tile l.name l (leaf_under-among leaves l (first_key l.name) tile (first_key-fits l.name short) at (first_key-under l.name short)) ((same_name-decides l.name l.name).1 refl)

  -- a name that one leaf's name goes on from
  pub inner-among : (name : List Bool) (l : Leaf) → IsAmong leaves l → IsFront name l.name → length name < length l.name → (is_inner name leaves ≡ true) × (has_name name leaves ≡ false)
  inner-among name l at front longer =
      let short : length l.name ≤ 64 = short-among leaves l tile at in
      let key : ℕ = first_key l.name in
      let other : same_name l.name name ≡ false = false_from_ne_true (same_name l.name name) (λ e. let same : length l.name ≡ length name = ap length ((same_name-decides l.name name).0 e) in omega (arith, longer, same)) in (
        among-any (λ (m : Leaf). goes_on name m.name) leaves l at (both_true (front-test name l.name front) (ap not other)),
        false_from_ne_true (has_name name leaves)
            (λ e. let m = any-among (λ (n : Leaf). same_name n.name name) leaves e in
            let named : m.0.name ≡ name = (same_name-decides m.0.name name).0 m.2 in
            let over : is_under m.0.name key ≡ true = under-front m.0.name l.name key (subst (λ (n : List Bool). IsFront n l.name) (sym named) front) (first_key-under l.name short) in
            let same : m.0 ≡ l = one-leaf leaves m.0 l key tile (first_key-fits l.name short) m.1 at over (first_key-under l.name short) in
            let long : length l.name ≡ length name = ap (λ (n : Leaf). length n.name) (sym same) ∙ ap length named in
            omega (arith, longer, long)),
      )

  -- a name that some leaf's name begins with is a leaf's, or one goes on from it
  pub begins-either : (name : List Bool) → begins_some name leaves ≡ true → is_inner name leaves ≡ false → has_name name leaves ≡ false → ⊥
  begins-either name begun inner named =
      let m = any-among (λ (n : Leaf). starts_with beq n.name name) leaves begun in
      by_test m.0 m.1 m.2 (same_name m.0.name name) refl
    where
      by_test : (l : Leaf) → IsAmong leaves l → starts_with beq l.name name ≡ true → (b : Bool) → same_name l.name name ≡ b → ⊥
      by_test l at front true e = true≢false (sym (among-any (λ (n : Leaf). same_name n.name name) leaves l at e) ∙ named)
      by_test l at front false e = true≢false (sym (among-any (λ (n : Leaf). goes_on name n.name) leaves l at (both_true front (ap not e))) ∙ inner)

  -- where leaves go on from a name, some go on from it with each bit
  pub halves-begin : (name : List Bool) (b : Bool) → is_inner name leaves ≡ true → begins_some (name ++ b ∷ []) leaves ≡ true
  halves-begin name b inner =
      let m = any-among (λ (n : Leaf). goes_on name n.name) leaves inner in
      let front : IsFront name m.0.name = front-from_test name m.0.name (first_so (starts_with beq m.0.name name) (not (same_name m.0.name name)) m.2) in
      let other : same_name m.0.name name ≡ false = not-true (same_name m.0.name name) (second_so (starts_with beq m.0.name name) (not (same_name m.0.name name)) m.2) in
      by_leaf m.0 m.1 front (longer-front name m.0.name front other)
    where
      half : List Bool
      half = name ++ b ∷ []

      by_leaf : (m : Leaf) → IsAmong leaves m → IsFront name m.name → length name < length m.name → begins_some half leaves ≡ true
      by_leaf m at_m front longer =
          let l = leaf_under-some leaves (first_key half) tile (first_key-fits half short) in
          let it = find-among (λ (n : Leaf). is_under n.name (first_key half)) leaves l.0 l.1 in
          by_length l.0 it.0 it.1 (leb (length half) (length l.0.name)) refl
        where
          m_short : length m.name ≤ 64
          m_short = short-among leaves m tile at_m

          short : length half ≤ 64
          short = omega (arith, length-append name (b ∷ []), longer, m_short)

          under : is_under half (first_key half) ≡ true
          under = first_key-under half short

          by_length : (l : Leaf) → IsAmong leaves l → is_under l.name (first_key half) ≡ true → (c : Bool) → leb (length half) (length l.name) ≡ c → begins_some half leaves ≡ true
          by_length l at over true le =
              among-any (λ (n : Leaf). starts_with beq n.name half) leaves l at (front-test half l.name (under-fronts half l.name (first_key half) under over (leb-true (length half) (length l.name) le)))
          by_length l at over false le =
              let less : length l.name ≤ length name = omega (arith, leb-false (length half) (length l.name) le, length-append name (b ∷ [])) in
              let before : IsFront l.name name = under-fronts l.name name (first_key half) over (under-front name half (first_key half) (b ∷ [], refl) under) less in
              let key_m : is_under m.name (first_key m.name) ≡ true = first_key-under m.name m_short in
              let over_m : is_under l.name (first_key m.name) ≡ true = under-front l.name m.name (first_key m.name) (front-trans l.name name m.name before front) key_m in
              let same : l ≡ m = one-leaf leaves l m (first_key m.name) tile (first_key-fits m.name m_short) at at_m over_m key_m in
              let long : length l.name ≡ length m.name = ap (λ (n : Leaf). length n.name) same in
              absurd (omega (arith, less, longer, long))
