-- A walk that begins at a name that both corners of a box are under comes to each leaf that the box meets.
use Rattle.std.proofs.Common.{◌≡◌, ◌≤◌, ℕ, Bool, true, false, cond, List, [], ◌∷◌, length, leb, refl, sym, ◌∙◌, ap, subst, arith}
use Rattle.std.specs.Prelude.{IsTrue, not}
use Rattle.std.specs.Cmp.{first_so}
use Rattle.std.specs.List.{starts_with}
use Rattle.std.proofs.lemmas.Bool.{leb-true, leb-false, false_from_ne_true}
use mathlib.Core.Bool.{beq, true≢false}
use Rattle.zorder.specs.declared.points.Point.{Point}
use Rattle.zorder.specs.declared.points.Region.{Region}
use Rattle.zorder.specs.Region.{has_point, IsBox}
use Rattle.zorder.specs.Key.{IsPoint, key_of, point_of, is_under, is_in}
use Rattle.zorder.specs.Name.{first_key}
use Rattle.zorder.specs.Tile.{tiles_from}
use Rattle.zorder.proofs.Places.{IsPoint-point_of}
use Rattle.prefix_names.specs.Regions.{region_of, lies_in}
use Rattle.prefix_names.proofs.Corners.{has_point-region_of, IsBox-region_of}
use Rattle.prefix_names.proofs.HeldPoints.{held-so, so-held, meet-points}
use Rattle.index_layer.specs.Leaves.{Leaf, names_of}
use Rattle.index_layer.specs.Below.{begins_some}
use Rattle.index_layer.proofs.LeafKeys.{first_key-fits, first_key-under}
use Rattle.index_layer.proofs.LeafNames.{IsAmong, IsFront, front-from_test, front-test, front-trans, front-length, under-fronts, under-front, any-among, later_leaf, one-leaf, short-among}
use Rattle.table_share.specs.Subtree.{subtree, leaves_of}
use Rattle.range_query.specs.Cut.{IsAreaOf, is_met, is_cut, leaves_met, leaves_cut}

-- the region of a name
pub area-box : (name : List Bool) (area : Region) → IsAreaOf name area → IsBox area
area-box name area of = subst IsBox (sym of.is) (IsBox-region_of name of.short)

pub area-points : (name : List Bool) (area : Region) → IsAreaOf name area → (p : Point) → IsPoint p → has_point area p ≡ is_in name p
area-points name area of p is = ap (λ (r : Region). has_point r p) of.is ∙ has_point-region_of name of.short p is

-- the leaves that pass a test are in a subtree where each that passes it is
kept_in : (passes : List Bool → Bool) (name : List Bool) (leaves : List Leaf) → ((l : Leaf) → IsAmong leaves l → passes l.name ≡ true → starts_with beq l.name name ≡ true)
    → leaves_of passes (subtree name leaves) ≡ leaves_of passes leaves
kept_in passes name [] all = refl
kept_in passes name (l ∷ leaves) all = by_test (starts_with beq l.name name) refl (kept_in passes name leaves (λ m at. all m (later_leaf l leaves m at)))
  where
    by_test : (b : Bool) → starts_with beq l.name name ≡ b → leaves_of passes (subtree name leaves) ≡ leaves_of passes leaves
        → leaves_of passes (cond b (l ∷ subtree name leaves) (subtree name leaves)) ≡ leaves_of passes (l ∷ leaves)
    by_test true e rest = λ i. cond (passes l.name) (l ∷ rest i) (rest i)
    by_test false e rest =
        let out : passes l.name ≡ false = false_from_ne_true (passes l.name) (λ t. true≢false (sym (all l ([], leaves, refl) t) ∙ e)) in
        rest ∙ ap (λ (b : Bool). cond b (l ∷ leaves_of passes leaves) (leaves_of passes leaves)) (sym out)

-- a name that some leaf's name begins with has at most 64 bits
pub short-some : (name : List Bool) (leaves : List Leaf) → tiles_from 0 (names_of leaves) ≡ true → begins_some name leaves ≡ true → length name ≤ 64
short-some name leaves tile some =
    let m = any-among (λ (n : Leaf). starts_with beq n.name name) leaves some in
    omega (arith, front-length name m.0.name (front-from_test name m.0.name m.2), short-among leaves m.0 tile m.1)

module _ (region : Region) (is_box : IsBox region) (lo hi : ℕ) (lo_key : lo ≡ key_of region.lo) (lo_back : point_of lo ≡ region.lo) (hi_key : hi ≡ key_of region.hi) (hi_back : point_of hi ≡ region.hi)
    (leaves : List Leaf) (tile : tiles_from 0 (names_of leaves) ≡ true) (name : List Bool) (some : begins_some name leaves ≡ true) (over : (is_under name lo ≡ true) × (is_under name hi ≡ true)) where
  short : length name ≤ 64
  short = short-some name leaves tile some

  lo_is : IsPoint region.lo
  lo_is = subst IsPoint lo_back (IsPoint-point_of lo)

  hi_is : IsPoint region.hi
  hi_is = subst IsPoint hi_back (IsPoint-point_of hi)

  from : is_under name (key_of region.lo) ≡ true
  from = ap (is_under name) (sym lo_key) ∙ over.0

  to : is_under name (key_of region.hi) ≡ true
  to = ap (is_under name) (sym hi_key) ∙ over.1

  -- each point of the box is in the name's region
  within : (p : Point) → IsTrue (has_point region p) → IsTrue (has_point (region_of name) p)
  within p e =
      let held = so-held region p e in
      let lo = so-held (region_of name) region.lo (has_point-region_of name short region.lo lo_is ∙ from) in
      let hi = so-held (region_of name) region.hi (has_point-region_of name short region.hi hi_is ∙ to) in
      held-so (region_of name) p
      (record { left = omega (arith, lo.left, held.left); right = omega (arith, hi.right, held.right); low = omega (arith, lo.low, held.low); high = omega (arith, hi.high, held.high) })

  met-begins : (l : Leaf) → IsAmong leaves l → is_met region l.name ≡ true → starts_with beq l.name name ≡ true
  met-begins l at met = by_length (leb (length name) (length l.name)) refl
    where
      l_short : length l.name ≤ 64
      l_short = short-among leaves l tile at

      by_length : (b : Bool) → leb (length name) (length l.name) ≡ b → starts_with beq l.name name ≡ true
      by_length b le =
          let shared = (meet-points (region_of l.name) region (IsBox-region_of l.name l_short) is_box).0 met in
          let p : Point = shared.0 in
          let held = so-held region p shared.2 in
          let is : IsPoint p = record { x = omega (arith, held.right, hi_is.x); y = omega (arith, held.high, hi_is.y) } in
          let under_l : is_under l.name (key_of p) ≡ true = sym (has_point-region_of l.name l_short p is) ∙ shared.1 in
          let under_n : is_under name (key_of p) ≡ true = sym (has_point-region_of name short p is) ∙ within p shared.2 in
          by_key (key_of p) under_l under_n b le
        where
          by_key : (key : ℕ) → is_under l.name key ≡ true → is_under name key ≡ true → (b : Bool) → leb (length name) (length l.name) ≡ b → starts_with beq l.name name ≡ true
          by_key key under_l under_n true le = front-test name l.name (under-fronts name l.name key under_n under_l (leb-true (length name) (length l.name) le))
          by_key key under_l under_n false le =
              let m = any-among (λ (n : Leaf). starts_with beq n.name name) leaves some in
              let m_short : length m.0.name ≤ 64 = short-among leaves m.0 tile m.1 in
              let before : IsFront l.name name = under-fronts l.name name key under_l under_n (omega (arith, leb-false (length name) (length l.name) le)) in
              let key_m : is_under m.0.name (first_key m.0.name) ≡ true = first_key-under m.0.name m_short in
              let over : is_under l.name (first_key m.0.name) ≡ true =
              under-front l.name m.0.name (first_key m.0.name) (front-trans l.name name m.0.name before (front-from_test name m.0.name m.2)) key_m in
              let same : l ≡ m.0 = one-leaf leaves l m.0 (first_key m.0.name) tile (first_key-fits m.0.name m_short) at m.1 over key_m in
              ap (λ (n : Leaf). starts_with beq n.name name) same ∙ m.2

  -- each leaf that the box meets, and each that it cuts, is below the name
  pub met-below : leaves_met region (subtree name leaves) ≡ leaves_met region leaves
  met-below = kept_in (is_met region) name leaves met-begins

  pub cut-below : leaves_cut region (subtree name leaves) ≡ leaves_cut region leaves
  cut-below = kept_in (is_cut region) name leaves (λ l at cut. met-begins l at (first_so (is_met region l.name) (not (lies_in (region_of l.name) region)) cut))
