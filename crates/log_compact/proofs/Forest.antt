-- The splits that create some leaves, and the names that were split.
use Rattle.std.proofs.Common.{◌≡◌, inl, inr, ℕ, ◌+◌, ◌*◌, ◌-◌, ◌<◌, ◌≤◌, Bool, true, false, List, [], ◌∷◌, ◌++◌, length, cond, refl, sym, ◌∙◌, ap, subst, arith, append_assoc, length-append}
use Rattle.std.proofs.lemmas.List.{append-nil}
use Rattle.std.proofs.lemmas.Nat.{pow_pos}
use Rattle.std.specs.List.{AllByRecursion, fold}
use Rattle.zorder.specs.SameName.{same_name, same_name-decides}
use Rattle.zorder.specs.Tile.{children}
use Rattle.zorder.specs.Name.{first_key}
use Rattle.zorder.proofs.Tiles.{first_left, first_right}
use Rattle.plain_list.specs.State.{split_leaf, ComesBySplits}
use Rattle.zorder.specs.Width.{IsWidth}
use Rattle.log_compact.specs.Walk.{AreShort}
use Rattle.log_compact.proofs.Order.{is_left, left-under}

-- Some roots, the leaves under them, and the names that were split in between, each before those under it.
pub data Forest (w : ℕ) : List (List Bool) → List (List Bool) → List (List Bool) → Type 0 where
  none : Forest w [] [] []
  leaf : (name : List Bool) (roots leaves inner : List (List Bool)) → Forest w roots leaves inner → Forest w (name ∷ roots) (name ∷ leaves) inner
  split : (name : List Bool) (roots leaves inner : List (List Bool)) → Forest w (children w name ++ roots) leaves inner → Forest w (name ∷ roots) leaves (name ∷ inner)

-- Roots that weren't split come before others.
unsplit : (w : ℕ) (names roots leaves inner : List (List Bool)) → Forest w roots leaves inner → Forest w (names ++ roots) (names ++ leaves) inner
unsplit w [] roots leaves inner f = f
unsplit w (n ∷ names) roots leaves inner f = leaf n (names ++ roots) (names ++ leaves) inner (unsplit w names roots leaves inner f)

-- Some names were split between these roots and these leaves.
abbrev pub ComesBy : ℕ → List (List Bool) → List (List Bool) → Type 0
ComesBy w roots leaves = (inner : List (List Bool)) × Forest w roots leaves inner

-- One more split.
split_one : (w : ℕ) (name : List Bool) (roots leaves inner : List (List Bool)) → Forest w roots leaves inner → ComesBy w roots (split_leaf w name leaves)
split_one w name _ _ _ none = ([], none)
split_one w name _ _ _ (leaf n roots leaves inner f) = by_test (same_name n name) (same_name-decides n name).0 (split_one w name roots leaves inner f)
  where
    by_test : (b : Bool) → (b ≡ true → n ≡ name) → ComesBy w roots (split_leaf w name leaves) → ComesBy w (n ∷ roots) (cond b (children w name ++ leaves) (n ∷ split_leaf w name leaves))
    by_test true same rest = subst (λ (m : List Bool). ComesBy w (m ∷ roots) (children w name ++ leaves)) (sym (same refl))
        (name ∷ inner, split name roots (children w name ++ leaves) inner (unsplit w (children w name) roots leaves inner f))
    by_test false same rest = (rest.0, leaf n roots (split_leaf w name leaves) rest.0 rest.1)
split_one w name _ _ _ (split n roots leaves inner f) = let r = split_one w name (children w n ++ roots) leaves inner f in (n ∷ r.0, split n roots (split_leaf w name leaves) r.0 r.1)

splits : (w : ℕ) (names roots leaves : List (List Bool)) → ComesBy w roots leaves → ComesBy w roots (fold (λ (ls : List (List Bool)) name. split_leaf w name ls) leaves names)
splits w [] roots leaves by = by
splits w (name ∷ names) roots leaves by = splits w names roots (split_leaf w name leaves) (split_one w name roots leaves by.0 by.1)

-- Leaves that splits create from the empty name.
pub forest_of : (w : ℕ) (leaves : List (List Bool)) → ComesBySplits w leaves → ComesBy w ([] ∷ []) leaves
forest_of w leaves by = subst (ComesBy w ([] ∷ [])) (sym by.leaves_are) (splits w by.names ([] ∷ []) ([] ∷ []) ([], leaf [] [] [] [] none))

-- A name that has `w` bits more than another one.
pub record IsChild (w : ℕ) (name child : List Bool) : Type 0 where
  pub bits : List Bool
  pub is : child ≡ name ++ bits
  pub long : length bits ≡ w

-- Each of the names is left of those after it.
abbrev pub ArePartedFrom : List Bool → List (List Bool) → Type 0
ArePartedFrom name names = AllByRecursion (λ (n : List Bool). is_left name n ≡ true) names

abbrev pub AreParted : List (List Bool) → Type 0
AreParted [] = Unit {0}
AreParted (n ∷ names) = ArePartedFrom n names × AreParted names

-- What the children of a name have.
pub record AreChildren (w : ℕ) (name : List Bool) (names : List (List Bool)) : Type 0 where
  pub first : List Bool
  pub others : List (List Bool)
  pub are : names ≡ first ∷ others
  pub grown : AllByRecursion (IsChild w name) names
  pub parted : AreParted names
  -- The first child has the name's first key, and the first key of each other child is above it.
  pub same_key : length name + w ≤ 64 → first_key first ≡ first_key name
  pub above : length name + w ≤ 64 → AllByRecursion (λ (c : List Bool). first_key name < first_key c) others

child : (w : ℕ) (name bits : List Bool) → length bits ≡ w → IsChild w name (name ++ bits)
child w name bits long = record { bits = bits; is = refl; long = long }

-- The first key of a name with one more bit.
module _ (name : List Bool) (room : length name + 1 ≤ 64) where
  with_zero : first_key (name ++ false ∷ []) ≡ first_key name
  with_zero = first_left name room

  with_one : first_key name < first_key (name ++ true ∷ [])
  with_one = omega (arith, first_right name room, pow_pos (63 - length name))

two : (name : List Bool) → AreChildren 1 name (children 1 name)
two name = record {
  first = name ++ false ∷ [];
  others = (name ++ true ∷ []) ∷ [];
  are = refl;
  grown = (child 1 name (false ∷ []) refl, (child 1 name (true ∷ []) refl, tt));
  parted = ((left-under name (false ∷ []) (true ∷ []) refl, tt), (tt, tt));
  same_key = λ room. with_zero name room;
  above = λ room. (with_one name room, tt);
}

-- The first key of a name with two more bits.
module _ (name : List Bool) (room : length name + 2 ≤ 64) where
  half_room : (a : Bool) → length (name ++ a ∷ []) + 1 ≤ 64
  half_room a = omega (arith, length-append name (a ∷ []), room)

  at_both : (a b : Bool) → first_key (name ++ (a ∷ b ∷ [])) ≡ first_key ((name ++ a ∷ []) ++ b ∷ [])
  at_both a b = ap first_key (sym (append_assoc name (a ∷ []) (b ∷ [])))

  left_key : first_key (name ++ false ∷ []) ≡ first_key name
  left_key = with_zero name (omega (arith, room))

  right_key : first_key name < first_key (name ++ true ∷ [])
  right_key = with_one name (omega (arith, room))

  zeros : first_key (name ++ (false ∷ false ∷ [])) ≡ first_key name
  zeros = at_both false false ∙ with_zero (name ++ false ∷ []) (half_room false) ∙ left_key

  low_one : first_key name < first_key (name ++ (false ∷ true ∷ []))
  low_one = omega (arith, at_both false true, with_one (name ++ false ∷ []) (half_room false), left_key)

  high_one : first_key name < first_key (name ++ (true ∷ false ∷ []))
  high_one = omega (arith, at_both true false, with_zero (name ++ true ∷ []) (half_room true), right_key)

  both_ones : first_key name < first_key (name ++ (true ∷ true ∷ []))
  both_ones = omega (arith, at_both true true, with_one (name ++ true ∷ []) (half_room true), right_key)

four : (name : List Bool) → AreChildren 2 name (children 2 name)
four name =
    let ff : List Bool = false ∷ false ∷ [] in
    let ft : List Bool = false ∷ true ∷ [] in
    let tf : List Bool = true ∷ false ∷ [] in
    let tt_bits : List Bool = true ∷ true ∷ [] in
    record {
      first = name ++ (false ∷ false ∷ []);
      others = (name ++ (false ∷ true ∷ [])) ∷ (name ++ (true ∷ false ∷ [])) ∷ (name ++ (true ∷ true ∷ [])) ∷ [];
      are = refl;
      grown = (child 2 name ff refl, (child 2 name ft refl, (child 2 name tf refl, (child 2 name tt_bits refl, tt))));
      parted = (
        (left-under name ff ft refl, (left-under name ff tf refl, (left-under name ff tt_bits refl, tt))),
        ((left-under name ft tf refl, (left-under name ft tt_bits refl, tt)), ((left-under name tf tt_bits refl, tt), (tt, tt))),
      );
      same_key = λ room. zeros name room;
      above = λ room. (low_one name room, (high_one name room, (both_ones name room, tt)));
    }

pub children_are : (w : ℕ) (name : List Bool) → IsWidth w → AreChildren w name (children w name)
children_are w name (inl one) = subst (λ v. AreChildren v name (children v name)) (sym one) (two name)
children_are w name (inr both) = subst (λ v. AreChildren v name (children v name)) (sym both) (four name)

-- The first leaf under a name.
pub record Leads (name : List Bool) (leaves : List (List Bool)) : Type 0 where
  pub bits : List Bool
  pub rest : List (List Bool)
  pub are : leaves ≡ (name ++ bits) ∷ rest

first_name : (a b : List Bool) (xs ys : List (List Bool)) → a ∷ xs ≡ b ∷ ys → a ≡ b
first_name a b xs ys e = cc e

leads : (w : ℕ) → IsWidth w → (roots leaves inner : List (List Bool)) → Forest w roots leaves inner → (name : List Bool) (more : List (List Bool)) → roots ≡ name ∷ more → Leads name leaves
leads w width _ _ _ none name more e = cc e
leads w width _ _ _ (leaf n roots leaves inner f) name more e =
    record { bits = []; rest = leaves; are = ap (λ (m : List Bool). m ∷ leaves) (first_name n name roots more e ∙ sym (append-nil name)) }
leads w width _ _ _ (split n roots leaves inner f) name more e =
    let cs = children_are w n width in
    let below = leads w width (children w n ++ roots) leaves inner f cs.first (cs.others ++ roots) (ap (λ (l : List (List Bool)). l ++ roots) cs.are) in
    let c : IsChild w n cs.first = (subst (AllByRecursion (IsChild w n)) cs.are cs.grown).0 in
    record {
      bits = c.bits ++ below.bits;
      rest = below.rest;
      are = below.are
          ∙ ap (λ (m : List Bool). m ∷ below.rest)
          (ap (λ (m : List Bool). m ++ below.bits) (c.is ∙ ap (λ (m : List Bool). m ++ c.bits) (first_name n name roots more e)) ∙ append_assoc name c.bits below.bits);
    }

-- The leaves under a name that was split have more bits, so the name has bits left.
pub leads-split : (w : ℕ) → IsWidth w → (name : List Bool) (roots leaves inner : List (List Bool)) → Forest w (children w name ++ roots) leaves inner
    → (bits : List Bool) × (Leads (name ++ bits) leaves) × (length bits ≡ w)
leads-split w width name roots leaves inner f =
    let cs = children_are w name width in
    let c : IsChild w name cs.first = (subst (AllByRecursion (IsChild w name)) cs.are cs.grown).0 in
    (c.bits, subst (λ (m : List Bool). Leads m leaves) c.is (leads w width (children w name ++ roots) leaves inner f cs.first (cs.others ++ roots) (ap (λ (l : List (List Bool)). l ++ roots) cs.are)), c.long)

pub split-room : (w : ℕ) → IsWidth w → (name : List Bool) (roots leaves inner : List (List Bool)) → Forest w (children w name ++ roots) leaves inner → AreShort leaves → length name + w ≤ 64
split-room w width name roots leaves inner f short =
    let (bits, below, long) = leads-split w width name roots leaves inner f in
    let first : length ((name ++ bits) ++ below.bits) ≤ 64 = (subst AreShort below.are short).0 in
    omega (arith, first, length-append (name ++ bits) below.bits, length-append name bits, long)

-- The number of leaves after so many splits.
pub length-one : (roots leaves inner : List (List Bool)) → Forest 1 roots leaves inner → length leaves ≡ length roots + length inner
length-one _ _ _ none = refl
length-one _ _ _ (leaf n roots leaves inner f) = omega (arith, length-one roots leaves inner f)
length-one _ _ _ (split n roots leaves inner f) = omega (arith, length-one (children 1 n ++ roots) leaves inner f)

pub length-two : (roots leaves inner : List (List Bool)) → Forest 2 roots leaves inner → length leaves ≡ length roots + 3 * length inner
length-two _ _ _ none = refl
length-two _ _ _ (leaf n roots leaves inner f) = omega (arith, length-two roots leaves inner f)
length-two _ _ _ (split n roots leaves inner f) = omega (arith, length-two (children 2 n ++ roots) leaves inner f)
