-- Subtrees: one leaf, two halves, or nothing that passes a test.
use Rattle.std.proofs.Common.{◌≡◌, ℕ, ◌+◌, ◌-◌, ◌^◌, ◌<◌, ◌≤◌, Bool, true, false, List, [], ◌∷◌, ◌++◌, length, Some, Result, Ok, Err, OnOk, refl, sym, ◌∙◌, ap, subst, arith, cond, length-append, append_assoc}
use Rattle.std.specs.Prelude.{◌||◌, ◌&&◌, not}
use Rattle.std.specs.List.{filter, starts_with, AllByRecursion}
use Rattle.std.specs.Cmp.{first_so, second_so}
use Rattle.std.proofs.lemmas.List.{append-nil}
use Rattle.std.proofs.lemmas.List.Elements.{filter-append}
use Rattle.std.proofs.lemmas.Bool.{false_from_ne_true}
use mathlib.Core.Bool.{beq, true≢false}
use Rattle.zorder.specs.Key.{is_under}
use Rattle.zorder.specs.Name.{first_key}
use Rattle.zorder.specs.SameName.{same_name, same_name-decides}
use Rattle.zorder.specs.Tile.{tiles_from, next_key}
use Rattle.zorder.proofs.Ranges.{under-range}
use Rattle.zorder.proofs.Tiles.{first_left, first_right}
use Rattle.bucket_versions.specs.Rows.{Rows}
use Rattle.index_layer.specs.Leaves.{Leaf, names_of, has_name, leaf_named}
use Rattle.index_layer.specs.Part.{goes_on, is_inner}
use Rattle.index_layer.proofs.LeafKeys.{first_from, first_key-next, tile_short, tile_rest, first_key-fits, first_key-under}
use Rattle.index_layer.proofs.LeafNames.{IsFront, front-from_test, front-test, front-trans, front-length, under-front, any-among, find-among, short-among}
use Rattle.index_layer.proofs.Standing.{among-all}
use Rattle.table_share.specs.Subtree.{subtree, leaves_of}

abbrev pub begins : List Bool → List Bool → Bool
begins name long = starts_with beq long name

-- what holds at any end holds at this one
pub whenever : {T E : Type 0} (r : Result T E) {P : Type 0} → P → OnOk r P
whenever (Ok x) p = p
whenever (Err e) p = tt

-- the subtree of the empty name has all leaves
pub subtree-whole : (leaves : List Leaf) → subtree [] leaves ≡ leaves
subtree-whole [] = refl
subtree-whole (l ∷ leaves) = (λ i. cond (front-test [] l.name (l.name, refl) i) (l ∷ subtree [] leaves) (subtree [] leaves)) ∙ ap (λ (ls : List Leaf). l ∷ ls) (subtree-whole leaves)

none_kept : (p : Leaf → Bool) (leaves : List Leaf) → AllByRecursion (λ (l : Leaf). p l ≡ false) leaves → filter p leaves ≡ []
none_kept p [] none = refl
none_kept p (l ∷ leaves) none = (λ i. cond (none.0 i) (l ∷ filter p leaves) (filter p leaves)) ∙ none_kept p leaves none.1

kept-yes : (p : Leaf → Bool) (l : Leaf) (leaves : List Leaf) → p l ≡ true → filter p (l ∷ leaves) ≡ l ∷ filter p leaves
kept-yes p l leaves e = ap (λ b. cond b (l ∷ filter p leaves) (filter p leaves)) e

kept-no : (p : Leaf → Bool) (l : Leaf) (leaves : List Leaf) → p l ≡ false → filter p (l ∷ leaves) ≡ filter p leaves
kept-no p l leaves e = ap (λ b. cond b (l ∷ filter p leaves) (filter p leaves)) e

-- a name that goes on from another goes on with one bit
next_bit : (name long : List Bool) → IsFront name long → same_name long name ≡ false → (b : Bool) × IsFront (name ++ b ∷ []) long
next_bit name long ([], is) other = absurd (true≢false (sym ((same_name-decides long name).1 (is ∙ append-nil name)) ∙ other))
next_bit name long (b ∷ rest, is) other = (b, (rest, is ∙ sym (append_assoc name (b ∷ []) rest)))

back_bit : (name long : List Bool) (b : Bool) → IsFront (name ++ b ∷ []) long → IsFront name long
back_bit name long b f = front-trans name (name ++ b ∷ []) long (b ∷ [], refl) f

-- which half of a name a longer one is in
pub data Half (name long : List Bool) : Type 0 where
  out : begins name long ≡ false → begins (name ++ false ∷ []) long ≡ false → begins (name ++ true ∷ []) long ≡ false → Half name long
  left : begins name long ≡ true → begins (name ++ false ∷ []) long ≡ true → begins (name ++ true ∷ []) long ≡ false → Half name long
  right : begins name long ≡ true → begins (name ++ false ∷ []) long ≡ false → begins (name ++ true ∷ []) long ≡ true → Half name long

same_place : (name a b : List Bool) (x y : Bool) → (name ++ x ∷ []) ++ a ≡ (name ++ y ∷ []) ++ b → x ≡ y
same_place [] a b x y e = cc e
same_place (n ∷ name) a b x y e = same_place name a b x y (tail ((name ++ x ∷ []) ++ a) ((name ++ y ∷ []) ++ b) e)
  where
    tail : (p q : List Bool) → n ∷ p ≡ n ∷ q → p ≡ q
    tail p q e = cc e

other_half : (name long : List Bool) (x y : Bool) → IsFront (name ++ x ∷ []) long → (x ≡ y → ⊥) → begins (name ++ y ∷ []) long ≡ false
other_half name long x y f differ =
    false_from_ne_true (begins (name ++ y ∷ []) long) (λ e. let g = front-from_test (name ++ y ∷ []) long e in differ (same_place name f.0 g.0 x y (sym f.1 ∙ g.1)))

pub half_of : (name long : List Bool) → same_name long name ≡ false → Half name long
half_of name long other = by_test (begins name long) refl
  where
    by_bit : begins name long ≡ true → (b : Bool) → IsFront (name ++ b ∷ []) long → Half name long
    by_bit e true f = right e (other_half name long true false f true≢false) (front-test (name ++ true ∷ []) long f)
    by_bit e false f = left e (front-test (name ++ false ∷ []) long f) (other_half name long false true f (λ e. true≢false (sym e)))

    by_test : (b : Bool) → begins name long ≡ b → Half name long
    by_test true e = let n = next_bit name long (front-from_test name long e) other in by_bit e n.0 n.1
    by_test false e = out e (none false) (none true)
      where
        none : (b : Bool) → begins (name ++ b ∷ []) long ≡ false
        none b = false_from_ne_true (begins (name ++ b ∷ []) long) (λ t. true≢false (sym (front-test name long (back_bit name long b (front-from_test (name ++ b ∷ []) long t))) ∙ e))

-- behind a leaf of the right half there is none of the left one
module _ (name : List Bool) (room : length name + 1 ≤ 64) where
  short_half : (b : Bool) → length (name ++ b ∷ []) ≤ 64
  short_half b = omega (arith, length-append name (b ∷ []), room)

  halves_meet : next_key (name ++ false ∷ []) ≡ first_key (name ++ true ∷ [])
  halves_meet =
      let less : 64 - length (name ++ false ∷ []) ≡ 63 - length name = omega (arith, length-append name (false ∷ [])) in
      let half : 2 ^ (64 - length (name ++ false ∷ [])) ≡ 2 ^ (63 - length name) = ap (λ k. 2 ^ k) less in
      omega (arith, first_left name room, first_right name room, half)

  none_left : (k : ℕ) (leaves : List Leaf) → first_key (name ++ true ∷ []) ≤ k → tiles_from k (names_of leaves) ≡ true → AllByRecursion (λ (l : Leaf). begins (name ++ false ∷ []) l.name ≡ false) leaves
  none_left k [] le tile = tt
  none_left k (l ∷ leaves) le tile = (
    false_from_ne_true (begins (name ++ false ∷ []) l.name)
        (λ e. let short : length l.name ≤ 64 = tile_short k l leaves tile in
        let under : is_under (name ++ false ∷ []) (first_key l.name) ≡ true = under-front (name ++ false ∷ []) l.name (first_key l.name) (front-from_test (name ++ false ∷ []) l.name e) (first_key-under l.name short) in
        let range = under-range (name ++ false ∷ []) (first_key l.name) (short_half false) (first_key-fits l.name short) under in
        let first = first_from k k (l ∷ leaves) (omega arith) tile in
        omega (arith, range.1, halves_meet, le, first.0)),
    let first = first_from k k (l ∷ leaves) (omega arith) tile in
        none_left (next_key l.name) leaves (omega (arith, le, first.0, first_key-next l.name)) (tile_rest k l leaves tile),
  )

  first_of_right : (k : ℕ) (l : Leaf) (leaves : List Leaf) → tiles_from k (names_of (l ∷ leaves)) ≡ true → begins (name ++ true ∷ []) l.name ≡ true → first_key (name ++ true ∷ []) ≤ first_key l.name
  first_of_right k l leaves tile e =
      let short : length l.name ≤ 64 = tile_short k l leaves tile in
      let under : is_under (name ++ true ∷ []) (first_key l.name) ≡ true = under-front (name ++ true ∷ []) l.name (first_key l.name) (front-from_test (name ++ true ∷ []) l.name e) (first_key-under l.name short) in
      (under-range (name ++ true ∷ []) (first_key l.name) (short_half true) (first_key-fits l.name short) under).0

  -- the subtree of a name that no leaf has: that of its first half, and then that of its second
  pub subtree-halves : (k : ℕ) (leaves : List Leaf) → tiles_from k (names_of leaves) ≡ true → has_name name leaves ≡ false
      → subtree name leaves ≡ subtree (name ++ false ∷ []) leaves ++ subtree (name ++ true ∷ []) leaves
  subtree-halves k [] tile none = refl
  subtree-halves k (l ∷ leaves) tile none =
      by_half (half_of name l.name (neither.0)) (subtree-halves (next_key l.name) leaves (tile_rest k l leaves tile) neither.1)
    where
      or_parts : (a b : Bool) → (a || b) ≡ false → (a ≡ false) × (b ≡ false)
      or_parts true b e = absurd (true≢false e)
      or_parts false b e = (refl, e)

      neither : (same_name l.name name ≡ false) × (has_name name leaves ≡ false)
      neither = or_parts (same_name l.name name) (has_name name leaves) none

      zero : List Bool
      zero = name ++ false ∷ []

      one : List Bool
      one = name ++ true ∷ []

      test : List Bool → Leaf → Bool
      test n m = begins n m.name

      by_half : Half name l.name → subtree name leaves ≡ subtree zero leaves ++ subtree one leaves → subtree name (l ∷ leaves) ≡ subtree zero (l ∷ leaves) ++ subtree one (l ∷ leaves)
      by_half (out e e0 e1) rest =
          kept-no (test name) l leaves e ∙ rest ∙ (λ i. sym (kept-no (test zero) l leaves e0) i ++ sym (kept-no (test one) l leaves e1) i)
      by_half (left e e0 e1) rest =
          kept-yes (test name) l leaves e ∙ ap (λ (ls : List Leaf). l ∷ ls) rest ∙ (λ i. sym (kept-yes (test zero) l leaves e0) i ++ sym (kept-no (test one) l leaves e1) i)
      by_half (right e e0 e1) rest =
          let gone : subtree zero leaves ≡ [] =
          none_kept (test zero) leaves
          (none_left (next_key l.name) leaves (omega (arith, first_of_right k l leaves tile e1, first_key-next l.name)) (tile_rest k l leaves tile)) in
          kept-yes (test name) l leaves e ∙ ap (λ (ls : List Leaf). l ∷ ls) (rest ∙ ap (λ (ls : List Leaf). ls ++ subtree one leaves) gone)
          ∙ (λ i. sym (kept-no (test zero) l leaves e0 ∙ gone) i ++ sym (kept-yes (test one) l leaves e1) i)

-- behind a leaf of the name there is none below it
none_behind : (name : List Bool) (k : ℕ) (leaves : List Leaf) → length name ≤ 64 → next_key name ≤ k → tiles_from k (names_of leaves) ≡ true → AllByRecursion (λ (l : Leaf). begins name l.name ≡ false) leaves
none_behind name k [] room le tile = tt
none_behind name k (l ∷ leaves) room le tile =
    let short : length l.name ≤ 64 = tile_short k l leaves tile in
    let first = first_from k k (l ∷ leaves) (omega arith) tile in (
      false_from_ne_true (begins name l.name)
          (λ e. let under : is_under name (first_key l.name) ≡ true = under-front name l.name (first_key l.name) (front-from_test name l.name e) (first_key-under l.name short) in
          let range = under-range name (first_key l.name) room (first_key-fits l.name short) under in
          omega (arith, range.1, le, first.0)),
      none_behind name (next_key l.name) leaves room (omega (arith, le, first.0, first_key-next l.name)) (tile_rest k l leaves tile),
    )

-- the subtree of a leaf's name has that leaf alone
pub subtree-leaf : (name : List Bool) (k : ℕ) (leaves : List Leaf) (l : Leaf) → tiles_from k (names_of leaves) ≡ true → leaf_named name leaves ≡ Some l → subtree name leaves ≡ l ∷ []
subtree-leaf name k [] l tile found = absurd (cc found)
subtree-leaf name k (f ∷ leaves) l tile found = by_test (same_name f.name name) refl found (subtree-leaf name (next_key f.name) leaves l (tile_rest k f leaves tile))
  where
    test : Leaf → Bool
    test m = begins name m.name

    some : (a b : Leaf) → Some a ≡ Some b → a ≡ b
    some a b e = cc e

    short : length f.name ≤ 64
    short = tile_short k f leaves tile

    -- a leaf of the name that comes later isn't behind one below the name
    behind : leaf_named name leaves ≡ Some l → begins name f.name ≡ false
    behind later = false_from_ne_true (begins name f.name)
        (λ e. let it = find-among (λ (m : Leaf). same_name m.name name) leaves l later in
        let named : l.name ≡ name = (same_name-decides l.name name).0 it.1 in
        let same : first_key l.name ≡ first_key name = ap first_key named in
        let from : next_key f.name ≤ first_key l.name =
        among-all (λ (m : Leaf). next_key f.name ≤ first_key m.name) leaves l (first_from (next_key f.name) (next_key f.name) leaves (omega arith) (tile_rest k f leaves tile)) it.0 in
        let front : IsFront name f.name = front-from_test name f.name e in
        let under : is_under name (first_key f.name) ≡ true = under-front name f.name (first_key f.name) front (first_key-under f.name short) in
        let range = under-range name (first_key f.name) (omega (arith, front-length name f.name front, short)) (first_key-fits f.name short) under in
        omega (arith, from, same, range.0, first_key-next f.name))

    by_test : (b : Bool) → same_name f.name name ≡ b → cond b (Some f) (leaf_named name leaves) ≡ Some l → (leaf_named name leaves ≡ Some l → subtree name leaves ≡ l ∷ []) → subtree name (f ∷ leaves) ≡ l ∷ []
    by_test true is e later =
        let named : f.name ≡ name = (same_name-decides f.name name).0 is in
        let room : length name ≤ 64 = subst (λ (n : List Bool). length n ≤ 64) named short in
        let none : subtree name leaves ≡ [] =
        none_kept test leaves (none_behind name (next_key f.name) leaves room (omega (arith, ap next_key named)) (tile_rest k f leaves tile)) in
        kept-yes test f leaves (front-test name f.name ([], named ∙ sym (append-nil name))) ∙ (λ i. some f l e i ∷ none i)
    by_test false is e later = kept-no test f leaves (behind e) ∙ later e

-- where no leaf has the name or goes on from it, its subtree has none
pub subtree-outside : (name : List Bool) (leaves : List Leaf) → is_inner name leaves ≡ false → has_name name leaves ≡ false → subtree name leaves ≡ []
subtree-outside name [] inner has = refl
subtree-outside name (l ∷ leaves) inner has =
    let a = or_parts (goes_on name l.name) (is_inner name leaves) inner in
    let b = or_parts (same_name l.name name) (has_name name leaves) has in
    kept-no (λ (m : Leaf). begins name m.name) l leaves (not_begun (begins name l.name) (same_name l.name name) a.0 b.0) ∙ subtree-outside name leaves a.1 b.1
  where
    or_parts : (a b : Bool) → (a || b) ≡ false → (a ≡ false) × (b ≡ false)
    or_parts true b e = absurd (true≢false e)
    or_parts false b e = (refl, e)

    not_begun : (a b : Bool) → (a && not b) ≡ false → b ≡ false → a ≡ false
    not_begun false b e is = refl
    not_begun true true e is = absurd (true≢false is)
    not_begun true false e is = absurd (true≢false e)

-- a name that leaves go on from has room for one bit more
pub inner-room : (name : List Bool) (leaves : List Leaf) → tiles_from 0 (names_of leaves) ≡ true → is_inner name leaves ≡ true → length name < 64
inner-room name leaves tile inner =
    let (l, at, on) = any-among (λ (m : Leaf). goes_on name m.name) leaves inner in
    let front = front-from_test name l.name (first_so (begins name l.name) (not (same_name l.name name)) on) in
    let other : same_name l.name name ≡ false = not-true (same_name l.name name) (second_so (begins name l.name) (not (same_name l.name name)) on) in
    let next = next_bit name l.name front other in
    omega (arith, front-length (name ++ next.0 ∷ []) l.name next.1, length-append name (next.0 ∷ []), short-among leaves l tile at)
  where
    not-true : (b : Bool) → not b ≡ true → b ≡ false
    not-true true e = sym e
    not-true false e = refl

-- a test that a name passes where one that goes on from it does
abbrev pub Narrows : (List Bool → Bool) → Type 0
Narrows passes = (name long : List Bool) → IsFront name long → length long ≤ 64 → passes long ≡ true → passes name ≡ true

-- below a name that fails such a test no leaf passes it
pub subtree-failing : (passes : List Bool → Bool) → Narrows passes → (name : List Bool) (k : ℕ) (leaves : List Leaf) → tiles_from k (names_of leaves) ≡ true → passes name ≡ false
    → leaves_of passes (subtree name leaves) ≡ []
subtree-failing passes narrows name k [] tile fails = refl
subtree-failing passes narrows name k (l ∷ leaves) tile fails = by_test (begins name l.name) refl (subtree-failing passes narrows name (next_key l.name) leaves (tile_rest k l leaves tile) fails)
  where
    by_test : (b : Bool) → begins name l.name ≡ b → leaves_of passes (subtree name leaves) ≡ [] → leaves_of passes (cond b (l ∷ subtree name leaves) (subtree name leaves)) ≡ []
    by_test false e rest = rest
    by_test true e rest =
        kept-no (λ (m : Leaf). passes m.name) l (subtree name leaves)
        (false_from_ne_true (passes l.name) (λ t. true≢false (sym (narrows name l.name (front-from_test name l.name e) (tile_short k l leaves tile) t) ∙ fails)))
        ∙ rest

-- the leaves below a name that pass a test: those below its halves, or one leaf, or none
module _ (passes : List Bool → Bool) (leaves : List Leaf) (tile : tiles_from 0 (names_of leaves) ≡ true) (name : List Bool) where
  pub passing-halves : is_inner name leaves ≡ true → has_name name leaves ≡ false
      → leaves_of passes (subtree name leaves) ≡ leaves_of passes (subtree (name ++ false ∷ []) leaves) ++ leaves_of passes (subtree (name ++ true ∷ []) leaves)
  passing-halves inner none =
      ap (leaves_of passes) (subtree-halves name (omega (arith, inner-room name leaves tile inner)) 0 leaves tile none)
      ∙ filter-append (λ (l : Leaf). passes l.name) (subtree (name ++ false ∷ []) leaves) (subtree (name ++ true ∷ []) leaves)

  pub passing-leaf : (b : Rows) → leaf_named name leaves ≡ Some (record { name = name; bucket = b }) → passes name ≡ true → leaves_of passes (subtree name leaves) ≡ record { name = name; bucket = b } ∷ []
  passing-leaf b found passing =
      ap (leaves_of passes) (subtree-leaf name 0 leaves (record { name = name; bucket = b }) tile found)
      ∙ kept-yes (λ (l : Leaf). passes l.name) (record { name = name; bucket = b }) [] passing

  pub passing-outside : is_inner name leaves ≡ false → has_name name leaves ≡ false → leaves_of passes (subtree name leaves) ≡ []
  passing-outside inner none = ap (leaves_of passes) (subtree-outside name leaves inner none)

  -- the same, by names that are its halves
  pub passing-both : (zero one : List Bool) → zero ≡ name ++ false ∷ [] → one ≡ name ++ true ∷ [] → is_inner name leaves ≡ true → has_name name leaves ≡ false
      → leaves_of passes (subtree name leaves) ≡ leaves_of passes (subtree zero leaves) ++ leaves_of passes (subtree one leaves)
  passing-both zero one is_zero is_one inner none = passing-halves inner none ∙ (λ i. leaves_of passes (subtree (sym is_zero i) leaves) ++ leaves_of passes (subtree (sym is_one i) leaves))
