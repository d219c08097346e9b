-- The leaf that a name's first key is under, and what it says of the name.
use Rattle.std.proofs.Common.{◌≡◌, ℕ, ◌^◌, ◌<◌, ◌≤◌, leb, ltb, Bool, true, false, not, ◌&&◌, ◌||◌, List, [], ◌∷◌, ◌++◌, length, take, drop, Some, refl, sym, ◌∙◌, ap, subst, arith, cond, length-append, append_assoc}
use Rattle.std.specs.List.{find, list_any, starts_with}
use Rattle.std.specs.Cmp.{booleans_Decides, both_ways, first_so, second_so}
use Rattle.std.specs.Cmp.Derive.{both_true}
use Rattle.std.specs.Cmp.Lexicographic.{pointwise_decides}
use Rattle.std.proofs.lemmas.List.{take-append-drop, append-nil}
use Rattle.std.proofs.lemmas.Bool.{leb-true, leb-false, ltb-true, lt-ltb, false_from_ne_true}
use Rattle.std.proofs.lemmas.Option.{same_Some}
use mathlib.Core.Bool.{beq, true≢false}
use Rattle.zorder.specs.Key.{is_under, key_bits}
use Rattle.zorder.specs.Name.{first_key}
use Rattle.zorder.specs.SameName.{same_name, same_name-decides}
use Rattle.zorder.specs.Tile.{tiles_from}
use Rattle.index_layer.specs.Leaves.{Leaf, names_of, has_name, leaf_named, leaf_under}
use Rattle.index_layer.specs.Part.{goes_on, is_inner}
use Rattle.index_layer.proofs.LeafKeys.{find_at, first_key-under, first_key-fits, leaf_under-at, short_at}

-- one list is the front of another
abbrev pub IsFront : List Bool → List Bool → Type 0
IsFront front whole = (rest : List Bool) × (whole ≡ front ++ rest)

pub front-from_test : (front whole : List Bool) → starts_with beq whole front ≡ true → IsFront front whole
front-from_test front whole e =
    let same : front ≡ take (length front) whole = (pointwise_decides booleans_Decides front (take (length front) whole)).0 e in
    (drop (length front) whole, sym (take-append-drop (length front) whole) ∙ ap (λ l. l ++ drop (length front) whole) (sym same))

take-front : (front rest : List Bool) → take (length front) (front ++ rest) ≡ front
take-front [] rest = refl
take-front (b ∷ front) rest = ap (λ (l : List Bool). b ∷ l) (take-front front rest)

pub front-test : (front whole : List Bool) → IsFront front whole → starts_with beq whole front ≡ true
front-test front whole f =
    (pointwise_decides booleans_Decides front (take (length front) whole)).1 (sym (take-front front f.0) ∙ ap (take (length front)) (sym f.1))

pub front-trans : (a b c : List Bool) → IsFront a b → IsFront b c → IsFront a c
front-trans a b c f g = (f.0 ++ g.0, g.1 ∙ ap (λ l. l ++ g.0) f.1 ∙ append_assoc a f.0 g.0)

pub front-length : (a b : List Bool) → IsFront a b → length a ≤ length b
front-length a b f = omega (arith, ap length f.1, length-append a f.0)

-- of two fronts of one list the shorter one is a front of the other
heads : (a b : Bool) (xs ys : List Bool) → a ∷ xs ≡ b ∷ ys → (a ≡ b) × (xs ≡ ys)
heads a b xs ys e = (cc e, cc e)

pub fronts_of_one : (a b r s : List Bool) → a ++ r ≡ b ++ s → length a ≤ length b → IsFront a b
fronts_of_one [] b r s e le = (b, refl)
fronts_of_one (x ∷ a) [] r s e le = absurd (omega arith)
fronts_of_one (x ∷ a) (y ∷ b) r s e le =
    let parts = heads x y (a ++ r) (b ++ s) e in
    let rest = fronts_of_one a b r s parts.1 (omega arith) in
    (rest.0, λ i. sym parts.0 i ∷ rest.1 i)

-- two names over one key
pub under-fronts : (a b : List Bool) (key : ℕ) → is_under a key ≡ true → is_under b key ≡ true → length a ≤ length b → IsFront a b
under-fronts a b key ua ub le =
    let f = front-from_test a (key_bits key) ua in
    let g = front-from_test b (key_bits key) ub in
    fronts_of_one a b f.0 g.0 (sym f.1 ∙ g.1) le

-- what is under a name is under each front of it
pub under-front : (a b : List Bool) (key : ℕ) → IsFront a b → is_under b key ≡ true → is_under a key ≡ true
under-front a b key f under = front-test a (key_bits key) (front-trans a b (key_bits key) f (front-from_test b (key_bits key) under))

-- a leaf between others
abbrev pub IsAmong : List Leaf → Leaf → Type 0
IsAmong leaves l = (front : List Leaf) × (back : List Leaf) × (leaves ≡ front ++ l ∷ back)

pub later_leaf : (f : Leaf) (leaves : List Leaf) (l : Leaf) → IsAmong leaves l → IsAmong (f ∷ leaves) l
later_leaf f leaves l at = (f ∷ at.0, at.1, ap (λ (rest : List Leaf). f ∷ rest) at.2)

pub any-among : (p : Leaf → Bool) (leaves : List Leaf) → list_any p leaves ≡ true → (l : Leaf) × IsAmong leaves l × (p l ≡ true)
any-among p [] e = absurd (true≢false (sym e))
any-among p (f ∷ leaves) e = by_test (p f) refl e (any-among p leaves)
  where
    by_test : (b : Bool) → p f ≡ b → (b || list_any p leaves) ≡ true → (list_any p leaves ≡ true → (l : Leaf) × IsAmong leaves l × (p l ≡ true)) → (l : Leaf) × IsAmong (f ∷ leaves) l × (p l ≡ true)
    by_test true is e later = (f, ([], leaves, refl), is)
    by_test false is e later = let rest = later e in (rest.0, later_leaf f leaves rest.0 rest.1, rest.2)

pub among-any : (p : Leaf → Bool) (leaves : List Leaf) (l : Leaf) → IsAmong leaves l → p l ≡ true → list_any p leaves ≡ true
among-any p leaves l at is = ap (list_any p) at.2 ∙ by_front at.0
  where
    by_front : (front : List Leaf) → list_any p (front ++ l ∷ at.1) ≡ true
    by_front [] = λ i. is i || list_any p at.1
    by_front (f ∷ front) = (λ i. p f || by_front front i) ∙ or_true (p f)
      where
        or_true : (b : Bool) → (b || true) ≡ true
        or_true true = refl
        or_true false = refl

pub find-among : (p : Leaf → Bool) (leaves : List Leaf) (l : Leaf) → find p leaves ≡ Some l → IsAmong leaves l × (p l ≡ true)
find-among p [] l e = absurd (cc e)
find-among p (f ∷ leaves) l e = by_test (p f) refl e (find-among p leaves l)
  where
    by_test : (b : Bool) → p f ≡ b → cond b (Some f) (find p leaves) ≡ Some l → (find p leaves ≡ Some l → IsAmong leaves l × (p l ≡ true)) → IsAmong (f ∷ leaves) l × (p l ≡ true)
    by_test true is e later =
        let same : f ≡ l = same_Some f l e in
        (([], leaves, ap (λ (m : Leaf). m ∷ leaves) same), ap p (sym same) ∙ is)
    by_test false is e later = let rest = later e in (later_leaf f leaves l rest.0, rest.1)

pub some_found : (p : Leaf → Bool) (leaves : List Leaf) → list_any p leaves ≡ true → (l : Leaf) × (find p leaves ≡ Some l)
some_found p [] e = absurd (true≢false (sym e))
some_found p (f ∷ leaves) e = by_test (p f) refl e (some_found p leaves)
  where
    by_test : (b : Bool) → p f ≡ b → (b || list_any p leaves) ≡ true → (list_any p leaves ≡ true → (l : Leaf) × (find p leaves ≡ Some l)) → (l : Leaf) × (find p (f ∷ leaves) ≡ Some l)
    by_test true is e later = (f, find_at p f leaves true is)
    by_test false is e later = let rest = later e in (rest.0, find_at p f leaves false is ∙ rest.1)

-- a leaf that a key is under is the one that is found
pub leaf_under-among : (leaves : List Leaf) (l : Leaf) (key : ℕ) → tiles_from 0 (names_of leaves) ≡ true → key < 2 ^ 64 → IsAmong leaves l → is_under l.name key ≡ true → leaf_under key leaves ≡ Some l
leaf_under-among leaves l key tile fits at under =
    let tiled : tiles_from 0 (names_of (at.0 ++ l ∷ at.1)) ≡ true = ap (λ (ls : List Leaf). tiles_from 0 (names_of ls)) (sym at.2) ∙ tile in
    ap (leaf_under key) at.2 ∙ leaf_under-at 0 key at.0 l at.1 tiled fits under

pub short-among : (leaves : List Leaf) (l : Leaf) → tiles_from 0 (names_of leaves) ≡ true → IsAmong leaves l → length l.name ≤ 64
short-among leaves l tile at = short_at 0 at.0 l at.1 (ap (λ (ls : List Leaf). tiles_from 0 (names_of ls)) (sym at.2) ∙ tile)

-- two leaves that one key is under are one
pub one-leaf : (leaves : List Leaf) (l m : Leaf) (key : ℕ) → tiles_from 0 (names_of leaves) ≡ true → key < 2 ^ 64 → IsAmong leaves l → IsAmong leaves m → is_under l.name key ≡ true → is_under m.name key ≡ true → l ≡ m
one-leaf leaves l m key tile fits at_l at_m under_l under_m = same_Some l m (sym (leaf_under-among leaves l key tile fits at_l under_l) ∙ leaf_under-among leaves m key tile fits at_m under_m)

abbrev IsShort : List Bool → Type 0
IsShort name = length name ≤ 64

-- a name goes on from another exactly where it is longer and its first key is under that one
pub goes_on-test : (name long : List Bool) → length long ≤ 64 → goes_on name long ≡ (ltb (length name) (length long) && is_under name (first_key long))
goes_on-test name long short =
    both_ways (goes_on name long) (ltb (length name) (length long) && is_under name (first_key long))
    (λ e.
    let f : IsFront name long = front-from_test name long (first_so (starts_with beq long name) (not (same_name long name)) e) in
    let other : same_name long name ≡ false = not-true (same_name long name) (second_so (starts_with beq long name) (not (same_name long name)) e) in
    let longer : length name ≡ length long → ⊥ = λ same. true≢false (sym ((same_name-decides long name).1 (whole_front name long f same)) ∙ other) in
    both_true (lt-ltb (length name) (length long) (omega (arith, front-length name long f, longer))) (under-front name long (first_key long) f (first_key-under long short)))
    (λ e.
    let lt : length name < length long = ltb-true (length name) (length long) (first_so (ltb (length name) (length long)) (is_under name (first_key long)) e) in
    let under : is_under name (first_key long) ≡ true = second_so (ltb (length name) (length long)) (is_under name (first_key long)) e in
    let f : IsFront name long = under-fronts name long (first_key long) under (first_key-under long short) (omega (arith, lt)) in
    let other : same_name long name ≡ false = false_from_ne_true (same_name long name) (λ same. let e2 : length long ≡ length name = ap length ((same_name-decides long name).0 same) in omega (arith, lt, e2)) in
    both_true (front-test name long f) (ap not other))
  where
    not-true : (b : Bool) → not b ≡ true → b ≡ false
    not-true true e = sym e
    not-true false e = refl

    whole_front : (a b : List Bool) → IsFront a b → length a ≡ length b → b ≡ a
    whole_front a b f same = f.1 ∙ ap (λ l. a ++ l) (empty f.0 (omega (arith, ap length f.1, length-append a f.0, same))) ∙ append-nil a
      where
        empty : (l : List Bool) → length l ≡ 0 → l ≡ []
        empty [] e = refl
        empty (x ∷ l) e = absurd (omega (arith, e))

module _ (leaves : List Leaf) (tile : tiles_from 0 (names_of leaves) ≡ true) (name : List Bool) (l : Leaf) (found : leaf_under (first_key name) leaves ≡ Some l) where
  at : IsAmong leaves l
  at = (find-among (λ (m : Leaf). is_under m.name (first_key name)) leaves l found).0

  over : is_under l.name (first_key name) ≡ true
  over = (find-among (λ (m : Leaf). is_under m.name (first_key name)) leaves l found).1

  -- a leaf has the name exactly where this one has it
  pub has_name-first : has_name name leaves ≡ same_name l.name name
  has_name-first =
      both_ways (has_name name leaves) (same_name l.name name)
      (λ e.
      let m = any-among (λ (n : Leaf). same_name n.name name) leaves e in
      let named : m.0.name ≡ name = (same_name-decides m.0.name name).0 m.2 in
      let short : length name ≤ 64 = subst IsShort named (short-among leaves m.0 tile m.1) in
      let under : is_under m.0.name (first_key name) ≡ true = ap (λ (n : List Bool). is_under n (first_key name)) named ∙ first_key-under name short in
      let same : m.0 ≡ l = one-leaf leaves m.0 l (first_key name) tile (first_key-fits name short) m.1 at under over in
      ap (λ (n : Leaf). same_name n.name name) (sym same) ∙ m.2)
      (λ e. among-any (λ (n : Leaf). same_name n.name name) leaves l at e)

  -- the leaf of this name is this one, if it has the name
  pub leaf_named-first : same_name l.name name ≡ true → leaf_named name leaves ≡ Some l
  leaf_named-first e =
      let m = some_found (λ (n : Leaf). same_name n.name name) leaves (among-any (λ (n : Leaf). same_name n.name name) leaves l at e) in
      let it = find-among (λ (n : Leaf). same_name n.name name) leaves m.0 m.1 in
      let named : m.0.name ≡ name = (same_name-decides m.0.name name).0 it.1 in
      let short : length name ≤ 64 = subst IsShort named (short-among leaves m.0 tile it.0) in
      let under : is_under m.0.name (first_key name) ≡ true = ap (λ (n : List Bool). is_under n (first_key name)) named ∙ first_key-under name short in
      m.1 ∙ ap Some (one-leaf leaves m.0 l (first_key name) tile (first_key-fits name short) it.0 at under over)

  -- some leaf's name goes on from the name exactly where this one's does
  pub is_inner-first : is_inner name leaves ≡ goes_on name l.name
  is_inner-first =
      both_ways (is_inner name leaves) (goes_on name l.name)
      (λ e. let m = any-among (λ (n : Leaf). goes_on name n.name) leaves e in inner m.0 m.1 m.2)
      (λ e. among-any (λ (n : Leaf). goes_on name n.name) leaves l at e)
    where
      -- a leaf whose name goes on from a name that this leaf's name is a front of
      behind : (m : Leaf) → IsAmong leaves m → goes_on name m.name ≡ true → IsFront l.name name → goes_on name l.name ≡ true
      behind m at_m e f =
          let begins : starts_with beq m.name name ≡ true = first_so (starts_with beq m.name name) (not (same_name m.name name)) e in
          let over_m : IsFront l.name m.name = front-trans l.name name m.name f (front-from_test name m.name begins) in
          let m_short : length m.name ≤ 64 = short-among leaves m tile at_m in
          let key_m : is_under m.name (first_key m.name) ≡ true = first_key-under m.name m_short in
          let same : m ≡ l = one-leaf leaves m l (first_key m.name) tile (first_key-fits m.name m_short) at_m at key_m (under-front l.name m.name (first_key m.name) over_m key_m) in
          ap (λ (n : Leaf). goes_on name n.name) (sym same) ∙ e

      short_front : (m : Leaf) → IsAmong leaves m → goes_on name m.name ≡ true → length name ≤ 64
      short_front m at_m e =
          let f : IsFront name m.name = front-from_test name m.name (first_so (starts_with beq m.name name) (not (same_name m.name name)) e) in
          omega (arith, front-length name m.name f, short-among leaves m tile at_m)

      inner : (m : Leaf) → IsAmong leaves m → goes_on name m.name ≡ true → goes_on name l.name ≡ true
      inner m at_m e = by_tests (short_front m at_m e) (leb (length name) (length l.name)) (same_name l.name name) refl refl
        where
          by_tests : length name ≤ 64 → (a b : Bool) → leb (length name) (length l.name) ≡ a → same_name l.name name ≡ b → goes_on name l.name ≡ true
          by_tests short a true le same = behind m at_m e ([], (sym ((same_name-decides l.name name).0 same)) ∙ sym (append-nil l.name))
          by_tests short true false le same =
              both_true (front-test name l.name (under-fronts name l.name (first_key name) (first_key-under name short) over (leb-true (length name) (length l.name) le))) (ap not same)
          by_tests short false false le same =
              behind m at_m e (under-fronts l.name name (first_key name) over (first_key-under name short) (omega (arith, leb-false (length name) (length l.name) le)))
