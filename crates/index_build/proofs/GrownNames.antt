-- Which of the wanted names comes next where a leaf stands behind those that are done, and what a split does to grown names.
use Rattle.std.proofs.Common.{◌≡◌, ◌⊎◌, inl, inr, ℕ, zero, suc, ◌+◌, ◌%◌, ◌^◌, ◌<◌, ◌≤◌, Bool, true, false, List, [], ◌∷◌, ◌++◌, length, take, drop, get_or, refl, sym, ap, subst, ◌∙◌, arith, append-nil, length-append, leb}
use Rattle.std.specs.Prelude.{nat_le, ◌==◌, ◌&&◌}
use Rattle.std.specs.List.{AllByRecursion}
use Rattle.std.specs.Cmp.{first_so, second_so}
use Rattle.std.proofs.lemmas.Bool.{leb-true, leb-false, eqb-true}
use Rattle.std.proofs.lemmas.List.{take-append-drop}
use Rattle.std.proofs.Math.Nat.{add-mod_right}
use Rattle.zorder.specs.Width.{IsWidth}
use mathlib.Core.Bool.{true≢false}
use Rattle.zorder.specs.Key.{is_under}
use Rattle.zorder.specs.Name.{first_key}
use Rattle.zorder.specs.SameName.{same_name, same_name-decides}
use Rattle.zorder.specs.Tile.{tiles_from, next_key}
use Rattle.zorder.proofs.Ranges.{under-range}
use Rattle.index_layer.proofs.LeafKeys.{first_key-fits, first_key-under}
use Rattle.index_layer.proofs.LeafNames.{IsFront, under-fronts, under-front, fronts_of_one}
use Rattle.index_build.specs.Grown.{IsGrown}

-- what the first of some names says where they tile the keys from k on
pub name_short : (k : ℕ) (n : List Bool) (ns : List (List Bool)) → tiles_from k (n ∷ ns) ≡ true → length n ≤ 64
name_short k n ns tile = leb-true (length n) 64 (first_so (nat_le (length n) 64) (first_key n == k) (first_so (nat_le (length n) 64 && (first_key n == k)) (tiles_from (next_key n) ns) tile))

name_first : (k : ℕ) (n : List Bool) (ns : List (List Bool)) → tiles_from k (n ∷ ns) ≡ true → first_key n ≡ k
name_first k n ns tile = eqb-true (first_key n) k (second_so (nat_le (length n) 64) (first_key n == k) (first_so (nat_le (length n) 64 && (first_key n == k)) (tiles_from (next_key n) ns) tile))

pub name_rest : (k : ℕ) (n : List Bool) (ns : List (List Bool)) → tiles_from k (n ∷ ns) ≡ true → tiles_from (next_key n) ns ≡ true
name_rest k n ns tile = second_so (nat_le (length n) 64 && (first_key n == k)) (tiles_from (next_key n) ns) tile

-- behind names that both begin with, both tile the keys from one key on
behind : (k : ℕ) (front a b : List (List Bool)) → tiles_from k (front ++ a) ≡ true → tiles_from k (front ++ b) ≡ true → (j : ℕ) × (tiles_from j a ≡ true) × (tiles_from j b ≡ true)
behind k [] a b ta tb = (k, ta, tb)
behind k (n ∷ front) a b ta tb = behind (next_key n) front a b (name_rest k n (front ++ a) ta) (name_rest k n (front ++ b) tb)

-- what is behind the first names, with the first of it
drop-first : (W : List (List Bool)) (i : ℕ) (n : List Bool) (rest : List (List Bool)) → drop i W ≡ n ∷ rest → (i < length W) × ((d : List Bool) → get_or W i d ≡ n) × (take (suc i) W ≡ take i W ++ n ∷ [])
drop-first [] zero n rest e = absurd (cc e)
drop-first [] (suc i) n rest e = absurd (cc e)
drop-first (m ∷ W) zero n rest e = let same : m ≡ n = cc e in (omega arith, λ d. same, ap (λ x. x ∷ []) same)
drop-first (m ∷ W) (suc i) n rest e =
    let later = drop-first W i n rest e in
    (omega (arith, later.0), later.1, ap (λ (l : List (List Bool)). m ∷ l) later.2)

all-get_or : (P : List Bool → Type 0) (W : List (List Bool)) (i : ℕ) (d : List Bool) → AllByRecursion P W → i < length W → P (get_or W i d)
all-get_or P [] i d all lt = absurd (omega (arith, lt))
all-get_or P (m ∷ W) zero d all lt = all.0
all-get_or P (m ∷ W) (suc i) d all lt = all-get_or P W i d all.1 (omega (arith, lt))

-- the wanted name behind those that are done: its keys begin where those of the leaf there do
pub record IsNext (wanted : List (List Bool)) (done : ℕ) (name : List Bool) : Type 0 where
  pub next : List Bool
  pub within : done < length wanted
  pub at : (d : List Bool) → get_or wanted done d ≡ next
  pub more : take (suc done) wanted ≡ take done wanted ++ next ∷ []
  pub first : first_key next ≡ first_key name
  pub short : length next ≤ 64
  pub name_short : length name ≤ 64

pub next_of : (wanted : List (List Bool)) (done : ℕ) (name : List Bool) (later : List (List Bool)) → tiles_from 0 wanted ≡ true → tiles_from 0 (take done wanted ++ name ∷ later) ≡ true → IsNext wanted done name
next_of wanted done name later tile reached =
    let whole : tiles_from 0 (take done wanted ++ drop done wanted) ≡ true = ap (tiles_from 0) (take-append-drop done wanted) ∙ tile in
    let both = behind 0 (take done wanted) (name ∷ later) (drop done wanted) reached whole in
    by_rest (drop done wanted) refl both.0 both.1 both.2
  where
    by_rest : (rest : List (List Bool)) → drop done wanted ≡ rest → (k : ℕ) → tiles_from k (name ∷ later) ≡ true → tiles_from k rest ≡ true → IsNext wanted done name
    by_rest [] e k here none =
        let end : k ≡ 2 ^ 64 = eqb-true k (2 ^ 64) none in
        absurd (omega (arith, end, name_first k name later here, first_key-fits name (name_short k name later here)))
    by_rest (n ∷ rest) e k here there =
        let parts = drop-first wanted done n rest e in
        record {
          next = n;
          within = parts.0;
          at = parts.1;
          more = parts.2;
          first = name_first k n rest there ∙ sym (name_first k name later here);
          short = name_short k n rest there;
          name_short = name_short k name later here;
        }

-- a name that begins where one that goes on from this name does, behind this name's first key, is longer than this name
pub longer-behind : (name bits next : List Bool) → length (name ++ bits) ≤ 64 → length next ≤ 64 → first_key next ≡ first_key (name ++ bits) → first_key name < first_key (name ++ bits) → length name < length next
longer-behind name bits next short next_short first above = by_test (leb (length next) (length name)) refl
  where
    by_test : (b : Bool) → leb (length next) (length name) ≡ b → length name < length next
    by_test false e = omega (arith, leb-false (length next) (length name) e)
    by_test true e =
        let le : length next ≤ length name = leb-true (length next) (length name) e in
        let name_le : length name ≤ 64 = omega (arith, length-append name bits, short) in
        let over : is_under next (first_key (name ++ bits)) ≡ true = ap (is_under next) (sym first) ∙ first_key-under next next_short in
        let child : is_under (name ++ bits) (first_key (name ++ bits)) ≡ true = first_key-under (name ++ bits) short in
        let f : IsFront next (name ++ bits) = under-fronts next (name ++ bits) (first_key (name ++ bits)) over child (omega (arith, le, length-append name bits)) in
        let g : IsFront next name = fronts_of_one next name f.0 bits (sym f.1) le in
        let under : is_under next (first_key name) ≡ true = under-front next name (first_key name) g (first_key-under name name_le) in
        let range = under-range next (first_key name) next_short (first_key-fits name name_le) under in
        absurd (omega (arith, range.0, first, above))

-- a name that begins where this one does, and is another and no shorter, is longer
pub longer-there : (name next : List Bool) → length name ≤ length next → length next ≤ 64 → first_key next ≡ first_key name → same_name next name ≡ false → length name < length next
longer-there name next le short first other = by_test (leb (length next) (length name)) refl
  where
    empty : (l : List Bool) → length l ≡ 0 → l ≡ []
    empty [] e = refl
    empty (x ∷ l) e = absurd (omega (arith, e))

    by_test : (b : Bool) → leb (length next) (length name) ≡ b → length name < length next
    by_test false e = omega (arith, leb-false (length next) (length name) e)
    by_test true e =
        let back : length next ≤ length name = leb-true (length next) (length name) e in
        let over : is_under next (first_key name) ≡ true = ap (is_under next) (sym first) ∙ first_key-under next short in
        let own : is_under name (first_key name) ≡ true = first_key-under name (omega (arith, le, short)) in
        let f : IsFront name next = under-fronts name next (first_key name) own over le in
        let same : next ≡ name = f.1 ∙ ap (λ l. name ++ l) (empty f.0 (omega (arith, ap length f.1, length-append name f.0, back))) ∙ append-nil name in
        absurd (true≢false (sym ((same_name-decides next name).1 same) ∙ other))

-- of two names with the bits of some number of splits the longer one is longer by a split
pub by_a_split : (w a b : ℕ) → IsWidth w → a % w ≡ 0 → b % w ≡ 0 → a < b → a + w ≤ b
by_a_split w a b (inl e) ha hb lt = omega (arith, e, lt)
by_a_split w a b (inr e) ha hb lt =
    let ea : a % 2 ≡ 0 = ap (λ v. a % v) (sym e) ∙ ha in
    let eb : b % 2 ≡ 0 = ap (λ v. b % v) (sym e) ∙ hb in
    omega (arith, e, ea, eb, lt)

pub one_split_more : (w a : ℕ) → a % w ≡ 0 → (a + w) % w ≡ 0
one_split_more w a h = add-mod_right a w ∙ h

-- the next wanted name, where it is longer than this one, is longer by a split
pub next-longer : (w : ℕ) (wanted : List (List Bool)) (done : ℕ) (name there : List Bool) → IsWidth w → IsGrown w wanted → length name % w ≡ 0 → (n : IsNext wanted done there)
    → length name < length n.next → length name + w ≤ length n.next
next-longer w wanted done name there width grown splits n lt =
    by_a_split w (length name) (length n.next) width splits
    (subst (λ (m : List Bool). length m % w ≡ 0) (n.at []) (all-get_or (λ (m : List Bool). length m % w ≡ 0) wanted done [] grown.splits n.within)) lt

-- names that tile the key space are all done where nothing stands behind those that are
pub all_done : (wanted : List (List Bool)) (done : ℕ) → tiles_from 0 wanted ≡ true → tiles_from 0 (take done wanted ++ []) ≡ true → take done wanted ++ [] ≡ wanted
all_done wanted done tile reached =
    let whole : tiles_from 0 (take done wanted ++ drop done wanted) ≡ true = ap (tiles_from 0) (take-append-drop done wanted) ∙ tile in
    let both = behind 0 (take done wanted) [] (drop done wanted) reached whole in
    ap (λ (l : List (List Bool)). take done wanted ++ l) (sym (none both.0 (drop done wanted) both.1 both.2)) ∙ take-append-drop done wanted
  where
    none : (k : ℕ) (rest : List (List Bool)) → tiles_from k [] ≡ true → tiles_from k rest ≡ true → rest ≡ []
    none k [] end there = refl
    none k (n ∷ rest) end there =
        let at_end : k ≡ 2 ^ 64 = eqb-true k (2 ^ 64) end in
        absurd (omega (arith, at_end, name_first k n rest there, first_key-fits n (name_short k n rest there)))
