-- A key lies under just one of the names that tile the key space.
use Rattle.std.proofs.Common.{◌≡◌, ℕ, ◌<◌, ◌≤◌, ◌^◌, Bool, true, false, cond, List, [], ◌∷◌, length, Some, refl, sym, ap, ◌∙◌, arith, ltb-true}
use Rattle.std.specs.Prelude.{nat_lt, nat_le, ◌==◌, ◌&&◌}
use Rattle.std.specs.List.{find, AllByRecursion}
use Rattle.std.specs.Cmp.{first_so, second_so}
use Rattle.std.proofs.lemmas.Bool.{eqb-true as eqb-eq}
use Rattle.std.proofs.lemmas.Bool.Decides.{nat_tests}
use mathlib.Core.Bool.{true≢false}
use Rattle.zorder.specs.Name.{first_key}
use Rattle.zorder.specs.Key.{is_under}
use Rattle.zorder.specs.SameName.{same_name, same_name-decides}
use Rattle.zorder.specs.Tile.{tiles_from, next_key}
use Rattle.zorder.proofs.Ranges.{is_under-test}

-- the parts of a tiling's test
pub record Tiles (k : ℕ) (name : List Bool) (names : List (List Bool)) : Type 0 where
  pub short : length name ≤ 64
  pub from : first_key name ≡ k
  pub rest : tiles_from (next_key name) names ≡ true

le-true : (m n : ℕ) → nat_le m n ≡ true → m ≤ n
le-true m n e = grind (arith, nat_tests)

pub tiles : (k : ℕ) (name : List Bool) (names : List (List Bool)) → tiles_from k (name ∷ names) ≡ true → Tiles k name names
tiles k name names e =
    let front = first_so (nat_le (length name) 64 && (first_key name == k)) (tiles_from (next_key name) names) e in
    record {
      short = le-true (length name) 64 (first_so (nat_le (length name) 64) (first_key name == k) front);
      from = eqb-eq (first_key name) k (second_so (nat_le (length name) 64) (first_key name == k) front);
      rest = second_so (nat_le (length name) 64 && (first_key name == k)) (tiles_from (next_key name) names) e;
    }

le-false : (m n : ℕ) → n < m → nat_le m n ≡ false
le-false m n lt = grind (arith, nat_tests)

-- a key before a name's first one isn't under it
pub not_under-below : (name : List Bool) (key : ℕ) → length name ≤ 64 → key < 2 ^ 64 → key < first_key name → is_under name key ≡ false
not_under-below name key short small lt = is_under-test name key short small ∙ ap (λ b. b && nat_lt key (next_key name)) (le-false (first_key name) key lt)

-- names that tile from a place on have no key before it
pub none_under : (k key : ℕ) (names : List (List Bool)) → tiles_from k names ≡ true → key < 2 ^ 64 → key < k → AllByRecursion (λ (n : List Bool). is_under n key ≡ false) names
none_under k key [] tile small lt = tt
none_under k key (name ∷ names) tile small lt =
    let t = tiles k name names tile in
    (not_under-below name key t.short small (omega (arith, t.from, lt)), none_under (next_key name) key names t.rest small (omega (arith, t.from, lt)))

-- names that aren't over a key differ from one that is
differ : (key : ℕ) (leaf n : List Bool) → is_under leaf key ≡ true → is_under n key ≡ false → same_name n leaf ≡ false
differ key leaf n under other = by_test (same_name n leaf) refl
  where
    by_test : (b : Bool) → same_name n leaf ≡ b → same_name n leaf ≡ false
    by_test false e = e
    by_test true e = absurd (true≢false (sym under ∙ ap (λ m. is_under m key) (sym ((same_name-decides n leaf).0 e)) ∙ other))

all_differ : (key : ℕ) (leaf : List Bool) (names : List (List Bool)) → is_under leaf key ≡ true → AllByRecursion (λ (n : List Bool). is_under n key ≡ false) names
    → AllByRecursion (λ (n : List Bool). is_under n key ≡ same_name n leaf) names
all_differ key leaf [] under none = tt
all_differ key leaf (n ∷ names) under none = (none.0 ∙ sym (differ key leaf n under none.0), all_differ key leaf names under none.1)

pub below_next : (name : List Bool) (key : ℕ) → length name ≤ 64 → key < 2 ^ 64 → is_under name key ≡ true → key < next_key name
below_next name key short small under =
    ltb-true key (next_key name) (second_so (nat_le (first_key name) key) (nat_lt key (next_key name)) (sym (is_under-test name key short small) ∙ under))

-- the one name under which a key lies
pub only_under : (k key : ℕ) (names : List (List Bool)) (leaf : List Bool) → tiles_from k names ≡ true → key < 2 ^ 64 → find (λ n. is_under n key) names ≡ Some leaf
    → (is_under leaf key ≡ true) × AllByRecursion (λ (n : List Bool). is_under n key ≡ same_name n leaf) names
only_under k key [] leaf tile small found = cc
only_under k key (name ∷ names) leaf tile small found = by_test (is_under name key) refl found (only_under (next_key name) key names leaf)
  where
    by_test : (b : Bool) → is_under name key ≡ b → cond b (Some name) (find (λ n. is_under n key) names) ≡ Some leaf
        → (tiles_from (next_key name) names ≡ true → key < 2 ^ 64 → find (λ n. is_under n key) names ≡ Some leaf → (is_under leaf key ≡ true) × AllByRecursion (λ (n : List Bool). is_under n key ≡ same_name n leaf) names)
        → (is_under leaf key ≡ true) × AllByRecursion (λ (n : List Bool). is_under n key ≡ same_name n leaf) (name ∷ names)
    by_test true under here rest =
        let t = tiles k name names tile in
        let is : name ≡ leaf = cc in
        let leaf_under : is_under leaf key ≡ true = ap (λ n. is_under n key) (sym is) ∙ under in
        (leaf_under, (under ∙ sym ((same_name-decides name leaf).1 is), all_differ key leaf names leaf_under (none_under (next_key name) key names t.rest small (below_next name key t.short small under))))
    by_test false other later rest =
        let t = tiles k name names tile in
        let more = rest t.rest small later in
        (more.0, (other ∙ sym (differ key leaf name more.0 other), more.1))
