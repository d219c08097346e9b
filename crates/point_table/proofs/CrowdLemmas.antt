-- How the leaves that are to be split change with the leaves.
use Rattle.std.proofs.Common.{◌≡◌, ℕ, suc, ◌-◌, ◌<◌, ◌≤◌, ◌^◌, Bool, true, false, cond, List, [], ◌∷◌, ◌++◌, length, refl, sym, ap, subst, ◌∙◌, arith}
use Rattle.std.specs.Prelude.{◌||◌}
use Rattle.std.proofs.lemmas.Nat.{pow_pos}
use Rattle.std.proofs.lemmas.Bool.Decides.{nat_tests}
use Rattle.std.proofs.lemmas.Grind.{common_steps}
use mathlib.Core.Bool.{true≢false}
use Rattle.zorder.specs.Name.{first_key}
use Rattle.zorder.specs.SameName.{same_name, same_name-decides}
use Rattle.zorder.specs.Tile.{tiles_from, next_key, children}
use Rattle.bucket_versions.specs.Rows.{Rows}
use Rattle.index_layer.specs.Leaves.{Leaf, names_of, has_name, replaced, split, leaves_of}
use Rattle.point_table.specs.Crowded.{AreFrom, marked, unmarked, remarked}
use Rattle.point_table.specs.Crowds.{is_crowded, crowded_of, marked_later}
use Rattle.point_table.proofs.Covered.{Tiles, tiles}
use Rattle.point_table.proofs.Rising.{AreFrom-lower}

power-pos : (n : ℕ) → 1 ≤ 2 ^ n
power-pos n = omega (arith, pow_pos n)

pub next-above : (name : List Bool) → first_key name < next_key name
next-above name = omega (arith, power-pos (64 - length name))

pub tiles-AreFrom : (k : ℕ) (names : List (List Bool)) → tiles_from k names ≡ true → AreFrom k names
tiles-AreFrom k [] tile = tt
tiles-AreFrom k (name ∷ names) tile =
    let t = tiles k name names tile in
    (omega (arith, t.from), AreFrom-lower k (next_key name) names (omega (arith, t.from, next-above name)) (tiles-AreFrom (next_key name) names t.rest))

-- a name among those from a key on has its first key there
pub has_name-from : (k : ℕ) (name : List Bool) (leaves : List Leaf) → AreFrom k (names_of leaves) → has_name name leaves ≡ true → k ≤ first_key name
has_name-from k name [] from has = absurd (true≢false (sym has))
has_name-from k name (l ∷ leaves) from has = by_test (same_name l.name name) refl has (has_name-from k name leaves from.1)
  where
    by_test : (b : Bool) → same_name l.name name ≡ b → (b || has_name name leaves) ≡ true → (has_name name leaves ≡ true → k ≤ first_key name) → k ≤ first_key name
    by_test true e has rest = subst (λ (n : List Bool). k ≤ first_key n) ((same_name-decides l.name name).0 e) from.0
    by_test false e has rest = rest has

-- a name whose first key is before all others isn't among them
pub not_named : (name : List Bool) (leaves : List Leaf) (k : ℕ) → first_key name < k → AreFrom k (names_of leaves) → has_name name leaves ≡ false
not_named name leaves k lt from = by_test (has_name name leaves) refl
  where
    by_test : (b : Bool) → has_name name leaves ≡ b → has_name name leaves ≡ false
    by_test true e = let le = has_name-from k name leaves from e in absurd (omega (arith, lt, le))
    by_test false e = e

pub replaced-absent : (name : List Bool) (bucket : Rows) (leaves : List Leaf) → has_name name leaves ≡ false → replaced name bucket leaves ≡ leaves
replaced-absent name bucket [] none = refl
replaced-absent name bucket (l ∷ leaves) none =
    let rest : has_name name leaves ≡ false → replaced name bucket leaves ≡ leaves = replaced-absent name bucket leaves in
    grind (arith, nat_tests, common_steps)

crowded-from : (w size k : ℕ) (leaves : List Leaf) → AreFrom k (names_of leaves) → AreFrom k (crowded_of w size leaves)
crowded-from w size k [] from = tt
crowded-from w size k (l ∷ leaves) from = if_from (is_crowded w size l) (crowded-from w size k leaves from.1)
  where
    if_from : (b : Bool) → AreFrom k (crowded_of w size leaves) → AreFrom k (cond b (l.name ∷ crowded_of w size leaves) (crowded_of w size leaves))
    if_from true rest = (from.0, rest)
    if_from false rest = rest

-- a name before all others is marked in front, and its mark found there
pub marked-first : (name : List Bool) (names : List (List Bool)) (k : ℕ) → first_key name < k → AreFrom k names → marked name names ≡ name ∷ names
marked-first name [] k lt from = refl
marked-first name (n ∷ names) k lt from =
    let before : first_key name < first_key n = omega (arith, lt, from.0) in
    grind (arith, nat_tests, common_steps)

pub unmarked-absent : (name : List Bool) (names : List (List Bool)) (k : ℕ) → first_key name < k → AreFrom k names → unmarked name names ≡ names
unmarked-absent name [] k lt from = refl
unmarked-absent name (n ∷ names) k lt from =
    let before : first_key name < first_key n = omega (arith, lt, from.0) in
    let rest : unmarked name names ≡ names = unmarked-absent name names k lt from.1 in
    grind (arith, nat_tests, common_steps)

marked-again : (name : List Bool) (names : List (List Bool)) → marked name (name ∷ names) ≡ name ∷ names
marked-again name names = grind (arith, nat_tests, common_steps)

unmarked-here : (name : List Bool) (names : List (List Bool)) → unmarked name (name ∷ names) ≡ names
unmarked-here name names = grind (arith, nat_tests, common_steps)

pub marked-past : (name n : List Bool) (names : List (List Bool)) → first_key n < first_key name → marked name (n ∷ names) ≡ n ∷ marked name names
marked-past name n names lt = grind (arith, nat_tests, common_steps)

pub unmarked-past : (name n : List Bool) (names : List (List Bool)) → first_key n < first_key name → unmarked name (n ∷ names) ≡ n ∷ unmarked name names
unmarked-past name n names lt = grind (arith, nat_tests, common_steps)

rising-is : (w size k : ℕ) (name : List Bool) (bucket : Rows) (l : Leaf) (leaves : List Leaf) → l.name ≡ name → AreFrom k (names_of leaves) → first_key name < k
    → crowded_of w size (replaced name bucket (l ∷ leaves)) ≡ cond (is_crowded w size (record { name = name; bucket = bucket })) (name ∷ crowded_of w size leaves) (crowded_of w size leaves)
rising-is w size k name bucket l leaves is from lt =
    ap (λ b. crowded_of w size (cond b (record { name = l.name; bucket = bucket }) l ∷ replaced name bucket leaves)) ((same_name-decides l.name name).1 is)
    ∙ ap (λ (rest : List Leaf). crowded_of w size (record { name = l.name; bucket = bucket } ∷ rest)) (replaced-absent name bucket leaves (not_named name leaves k lt from))
    ∙ ap (λ (n : List Bool). cond (is_crowded w size (record { name = n; bucket = bucket })) (n ∷ crowded_of w size leaves) (crowded_of w size leaves)) is

mark_if : (b : Bool) (name : List Bool) (names : List (List Bool)) (k : ℕ) → first_key name < k → AreFrom k names → marked name (cond b (name ∷ names) names) ≡ name ∷ names
mark_if true name names k lt from = marked-again name names
mark_if false name names k lt from = marked-first name names k lt from

unmark_if : (b : Bool) (name : List Bool) (names : List (List Bool)) (k : ℕ) → first_key name < k → AreFrom k names → unmarked name (cond b (name ∷ names) names) ≡ names
unmark_if true name names k lt from = unmarked-here name names
unmark_if false name names k lt from = unmarked-absent name names k lt from

remark_if : (b c : Bool) (name : List Bool) (names : List (List Bool)) (k : ℕ) → first_key name < k → AreFrom k names → cond b (name ∷ names) names ≡ remarked b name (cond c (name ∷ names) names)
remark_if true c name names k lt from = sym (mark_if c name names k lt from)
remark_if false c name names k lt from = sym (unmark_if c name names k lt from)

remark_past : (b c : Bool) (name n : List Bool) (names : List (List Bool)) → first_key n < first_key name → cond c (n ∷ remarked b name names) (remarked b name names) ≡ remarked b name (cond c (n ∷ names) names)
remark_past true true name n names lt = sym (marked-past name n names lt)
remark_past false true name n names lt = sym (unmarked-past name n names lt)
remark_past true false name n names lt = refl
remark_past false false name n names lt = refl

pub crowded_of-replaced : (w size k : ℕ) (name : List Bool) (bucket : Rows) (leaves : List Leaf) → tiles_from k (names_of leaves) ≡ true → has_name name leaves ≡ true
    → crowded_of w size (replaced name bucket leaves) ≡ remarked (is_crowded w size (record { name = name; bucket = bucket })) name (crowded_of w size leaves)
crowded_of-replaced w size k name bucket [] tile has = absurd (true≢false (sym has))
crowded_of-replaced w size k name bucket (l ∷ leaves) tile has = by_test (same_name l.name name) refl has (crowded_of-replaced w size (next_key l.name) name bucket leaves)
  where
    t : Tiles k l.name (names_of leaves)
    t = tiles k l.name (names_of leaves) tile

    by_test : (b : Bool) → same_name l.name name ≡ b → (b || has_name name leaves) ≡ true
        → (tiles_from (next_key l.name) (names_of leaves) ≡ true → has_name name leaves ≡ true → crowded_of w size (replaced name bucket leaves) ≡ remarked (is_crowded w size (record { name = name; bucket = bucket })) name (crowded_of w size leaves))
        → crowded_of w size (replaced name bucket (l ∷ leaves)) ≡ remarked (is_crowded w size (record { name = name; bucket = bucket })) name (crowded_of w size (l ∷ leaves))
    by_test true e has rest =
        let is : l.name ≡ name = (same_name-decides l.name name).0 e in
        let lt : first_key name < next_key l.name = subst (λ (n : List Bool). first_key n < next_key l.name) is (next-above l.name) in
        let from = tiles-AreFrom (next_key l.name) (names_of leaves) t.rest in
        rising-is w size (next_key l.name) name bucket l leaves is from lt
        ∙ remark_if (is_crowded w size (record { name = name; bucket = bucket })) (is_crowded w size l) name (crowded_of w size leaves) (next_key l.name) lt (crowded-from w size (next_key l.name) leaves from)
        ∙ ap (λ (n : List Bool). remarked (is_crowded w size (record { name = name; bucket = bucket })) name (cond (is_crowded w size l) (n ∷ crowded_of w size leaves) (crowded_of w size leaves))) (sym is)
    by_test false e has rest =
        let from = tiles-AreFrom (next_key l.name) (names_of leaves) t.rest in
        let le = has_name-from (next_key l.name) name leaves from has in
        let lt : first_key l.name < first_key name = omega (arith, le, next-above l.name) in
        ap (λ b. crowded_of w size (cond b (record { name = l.name; bucket = bucket }) l ∷ replaced name bucket leaves)) e
        ∙ ap (λ (c : List (List Bool)). cond (is_crowded w size l) (l.name ∷ c) c) (rest t.rest has)
        ∙ remark_past (is_crowded w size (record { name = name; bucket = bucket })) (is_crowded w size l) name l.name (crowded_of w size leaves) lt

past_if : (b : Bool) (name n : List Bool) (names : List (List Bool)) → first_key n < first_key name → cond b (marked name (n ∷ names)) (n ∷ names) ≡ n ∷ cond b (marked name names) names
past_if true name n names lt = marked-past name n names lt
past_if false name n names lt = refl

-- what is marked for leaves behind a name stands behind it
marked_later-past : (w size : ℕ) (n : List Bool) (leaves : List Leaf) (names : List (List Bool)) → AreFrom (suc (first_key n)) (names_of leaves) → marked_later w size leaves (n ∷ names) ≡ n ∷ marked_later w size leaves names
marked_later-past w size n [] names from = refl
marked_later-past w size n (l ∷ leaves) names from =
    ap (λ (rest : List (List Bool)). cond (is_crowded w size l) (marked l.name rest) rest) (marked_later-past w size n leaves names from.1)
    ∙ past_if (is_crowded w size l) l.name n (marked_later w size leaves names) (omega (arith, from.0))

first_if : (b : Bool) (name : List Bool) (names : List (List Bool)) (k : ℕ) → first_key name < k → AreFrom k names → cond b (marked name names) names ≡ cond b (name ∷ names) names
first_if true name names k lt from = marked-first name names k lt from
first_if false name names k lt from = refl

-- what is marked for leaves before all others stands in front of them
marked_later-first : (w size k : ℕ) (front leaves : List Leaf) → tiles_from k (names_of (front ++ leaves)) ≡ true → marked_later w size front (crowded_of w size leaves) ≡ crowded_of w size (front ++ leaves)
marked_later-first w size k [] leaves tile = refl
marked_later-first w size k (l ∷ front) leaves tile =
    let t = tiles k l.name (names_of (front ++ leaves)) tile in
    ap (λ (rest : List (List Bool)). cond (is_crowded w size l) (marked l.name rest) rest) (marked_later-first w size (next_key l.name) front leaves t.rest)
    ∙ first_if (is_crowded w size l) l.name (crowded_of w size (front ++ leaves)) (next_key l.name) (next-above l.name)
    (crowded-from w size (next_key l.name) (front ++ leaves) (tiles-AreFrom (next_key l.name) (names_of (front ++ leaves)) t.rest))

-- the leaves with others in place of one
abbrev pub spliced : List Bool → List Leaf → List Leaf → List Leaf
spliced name parts [] = []
spliced name parts (l ∷ leaves) = cond (same_name l.name name) (parts ++ leaves) (l ∷ spliced name parts leaves)

-- a name marked in the place of one with its first key, or before all others
here_if : (b c : Bool) (name first : List Bool) (names : List (List Bool)) (k : ℕ) → first_key name ≡ first_key first → first_key first < k → AreFrom k names
    → cond b (first ∷ names) names ≡ remarked b first (cond c (name ∷ names) names)
here_if true true name first names k same lt from = sym (marked-same first name names same)
  where
    marked-same : (first name : List Bool) (names : List (List Bool)) → first_key name ≡ first_key first → marked first (name ∷ names) ≡ first ∷ names
    marked-same first name names same = grind (arith, nat_tests, common_steps)
here_if true false name first names k same lt from = sym (marked-first first names k lt from)
here_if false true name first names k same lt from = sym (unmarked-same first name names same)
  where
    unmarked-same : (first name : List Bool) (names : List (List Bool)) → first_key name ≡ first_key first → unmarked first (name ∷ names) ≡ names
    unmarked-same first name names same = grind (arith, nat_tests, common_steps)
here_if false false name first names k same lt from = sym (unmarked-absent first names k lt from)

later_if : (b : Bool) (w size : ℕ) (n : List Bool) (leaves : List Leaf) (names : List (List Bool)) → AreFrom (suc (first_key n)) (names_of leaves)
    → marked_later w size leaves (cond b (n ∷ names) names) ≡ cond b (n ∷ marked_later w size leaves names) (marked_later w size leaves names)
later_if true w size n leaves names from = marked_later-past w size n leaves names from
later_if false w size n leaves names from = refl

AreFrom-front : (k : ℕ) (front leaves : List Leaf) → AreFrom k (names_of (front ++ leaves)) → AreFrom k (names_of front)
AreFrom-front k [] leaves from = tt
AreFrom-front k (l ∷ front) leaves from = (from.0, AreFrom-front k front leaves from.1)

AreFrom-spliced : (k : ℕ) (name : List Bool) (parts leaves : List Leaf) → has_name name leaves ≡ true → AreFrom k (names_of (spliced name parts leaves)) → AreFrom k (names_of parts)
AreFrom-spliced k name parts [] has from = absurd (true≢false (sym has))
AreFrom-spliced k name parts (l ∷ leaves) has from = by_test (same_name l.name name) has from (AreFrom-spliced k name parts leaves)
  where
    by_test : (b : Bool) → (b || has_name name leaves) ≡ true → AreFrom k (names_of (cond b (parts ++ leaves) (l ∷ spliced name parts leaves)))
        → (has_name name leaves ≡ true → AreFrom k (names_of (spliced name parts leaves)) → AreFrom k (names_of parts)) → AreFrom k (names_of parts)
    by_test true has from rest = AreFrom-front k parts leaves from
    by_test false has from rest = rest has from.1

-- the leaves that are to be split after one was split into a first part and others
pub crowded_of-spliced : (w size k : ℕ) (name : List Bool) (first : Leaf) (others leaves : List Leaf) → tiles_from k (names_of leaves) ≡ true → tiles_from k (names_of (spliced name (first ∷ others) leaves)) ≡ true → has_name name leaves ≡ true
    → crowded_of w size (spliced name (first ∷ others) leaves) ≡ remarked (is_crowded w size first) first.name (marked_later w size others (crowded_of w size leaves))
crowded_of-spliced w size k name first others [] tile tile2 has = absurd (true≢false (sym has))
crowded_of-spliced w size k name first others (l ∷ leaves) tile tile2 has = by_test (same_name l.name name) refl tile2 has (crowded_of-spliced w size (next_key l.name) name first others leaves)
  where
    t : Tiles k l.name (names_of leaves)
    t = tiles k l.name (names_of leaves) tile

    by_test : (b : Bool) → same_name l.name name ≡ b → tiles_from k (names_of (cond b ((first ∷ others) ++ leaves) (l ∷ spliced name (first ∷ others) leaves))) ≡ true → (b || has_name name leaves) ≡ true
        → (tiles_from (next_key l.name) (names_of leaves) ≡ true → tiles_from (next_key l.name) (names_of (spliced name (first ∷ others) leaves)) ≡ true → has_name name leaves ≡ true
        → crowded_of w size (spliced name (first ∷ others) leaves) ≡ remarked (is_crowded w size first) first.name (marked_later w size others (crowded_of w size leaves)))
        → crowded_of w size (cond b ((first ∷ others) ++ leaves) (l ∷ spliced name (first ∷ others) leaves)) ≡ remarked (is_crowded w size first) first.name (marked_later w size others (crowded_of w size (l ∷ leaves)))
    by_test true e tile2 has rest =
        let u = tiles k first.name (names_of (others ++ leaves)) tile2 in
        let from = tiles-AreFrom (next_key first.name) (names_of (others ++ leaves)) u.rest in
        let same : first_key l.name ≡ first_key first.name = t.from ∙ sym u.from in
        let later : AreFrom (suc (first_key l.name)) (names_of others) = AreFrom-lower (suc (first_key l.name)) (next_key first.name) (names_of others) (omega (arith, same, next-above first.name)) (AreFrom-front (next_key first.name) others leaves from) in
        here_if (is_crowded w size first) (is_crowded w size l) l.name first.name (crowded_of w size (others ++ leaves)) (next_key first.name) same (next-above first.name) (crowded-from w size (next_key first.name) (others ++ leaves) from)
        ∙ ap (λ (c : List (List Bool)). remarked (is_crowded w size first) first.name (cond (is_crowded w size l) (l.name ∷ c) c)) (sym (marked_later-first w size (next_key first.name) others leaves u.rest))
        ∙ ap (remarked (is_crowded w size first) first.name) (sym (later_if (is_crowded w size l) w size l.name others (crowded_of w size leaves) later))
    by_test false e tile2 has rest =
        let u = tiles k l.name (names_of (spliced name (first ∷ others) leaves)) tile2 in
        let from = AreFrom-spliced (next_key l.name) name (first ∷ others) leaves has (tiles-AreFrom (next_key l.name) (names_of (spliced name (first ∷ others) leaves)) u.rest) in
        let lt : first_key l.name < first_key first.name = omega (arith, from.0, next-above l.name) in
        let later : AreFrom (suc (first_key l.name)) (names_of others) = AreFrom-lower (suc (first_key l.name)) (next_key l.name) (names_of others) (omega (arith, next-above l.name)) from.1 in
        ap (λ (c : List (List Bool)). cond (is_crowded w size l) (l.name ∷ c) c) (rest t.rest u.rest has)
        ∙ remark_past (is_crowded w size first) (is_crowded w size l) first.name l.name (marked_later w size others (crowded_of w size leaves)) lt
        ∙ ap (remarked (is_crowded w size first) first.name) (sym (later_if (is_crowded w size l) w size l.name others (crowded_of w size leaves) later))

pub split-spliced : (w : ℕ) (name : List Bool) (buckets : List Rows) (leaves : List Leaf) → split w name buckets leaves ≡ spliced name (leaves_of (children w name) buckets) leaves
split-spliced w name buckets [] = refl
split-spliced w name buckets (l ∷ leaves) = ap (λ (rest : List Leaf). cond (same_name l.name name) (leaves_of (children w name) buckets ++ leaves) (l ∷ rest)) (split-spliced w name buckets leaves)
