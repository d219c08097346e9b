-- The order of names, and names that part at a bit.
use Rattle.std.proofs.Common.{◌≡◌, ◌⊎◌, inl, inr, Bool, true, false, List, [], ◌∷◌, ◌++◌, cond, refl, sym, ◌∙◌, ap, subst}
use Rattle.std.specs.List.{AllByRecursion, fold}
use mathlib.Core.Bool.{true≢false}
use Rattle.std.proofs.lemmas.Bool.{false_from_ne_true}
use Rattle.zorder.specs.SameName.{same_name, same_name-decides}
use Rattle.log_compact.specs.Fresh.{comes_before, with_name}

-- Whether names part at a bit that is 0 in the first of them.
abbrev pub is_left : List Bool → List Bool → Bool
is_left [] other = false
is_left (a ∷ name) [] = false
is_left (false ∷ name) (true ∷ other) = true
is_left (true ∷ name) (false ∷ other) = false
is_left (false ∷ name) (false ∷ other) = is_left name other
is_left (true ∷ name) (true ∷ other) = is_left name other

pub left-before : (a b : List Bool) → is_left a b ≡ true → comes_before a b ≡ true
left-before [] b e = absurd (true≢false (sym e))
left-before (a ∷ name) [] e = absurd (true≢false (sym e))
left-before (false ∷ name) (true ∷ other) e = refl
left-before (true ∷ name) (false ∷ other) e = absurd (true≢false (sym e))
left-before (false ∷ name) (false ∷ other) e = left-before name other e
left-before (true ∷ name) (true ∷ other) e = left-before name other e

-- Longer names part at the same bit.
pub left-more : (a b x y : List Bool) → is_left a b ≡ true → is_left (a ++ x) (b ++ y) ≡ true
left-more [] b x y e = absurd (true≢false (sym e))
left-more (a ∷ name) [] x y e = absurd (true≢false (sym e))
left-more (false ∷ name) (true ∷ other) x y e = refl
left-more (true ∷ name) (false ∷ other) x y e = absurd (true≢false (sym e))
left-more (false ∷ name) (false ∷ other) x y e = left-more name other x y e
left-more (true ∷ name) (true ∷ other) x y e = left-more name other x y e

-- Names with the same first bits.
pub left-under : (name a b : List Bool) → is_left a b ≡ true → is_left (name ++ a) (name ++ b) ≡ true
left-under [] a b e = e
left-under (true ∷ name) a b e = left-under name a b e
left-under (false ∷ name) a b e = left-under name a b e

-- A name that comes before another comes before its extensions.
pub before-more : (a b y : List Bool) → comes_before a b ≡ true → comes_before a (b ++ y) ≡ true
before-more [] [] y e = absurd (true≢false (sym e))
before-more [] (b ∷ other) y e = refl
before-more (a ∷ name) [] y e = absurd (true≢false (sym e))
before-more (false ∷ name) (true ∷ other) y e = refl
before-more (true ∷ name) (false ∷ other) y e = absurd (true≢false (sym e))
before-more (false ∷ name) (false ∷ other) y e = before-more name other y e
before-more (true ∷ name) (true ∷ other) y e = before-more name other y e

-- A name comes before its extensions.
pub before-under : (name : List Bool) (b : Bool) (y : List Bool) → comes_before name (name ++ b ∷ y) ≡ true
before-under [] b y = refl
before-under (true ∷ name) b y = before-under name b y
before-under (false ∷ name) b y = before-under name b y

before-other : (a b : List Bool) → comes_before a b ≡ true → comes_before b a ≡ false
before-other [] [] e = absurd (true≢false (sym e))
before-other [] (b ∷ other) e = refl
before-other (a ∷ name) [] e = absurd (true≢false (sym e))
before-other (false ∷ name) (true ∷ other) e = refl
before-other (true ∷ name) (false ∷ other) e = absurd (true≢false (sym e))
before-other (false ∷ name) (false ∷ other) e = before-other name other e
before-other (true ∷ name) (true ∷ other) e = before-other name other e

-- No name comes before itself.
before-same : (a b : List Bool) → comes_before a b ≡ true → a ≡ b → ⊥
before-same a b e same = true≢false (sym e ∙ ap (λ n. comes_before a n) (sym same) ∙ ap (λ n. comes_before n a) same ∙ before-other a b e)

pub before-differ : (a b : List Bool) → comes_before a b ≡ true → same_name a b ≡ false
before-differ a b e = false_from_ne_true (same_name a b) (λ s. before-same a b e ((same_name-decides a b).0 s))

pub differ-before : (a b : List Bool) → comes_before a b ≡ true → same_name b a ≡ false
differ-before a b e = false_from_ne_true (same_name b a) (λ s. before-same a b e (sym ((same_name-decides b a).0 s)))

-- What holds of the names of both lists holds of the names of both together.
pub all-append : (P : List Bool → Type 0) (xs ys : List (List Bool)) → AllByRecursion P xs → AllByRecursion P ys → AllByRecursion P (xs ++ ys)
all-append P [] ys first second = second
all-append P (x ∷ xs) ys first second = (first.0, all-append P xs ys first.1 second)

pub all-weaken : (P Q : List Bool → Type 0) → ((x : List Bool) → P x → Q x) → (xs : List (List Bool)) → AllByRecursion P xs → AllByRecursion Q xs
all-weaken P Q f [] all = tt
all-weaken P Q f (x ∷ xs) all = (f x all.0, all-weaken P Q f xs all.1)

-- Each of these names comes before one.
abbrev pub AreBefore : List Bool → List (List Bool) → Type 0
AreBefore name names = AllByRecursion (λ (n : List Bool). comes_before n name ≡ true) names

-- A name after all others is inserted at the end.
pub with_name-last : (name : List Bool) (names : List (List Bool)) → AreBefore name names → with_name name names ≡ names ++ name ∷ []
with_name-last name [] all = refl
with_name-last name (n ∷ names) all =
    (λ i. cond (differ-before n name all.0 i) (n ∷ names) (cond (before-other n name all.0 i) (name ∷ n ∷ names) (n ∷ with_name name names)))
    ∙ ap (λ (l : List (List Bool)). n ∷ l) (with_name-last name names all.1)

-- The names rise.
abbrev pub AreRising : List (List Bool) → Type 0
AreRising [] = Unit {0}
AreRising (n ∷ names) = AllByRecursion (λ (m : List Bool). comes_before n m ≡ true) names × AreRising names

pub rising-push : (name : List Bool) (names : List (List Bool)) → AreRising names → AreBefore name names → AreRising (names ++ name ∷ [])
rising-push name [] rising before = (tt, tt)
rising-push name (n ∷ names) rising before = (all-append (λ m. comes_before n m ≡ true) names (name ∷ []) rising.0 (before.0, tt), rising-push name names rising.1 before.1)

-- Whether a name is one of these.
abbrev pub IsAmong : List (List Bool) → List Bool → Type 0
IsAmong [] name = ⊥
IsAmong (n ∷ names) name = (n ≡ name) ⊎ IsAmong names name

pub among-push : (names : List (List Bool)) (last name : List Bool) → IsAmong names name → IsAmong (names ++ last ∷ []) name
among-push [] last name among = absurd among
among-push (n ∷ names) last name (inl same) = inl same
among-push (n ∷ names) last name (inr later) = inr (among-push names last name later)

pub among-last : (names : List (List Bool)) (name : List Bool) → IsAmong (names ++ name ∷ []) name
among-last [] name = inl refl
among-last (n ∷ names) name = inr (among-last names name)

all-among : (P : List Bool → Type 0) (names : List (List Bool)) (name : List Bool) → AllByRecursion P names → IsAmong names name → P name
all-among P [] name all among = absurd among
all-among P (n ∷ names) name all (inl same) = subst P same all.0
all-among P (n ∷ names) name all (inr later) = all-among P names name all.1 later

-- A name that is among the others isn't inserted again.
pub with_name-among : (name : List Bool) (names : List (List Bool)) → AreRising names → IsAmong names name → with_name name names ≡ names
with_name-among name [] rising among = absurd among
with_name-among name (n ∷ names) rising (inl same) =
    ap (λ b. cond b (n ∷ names) (cond (comes_before name n) (name ∷ n ∷ names) (n ∷ with_name name names))) ((same_name-decides name n).1 (sym same))
with_name-among name (n ∷ names) rising (inr later) =
    let before : comes_before n name ≡ true = all-among (λ m. comes_before n m ≡ true) names name rising.0 later in
    (λ i. cond (differ-before n name before i) (n ∷ names) (cond (before-other n name before i) (name ∷ n ∷ names) (n ∷ with_name name names)))
    ∙ ap (λ (l : List (List Bool)). n ∷ l) (with_name-among name names rising.1 later)

-- Names that are inserted among others, one after the other.
abbrev pub with_names : List (List Bool) → List (List Bool) → List (List Bool)
with_names names more = fold (λ (ns : List (List Bool)) name. with_name name ns) names more

pub with_names-among : (names more : List (List Bool)) → AreRising names → AllByRecursion (IsAmong names) more → with_names names more ≡ names
with_names-among names [] rising all = refl
with_names-among names (name ∷ more) rising all =
    ap (λ (ns : List (List Bool)). with_names ns more) (with_name-among name names rising all.0) ∙ with_names-among names more rising all.1
