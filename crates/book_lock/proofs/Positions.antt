-- Rising positions.
use Rattle.std.proofs.Common.{◌≡◌, ◌≢◌, ◌⊎◌, ℕ, ◌+◌, ◌<◌, ◌≤◌, List, [], ◌∷◌, ◌++◌, Bool, true, false, refl, ap, ⊎_elim, inl, inr, arith, eq-eqb, ne_eqb}
use Rattle.std.proofs.lemmas.Bool.{ltb-true}
use Rattle.std.proofs.lemmas.Bool.Decides.{nat_tests}
use mathlib.Core.Logic.{dite}
use native.Mathlib.Decide.{ℕ_discrete}
use Rattle.std.specs.Prelude.{if◌then◌else◌, ◌==◌, nat_lt}
use Rattle.book_lock.specs.Own.{times, once_below, Owns, Rises, IsBelow, insert, merge}

abbrev pub one_if : ℕ → ℕ → ℕ
one_if x p = if x == p then 1 else 0

pub one_same : (x p : ℕ) → x ≡ p → one_if x p ≡ 1
one_same x p e = ap (λ (b : Bool). if b then 1 else 0) (eq-eqb x p e)

pub one_other : (x p : ℕ) → x ≢ p → one_if x p ≡ 0
one_other x p n = ap (λ (b : Bool). if b then 1 else 0) (ne_eqb x p n)

pub times-append : (p : ℕ) (xs ys : List ℕ) → times p (xs ++ ys) ≡ times p xs + times p ys
times-append p [] ys = omega arith
times-append p (x ∷ xs) ys = let h = times-append p xs ys in omega arith

pub once_below-suc : (p n : ℕ) → once_below p (n + 1) ≡ once_below p n + one_if n p
once_below-suc p n = grind (arith, nat_tests)

pub once_below-one : (p n : ℕ) → once_below p n ≤ 1
once_below-one p n = grind (arith, nat_tests)

pub once_below-in : (p n : ℕ) → p < n → once_below p n ≡ 1
once_below-in p n h = grind (arith, nat_tests)

pub times-insert : (p x : ℕ) (ys : List ℕ) → times p (insert x ys) ≡ one_if x p + times p ys
times-insert p x [] = refl
times-insert p x (y ∷ ys) = go (times-insert p x ys) (nat_lt x y)
  where
    go : times p (insert x ys) ≡ one_if x p + times p ys → (b : Bool) → times p (if b then x ∷ y ∷ ys else y ∷ insert x ys) ≡ one_if x p + (one_if y p + times p ys)
    go h true = refl
    go h false = omega arith

pub times-merge : (p : ℕ) (xs ys : List ℕ) → times p (merge xs ys) ≡ times p xs + times p ys
times-merge p [] ys = omega arith
times-merge p (x ∷ xs) ys = let h = times-merge p xs ys in let e = times-insert p x (merge xs ys) in omega arith

-- An owned position of `x ∷ xs` is `x`, or is in `xs`.
pub owns_cons : (x p : ℕ) (xs : List ℕ) → Owns (x ∷ xs) p → (x ≡ p) ⊎ Owns xs p
owns_cons x p xs h = dite (ℕ_discrete x p) (λ e. inl e) (λ n. let o = one_other x p n in inr (omega arith))

pub owns_head : (x : ℕ) (xs : List ℕ) → Owns (x ∷ xs) x
owns_head x xs = let o = one_same x x refl in omega arith

pub owns_more : (x p : ℕ) (xs : List ℕ) → Owns xs p → Owns (x ∷ xs) p
owns_more x p xs h = omega arith

pub Rises-snoc : (xs : List ℕ) (n : ℕ) → Rises xs → IsBelow n xs → Rises (xs ++ n ∷ [])
Rises-snoc [] n r b = ((λ p h. absurd (omega arith)), tt)
Rises-snoc (x ∷ xs) n r b = (
  (λ p h.
      let e = times-append p xs (n ∷ []) in
      let top = b x (owns_head x xs) in
      dite (ℕ_discrete n p) (λ (s : n ≡ p). omega arith) (λ (o : n ≢ p). let z = one_other n p o in let in_xs : Owns xs p = omega arith in r.0 p in_xs)),
  Rises-snoc xs n r.1 (λ p h. b p (owns_more x p xs h)),
)

pub IsBelow-snoc : (xs : List ℕ) (n : ℕ) → IsBelow n xs → IsBelow (n + 1) (xs ++ n ∷ [])
IsBelow-snoc xs n b p h =
    let e = times-append p xs (n ∷ []) in
    dite (ℕ_discrete n p) (λ (s : n ≡ p). omega arith) (λ (o : n ≢ p). let z = one_other n p o in let in_xs : Owns xs p = omega arith in let below = b p in_xs in omega arith)

pub Rises-insert : (x : ℕ) (ys : List ℕ) → Rises ys → times x ys ≡ 0 → Rises (insert x ys)
Rises-insert x [] r none = ((λ p h. absurd (omega arith)), tt)
Rises-insert x (y ∷ ys) r none = go (Rises-insert x ys r.1) (nat_lt x y) refl
  where
    go : (times x ys ≡ 0 → Rises (insert x ys)) → (b : Bool) → nat_lt x y ≡ b → Rises (if b then x ∷ y ∷ ys else y ∷ insert x ys)
    go more true e =
        let lt : x < y = ltb-true x y e in (
          (λ p h. ⊎_elim (λ (s : y ≡ p). omega arith) (λ (o : Owns ys p). let up = r.0 p o in omega arith) (owns_cons y p ys h)),
          r,
        )
    go more false e =
        let le : y ≤ x = grind (arith, nat_tests) in
        let apart : y ≢ x = (λ s. let o = one_same y x s in absurd (omega arith)) in (
          (λ p h.
              let i = times-insert p x ys in
              dite (ℕ_discrete x p) (λ (s : x ≡ p). omega arith) (λ (o : x ≢ p). let z = one_other x p o in let in_ys : Owns ys p = omega arith in r.0 p in_ys)),
          more (omega arith),
        )

pub Rises-merge : (xs ys : List ℕ) → Rises xs → Rises ys → ((p : ℕ) → times p xs + times p ys ≤ 1) → Rises (merge xs ys)
Rises-merge [] ys r s apart = s
Rises-merge (x ∷ xs) ys r s apart =
    let m = times-merge x xs ys in
    let a = apart x in
    let o = one_same x x refl in
    Rises-insert x (merge xs ys) (Rises-merge xs ys r.1 s (λ p. let b = apart p in omega arith)) (omega arith)
