-- A filter of rows that a search splits into those that pass, and those that don't.
use Rattle.std.proofs.Common.{◌≡◌, ℕ, zero, suc, ◌<◌, ◌≤◌, eqb, ltb, Bool, true, false, ◌&&◌, List, [], ◌∷◌, length, get_or, take, drop, refl, ◌∙◌, ap, arith, cond}
use Rattle.std.specs.List.{filter, AllWithin}
use Rattle.std.specs.List.Sorted.{IsNonDecreasingBy}
use Rattle.std.proofs.lemmas.Bool.{eqb-true, eqb-false}
use Rattle.std.proofs.lemmas.Bool.Decides.{nat_tests}
use Rattle.bucket_versions.specs.declared.row.Row.{Row}
use Rattle.bucket_versions.specs.Rows.{IsRows}
use Rattle.bucket_versions.proofs.RowOrder.{IsRows-at, is_below-key}

-- none passes
pub filter-none : (p : Row → Bool) (rows : List Row) → ((k : ℕ) (d : Row) → k < length rows → p (get_or rows k d) ≡ false) → filter p rows ≡ []
filter-none p [] none = refl
filter-none p (r ∷ rows) none =
    (λ i. cond (none 0 r (omega arith) i) (r ∷ filter p rows) (filter p rows))
    ∙ filter-none p rows (λ k d lt. none (suc k) d (omega arith))

-- the first pass, as many as said, and no others
pub filter-take : (p : Row → Bool) (rows : List Row) (i : ℕ) → AllWithin (λ r. p r ≡ true) rows 0 i → AllWithin (λ r. p r ≡ false) rows i (length rows) → i ≤ length rows → filter p rows ≡ take i rows
filter-take p [] zero front back le = refl
filter-take p [] (suc i) front back le = absurd (omega arith)
filter-take p (r ∷ rows) zero front back le = filter-none p (r ∷ rows) (λ k d lt. back k d (omega arith) lt)
filter-take p (r ∷ rows) (suc i) front back le =
    (λ j. cond (front 0 r (omega arith) (omega arith) j) (r ∷ filter p rows) (filter p rows))
    ∙ ap (λ (rest : List Row). r ∷ rest) (filter-take p rows i (λ k d from to. front (suc k) d (omega arith) (omega arith)) (λ k d from to. back (suc k) d (omega arith) (omega arith)) (omega arith))

pub filter-all : (p : Row → Bool) (rows : List Row) → ((k : ℕ) (d : Row) → k < length rows → p (get_or rows k d) ≡ true) → filter p rows ≡ rows
filter-all p [] all = refl
filter-all p (r ∷ rows) all =
    (λ i. cond (all 0 r (omega arith) i) (r ∷ filter p rows) (filter p rows))
    ∙ ap (λ (rest : List Row). r ∷ rest) (filter-all p rows (λ k d lt. all (suc k) d (omega arith)))

-- the first don't pass, and all others do
pub filter-drop : (p : Row → Bool) (rows : List Row) (i : ℕ) → AllWithin (λ r. p r ≡ false) rows 0 i → AllWithin (λ r. p r ≡ true) rows i (length rows) → i ≤ length rows → filter p rows ≡ drop i rows
filter-drop p [] zero front back le = refl
filter-drop p [] (suc i) front back le = absurd (omega arith)
filter-drop p (r ∷ rows) zero front back le = filter-all p (r ∷ rows) (λ k d lt. back k d (omega arith) lt)
filter-drop p (r ∷ rows) (suc i) front back le =
    (λ j. cond (front 0 r (omega arith) (omega arith) j) (r ∷ filter p rows) (filter p rows))
    ∙ filter-drop p rows i (λ k d from to. front (suc k) d (omega arith) (omega arith)) (λ k d from to. back (suc k) d (omega arith) (omega arith)) (omega arith)

-- one filter behind another
pub filter-both : (p q : Row → Bool) (rows : List Row) → filter p (filter q rows) ≡ filter (λ r. p r && q r) rows
filter-both p q [] = refl
filter-both p q (r ∷ rows) = by_tests (p r) (q r) refl (filter-both p q rows)
  where
    by_tests : (a b : Bool) → p r ≡ a → filter p (filter q rows) ≡ filter (λ r. p r && q r) rows
        → filter p (cond b (r ∷ filter q rows) (filter q rows)) ≡ cond (a && b) (r ∷ filter (λ r. p r && q r) rows) (filter (λ r. p r && q r) rows)
    by_tests true true is rest = (λ j. cond (is j) (r ∷ filter p (filter q rows)) (filter p (filter q rows))) ∙ ap (λ (l : List Row). r ∷ l) rest
    by_tests false true is rest = (λ j. cond (is j) (r ∷ filter p (filter q rows)) (filter p (filter q rows))) ∙ rest
    by_tests true false is rest = rest
    by_tests false false is rest = rest

-- the keys of rows in order don't fall
pub keys_rise : (rows : List Row) → IsRows rows → IsNonDecreasingBy (λ r. r.key) rows
keys_rise rows rising i j d le lt = by_place (eqb i j) refl
  where
    by_place : (b : Bool) → eqb i j ≡ b → (get_or rows i d).key ≤ (get_or rows j d).key
    by_place true e = let same : i ≡ j = eqb-true i j e in let key : (get_or rows i d).key ≡ (get_or rows j d).key = ap (λ k. (get_or rows k d).key) same in omega (arith, key)
    by_place false e = let other : i ≡ j → ⊥ = eqb-false i j e in is_below-key (get_or rows i d) (get_or rows j d) (IsRows-at rows i j d rising (omega (arith, other)) lt)

-- where the first key is above one, all are
is_above : (key a b : ℕ) → key < a → a ≤ b → ltb key b ≡ true
is_above key a b lt le = grind (arith, nat_tests)

pub filter-above : (key : ℕ) (rows : List Row) → IsRows rows → ((d : Row) → key < (get_or rows 0 d).key) → filter (λ r. ltb key r.key) rows ≡ rows
filter-above key rows rising first =
    filter-all (λ (r : Row). ltb key r.key) rows (λ k d lt. is_above key (get_or rows 0 d).key (get_or rows k d).key (first d) (keys_rise rows rising 0 k d (omega arith) lt))
