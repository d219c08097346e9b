-- The order of rows, and lists of them that rise.
use Rattle.std.proofs.Common.{◌≡◌, ℕ, zero, suc, ◌<◌, ◌≤◌, Bool, true, false, not, ◌&&◌, ◌||◌, ◌==◌, List, [], ◌∷◌, length, get_or, refl, ◌∙◌, ap, arith, cond}
use Rattle.std.specs.Prelude.{nat_le}
use Rattle.std.specs.List.{filter}
use Rattle.std.proofs.lemmas.Bool.{eqb-true}
use Rattle.std.proofs.lemmas.Bool.Decides.{nat_tests}
use Rattle.std.specs.Cmp.{first_so, second_so}
use Rattle.bucket_versions.specs.declared.row.Row.{Row}
use Rattle.bucket_versions.specs.Rows.{is_below, same_row, IsAbove, IsRows, has_row, with_row, without_row, rows_between}

-- the test of two rows tells whether they are one
pub same_row-eq : (a b : Row) → same_row a b ≡ true → a ≡ b
same_row-eq a b e =
    let key : a.key ≡ b.key = eqb-true a.key b.key (first_so (a.key == b.key) (a.id == b.id) e) in
    let id : a.id ≡ b.id = eqb-true a.id b.id (second_so (a.key == b.key) (a.id == b.id) e) in
    λ i. record { key = key i; id = id i }

pub same_row-refl : (a : Row) → same_row a a ≡ true
same_row-refl a = grind (arith, nat_tests)

pub is_below-trans : (a b c : Row) → is_below a b ≡ true → is_below b c ≡ true → is_below a c ≡ true
is_below-trans a b c ab bc = grind (arith, nat_tests)

-- two rows of which one is below the other
pub is_below-not_back : (a b : Row) → is_below a b ≡ true → is_below b a ≡ false
is_below-not_back a b ab = grind (arith, nat_tests)

pub is_below-not_same : (a b : Row) → is_below a b ≡ true → same_row a b ≡ false
is_below-not_same a b ab = grind (arith, nat_tests)

pub is_below-not_same_back : (a b : Row) → is_below a b ≡ true → same_row b a ≡ false
is_below-not_same_back a b ab = grind (arith, nat_tests)

-- of two rows that aren't one, one is below the other
pub is_below-either : (a b : Row) → same_row a b ≡ false → is_below b a ≡ not (is_below a b)
is_below-either a b other = grind (arith, nat_tests)

pub is_below-key : (a b : Row) → is_below a b ≡ true → a.key ≤ b.key
is_below-key a b ab = grind (arith, nat_tests)

-- what is above a row is above those below it
pub IsAbove-lower : (a b : Row) (rows : List Row) → is_below a b ≡ true → IsAbove b rows → IsAbove a rows
IsAbove-lower a b [] ab above = tt
IsAbove-lower a b (s ∷ rows) ab above = (is_below-trans a b s ab above.0, IsAbove-lower a b rows ab above.1)

pub IsAbove-at : (r : Row) (rows : List Row) (j : ℕ) (d : Row) → IsAbove r rows → j < length rows → is_below r (get_or rows j d) ≡ true
IsAbove-at r [] j d above lt = absurd (omega arith)
IsAbove-at r (s ∷ rows) zero d above lt = above.0
IsAbove-at r (s ∷ rows) (suc j) d above lt = IsAbove-at r rows j d above.1 (omega arith)

-- of two places the row at the first is below that at the second
pub IsRows-at : (rows : List Row) (i j : ℕ) (d : Row) → IsRows rows → i < j → j < length rows → is_below (get_or rows i d) (get_or rows j d) ≡ true
IsRows-at [] i j d rising lt within = absurd (omega arith)
IsRows-at (r ∷ rows) i zero d rising lt within = absurd (omega arith)
IsRows-at (r ∷ rows) zero (suc j) d rising lt within = IsAbove-at r rows j d rising.0 (omega arith)
IsRows-at (r ∷ rows) (suc i) (suc j) d rising lt within = IsRows-at rows i j d rising.1 (omega arith) (omega arith)

-- a filter keeps the order
above_kept : (b : Bool) (r s : Row) (rest : List Row) → is_below r s ≡ true → IsAbove r rest → IsAbove r (cond b (s ∷ rest) rest)
above_kept true r s rest below above = (below, above)
above_kept false r s rest below above = above

pub IsAbove-filter : (p : Row → Bool) (r : Row) (rows : List Row) → IsAbove r rows → IsAbove r (filter p rows)
IsAbove-filter p r [] above = tt
IsAbove-filter p r (s ∷ rows) above = above_kept (p s) r s (filter p rows) above.0 (IsAbove-filter p r rows above.1)

rows_kept : (b : Bool) (s : Row) (rest : List Row) → IsAbove s rest → IsRows rest → IsRows (cond b (s ∷ rest) rest)
rows_kept true s rest above rising = (above, rising)
rows_kept false s rest above rising = rising

pub IsRows-filter : (p : Row → Bool) (rows : List Row) → IsRows rows → IsRows (filter p rows)
IsRows-filter p [] rising = tt
IsRows-filter p (s ∷ rows) rising = rows_kept (p s) s (filter p rows) (IsAbove-filter p s rows rising.0) (IsRows-filter p rows rising.1)

pub IsRows-without_row : (r : Row) (rows : List Row) → IsRows rows → IsRows (without_row r rows)
IsRows-without_row r rows rising = IsRows-filter (λ s. not (same_row s r)) rows rising

pub IsRows-rows_between : (lo hi : ℕ) (rows : List Row) → IsRows rows → IsRows (rows_between lo hi rows)
IsRows-rows_between lo hi rows rising = IsRows-filter (λ r. nat_le lo r.key && nat_le r.key hi) rows rising

-- so does a put of a row that isn't there
above_put : (b : Bool) (a r s : Row) (rows more : List Row) → is_below a r ≡ true → IsAbove a (s ∷ rows) → IsAbove a more → IsAbove a (cond b (r ∷ s ∷ rows) (s ∷ more))
above_put true a r s rows more below above later = (below, above)
above_put false a r s rows more below above later = (above.0, later)

pub IsAbove-with_row : (a r : Row) (rows : List Row) → is_below a r ≡ true → IsAbove a rows → IsAbove a (with_row r rows)
IsAbove-with_row a r [] below above = (below, tt)
IsAbove-with_row a r (s ∷ rows) below above = above_put (is_below r s) a r s rows (with_row r rows) below above (IsAbove-with_row a r rows below above.1)

-- a row that isn't among these is neither the first nor among the rest
pub not_first : (r s : Row) (rows : List Row) → has_row r (s ∷ rows) ≡ false → (same_row s r ≡ false) × (has_row r rows ≡ false)
not_first r s rows none = by_test (same_row s r) (has_row r rows) none
  where
    by_test : (a b : Bool) → (a || b) ≡ false → (a ≡ false) × (b ≡ false)
    by_test true b e = absurd (cc e)
    by_test false b e = (refl, e)

rows_put : (b : Bool) (r s : Row) (rows more : List Row) → (b ≡ true → is_below r s ≡ true) → (b ≡ false → is_below s r ≡ true) → IsRows (s ∷ rows) → (is_below s r ≡ true → IsAbove s more) → IsRows more
    → IsRows (cond b (r ∷ s ∷ rows) (s ∷ more))
rows_put true r s rows more below above rising later rest = ((below refl, IsAbove-lower r s rows (below refl) rising.0), rising)
rows_put false r s rows more below above rising later rest = (later (above refl), rest)

pub IsRows-with_row : (r : Row) (rows : List Row) → has_row r rows ≡ false → IsRows rows → IsRows (with_row r rows)
IsRows-with_row r [] none rising = (tt, tt)
IsRows-with_row r (s ∷ rows) none rising =
    let other = not_first r s rows none in
    rows_put (is_below r s) r s rows (with_row r rows) (λ e. e)
    (λ e. is_below-either r s (differs other.0) ∙ ap not e)
    rising (λ below. IsAbove-with_row s r rows below rising.0) (IsRows-with_row r rows other.1 rising.1)
  where
    differs : same_row s r ≡ false → same_row r s ≡ false
    differs e = grind (arith, nat_tests)
