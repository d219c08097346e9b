-- Rows of a leaf that are outside a box, and rows beyond the last key of a box.
use Rattle.std.proofs.Common.{◌≡◌, ℕ, ◌+◌, ◌<◌, Bool, true, false, not, cond, List, [], ◌∷◌, length, refl, sym, ap, ◌∙◌, arith}
use Rattle.std.specs.Prelude.{◌&&◌, nat_le, bit_and}
use Rattle.std.specs.List.{filter}
use Rattle.std.proofs.lemmas.Bool.Decides.{nat_tests}
use mathlib.Core.Bool.{true≢false}
use Rattle.zorder.specs.declared.points.Region.{Region}
use Rattle.zorder.specs.Key.{point_of, is_under}
use Rattle.zorder.specs.Region.{has_point}
use Rattle.zorder.proofs.Places.{key_of-point_of, IsPoint-point_of}
use Rattle.bucket_versions.specs.declared.row.Row.{Row}
use Rattle.bucket_versions.specs.Rows.{IsAbove, IsRows}
use Rattle.bucket_versions.proofs.RowOrder.{is_below-key}
use Rattle.table_share.specs.KeysUnder.{AreKeysUnder}
use Rattle.range_query.specs.Cut.{IsAreaOf, number_in}
use Rattle.range_query.specs.Masks.{masked_in, number_masked}
use Rattle.range_query.specs.Rest.{IsRestOf}
use Rattle.range_query.proofs.BoxCounts.{number_in-cons}
use Rattle.range_query.proofs.Reaches.{area-points}

one_of : (a b : Bool) → a ≡ not b → cond a 1 0 + cond b 1 0 ≡ 1
one_of true true e = absurd (true≢false e)
one_of true false e = refl
one_of false true e = refl
one_of false false e = absurd (true≢false (sym e))

-- each row of a leaf is in the box or in the rest
pub number_in-rest : (area region rest : Region) (name : List Bool) → IsAreaOf name area → IsRestOf area region rest → (rows : List Row) → AreKeysUnder name rows
    → number_in rest rows + number_in region rows ≡ length rows
number_in-rest area region rest name of is [] under = refl
number_in-rest area region rest name of is (r ∷ rows) under =
    let there : has_point area (point_of r.key) ≡ true = area-points name area of (point_of r.key) (IsPoint-point_of r.key) ∙ ap (is_under name) (key_of-point_of r.key under.0.0) ∙ under.0.1 in
    omega (
      arith,
      number_in-cons rest r rows,
      number_in-cons region r rows,
      one_of (has_point rest (point_of r.key)) (has_point region (point_of r.key)) (is.outside (point_of r.key) there),
      number_in-rest area region rest name of is rows under.1,
    )

-- a filter keeps the rows under the name
under_kept : (b : Bool) (name : List Bool) (r : Row) (rows : List Row) → AreKeysUnder name (r ∷ rows) → AreKeysUnder name rows → AreKeysUnder name (cond b (r ∷ rows) rows)
under_kept true name r rows both under = both
under_kept false name r rows both under = under

pub under-filter : (p : Row → Bool) (name : List Bool) (rows : List Row) → AreKeysUnder name rows → AreKeysUnder name (filter p rows)
under-filter p name [] under = tt
under-filter p name (r ∷ rows) under =
    let rest = under-filter p name rows under.1 in under_kept (p r) name r (filter p rows) (under.0, rest) rest

-- behind a key above the last one no row is counted
none_of : (mask from to : ℕ) (r : Row) (rows : List Row) → to < r.key → number_masked mask from to rows ≡ 0 → number_masked mask from to (r ∷ rows) ≡ 0
none_of mask from to r rows lt rest =
    let beyond : nat_le r.key to ≡ false = grind (arith, nat_tests) in
    let out : masked_in mask from to r.key ≡ false = ap (λ b. b && (nat_le (bit_and from mask) (bit_and r.key mask) && nat_le (bit_and r.key mask) (bit_and to mask))) beyond in
    ap (λ b. length (cond b (r ∷ filter (λ (s : Row). masked_in mask from to s.key) rows) (filter (λ (s : Row). masked_in mask from to s.key) rows))) out ∙ rest

none_above : (mask from to : ℕ) (r : Row) (rows : List Row) → to < r.key → IsAbove r rows → number_masked mask from to rows ≡ 0
none_above mask from to r [] lt above = refl
none_above mask from to r (s ∷ rows) lt above =
    none_of mask from to s rows (omega (arith, lt, is_below-key r s above.0)) (none_above mask from to r rows lt above.1)

pub none-later : (mask from to : ℕ) (r : Row) (rows : List Row) → to < r.key → IsRows (r ∷ rows) → number_masked mask from to (r ∷ rows) ≡ 0
none-later mask from to r rows lt rising = none_of mask from to r rows lt (none_above mask from to r rows lt rising.0)
