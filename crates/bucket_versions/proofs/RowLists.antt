-- A list of rows in which a row is turned, and how many rows there are then.
use Rattle.std.proofs.Common.{◌≡◌, ◌∙◌, ℕ, suc, ◌+◌, ◌*◌, ◌^◌, ◌<◌, ◌≤◌, Bool, true, false, ◌||◌, List, [], ◌∷◌, length, leb, ltb, refl, sym, ap, arith, cond, subst}
use Rattle.std.specs.Arc.{arc_value}
use Rattle.std.proofs.lemmas.Bool.Decides.{nat_tests}
use Rattle.std.proofs.lemmas.List.Edits.{length-remove}
use Rattle.std.proofs.lemmas.Nat.{mul-le}
use Rattle.bucket_versions.specs.declared.row.Row.{Row}
use Rattle.bucket_versions.specs.declared.row_list.Under.{Under}
use Rattle.bucket_versions.specs.declared.row_list.Under.TheVariants.{Nothing, Shared}
use Rattle.bucket_versions.specs.Rows.{is_below, IsRows, has_row, with_row, row_place}
use Rattle.bucket_versions.specs.Delta.{difference, turn}
use Rattle.bucket_versions.specs.RowList.{rows_under, is_short, MayHave, IsCounted, IsListed}
use Rattle.bucket_versions.proofs.RowPlaces.{there}
use Rattle.bucket_versions.proofs.RowSets.{turn-absent, turn-present, IsRows-turn, length-difference}

-- how many rows there are once one is turned
pub length-with_row : (r : Row) (rows : List Row) → length (with_row r rows) ≡ suc (length rows)
length-with_row r [] = refl
length-with_row r (s ∷ rows) = by_test (is_below r s) (length-with_row r rows)
  where
    by_test : (b : Bool) → length (with_row r rows) ≡ suc (length rows) → length (cond b (r ∷ s ∷ rows) (s ∷ with_row r rows)) ≡ suc (suc (length rows))
    by_test true rest = refl
    by_test false rest = ap suc rest

pub length-turn_absent : (r : Row) (rows : List Row) → has_row r rows ≡ false → length (turn r rows) ≡ length rows + 1
length-turn_absent r rows none =
    let longer = length-with_row r rows in
    ap length (turn-absent r rows none) ∙ omega (arith, longer)

pub length-turn_present : (r : Row) (rows : List Row) → IsRows rows → has_row r rows ≡ true → length (turn r rows) + 1 ≡ length rows
length-turn_present r rows rising has =
    let at = there r rows rising has in
    ap (λ (l : List Row). length l + 1) (turn-present r rows has ∙ sym at.1) ∙ length-remove rows (row_place r rows) at.0.0

pub length-turn : (r : Row) (rows : List Row) → IsRows rows → length (turn r rows) ≤ length rows + 1
length-turn r rows rising = by_test (has_row r rows) refl
  where
    by_test : (b : Bool) → has_row r rows ≡ b → length (turn r rows) ≤ length rows + 1
    by_test true e = let less = length-turn_present r rows rising e in omega (arith, less)
    by_test false e = let more = length-turn_absent r rows e in omega (arith, more)

-- a list that is short enough with more rows is with fewer
short-fewer : (below m n : ℕ) → m ≤ n → is_short below n ≡ true → is_short below m ≡ true
short-fewer below m n le short =
    let squares : m * m ≤ n * n = mul-le m m n n le le in
    by_test (leb n 32) refl short squares
  where
    by_test : (b : Bool) → leb n 32 ≡ b → (b || leb (n * n) (16 * below)) ≡ true → m * m ≤ n * n → is_short below m ≡ true
    by_test true e short squares = grind (arith, nat_tests)
    by_test false e short squares = grind (arith, nat_tests)

pub MayHave-fewer : (u : Under) (m n : ℕ) → m ≤ n → MayHave u n → MayHave u m
MayHave-fewer Nothing m n le may = tt
MayHave-fewer (Shared base count) m n le may = short-fewer (length (arc_value base).items) m n le may

-- how many rows fit
short-small : (below n : ℕ) → is_short below n ≡ true → below < 2 ^ 62 → n < 2 ^ 62
short-small below n short few = by_tests (leb n 32) (ltb n (2 ^ 62)) refl refl short
  where
    by_tests : (b t : Bool) → leb n 32 ≡ b → ltb n (2 ^ 62) ≡ t → (b || leb (n * n) (16 * below)) ≡ true → n < 2 ^ 62
    by_tests true t e f short = grind (arith, nat_tests)
    by_tests false true e f short = grind (arith, nat_tests)
    by_tests false false e f short =
        let large : 2 ^ 62 ≤ n = grind (arith, nat_tests) in
        let squares : 2 ^ 62 * 2 ^ 62 ≤ n * n = mul-le (2 ^ 62) (2 ^ 62) n n large large in
        let less : n * n ≤ 16 * below = grind (arith, nat_tests) in
        absurd (omega (arith, squares, less, few))

pub under-small : (u : Under) (n : ℕ) → MayHave u n → length (rows_under u) < 2 ^ 62 → n < 2 ^ 63 → length (rows_under u) + n < 2 ^ 63
under-small Nothing n may few small = omega (arith, small)
under-small (Shared base count) n may few small =
    let short = short-small (length (arc_value base).items) n may few in
    omega (arith, short, few)

pub listed-small : (u : Under) (list : List Row) → IsListed u list → length list < 2 ^ 63 → length (difference (rows_under u) list) < 2 ^ 63
listed-small u list is small =
    let most = length-difference (rows_under u) list in
    let both = under-small u (length list) is.short is.few small in
    omega (arith, most, both)

-- a row is turned in the rows, and counted
pub IsListed-turn : (u now : Under) (list turned : List Row) (r : Row) → IsListed u list → MayHave u (length list + 1) → rows_under now ≡ rows_under u
    → turned ≡ turn r list → IsCounted now turned → MayHave now (length turned) → IsListed now turned
IsListed-turn u now list turned r is may under same counted short =
    record {
      under = subst IsRows (sym under) is.under;
      list = subst IsRows (sym same) (IsRows-turn r list is.list);
      few = subst (λ (l : List Row). length l < 2 ^ 62) (sym under) is.few;
      short = short;
      counted = counted;
    }
