-- Rows in order are told by what is among them; what is among the rows that a call makes.
use Rattle.std.proofs.Common.{◌≡◌, ℕ, suc, ◌+◌, ◌-◌, ◌≤◌, Bool, true, false, not, ◌&&◌, ◌||◌, List, [], ◌∷◌, length, Result, Ok, Err, OnOk, refl, sym, ◌∙◌, ap, arith, cond}
use Rattle.std.specs.Prelude.{nat_le}
use Rattle.std.specs.List.{filter, insert, remove}
use Rattle.std.proofs.lemmas.Bool.Decides.{nat_tests}
use mathlib.Core.Bool.{true≢false}
use Rattle.bucket_versions.specs.declared.row.Row.{Row}
use Rattle.bucket_versions.specs.Rows.{Rows, is_below, same_row, IsAbove, IsRows, has_row, with_row, without_row, rows_between, row_place}
use Rattle.bucket_versions.specs.Delta.{AreParts, weave, difference, turn, delta_len}
use Rattle.bucket_versions.proofs.RowOrder.{same_row-eq, same_row-refl, is_below-not_back, is_below-either, IsAbove-lower, IsRows-filter, IsRows-with_row, IsRows-without_row}
use Rattle.bucket_versions.proofs.RowPlaces.{none_above, put_at_place, gone_at_place}
use Rattle.bucket_versions.proofs.RowRanges.{has_row-filter}

-- whether exactly one of two holds
abbrev pub differ : Bool → Bool → Bool
differ true b = not b
differ false b = b

pub same_row-sym : (a b : Row) → same_row a b ≡ same_row b a
same_row-sym a b = grind (arith, nat_tests)

-- the first row is among the rows, and it isn't among those above it
has_first : (r : Row) (rows : List Row) → has_row r (r ∷ rows) ≡ true
has_first r rows = λ i. same_row-refl r i || has_row r rows

none_same : (r q : Row) (rows : List Row) → IsAbove r rows → same_row r q ≡ true → has_row q rows ≡ false
none_same r q rows above same = ap (λ x. has_row x rows) (sym (same_row-eq r q same)) ∙ none_above r rows above

above_has : (a q : Row) (rows : List Row) → IsAbove a rows → has_row q rows ≡ true → is_below a q ≡ true
above_has a q [] above has = absurd (cc has)
above_has a q (s ∷ rows) above has = by_test (same_row s q) refl has (above_has a q rows above.1)
  where
    by_test : (b : Bool) → same_row s q ≡ b → (b || has_row q rows) ≡ true → (has_row q rows ≡ true → is_below a q ≡ true) → is_below a q ≡ true
    by_test true e h rest = ap (is_below a) (sym (same_row-eq s q e)) ∙ above.0
    by_test false e h rest = rest h

first_eq : (r s : Row) (a b : List Row) → IsAbove r a → IsAbove s b → has_row r (s ∷ b) ≡ true → has_row s (r ∷ a) ≡ true → r ≡ s
first_eq r s a b above other has_r has_s = by_test (same_row s r) refl has_r has_s
  where
    apart : same_row s r ≡ false → has_row r b ≡ true → (same_row r s || has_row s a) ≡ true → r ≡ s
    apart e in_b in_a =
        let back : is_below s r ≡ true = above_has s r b other in_b in
        let in_rest : has_row s a ≡ true = sym (λ i. (same_row-sym r s ∙ e) i || has_row s a) ∙ in_a in
        absurd (true≢false (sym (above_has r s a above in_rest) ∙ is_below-not_back s r back))

    by_test : (c : Bool) → same_row s r ≡ c → (c || has_row r b) ≡ true → (same_row r s || has_row s a) ≡ true → r ≡ s
    by_test true e hr hs = sym (same_row-eq s r e)
    by_test false e hr hs = apart e hr hs

rest_eq : (r s : Row) (a b : List Row) → IsAbove r a → IsAbove s b → r ≡ s → (q : Row) → has_row q (r ∷ a) ≡ has_row q (s ∷ b) → has_row q a ≡ has_row q b
rest_eq r s a b above other one q both = by_test (same_row r q) refl
  where
    by_test : (c : Bool) → same_row r q ≡ c → has_row q a ≡ has_row q b
    by_test true e = none_same r q a above e ∙ sym (none_same s q b other (ap (λ x. same_row x q) (sym one) ∙ e))
    by_test false e =
        sym (λ i. e i || has_row q a) ∙ both ∙ (λ i. (ap (λ x. same_row x q) (sym one) ∙ e) i || has_row q b)

-- rows in order with the same rows among them are the same
pub rows-eq : (a b : List Row) → IsRows a → IsRows b → ((q : Row) → has_row q a ≡ has_row q b) → a ≡ b
rows-eq [] [] ra rb same = refl
rows-eq [] (s ∷ b) ra rb same = absurd (true≢false (sym (has_first s b) ∙ sym (same s)))
rows-eq (r ∷ a) [] ra rb same = absurd (true≢false (sym (has_first r a) ∙ same r))
rows-eq (r ∷ a) (s ∷ b) ra rb same =
    let one : r ≡ s = first_eq r s a b ra.0 rb.0 (sym (same r) ∙ has_first r a) (same s ∙ has_first s b) in
    let rest : a ≡ b = rows-eq a b ra.1 rb.1 (λ q. rest_eq r s a b ra.0 rb.0 one q (same q)) in
    λ i. one i ∷ rest i

-- among the rows with one more are that one and these
swapped : (x y z : Bool) → (x || (y || z)) ≡ (y || (x || z))
swapped true true z = refl
swapped true false z = refl
swapped false true z = refl
swapped false false z = refl

pub has_row-with_row : (r q : Row) (rows : List Row) → has_row q (with_row r rows) ≡ (same_row r q || has_row q rows)
has_row-with_row r q [] = refl
has_row-with_row r q (s ∷ rows) = by_test (is_below r s) (has_row-with_row r q rows)
  where
    by_test : (b : Bool) → has_row q (with_row r rows) ≡ (same_row r q || has_row q rows)
        → has_row q (cond b (r ∷ s ∷ rows) (s ∷ with_row r rows)) ≡ (same_row r q || (same_row s q || has_row q rows))
    by_test true rest = refl
    by_test false rest = ap (λ b. same_row s q || b) rest ∙ swapped (same_row s q) (same_row r q) (has_row q rows)

pub has_row-without_row : (r q : Row) (rows : List Row) → has_row q (without_row r rows) ≡ (has_row q rows && not (same_row q r))
has_row-without_row r q rows = has_row-filter (λ s. not (same_row s r)) rows q

-- a turned row is among the rows exactly where it wasn't, and others stay
turned_in : (h s x : Bool) → (s ≡ true → x ≡ h) → cond h (x && not s) (s || x) ≡ differ s x
turned_in true true x is = ap (λ b. b && false) (is refl) ∙ sym (ap not (is refl))
turned_in true false true is = refl
turned_in true false false is = refl
turned_in false true x is = sym (ap not (is refl))
turned_in false false x is = refl

pub has_row-turn : (r q : Row) (rows : List Row) → has_row q (turn r rows) ≡ differ (same_row r q) (has_row q rows)
has_row-turn r q rows =
    by_test (has_row r rows)
    ∙ turned_in (has_row r rows) (same_row r q) (has_row q rows) (λ e. ap (λ x. has_row x rows) (sym (same_row-eq r q e)))
  where
    by_test : (b : Bool) → has_row q (cond b (without_row r rows) (with_row r rows)) ≡ cond b (has_row q rows && not (same_row r q)) (same_row r q || has_row q rows)
    by_test true = has_row-without_row r q rows ∙ ap (λ b. has_row q rows && not b) (same_row-sym q r)
    by_test false = has_row-with_row r q rows

pub IsRows-turn : (r : Row) (rows : List Row) → IsRows rows → IsRows (turn r rows)
IsRows-turn r rows rising = by_test (has_row r rows) refl
  where
    by_test : (b : Bool) → has_row r rows ≡ b → IsRows (cond b (without_row r rows) (with_row r rows))
    by_test true e = IsRows-without_row r rows rising
    by_test false e = IsRows-with_row r rows e rising

pub turn-absent : (r : Row) (rows : List Row) → has_row r rows ≡ false → turn r rows ≡ with_row r rows
turn-absent r rows e = λ i. cond (e i) (without_row r rows) (with_row r rows)

pub turn-present : (r : Row) (rows : List Row) → has_row r rows ≡ true → turn r rows ≡ without_row r rows
turn-present r rows e = λ i. cond (e i) (without_row r rows) (with_row r rows)

-- among the difference of two lists is what is in exactly one of them
both_gone : (r d q : Row) (base delta : List Row) → same_row d r ≡ true → IsAbove r base → IsAbove d delta → (b : Bool) → same_row r q ≡ b
    → differ (has_row q base) (has_row q delta) ≡ differ (b || has_row q base) (same_row d q || has_row q delta)
both_gone r d q base delta one above other true e =
    let first : same_row d q ≡ true = ap (λ x. same_row x q) (same_row-eq d r one) ∙ e in
    (λ i. differ (none_same r q base above e i) (none_same d q delta other first i)) ∙ sym (λ i. not (first i || has_row q delta))
both_gone r d q base delta one above other false e =
    let first : same_row d q ≡ false = ap (λ x. same_row x q) (same_row-eq d r one) ∙ e in
    sym (λ i. differ (has_row q base) (first i || has_row q delta))

from_delta : (r d q : Row) (base delta : List Row) → is_below d r ≡ true → IsAbove r base → IsAbove d delta → (b : Bool) → same_row d q ≡ b
    → (b || differ (same_row r q || has_row q base) (has_row q delta)) ≡ differ (same_row r q || has_row q base) (b || has_row q delta)
from_delta r d q base delta below above other true e =
    let none : (same_row r q || has_row q base) ≡ false = none_same d q (r ∷ base) (below, IsAbove-lower d r base below above) e in
    sym (λ i. differ (none i) true)
from_delta r d q base delta below above other false e = refl

from_base : (r q : Row) (base delta : List Row) → IsAbove r base → IsAbove r delta → (b : Bool) → same_row r q ≡ b
    → (b || differ (has_row q base) (has_row q delta)) ≡ differ (b || has_row q base) (has_row q delta)
from_base r q base delta above other true e = sym (ap not (none_same r q delta other e))
from_base r q base delta above other false e = refl

alone : (b : Bool) → b ≡ differ b false
alone true = refl
alone false = refl

or_alone : (s h : Bool) → (s || differ h false) ≡ differ (s || h) false
or_alone true h = refl
or_alone false h = refl

has_row-weave : (r q : Row) (base delta : List Row) → IsAbove r base → IsRows delta
    → ((rows : List Row) → IsRows rows → has_row q (difference base rows) ≡ differ (has_row q base) (has_row q rows))
    → has_row q (weave r (difference base) delta) ≡ differ (same_row r q || has_row q base) (has_row q delta)
has_row-weave r q base [] above rising rest = ap (λ b. same_row r q || b) (rest [] tt) ∙ or_alone (same_row r q) (has_row q base)
has_row-weave r q base (d ∷ delta) above rising rest = by_tests (same_row d r) (is_below d r) refl refl (has_row-weave r q base delta above rising.1 rest)
  where
    by_tests : (s b : Bool) → same_row d r ≡ s → is_below d r ≡ b
        → has_row q (weave r (difference base) delta) ≡ differ (same_row r q || has_row q base) (has_row q delta)
        → has_row q (cond s (difference base delta) (cond b (d ∷ weave r (difference base) delta) (r ∷ difference base (d ∷ delta)))) ≡ differ (same_row r q || has_row q base) (same_row d q || has_row q delta)
    by_tests true b one lower more = rest delta rising.1 ∙ both_gone r d q base delta one above rising.0 (same_row r q) refl
    by_tests false true one lower more =
        ap (λ b. same_row d q || b) more
        ∙ from_delta r d q base delta lower above rising.0 (same_row d q) refl
    by_tests false false one lower more =
        let higher : is_below r d ≡ true = is_below-either d r one ∙ ap not lower in
        ap (λ b. same_row r q || b) (rest (d ∷ delta) rising)
        ∙ from_base r q base (d ∷ delta) above (higher, IsAbove-lower r d delta higher rising.0) (same_row r q) refl

pub has_row-difference : (q : Row) (base delta : List Row) → IsRows base → IsRows delta → has_row q (difference base delta) ≡ differ (has_row q base) (has_row q delta)
has_row-difference q [] delta rising other = refl
has_row-difference q (r ∷ base) delta rising other = has_row-weave r q base delta rising.0 other (λ rows more. has_row-difference q base rows rising.1 more)

-- the difference is in order too
above_weave : (a r : Row) (base delta : List Row) → is_below a r ≡ true → IsAbove a delta → ((rows : List Row) → IsAbove a rows → IsAbove a (difference base rows)) → IsAbove a (weave r (difference base) delta)
above_weave a r base [] below above rest = (below, rest [] tt)
above_weave a r base (d ∷ delta) below above rest = by_tests (same_row d r) (is_below d r) (above_weave a r base delta below above.1 rest)
  where
    by_tests : (s b : Bool) → IsAbove a (weave r (difference base) delta) → IsAbove a (cond s (difference base delta) (cond b (d ∷ weave r (difference base) delta) (r ∷ difference base (d ∷ delta))))
    by_tests true b more = rest delta above.1
    by_tests false true more = (above.0, more)
    by_tests false false more = (below, rest (d ∷ delta) above)

IsAbove-difference : (a : Row) (base delta : List Row) → IsAbove a base → IsAbove a delta → IsAbove a (difference base delta)
IsAbove-difference a [] delta above other = other
IsAbove-difference a (r ∷ base) delta above other = above_weave a r base delta above.0 other (λ rows more. IsAbove-difference a base rows above.1 more)

rows_weave : (r : Row) (base delta : List Row) → IsAbove r base → IsRows delta → ((rows : List Row) → IsRows rows → IsRows (difference base rows)) → IsRows (weave r (difference base) delta)
rows_weave r base [] above rising rest = (IsAbove-difference r base [] above tt, rest [] tt)
rows_weave r base (d ∷ delta) above rising rest = by_tests (same_row d r) (is_below d r) refl refl (rows_weave r base delta above rising.1 rest)
  where
    by_tests : (s b : Bool) → same_row d r ≡ s → is_below d r ≡ b → IsRows (weave r (difference base) delta) → IsRows (cond s (difference base delta) (cond b (d ∷ weave r (difference base) delta) (r ∷ difference base (d ∷ delta))))
    by_tests true b one lower more = rest delta rising.1
    by_tests false true one lower more =
        let over : IsAbove d base = IsAbove-lower d r base lower above in
        (above_weave d r base delta lower rising.0 (λ rows behind. IsAbove-difference d base rows over behind), more)
    by_tests false false one lower more =
        let higher : is_below r d ≡ true = is_below-either d r one ∙ ap not lower in
        (IsAbove-difference r base (d ∷ delta) above (higher, IsAbove-lower r d delta higher rising.0), rest (d ∷ delta) rising)

pub IsRows-difference : (base delta : List Row) → IsRows base → IsRows delta → IsRows (difference base delta)
IsRows-difference [] delta rising other = other
IsRows-difference (r ∷ base) delta rising other = rows_weave r base delta rising.0 other (λ rows more. IsRows-difference base rows rising.1 more)

-- a row turned in the delta is turned in the rows
differ_swap : (x y z : Bool) → differ x (differ y z) ≡ differ y (differ x z)
differ_swap true true z = refl
differ_swap true false z = refl
differ_swap false true z = refl
differ_swap false false z = refl

pub difference-turn : (r : Row) (base delta : List Row) → IsRows base → IsRows delta → difference base (turn r delta) ≡ turn r (difference base delta)
difference-turn r base delta rising other =
    rows-eq (difference base (turn r delta)) (turn r (difference base delta))
    (IsRows-difference base (turn r delta) rising (IsRows-turn r delta other))
    (IsRows-turn r (difference base delta) (IsRows-difference base delta rising other))
    (λ q. has_row-difference q base (turn r delta) rising (IsRows-turn r delta other)
    ∙ ap (differ (has_row q base)) (has_row-turn r q delta)
    ∙ differ_swap (has_row q base) (same_row r q) (has_row q delta)
    ∙ sym (has_row-turn r q (difference base delta) ∙ ap (differ (same_row r q)) (has_row-difference q base delta rising other)))

-- rows with no delta are the base
pub difference-none : (base : List Row) → difference base [] ≡ base
difference-none [] = refl
difference-none (r ∷ base) = ap (λ (l : List Row). r ∷ l) (difference-none base)

-- the rows that a test passes are the base's and the delta's that it does
differ_and : (x y k : Bool) → differ (x && k) (y && k) ≡ (differ x y && k)
differ_and true true true = refl
differ_and true true false = refl
differ_and true false true = refl
differ_and true false false = refl
differ_and false y k = refl

pub difference-filter : (p : Row → Bool) (base delta : List Row) → IsRows base → IsRows delta → difference (filter p base) (filter p delta) ≡ filter p (difference base delta)
difference-filter p base delta rising other =
    let some = filter p base in
    let few = filter p delta in
    rows-eq (difference some few) (filter p (difference base delta))
    (IsRows-difference some few (IsRows-filter p base rising) (IsRows-filter p delta other))
    (IsRows-filter p (difference base delta) (IsRows-difference base delta rising other))
    (λ q. has_row-difference q some few (IsRows-filter p base rising) (IsRows-filter p delta other)
    ∙ (λ i. differ (has_row-filter p base q i) (has_row-filter p delta q i))
    ∙ differ_and (has_row q base) (has_row q delta) (p q)
    ∙ sym (has_row-filter p (difference base delta) q ∙ ap (λ b. b && p q) (has_row-difference q base delta rising other)))

pub filtered_parts : (p : Row → Bool) (base delta some few : List Row) → AreParts base delta → some ≡ filter p base → few ≡ filter p delta → difference some few ≡ filter p (difference base delta)
filtered_parts p base delta some few parts is is_too = (λ i. difference (is i) (is_too i)) ∙ difference-filter p base delta parts.base parts.delta

pub difference-between : (lo hi : ℕ) (base delta : List Row) → IsRows base → IsRows delta → difference (rows_between lo hi base) (rows_between lo hi delta) ≡ rows_between lo hi (difference base delta)
difference-between lo hi base delta rising other = difference-filter (λ r. nat_le lo r.key && nat_le r.key hi) base delta rising other

-- how many rows a difference has at most
length_weave : (r : Row) (base delta : List Row) → ((rows : List Row) → length (difference base rows) ≤ length base + length rows) → length (weave r (difference base) delta) ≤ suc (length base) + length delta
length_weave r base [] rest = let at = rest [] in omega (arith, at)
length_weave r base (d ∷ delta) rest = by_tests (same_row d r) (is_below d r) (length_weave r base delta rest)
  where
    by_tests : (s b : Bool) → length (weave r (difference base) delta) ≤ suc (length base) + length delta → length (cond s (difference base delta) (cond b (d ∷ weave r (difference base) delta) (r ∷ difference base (d ∷ delta)))) ≤ suc (length base) + suc (length delta)
    by_tests true b more = let at = rest delta in omega (arith, at)
    by_tests false true more = omega (arith, more)
    by_tests false false more = let at = rest (d ∷ delta) in omega (arith, at)

pub length-difference : (base delta : List Row) → length (difference base delta) ≤ length base + length delta
length-difference [] delta = omega arith
length-difference (r ∷ base) delta = length_weave r base delta (λ rows. length-difference base rows)

-- the rows of a list that pass a test, and those that don't
pub length_split : (p : Row → Bool) (rows : List Row) → length (filter p rows) + length (filter (λ r. not (p r)) rows) ≡ length rows
length_split p [] = refl
length_split p (r ∷ rows) = by_test (p r) (length_split p rows)
  where
    by_test : (b : Bool) → length (filter p rows) + length (filter (λ r. not (p r)) rows) ≡ length rows
        → length (cond b (r ∷ filter p rows) (filter p rows)) + length (cond (not b) (r ∷ filter (λ r. not (p r)) rows) (filter (λ r. not (p r)) rows)) ≡ suc (length rows)
    by_test true rest = omega (arith, rest)
    by_test false rest = omega (arith, rest)

-- the delta has as many rows as stand in exactly one of the base and the rows
gone_too : (x y : Bool) → (x && not (differ x y)) ≡ (y && x)
gone_too true true = refl
gone_too true false = refl
gone_too false true = refl
gone_too false false = refl

new_too : (x y : Bool) → (differ x y && not x) ≡ (y && not x)
new_too true true = refl
new_too true false = refl
new_too false true = refl
new_too false false = refl

pub length-delta : (base delta : List Row) → IsRows base → IsRows delta → length delta ≡ delta_len (record { base = base; rows = difference base delta })
length-delta base delta rising other =
    let rows = difference base delta in
    let ordered : IsRows rows = IsRows-difference base delta rising other in
    let gone : filter (λ r. not (has_row r rows)) base ≡ filter (λ r. has_row r base) delta =
    rows-eq (filter (λ r. not (has_row r rows)) base) (filter (λ r. has_row r base) delta)
    (IsRows-filter (λ r. not (has_row r rows)) base rising) (IsRows-filter (λ r. has_row r base) delta other)
    (λ q. has_row-filter (λ r. not (has_row r rows)) base q
    ∙ ap (λ b. has_row q base && not b) (has_row-difference q base delta rising other)
    ∙ gone_too (has_row q base) (has_row q delta)
    ∙ sym (has_row-filter (λ r. has_row r base) delta q)) in
    let added : filter (λ r. not (has_row r base)) rows ≡ filter (λ r. not (has_row r base)) delta =
    rows-eq (filter (λ r. not (has_row r base)) rows) (filter (λ r. not (has_row r base)) delta)
    (IsRows-filter (λ r. not (has_row r base)) rows ordered) (IsRows-filter (λ r. not (has_row r base)) delta other)
    (λ q. has_row-filter (λ r. not (has_row r base)) rows q
    ∙ ap (λ b. b && not (has_row q base)) (has_row-difference q base delta rising other)
    ∙ new_too (has_row q base) (has_row q delta)
    ∙ sym (has_row-filter (λ r. not (has_row r base)) delta q)) in
    sym (length_split (λ r. has_row r base) delta) ∙ sym (λ i. length (gone i) + length (added i))

-- of the rows of two lists as many are in the first and the second as in the second and the first
in_both : (x y : Bool) → (x && y) ≡ (y && x)
in_both true true = refl
in_both true false = refl
in_both false true = refl
in_both false false = refl

length_both : (base rows : List Row) → IsRows base → IsRows rows → length (filter (λ r. has_row r rows) base) ≡ length (filter (λ r. has_row r base) rows)
length_both base rows rising other =
    ap length (rows-eq (filter (λ r. has_row r rows) base) (filter (λ r. has_row r base) rows)
    (IsRows-filter (λ r. has_row r rows) base rising) (IsRows-filter (λ r. has_row r base) rows other)
    (λ q. has_row-filter (λ r. has_row r rows) base q ∙ in_both (has_row q base) (has_row q rows) ∙ sym (has_row-filter (λ r. has_row r base) rows q)))

-- how many rows are in exactly one of two lists, as those tell that are in the second alone
pub delta_told : (base rows : List Row) (came : ℕ) → IsRows base → IsRows rows → came ≡ length (filter (λ r. not (has_row r base)) rows)
    → (came ≤ length rows) × ((length rows - came ≤ length base + came) × (length base + came - (length rows - came) ≡ delta_len (record { base = base; rows = rows })))
delta_told base rows came rising other is =
    let one = length_split (λ r. has_row r rows) base in
    let two = length_split (λ r. has_row r base) rows in
    let same = length_both base rows rising other in
    (omega (arith, two, is), (omega (arith, one, two, same, is), omega (arith, one, two, same, is)))

-- a put at the place of a row that isn't there turns it, and so does a removal at the place of one that is
pub put_turns : (old now : List Row) (r : Row) (i : ℕ) → IsRows old → has_row r old ≡ false → i ≡ row_place r old → now ≡ insert old i r → (now ≡ turn r old) × IsRows now
put_turns old now r i rising none at is =
    let both = put_at_place old now r i rising none at is in
    (both.0 ∙ sym (turn-absent r old none), both.1)

pub gone_turns : (old now : List Row) (r : Row) (i : ℕ) → IsRows old → has_row r old ≡ true → i ≡ row_place r old → now ≡ remove old i → (now ≡ turn r old) × IsRows now
gone_turns old now r i rising has at is =
    let both = gone_at_place old now r i rising has at is in
    (both.0 ∙ sym (turn-present r old has), both.1)

-- a bucket's view of two lists, which tell it
abbrev pub as_rows : List Row → List Row → Rows
as_rows base rows = record { base = base; rows = rows }

pub rows_of : (base base' rows rows' : List Row) → base ≡ base' → rows ≡ rows' → as_rows base rows ≡ as_rows base' rows'
rows_of base base' rows rows' one other = λ i. record { base = one i; rows = other i }

pub on_ok : {A E P Q : Type 0} (r : Result A E) → (P → Q) → OnOk r P → OnOk r Q
on_ok (Ok v) f p = f p
on_ok (Err e) f p = p

pub difference-empty : (base delta : List Row) → length delta ≡ 0 → difference base delta ≡ base
difference-empty base [] none = difference-none base
difference-empty base (d ∷ delta) none = absurd (omega (arith, none))
