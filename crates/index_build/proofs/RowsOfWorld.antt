-- The rows of a world's objects: each stands once, and sorted they rise.
use Rattle.std.proofs.Common.{◌≡◌, ℕ, suc, ◌+◌, ◌<◌, ◌≤◌, Bool, true, false, cond, not, List, [], ◌∷◌, length, map, get_or, Some, refl, sym, ap, subst, ◌∙◌, arith}
use Rattle.std.specs.Prelude.{◌==◌, ◌&&◌, ◌||◌}
use Rattle.std.specs.List.{find, count_by}
use Rattle.std.specs.List.Sorted.{IsPermutation, IsSortedBy}
use Rattle.std.specs.Option.{option_map}
use Rattle.std.specs.Cmp.{IsStrictWeakOrder}
use Rattle.std.proofs.lemmas.Bool.{eqb-true}
use Rattle.std.proofs.lemmas.Bool.Decides.{nat_tests}
use Rattle.std.proofs.lemmas.List.Sorted.{sorted_far, sum_by-IsPermutation, list_any-IsPermutation}
use Rattle.std.proofs.lemmas.List.Sums.{sum_by-cons}
use Rattle.zorder.specs.declared.points.Placed.{Placed}
use Rattle.zorder.specs.Key.{key_of}
use Rattle.bucket_versions.specs.declared.row.Row.{Row}
use Rattle.bucket_versions.specs.Rows.{is_below, same_row, IsAbove, IsRows, has_row}
use Rattle.bucket_versions.proofs.RowOrder.{is_below-either, same_row-refl}
use Rattle.index_layer.specs.Stands.{places_have, is_at_key}
use Rattle.plain_list.specs.Places.{IsRising}
use Rattle.plain_list.specs.Places.{IsAbove as IsAboveId}
use Rattle.index_build.specs.WorldRows.{bucket_row}

-- an object with another id has another row
other_id : (m : Placed) (q : Row) → q.id < m.id → same_row (bucket_row m) q ≡ false
other_id m q lt = grind (arith, nat_tests)

-- rows of objects with greater ids are others
none_above : (q : Row) (id : ℕ) (ms : List Placed) → IsAboveId id ms → q.id ≤ id → has_row q (map bucket_row ms) ≡ false
none_above q id [] above le = refl
none_above q id (m ∷ ms) above le =
    let lt : id < m.id = above.0 in
    ap (λ b. b || has_row q (map bucket_row ms)) (other_id m q (omega (arith, lt, le))) ∙ none_above q id ms above.1 le

-- a world has the rows of its objects, and no others
pub has_row-bucket_row : (places : List Placed) → IsRising places → (q : Row) → has_row q (map bucket_row places) ≡ places_have places q
has_row-bucket_row [] rising q = refl
has_row-bucket_row (m ∷ ms) rising q = by_test (m.id == q.id) refl (has_row-bucket_row ms rising.1 q)
  where
    and_or : (a : Bool) → ((a && true) || false) ≡ a
    and_or true = refl
    and_or false = refl

    or_and : (a h : Bool) → ((a && false) || h) ≡ h
    or_and true h = refl
    or_and false h = refl

    by_test : (b : Bool) → (m.id == q.id) ≡ b → has_row q (map bucket_row ms) ≡ places_have ms q
        → (((key_of m.at == q.key) && b) || has_row q (map bucket_row ms)) ≡ is_at_key q.key (option_map (λ (n : Placed). n.at) (cond b (Some m) (find (λ n. n.id == q.id) ms)))
    by_test true e rest =
        let same : m.id ≡ q.id = eqb-true m.id q.id e in
        ap (λ b. ((key_of m.at == q.key) && true) || b) (none_above q m.id ms rising.0 (omega (arith, same))) ∙ and_or (key_of m.at == q.key)
    by_test false e rest = or_and (key_of m.at == q.key) (has_row q (map bucket_row ms)) ∙ rest

-- how many of the rows are this one
abbrev copies : Row → List Row → ℕ
copies q rows = count_by (λ s. same_row s q) rows

abbrev one_if : Bool → ℕ
one_if b = cond b 1 0

copies-cons : (q s : Row) (rows : List Row) → copies q (s ∷ rows) ≡ one_if (same_row s q) + copies q rows
copies-cons q s rows = sum_by-cons (λ x. one_if (same_row x q)) s rows

no_copy : (q : Row) (id : ℕ) (ms : List Placed) → IsAboveId id ms → q.id ≤ id → copies q (map bucket_row ms) ≡ 0
no_copy q id [] above le = refl
no_copy q id (m ∷ ms) above le =
    let lt : id < m.id = above.0 in
    copies-cons q (bucket_row m) (map bucket_row ms) ∙ ap (λ b. one_if b + copies q (map bucket_row ms)) (other_id m q (omega (arith, lt, le))) ∙ omega (arith, no_copy q id ms above.1 le)

-- each row of a world stands once
one_copy : (q : Row) (places : List Placed) → IsRising places → copies q (map bucket_row places) ≤ 1
one_copy q [] rising = omega arith
one_copy q (m ∷ ms) rising = by_test (same_row (bucket_row m) q) refl (one_copy q ms rising.1)
  where
    same_id : same_row (bucket_row m) q ≡ true → q.id ≤ m.id
    same_id e = grind (arith, nat_tests)

    by_test : (b : Bool) → same_row (bucket_row m) q ≡ b → copies q (map bucket_row ms) ≤ 1 → copies q (map bucket_row (m ∷ ms)) ≤ 1
    by_test true e rest =
        let none : copies q (map bucket_row ms) ≡ 0 = no_copy q m.id ms rising.0 (same_id e) in
        let first : one_if (same_row (bucket_row m) q) ≡ 1 = ap one_if e in
        omega (arith, copies-cons q (bucket_row m) (map bucket_row ms), none, first)
    by_test false e rest =
        let first : one_if (same_row (bucket_row m) q) ≡ 0 = ap one_if e in
        omega (arith, copies-cons q (bucket_row m) (map bucket_row ms), rest, first)

below_order : IsStrictWeakOrder is_below
below_order = record {
  one_way = one;
  chain = two;
}
  where
    one : (a b : Row) → is_below a b ≡ true → is_below b a ≡ false
    one a b h = grind (arith, nat_tests)

    two : (a b c : Row) → is_below a b ≡ false → is_below b c ≡ false → is_below a c ≡ false
    two a b c g h = grind (arith, nat_tests)

-- a row that none is below, and that isn't among these, is below each
all_above : (r : Row) (rows : List Row) → ((k : ℕ) (d : Row) → k < length rows → is_below (get_or rows k d) r ≡ false) → copies r rows ≡ 0 → IsAbove r rows
all_above r [] least none = tt
all_above r (s ∷ rows) least none = by_test (same_row s r) refl (λ e. all_above r rows (λ k d lt. least (suc k) d (omega (arith, lt))) e)
  where
    by_test : (b : Bool) → same_row s r ≡ b → (copies r rows ≡ 0 → IsAbove r rows) → IsAbove r (s ∷ rows)
    by_test true e rest =
        let first : one_if (same_row s r) ≡ 1 = ap one_if e in
        absurd (omega (arith, copies-cons r s rows, none, first))
    by_test false e rest =
        let first : one_if (same_row s r) ≡ 0 = ap one_if e in
        (is_below-either s r e ∙ ap not (least 0 s (omega arith)), rest (omega (arith, copies-cons r s rows, none, first)))

-- sorted rows of which each stands once rise
rows_rise : (rows : List Row) → IsSortedBy is_below rows → ((q : Row) → copies q rows ≤ 1) → IsRows rows
rows_rise [] sorted once = tt
rows_rise (r ∷ rows) sorted once =
    let first : one_if (same_row r r) ≡ 1 = ap one_if (same_row-refl r) in (
      all_above r rows (λ k d lt. sorted_far is_below below_order (r ∷ rows) sorted 0 (suc k) d (omega arith) (omega (arith, lt))) (omega (arith, copies-cons r r rows, first, once r)),
      rows_rise rows (λ k d low lt. subst (λ j. is_below (get_or (r ∷ rows) j d) (get_or rows k d) ≡ false) (one_more k) (sorted (suc k) d (omega arith) (omega (arith, lt)))) (λ q. omega (arith, copies-cons q r rows, once q)),
    )
  where
    one_more : (k : ℕ) → suc k + 1 ≡ suc (k + 1)
    one_more k = omega arith

module _ (places : List Placed) (rows : List Row) (rising : IsRising places) (perm : IsPermutation (map bucket_row places) rows) where
  pub IsRows-sorted : IsSortedBy is_below rows → IsRows rows
  IsRows-sorted sorted = rows_rise rows sorted (λ q. omega (arith, one_copy q places rising, sum_by-IsPermutation (λ x. one_if (same_row x q)) (map bucket_row places) rows perm))

  pub has_row-sorted : (q : Row) → has_row q rows ≡ places_have places q
  has_row-sorted q = sym (list_any-IsPermutation (λ s. same_row s q) (map bucket_row places) rows perm) ∙ has_row-bucket_row places rising q
