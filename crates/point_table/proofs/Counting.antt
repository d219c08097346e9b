-- A leaf of an index that stands for a world has as many rows as the world has objects in the leaf's region.
use Rattle.std.proofs.Common.{◌≡◌, ℕ, suc, ◌+◌, Bool, true, false, cond, not, List, [], ◌∷◌, length, refl, sym, ap, ◌∙◌, arith, zero-add}
use Rattle.std.specs.Prelude.{◌&&◌, ◌||◌}
use Rattle.std.proofs.lemmas.List.Sums.{sum_by-cons}
use mathlib.Core.Bool.{true≢false}
use Rattle.zorder.specs.declared.points.Placed.{Placed}
use Rattle.zorder.specs.Key.{key_of, is_under, is_in}
use Rattle.bucket_versions.specs.declared.row.Row.{Row}
use Rattle.bucket_versions.specs.Rows.{IsRows, has_row, without_row, same_row}
use Rattle.bucket_versions.proofs.RowOrder.{IsRows-without_row}
use Rattle.index_layer.specs.Stands.{places_have}
use Rattle.plain_list.specs.Places.{IsRising}
use Rattle.plain_list.specs.Size.{count_in_name}
use Rattle.table_share.proofs.FirstObjects.{IsAbove-same, without_row-absent, same_first, first_gone, first_there, has_first}
use Rattle.point_table.proofs.StandingLess.{rows_without_gone, rows_past_gone}

pub length-without_row : (r : Row) (rows : List Row) → IsRows rows → has_row r rows ≡ true → suc (length (without_row r rows)) ≡ length rows
length-without_row r [] rising has = cc
length-without_row r (s ∷ rows) rising has = by_test (same_row s r) refl has (length-without_row r rows rising.1)
  where
    by_test : (b : Bool) → same_row s r ≡ b → (b || has_row r rows) ≡ true → (has_row r rows ≡ true → suc (length (without_row r rows)) ≡ length rows)
        → suc (length (cond (not b) (s ∷ without_row r rows) (without_row r rows))) ≡ suc (length rows)
    by_test true e has rest = ap (λ (l : List Row). suc (length l)) (without_row-absent r rows (IsAbove-same s r rows e rising.0))
    by_test false e has rest = ap suc (rest has)

pub count_in_name-cons : (m : Placed) (ms : List Placed) (name : List Bool) → count_in_name (m ∷ ms) name ≡ cond (is_in name m.at) 1 0 + count_in_name ms name
count_in_name-cons m ms name = sum_by-cons (λ (n : Placed). cond (is_in name n.at) 1 0) m ms

pub count_in_name-rows : (places : List Placed) (name : List Bool) (rows : List Row) → IsRising places → IsRows rows → ((q : Row) → has_row q rows ≡ (places_have places q && is_under name q.key))
    → count_in_name places name ≡ length rows
count_in_name-rows [] name [] rising ordered stands = refl
count_in_name-rows [] name (r ∷ rows) rising ordered stands = absurd (true≢false (sym (same_first r rows) ∙ stands r))
count_in_name-rows (m ∷ ms) name rows rising ordered stands = by_test (is_under name (key_of m.at)) refl (count_in_name-rows ms name)
  where
    by_test : (b : Bool) → is_under name (key_of m.at) ≡ b
        → ((rows : List Row) → IsRising ms → IsRows rows → ((q : Row) → has_row q rows ≡ (places_have ms q && is_under name q.key)) → count_in_name ms name ≡ length rows)
        → count_in_name (m ∷ ms) name ≡ length rows
    by_test true e rest =
        let r : Row = record { key = key_of m.at; id = m.id } in
        let has : has_row r rows ≡ true = stands r ∙ ap (λ b. b && is_under name (key_of m.at)) (has_first m ms) ∙ e in
        let fewer = rest (without_row r rows) rising.1 (IsRows-without_row r rows ordered)
        (rows_without_gone (m ∷ ms) ms m.id m.at name rows (first_there m ms) (first_gone m ms rising.0) stands) in
        count_in_name-cons m ms name ∙ ap (λ b. cond b 1 0 + count_in_name ms name) e ∙ ap (λ n. 1 + n) fewer ∙ one_more (length (without_row r rows)) ∙ length-without_row r rows ordered has
      where
        one_more : (n : ℕ) → 1 + n ≡ suc n
        one_more n = omega arith
    by_test false e rest =
        let same = rest rows rising.1 ordered (rows_past_gone (m ∷ ms) ms m.id m.at (record { name = name; bucket = record { base = rows; rows = rows } }) (first_there m ms) (first_gone m ms rising.0) e stands) in
        count_in_name-cons m ms name ∙ ap (λ b. cond b 1 0 + count_in_name ms name) e ∙ zero-add (count_in_name ms name) ∙ same
