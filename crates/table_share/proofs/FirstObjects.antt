-- Rows without one of them, and objects without the first.
use Rattle.std.proofs.Common.{◌≡◌, ℕ, Bool, true, false, cond, not, List, [], ◌∷◌, Some, None, refl, sym, ap, subst, ◌∙◌, arith}
use Rattle.std.specs.Prelude.{◌==◌, ◌&&◌}
use Rattle.std.specs.List.{find}
use Rattle.std.specs.Option.{option_map}
use Rattle.std.proofs.lemmas.Bool.{eq-eqb, eqb-true}
use Rattle.std.proofs.lemmas.Bool.Decides.{nat_tests}
use Rattle.std.proofs.lemmas.Grind.{common_steps}
use Rattle.zorder.specs.declared.points.Placed.{Placed}
use Rattle.zorder.specs.Key.{key_of}
use Rattle.bucket_versions.specs.declared.row.Row.{Row}
use Rattle.bucket_versions.specs.Rows.{IsAbove, has_row, without_row, same_row}
use Rattle.bucket_versions.proofs.RowOrder.{same_row-eq, is_below-not_same_back}
use Rattle.bucket_versions.proofs.RowSets.{same_row-sym, has_row-without_row}
use Rattle.index_layer.specs.Stands.{places_have, is_at_key}
use Rattle.index_layer.proofs.Puts.{where_is}
use Rattle.plain_list.specs.Places.{IsAbove as IsAboveId}
use Rattle.plain_list.proofs.RisingPlaces.{place_of-above}

pub has_row-less : (r : Row) (rows : List Row) (q : Row) → has_row q (without_row r rows) ≡ (has_row q rows && not (same_row r q))
has_row-less r rows q = has_row-without_row r q rows ∙ ap (λ b. has_row q rows && not b) (same_row-sym q r)

pub IsAbove-same : (a b : Row) (rows : List Row) → same_row a b ≡ true → IsAbove a rows → IsAbove b rows
IsAbove-same a b rows e above = subst (λ (r : Row). IsAbove r rows) (same_row-eq a b e) above

-- a row below all of them isn't among them
pub without_row-absent : (r : Row) (rows : List Row) → IsAbove r rows → without_row r rows ≡ rows
without_row-absent r [] above = refl
without_row-absent r (s ∷ rows) above =
    let rest : without_row r rows ≡ rows = without_row-absent r rows above.1 in
    let other : same_row s r ≡ false = is_below-not_same_back r s above.0 in
    ap (λ b. cond (not b) (s ∷ without_row r rows) (without_row r rows)) other ∙ ap (λ (l : List Row). s ∷ l) rest

pub same_first : (r : Row) (rows : List Row) → has_row r (r ∷ rows) ≡ true
same_first r rows = grind (arith, nat_tests, common_steps)

-- where an object is once the first has gone
pub first_gone : (m : Placed) (ms : List Placed) → IsAboveId m.id ms → (id : ℕ) → where_is ms id ≡ cond (m.id == id) None (where_is (m ∷ ms) id)
first_gone m ms above id = by_test (m.id == id) refl
  where
    by_test : (b : Bool) → (m.id == id) ≡ b → where_is ms id ≡ cond b None (where_is (m ∷ ms) id)
    by_test true e = sym (ap (where_is ms) (eqb-true m.id id e)) ∙ place_of-above m.id ms above
    by_test false e = sym (ap (λ b. option_map (λ (n : Placed). n.at) (cond b (Some m) (find (λ n. n.id == id) ms))) e)

pub first_there : (m : Placed) (ms : List Placed) → where_is (m ∷ ms) m.id ≡ Some m.at
first_there m ms = grind (arith, nat_tests, common_steps)

pub has_first : (m : Placed) (ms : List Placed) → places_have (m ∷ ms) (record { key = key_of m.at; id = m.id }) ≡ true
has_first m ms = ap (is_at_key (key_of m.at)) (first_there m ms) ∙ eq-eqb (key_of m.at) (key_of m.at) refl
