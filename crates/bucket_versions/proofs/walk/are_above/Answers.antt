use Rattle.std.proofs.Common.{◌≡◌, ℕ, ◌<◌, true, ltb, List, [], ◌∷◌, Some, refl, ap, subst, arith}
use Rattle.std.specs.Prelude.{unwrap_or}
use Rattle.std.specs.List.{filter, slice_get}
use Rattle.std.proofs.lemmas.Bool.Decides.{nat_tests}
use Rattle.bucket_versions.specs.declared.row.Row.{Row}
use Rattle.bucket_versions.specs.Rows.{IsRows}
use Rattle.bucket_versions.proofs.RowFilters.{filter-above}
use Rattle.bucket_versions.proofs.walk.are_above.Goals as goal

first_above : (key : ℕ) (rows : List Row) (r : Row) → IsRows rows → Some r ≡ slice_get rows 0 → ltb key r.key ≡ true → filter (λ s. ltb key s.key) rows ≡ rows
first_above key [] r rising is lt = refl
first_above key (s ∷ rows) r rising is lt =
    let one : r ≡ s = ap (λ o. unwrap_or o r) is in
    let high : key < s.key = subst (λ (q : Row). key < q.key) one (grind (arith, nat_tests)) in
    filter-above key (s ∷ rows) rising (λ d. high)

pub returns-in-Some : goal.returns-in-Some
returns-in-Some c high = first_above c.args.key c.args.rows.now c.in-Some.row.now c.requires c.in-Some.ensures.value high
