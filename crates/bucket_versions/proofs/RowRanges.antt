-- Which rows a filter leaves, as that between two keys.
use Rattle.std.proofs.Common.{◌≡◌, ℕ, Bool, true, false, cond, List, [], ◌∷◌, refl, sym, ap, ◌∙◌}
use Rattle.std.specs.Prelude.{nat_le, ◌&&◌, ◌||◌}
use Rattle.std.specs.List.{filter}
use Rattle.bucket_versions.specs.declared.row.Row.{Row}
use Rattle.bucket_versions.specs.Rows.{has_row, rows_between, same_row}
use Rattle.bucket_versions.proofs.RowOrder.{same_row-eq}

passes : (a h x : Bool) → (a ≡ true → x ≡ true) → (a || (h && x)) ≡ ((a || h) && x)
passes true h x in_too = sym (in_too refl)
passes false h x in_too = refl

stays_out : (a h x : Bool) → (a ≡ true → x ≡ false) → (h && x) ≡ ((a || h) && x)
stays_out true true x out = refl
stays_out true false x out = sym (out refl)
stays_out false h x out = refl

-- of the rows that a test passes are those that are there and pass
pub has_row-filter : (p : Row → Bool) (rows : List Row) (q : Row) → has_row q (filter p rows) ≡ (has_row q rows && p q)
has_row-filter p [] q = refl
has_row-filter p (s ∷ rows) q = by_test (p s) refl (has_row-filter p rows q)
  where
    by_test : (b : Bool) → p s ≡ b → has_row q (filter p rows) ≡ (has_row q rows && p q) → has_row q (cond b (s ∷ filter p rows) (filter p rows)) ≡ (has_row q (s ∷ rows) && p q)
    by_test true e rest = ap (λ b. same_row s q || b) rest ∙ passes (same_row s q) (has_row q rows) (p q) (λ same. ap p (sym (same_row-eq s q same)) ∙ e)
    by_test false e rest = rest ∙ stays_out (same_row s q) (has_row q rows) (p q) (λ same. ap p (sym (same_row-eq s q same)) ∙ e)

-- of the rows between two keys are those that are there and whose key is
pub has_row-rows_between : (lo hi : ℕ) (rows : List Row) (q : Row) → has_row q (rows_between lo hi rows) ≡ (has_row q rows && (nat_le lo q.key && nat_le q.key hi))
has_row-rows_between lo hi rows q = has_row-filter (λ r. nat_le lo r.key && nat_le r.key hi) rows q
