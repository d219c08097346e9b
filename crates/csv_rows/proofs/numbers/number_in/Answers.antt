use Rattle.std.proofs.Common.{◌≡◌, ◌≤◌, ◌<◌, ◌==◌, ◌∙◌, sym, refl, arith, ap, ℕ, zero, suc, false, true, length, Some, eqb-true}
use Rattle.csv_rows.specs.Numbers.{is_number}
use Rattle.csv_rows.proofs.NumbersFacts.{is_between-no, is_between-outside, is_between-untold, is_between-yes, is_number-digits, is_number-empty, is_number-long, is_number-parts}
use Rattle.csv_rows.proofs.numbers.number_in.Goals as goal

not-empty : (n : ℕ) → (n == 0) ≡ false → 1 ≤ n
not-empty zero e = cc e
not-empty (suc n) e = omega arith

-- a number below this one isn't at least it
below : (low value number : ℕ) → value ≡ number → value < low → low ≤ number → ⊥
below low value number is lt le = omega (arith, is, lt, le)

pub returns-then-is_empty : goal.returns-then-is_empty
returns-then-is_empty c = rw (is_between-no c.args.low c.args.high c.args.field.now (is_number-empty c.args.field.now (eqb-true _ _ (sym c.is_empty.ensures ∙ c.if-is_empty.true)))) refl

pub returns-then-field-gt20 : goal.returns-then-field-gt20
returns-then-field-gt20 c = rw (is_between-no c.args.low c.args.high c.args.field.now (is_number-long c.args.field.now c.if-field-gt20.true)) refl

pub returns-in_err-value : goal.returns-in_err-value
returns-in_err-value c =
    rw (c.from_residual.ensures, is_between-untold c.args.low c.args.high c.args.field.now (λ number h. c.in_err-value.ensures ((is_number-parts c.args.field.now number).2, omega (arith, h, c.ranges.high.fits)))) refl

pub returns-then-value-low : goal.returns-then-value-low
returns-then-value-low c = rw (is_between-outside c.args.low c.args.high c.args.field.now (λ l h. below c.args.low _ _ c.in_ok-value.ensures.1 c.if-value-low.true l)) refl

pub returns-then-high-value : goal.returns-then-high-value
returns-then-high-value c = rw (is_between-outside c.args.low c.args.high c.args.field.now (λ l h. omega (arith, h, c.in_ok-value.ensures.1, c.if-high-value.true))) refl

pub returns : goal.returns
returns c =
    let value = c.in_ok-value.ensures.1 in
    let number : is_number c.args.field.now ≡ true = is_number-digits c.args.field.now (not-empty (length c.args.field.now) (sym c.is_empty.ensures ∙ c.if-is_empty.false)) c.if-field-gt20.false ∙ c.in_ok-value.ensures.0.0 in
    rw (is_between-yes c.args.low c.args.high c.args.field.now number (omega (arith, value, c.if-value-low.false)) (omega (arith, value, c.if-high-value.false)))
    (ap (λ n. Some n) value)
