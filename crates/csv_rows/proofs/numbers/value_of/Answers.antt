use Rattle.std.proofs.Common.{◌≡◌, ◌∙◌, ◌-◌, arith, sym, true, false, length, get_or}
use Rattle.std.specs.Char.{is_ascii_digit}
use Rattle.std.specs.Str.Parse.{digits_value}
use Rattle.std.specs.Cmp.{first_so, second_so}
use Rattle.std.proofs.lemmas.Bool.{and_from}
use Rattle.csv_rows.proofs.NumbersFacts.{digit_of, last_digit}
use Rattle.csv_rows.proofs.numbers.value_of.Goals as goal

pub returns-then-not-is_ascii_digit : goal.returns-then-not-is_ascii_digit
returns-then-not-is_ascii_digit c fits =
    let parts = last_digit c.args.bytes.now (length c.args.bytes.now - 1) (omega (arith, c.requires.some)) in
    let is : is_ascii_digit (get_or c.args.bytes.now (length c.args.bytes.now - 1) 0) ≡ true = second_so _ _ (sym parts.0 ∙ fits.0) in
    let other : is_ascii_digit (get_or c.args.bytes.now (length c.args.bytes.now - 1) 0) ≡ false = sym c.if-not-is_ascii_digit.ensures.value in
    cc

pub returns-in_err-front : goal.returns-in_err-front
returns-in_err-front c =
    let parts = last_digit c.args.bytes.now (length c.args.bytes.now - 1) (omega (arith, c.requires.some)) in
    rw c.from_residual.ensures (λ fits. c.in_err-front.ensures (first_so _ _ (sym parts.0 ∙ fits.0)))

pub returns-in_err-tens : goal.returns-in_err-tens
returns-in_err-tens c =
    let parts = last_digit c.args.bytes.now (length c.args.bytes.now - 1) (omega (arith, c.requires.some)) in
    rw c.from_residual-in_err-tens.ensures (λ fits. c.in_err-tens.ensures (omega (arith, c.in_ok-front.ensures.1, parts.1, fits.1)))

pub returns-in_err-value : goal.returns-in_err-value
returns-in_err-value c =
    let parts = last_digit c.args.bytes.now (length c.args.bytes.now - 1) (omega (arith, c.requires.some)) in
    let digit = digit_of (get_or c.args.bytes.now (length c.args.bytes.now - 1) 0) (sym c.if-not-is_ascii_digit.ensures.value) in
    rw c.from_residual-in_err-value.ensures (λ fits. c.in_err-value.ensures (omega (arith, c.in_ok-front.ensures.1, c.in_ok-tens.ensures.1, c.from.ensures, digit.0, digit.2, parts.1, fits.1)))

pub returns : goal.returns
returns c =
    let parts = last_digit c.args.bytes.now (length c.args.bytes.now - 1) (omega (arith, c.requires.some)) in
    let is_digit : is_ascii_digit (get_or c.args.bytes.now (length c.args.bytes.now - 1) 0) ≡ true = sym c.if-not-is_ascii_digit.ensures.value in
    let digit = digit_of (get_or c.args.bytes.now (length c.args.bytes.now - 1) 0) is_digit in
    let value : c.in_ok-value.value ≡ digits_value 10 c.args.bytes.now = omega (arith, c.in_ok-front.ensures.1, c.in_ok-tens.ensures.1, c.in_ok-value.ensures.1, c.from.ensures, digit.0, digit.2, parts.1) in
    ((parts.0 ∙ and_from _ _ c.in_ok-front.ensures.0 is_digit, omega (arith, c.in_ok-value.ensures.0, c.in_ok-value.ensures.1, value)), value)
