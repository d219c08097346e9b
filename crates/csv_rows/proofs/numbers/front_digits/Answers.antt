use Rattle.std.proofs.Common.{◌≡◌, ◌∙◌, ◌<◌, arith, sym, length, get_or, true}
use Rattle.std.specs.Char.{is_ascii_digit}
use Rattle.std.proofs.lemmas.Bool.{and_from}
use Rattle.std.proofs.lemmas.Int.Digits.{digits_value_more}
use Rattle.std.proofs.lemmas.List.Folds.{list_all_more}
use Rattle.csv_rows.proofs.NumbersFacts.{digit_of, short_number}
use Rattle.csv_rows.proofs.numbers.front_digits.Goals as goal

pub overflow_mul-value : goal.overflow_mul-value
overflow_mul-value c = omega (arith, c.loop-len-test.true, c.requires.within, c.requires.few, c.loop-len.invariant.0, short_number c.args.text.now c.loop-len.len c.loop-len.invariant.1 (omega (arith, c.loop-len-test.true, c.requires.within, c.requires.few)))

pub overflow_add-value : goal.overflow_add-value
overflow_add-value c =
    let digit = digit_of (get_or c.args.text.now c.loop-len.len 0) (sym c.if-not-is_ascii_digit.ensures.value) in
    omega (arith, c.from.ensures, digit.1, c.loop-len.invariant.0, short_number c.args.text.now c.loop-len.len c.loop-len.invariant.1 (omega (arith, c.loop-len-test.true, c.requires.within, c.requires.few)))

pub loop-len-preserved : goal.loop-len-preserved
loop-len-preserved c =
    let is_digit : is_ascii_digit (get_or c.args.text.now c.loop-len.len 0) ≡ true = sym c.if-not-is_ascii_digit.ensures.value in
    let digit = digit_of (get_or c.args.text.now c.loop-len.len 0) is_digit in
    let lt : c.loop-len.len < length c.args.text.now = omega (arith, c.loop-len-test.true, c.requires.within, c.requires.few) in (
      omega (arith, c.loop-len.invariant.0, c.from.ensures, digit.0, digit.2, digits_value_more 10 c.args.text.now c.loop-len.len lt),
      list_all_more is_ascii_digit c.args.text.now c.loop-len.len 0 lt ∙ and_from _ _ c.loop-len.invariant.1 is_digit,
    )
