-- Numbers between two others.
use Rattle.std.proofs.Common.{◌≡◌, ◌<◌, ◌≤◌, ℕ, Bool, true, false, List, length, [], ◌∷◌, Some, None, ◌^◌, refl, sym, ap, ◌∙◌, arith, cond, ◌&&◌, ◌+◌, ◌*◌, get_or, take, rules}
use Rattle.std.proofs.lemmas.Bool.{and_from, le-leb, leb-true, false_from_ne_true}
use Rattle.std.specs.Prelude.{nat_le}
use Rattle.std.specs.Char.{is_ascii_digit, digit_value}
use Rattle.std.specs.List.{list_all}
use Rattle.std.specs.Cmp.{first_so, second_so}
use Rattle.std.specs.Cmp.Derive.{both_true}
use Rattle.std.proofs.lemmas.Str.Parse.{IsNumeralModel, digit_at, digits_value_short, numerals_by_value}
use Rattle.std.proofs.Math.Seq.{take-length}
use Rattle.std.proofs.lemmas.List.{length-take}
use Rattle.std.proofs.lemmas.Int.Digits.{digits_value_more}
use Rattle.std.proofs.lemmas.List.Folds.{list_all_more}
use Rattle.std.proofs.lemmas.Str.{digit_value_digit}
use Rattle.std.specs.Str.Parse.{digits_value}
use Rattle.csv_rows.specs.Numbers.{is_between, is_number, number, number_in}

pub is_number-parts : (field : List ℕ) → is_number field ≡ true → (1 ≤ length field) × (length field ≤ 20) × (list_all is_ascii_digit field ≡ true)
unfolding is_number
is_number-parts field e =
    let both = first_so (nat_le 1 (length field) && nat_le (length field) 20) (list_all is_ascii_digit field) e in
    (leb-true _ _ (first_so (nat_le 1 (length field)) (nat_le (length field) 20) both), leb-true _ _ (second_so (nat_le 1 (length field)) (nat_le (length field) 20) both), second_so (nat_le 1 (length field) && nat_le (length field) 20) (list_all is_ascii_digit field) e)

pub is_between-no : (low high : ℕ) (field : List ℕ) → is_number field ≡ false → is_between low high field ≡ false
unfolding is_between
is_between-no low high field e = rw e refl

pub is_between-yes : (low high : ℕ) (field : List ℕ) → is_number field ≡ true → low ≤ number field → number field ≤ high → is_between low high field ≡ true
unfolding is_between
is_between-yes low high field e l h = both_true (both_true e (le-leb _ _ l)) (le-leb _ _ h)

pub is_between-bounds : (low high : ℕ) (field : List ℕ) → is_between low high field ≡ true → (low ≤ number field) × (number field ≤ high)
unfolding is_between
is_between-bounds low high field e =
    let both = first_so (is_number field && nat_le low (number field)) (nat_le (number field) high) e in
    (leb-true _ _ (second_so (is_number field) (nat_le low (number field)) both), leb-true _ _ (second_so (is_number field && nat_le low (number field)) (nat_le (number field) high) e))

is_between-number : (low high : ℕ) (field : List ℕ) → is_between low high field ≡ true → is_number field ≡ true
unfolding is_between
is_between-number low high field e = first_so (is_number field) (nat_le low (number field)) (first_so (is_number field && nat_le low (number field)) (nat_le (number field) high) e)

pub is_between-untold : (low high : ℕ) (field : List ℕ) → (is_number field ≡ true → number field ≤ high → ⊥) → is_between low high field ≡ false
is_between-untold low high field h = false_from_ne_true _ (λ e. h (is_between-number low high field e) (is_between-bounds low high field e).1)

pub is_between-outside : (low high : ℕ) (field : List ℕ) → (low ≤ number field → number field ≤ high → ⊥) → is_between low high field ≡ false
is_between-outside low high field h = false_from_ne_true _ (λ e. let (l, g) = is_between-bounds low high field e in h l g)

pub number_in-some : (low high n : ℕ) (field : List ℕ) → Some n ≡ number_in low high field → (is_between low high field ≡ true) × (n ≡ number field) × (low ≤ n) × (n ≤ high)
number_in-some low high n field e = by_test (is_between low high field) refl e
  where
    by_test : (b : Bool) → is_between low high field ≡ b → Some n ≡ cond b (Some (number field)) None → (is_between low high field ≡ true) × (n ≡ number field) × (low ≤ n) × (n ≤ high)
    by_test true is e = let same : n ≡ number field = cc in let bounds = is_between-bounds low high field is in (is, same, omega (arith, same, bounds.0), omega (arith, same, bounds.1))
    by_test false is e = cc

pub is_number-empty : (field : List ℕ) → length field ≡ 0 → is_number field ≡ false
is_number-empty field e = false_from_ne_true _ (λ h. let parts = is_number-parts field h in omega (arith, e, parts.0))

pub is_number-long : (field : List ℕ) → 20 < length field → is_number field ≡ false
is_number-long field lt = false_from_ne_true _ (λ h. let parts = is_number-parts field h in omega (arith, lt, parts.1))

pub is_number-digits : (field : List ℕ) → 1 ≤ length field → length field ≤ 20 → is_number field ≡ list_all is_ascii_digit field
unfolding is_number
is_number-digits field some short = rw (le-leb 1 (length field) some, le-leb (length field) 20 short) refl

-- std's words for numerals are those of the input
pub numerals : IsNumeralModel (λ ds. list_all is_ascii_digit ds ≡ true) (digits_value 10)
numerals = numerals_by_value _ (search rules)

-- a digit at its place, with what it adds
pub digit_in : (ds : List ℕ) (i : ℕ) → list_all is_ascii_digit ds ≡ true → i < length ds → (48 ≤ get_or ds i 0) × (get_or ds i 0 ≤ 57) × (digit_value (get_or ds i 0) + 48 ≡ get_or ds i 0)
digit_in ds i p lt =
    let d = digit_at ds i (numerals.to ds p) lt in
    (omega (arith, d), omega (arith, d), digit_value_digit (get_or ds i 0) d)

-- the same of a digit by itself
pub digit_of : (d : ℕ) → is_ascii_digit d ≡ true → (48 ≤ d) × (d ≤ 57) × (digit_value d + 48 ≡ d)
digit_of d e = digit_in (d ∷ []) 0 (and_from _ _ e refl) (omega arith)

-- a text of digits is its front and its last one
pub last_digit : (bytes : List ℕ) (end : ℕ) → end + 1 ≡ length bytes
    → (list_all is_ascii_digit bytes ≡ (list_all is_ascii_digit (take end bytes) && is_ascii_digit (get_or bytes end 0))) × (digits_value 10 bytes ≡ digits_value 10 (take end bytes) * 10 + digit_value (get_or bytes end 0))
last_digit bytes end e =
    let whole : take (end + 1) bytes ≡ bytes = ap (λ n. take n bytes) e ∙ take-length bytes in
    let lt : end < length bytes = omega (arith, e) in (
      sym (ap (λ (l : List ℕ). list_all is_ascii_digit l) whole) ∙ list_all_more is_ascii_digit bytes end 0 lt,
      sym (ap (λ (l : List ℕ). digits_value 10 l) whole) ∙ digits_value_more 10 bytes end lt,
    )

-- eighteen digits stay far below 2^64
pub short_number : (ds : List ℕ) (i : ℕ) → list_all is_ascii_digit (take i ds) ≡ true → i ≤ 18 → digits_value 10 (take i ds) < 10 ^ 18
short_number ds i all few = digits_value_short numerals (take i ds) 18 all (take-few ds i few)
  where
    take-few : (xs : List ℕ) (k : ℕ) → k ≤ 18 → length (take k xs) ≤ 18
    take-few xs k le = omega (arith, le, length-take k xs)
