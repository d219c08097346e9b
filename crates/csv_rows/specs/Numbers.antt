-- The numbers of an input.
use Rattle.std.specs.Prelude.{◌≡◌, ℕ, ◌<◌, ◌^◌, nat_le, Bool, true, ◌&&◌, List, length, if◌then◌else◌, Option, Some, None}
use Rattle.std.specs.Char.{is_ascii_digit}
use Rattle.std.specs.List.{list_all}
use Rattle.std.specs.Str.Parse.{digits_value}

-- one to twenty digits
unfoldable pub is_number : List ℕ → Bool
is_number field = nat_le 1 (length field) && nat_le (length field) 20 && list_all is_ascii_digit field

-- the number that digits say
abbrev pub number : List ℕ → ℕ
number field = digits_value 10 field

-- all bytes are digits, and their number fits in 64 bits
abbrev pub FitsWord : List ℕ → Type 0
FitsWord bytes = (list_all is_ascii_digit bytes ≡ true) × (number bytes < 2 ^ 64)

-- a number from `low` to `high`
unfoldable pub is_between : ℕ → ℕ → List ℕ → Bool
is_between low high field = is_number field && nat_le low (number field) && nat_le (number field) high

-- the number of a field, if it is from `low` to `high`
abbrev pub number_in : ℕ → ℕ → List ℕ → Option ℕ
number_in low high field = if is_between low high field then Some (number field) else None
