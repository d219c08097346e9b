-- Rows selected by their masked keys.
use Rattle.std.specs.Prelude.{◌≡◌, ◌<◌, ◌^◌, ℕ, Bool, ◌&&◌, nat_le, bit_and, List, length}
use Rattle.std.specs.List.{filter}
use Rattle.bucket_versions.specs.declared.row.Row.{Row}

-- whether the key is at most `to`, and the masked key is from that of `from` to that of `to`
abbrev pub masked_in : ℕ → ℕ → ℕ → ℕ → Bool
masked_in mask from to key = nat_le key to && (nat_le (bit_and from mask) (bit_and key mask) && nat_le (bit_and key mask) (bit_and to mask))

-- how many rows have such keys
abbrev pub number_masked : ℕ → ℕ → ℕ → List Row → ℕ
number_masked mask from to rows = length (filter (λ (r : Row). masked_in mask from to r.key) rows)

-- n is that number, if it fits in 64 bits
abbrev pub NumberMasked : ℕ → ℕ → ℕ → List Row → ℕ → Type 0
NumberMasked mask from to rows n = number_masked mask from to rows < 2 ^ 64 → n ≡ number_masked mask from to rows
