-- A number with its bits at every second place, and the steps that move all bits at once.
use Rattle.std.specs.Prelude.{ℕ, zero, suc, ◌+◌, ◌*◌, ◌/◌, ◌%◌, ◌^◌, bit_and, bit_or}
use Rattle.std.specs.Int.{bit_at}

-- the number that the lowest bits make at even places: bit i counts 2^(2i)
abbrev pub spread_below : ℕ → ℕ → ℕ
spread_below zero n = 0
spread_below (suc i) n = spread_below i n + bit_at n i * 2 ^ (2 * i)

-- the 32 bits of a number at the even places of 64
unfoldable pub spread_bits : ℕ → ℕ
spread_bits n = spread_below 32 n

-- one step apart: each block's upper bits move up by `shift` places, and the mask keeps the new places
abbrev pub step_apart : ℕ → ℕ → ℕ → ℕ
step_apart shift mask n = bit_and (bit_or n (n * 2 ^ shift % 2 ^ 64)) mask

-- one step together, the reverse of a step apart
abbrev pub step_together : ℕ → ℕ → ℕ → ℕ
step_together shift mask n = bit_and (bit_or n (n / 2 ^ shift)) mask
