-- How many bits of a key a split consumes.
use Rattle.std.specs.Prelude.{◌≡◌, ◌⊎◌, ℕ}

-- a width that splits have: 1 makes two children of a leaf, and 2 makes four
abbrev pub IsWidth : ℕ → Type 0
IsWidth w = (w ≡ 1) ⊎ (w ≡ 2)
