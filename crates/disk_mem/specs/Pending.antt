-- What a crash may leave, given the bytes of the last sync and the calls since.
use Rattle.std.specs.Prelude.{◌≡◌, ℕ, ◌+◌, ◌%◌, ◌<◌, ◌≤◌, nat_le, nat_lt, min, max, Bool, false, ◌&&◌, ◌||◌, if◌then◌else◌, List, [], ◌∷◌, length, get_or}
use Rattle.std.specs.List.{list_any}

-- `stable`: the bytes at the last sync. `touched`: the ranges written since, each as its start and its length. `cut`:
-- the least of the lengths cut to since and the stable length. `least`, `greatest`: the least and the greatest length
-- since.
pub record Pending : Type 0 where
  pub stable : List ℕ
  pub touched : List (ℕ × ℕ)
  pub cut : ℕ
  pub least : ℕ
  pub greatest : ℕ

-- nothing is pending
abbrev pub settled : List ℕ → Pending
settled bytes = record { stable = bytes; touched = []; cut = length bytes; least = length bytes; greatest = length bytes }

-- whether a place is in a range
abbrev pub is_in : ℕ → ℕ × ℕ → Bool
is_in i range = nat_le range.0 i && nat_lt i (range.0 + range.1)

-- whether a crash may leave any byte at this place: a write touched it, or it is at or after the least cut length
abbrev pub is_free : Pending → ℕ → Bool
is_free p i = nat_le p.cut i || list_any (is_in i) p.touched

-- an image: its length is one of those possible, and it has the stable byte at each place that isn't free
pub record IsImage (p : Pending) (image : List ℕ) : Type 0 where
  pub no_shorter : p.least ≤ length image
  pub no_longer : length image ≤ p.greatest
  pub kept : (i : ℕ) → i < length image → is_free p i ≡ false → get_or image i 0 ≡ get_or p.stable i 0

-- up to `len`, `new` has the pattern at the painted places and the bytes of `old` at the others; the pattern is
-- repeated from place 0 on
abbrev pub Paints : (ℕ → Bool) → List ℕ → ℕ → List ℕ → List ℕ → Type 0
Paints is_painted fill len old new = (i : ℕ) → i < len → get_or new i 0 ≡ (if is_painted i then get_or fill (i % length fill) 0 else get_or old i 0)

-- after a write of n bytes at a place, also after one that failed
abbrev pub after_write : ℕ → ℕ → Pending → Pending
after_write at n p = record { stable = p.stable; touched = (at, n) ∷ p.touched; cut = p.cut; least = p.least; greatest = max p.greatest (at + n) }

-- after a cut to a length, also after one that failed
abbrev pub after_cut : ℕ → Pending → Pending
after_cut n p = record { stable = p.stable; touched = p.touched; cut = min p.cut n; least = min p.least n; greatest = p.greatest }

-- the length nearest to this one that an image may have
abbrev pub nearest : Pending → ℕ → ℕ
nearest p len = max p.least (min len p.greatest)

-- the byte at a place of the image that has a pattern in its free bytes; the pattern is repeated from place 0 on
abbrev pub filled : Pending → List ℕ → ℕ → ℕ
filled p fill i = if is_free p i then get_or fill (i % length fill) 0 else get_or p.stable i 0

-- the image with the length nearest to this one, and with the pattern in its free bytes
pub record Picks (p : Pending) (len : ℕ) (fill image : List ℕ) : Type 0 where
  pub long : length image ≡ nearest p len
  pub bytes : (i : ℕ) → i < length image → get_or image i 0 ≡ filled p fill i
