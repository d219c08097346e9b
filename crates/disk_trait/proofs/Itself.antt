-- Each list of bytes is itself torn and itself shortened.
use Rattle.std.proofs.Common.{ℕ, List, refl, arith}
use Rattle.disk_trait.specs.Drive.{Torn, Shortened}

pub torn_itself : (at n : ℕ) (c : List ℕ) → Torn at n c c
torn_itself at n c = record { before = refl; after = refl; no_shorter = omega arith; no_longer = omega arith }

pub shortened_itself : (n : ℕ) (c : List ℕ) → Shortened n c c
shortened_itself n c = record { before = refl; no_shorter = omega arith; no_longer = omega arith }
