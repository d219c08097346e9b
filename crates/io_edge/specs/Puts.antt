-- What a sink takes of a piece.
use Rattle.std.specs.Prelude.{ℕ, ◌≤◌, List, length, take, Option, Result, MatchResult}
use Rattle.std.specs.Io.KnownBytes.{Appends}

-- the known bytes grow by the piece; after a fault they grow by a prefix of it
abbrev pub Puts : {T E : Type 0} → Option (List ℕ) → Option (List ℕ) → List ℕ → Result T E → Type 0
Puts old new piece result = MatchResult result (λ _. Appends old new piece) (λ _. (n : ℕ) × (n ≤ length piece) × Appends old new (take n piece))
