-- What a sink takes of a text that goes to it in pieces.
use Rattle.std.specs.Prelude.{◌≡◌, ℕ, List, [], ◌++◌, Option, Result, MatchResult}
use Rattle.std.specs.Io.KnownBytes.{Appends}
use Rattle.io_edge.specs.Streams.{Output}

-- the known bytes grew by a prefix of the text, and the rest is held back
pub record Moves (old new : Option (List ℕ)) (text rest : List ℕ) : Type 0 where
  pub front : List ℕ
  pub grew : Appends old new front
  pub whole : front ++ rest ≡ text

-- the same; or, after a fault, they grew by some prefix, the rest is lost, and nothing is held back
abbrev pub HoldsBack : {T E : Type 0} → Option (List ℕ) → Option (List ℕ) → List ℕ → List ℕ → Result T E → Type 0
HoldsBack old new text rest result = MatchResult result (λ _. Moves old new text rest) (λ _. (lost : List ℕ) × Moves old new text lost × (rest ≡ []))

-- the sink after a text was added to the bytes held back
abbrev pub Adds : {T E : Type 0} → Output → Output → List ℕ → List ℕ → List ℕ → Result T E → Type 0
Adds old new held text rest result = HoldsBack old.taken new.taken (held ++ text) rest result
