-- What a read to the end takes of a source.
use Rattle.std.specs.Prelude.{◌≡◌, ◌≢◌, ℕ, ◌≤◌, List, length, Option, Result, IsErrOf, MatchResult}
use Rattle.std.specs.Io.KnownBytes.{Consumes}
use Rattle.causes.specs.Causes.{Rose}
use Rattle.io_edge.specs.declared.source.ReadFault.{ReadFault}
use Rattle.io_edge.specs.declared.source.ReadFault.TheVariants.{Source}

-- the known bytes lose a prefix of at most `most` bytes
abbrev pub ConsumesUpTo : ℕ → Option (List ℕ) → Option (List ℕ) → Type 0
ConsumesUpTo most old new = (bs : List ℕ) × (length bs ≤ most) × Consumes old new bs

-- a source's count over a read to the end: it never falls, it rose if the result is Source, and else it is unchanged
pub record CountsReads {T : Type 0} (old new : ℕ) (result : Result T ReadFault) : Type 0 where
  pub later : old ≤ new
  pub failed : IsErrOf result Source → Rose old new
  pub same : MatchResult result (λ _. new ≡ old) (λ e. e ≢ Source → new ≡ old)
