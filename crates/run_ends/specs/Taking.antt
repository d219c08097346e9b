-- What a sink takes of a line.
use Rattle.std.specs.Prelude.{◌≡◌, ◌⊎◌, ℕ, List, take}
use Rattle.std.specs.Io.KnownBytes.{Appends}
use Rattle.causes.specs.Causes.{Rose}
use Rattle.io_edge.specs.Streams.{Output}
use Rattle.run_ends.specs.declared.refusals.Refusal.{Refusal}
use Rattle.run_ends.specs.RefusalLines.{refusal_text}
use Rattle.run_ends.specs.Status.{status_of}

-- the sink took the line, or it failed and took a prefix of the line
abbrev pub TakesLine : List ℕ → Output → Output → Type 0
TakesLine line old new = Appends old.taken new.taken line ⊎ (Rose old.faults new.faults × ((n : ℕ) × Appends old.taken new.taken (take n line)))

-- the status and the line are those of this refusal
pub record Refuses (why : Refusal) (status : ℕ) (old new : Output) : Type 0 where
  pub status_is : status ≡ status_of why
  pub line : TakesLine (refusal_text why) old new
