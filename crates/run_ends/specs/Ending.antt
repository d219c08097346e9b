-- How a command on a log ends.
use Rattle.std.specs.Prelude.{◌≡◌, ◌⊎◌, ℕ, List, take}
use Rattle.std.specs.Io.KnownBytes.{Appends}
use Rattle.causes.specs.Causes.{Rose}
use Rattle.io_edge.specs.Streams.{Output}
use Rattle.run_ends.specs.declared.refusals.Refusal.{Refusal}
use Rattle.run_ends.specs.Taking.{Refuses}

-- it wrote its whole text, or the sink failed after a prefix of the text
abbrev pub EndsWriting : List ℕ → ℕ → Output → Output → Type 0
EndsWriting text status old new =
    ((status ≡ 0) × Appends old.taken new.taken text × (new.faults ≡ old.faults)) ⊎ ((status ≡ 6) × Rose old.faults new.faults × ((n : ℕ) × Appends old.taken new.taken (take n text)))

-- it wrote the line of a refusal whose cause held
abbrev pub EndsRefused : (Refusal → Type 0) → ℕ → Output → Output → Type 0
EndsRefused Cause status old new = (why : Refusal) × Cause why × Refuses why status old new
