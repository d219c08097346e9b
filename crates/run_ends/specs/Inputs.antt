-- What a source contains: the rows of all its bytes, or why it has none.
use Rattle.std.specs.Prelude.{◌≡◌, ℕ, List, [], Some, Ok, Err, ⊤}
use Rattle.causes.specs.Causes.{Rose}
use Rattle.io_edge.specs.Streams.{Input}
use Rattle.csv_rows.specs.declared.rows.InRow.{InRow}
use Rattle.run_ends.specs.declared.refusals.Refusal.{Refusal}
use Rattle.run_ends.specs.declared.refusals.Refusal.TheVariants as refusal
use Rattle.run_ends.specs.Judged.{judged}

-- if the source's bytes are known, they are refused for this reason
abbrev pub Gives : Input → Refusal → Type 0
Gives old why = (bytes : List ℕ) → old.left ≡ Some bytes → judged bytes ≡ Err why

-- why no rows are read: the source failed, memory ran out, or this is the first thing wrong with its bytes
abbrev pub IsInputCause : Input → Input → Refusal → Type 0
IsInputCause old new refusal.Source = Rose old.faults new.faults
IsInputCause old new refusal.Memory = ⊤
IsInputCause old new refusal.Header = Gives old refusal.Header
IsInputCause old new (refusal.Csv row) = Gives old (refusal.Csv row)
IsInputCause old new (refusal.Field row column) = Gives old (refusal.Field row column)
IsInputCause old new refusal.LongInput = Gives old refusal.LongInput
IsInputCause old new refusal.ManyRows = Gives old refusal.ManyRows
IsInputCause old new _ = ⊥

-- all bytes of the source were read, and if they are known, these are their rows
pub record ReadsInput (old new : Input) (rows : List InRow) : Type 0 where
  pub rows_are : (bytes : List ℕ) → old.left ≡ Some bytes → judged bytes ≡ Ok rows
  pub all : (bytes : List ℕ) → old.left ≡ Some bytes → new.left ≡ Some []
  pub calm : new.faults ≡ old.faults
