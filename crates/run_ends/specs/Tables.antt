-- What a source contains as a table of any kind: the items of all its bytes, or why it has none.
use Rattle.std.specs.Prelude.{◌≡◌, ◌<◌, ◌≤◌, ℕ, nat_lt, List, [], length, if◌then◌else◌, Some, Result, Ok, Err, ⊤}
use Rattle.causes.specs.Causes.{Rose}
use Rattle.io_edge.specs.Streams.{Input}
use Rattle.csv_rows.specs.declared.rows.RowsFault.{RowsFault}
use Rattle.run_ends.specs.declared.refusals.Refusal.{Refusal}
use Rattle.run_ends.specs.declared.refusals.Refusal.TheVariants as refusal
use Rattle.run_ends.specs.Judged.{refusal_of}
use Rattle.run_ends.specs.Limits.{most_bytes}

-- the items of a table, or the refusal of what is wrong with it
abbrev pub or_refusal : {T : Type 0} → Result T RowsFault → Result T Refusal
or_refusal (Ok items) = Ok items
or_refusal (Err e) = Err (refusal_of e)

-- the items of an input that isn't too long, as `read` reads them, or the first thing that is wrong with it
abbrev pub judged_by : {T : Type 0} → (List ℕ → Result T RowsFault) → List ℕ → Result T Refusal
judged_by read input = if nat_lt most_bytes (length input) then Err refusal.LongInput else or_refusal (read input)

-- if the bytes of the source are known, this is wrong with them
abbrev pub ShowsWrong : {T : Type 0} → (List ℕ → Result T RowsFault) → Input → Refusal → Type 0
ShowsWrong read old why = (bytes : List ℕ) → old.left ≡ Some bytes → judged_by read bytes ≡ Err why

-- why a table isn't read: the source failed, memory ran out, or this is the first thing wrong with its bytes
abbrev pub IsTableCause : {T : Type 0} → (List ℕ → Result T RowsFault) → Input → Input → Refusal → Type 0
IsTableCause read old new refusal.Source = Rose old.faults new.faults
IsTableCause read old new refusal.Memory = ⊤
IsTableCause read old new refusal.Header = ShowsWrong read old refusal.Header
IsTableCause read old new (refusal.Csv row) = ShowsWrong read old (refusal.Csv row)
IsTableCause read old new (refusal.Field row column) = ShowsWrong read old (refusal.Field row column)
IsTableCause read old new refusal.LongInput = ShowsWrong read old refusal.LongInput
IsTableCause read old new refusal.ManyRows = ShowsWrong read old refusal.ManyRows
IsTableCause read old new _ = ⊥

-- all bytes of the source were read, and if they are known, these are their items
pub record ReadsTable {T : Type 0} (read : List ℕ → Result T RowsFault) (old new : Input) (items : T) : Type 0 where
  pub items_are : (bytes : List ℕ) → old.left ≡ Some bytes → judged_by read bytes ≡ Ok items
  pub all : (bytes : List ℕ) → old.left ≡ Some bytes → new.left ≡ Some []
  pub calm : new.faults ≡ old.faults

-- these are all bytes of the source, and they aren't too many
pub record HasBytes (old new : Input) (bytes : List ℕ) : Type 0 where
  pub few : length bytes ≤ most_bytes
  pub are : (xs : List ℕ) → old.left ≡ Some xs → bytes ≡ xs
  pub all : (xs : List ℕ) → old.left ≡ Some xs → new.left ≡ Some []
  pub calm : new.faults ≡ old.faults

-- why the bytes of a source aren't read: the source failed, memory ran out, or there are too many
abbrev pub IsBytesCause : Input → Input → Refusal → Type 0
IsBytesCause old new refusal.Source = Rose old.faults new.faults
IsBytesCause old new refusal.Memory = ⊤
IsBytesCause old new refusal.LongInput = (xs : List ℕ) → old.left ≡ Some xs → most_bytes < length xs
IsBytesCause old new _ = ⊥
