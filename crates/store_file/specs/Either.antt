-- A store that was opened over one of two files. Both may have a log, as a rotation between them leaves them.
use Rattle.std.specs.Prelude.{◌≡◌, ◌≢◌, ◌⊎◌, ℕ, ◌<◌, ◌≤◌, true, false, List, [], length, Option, Some, None, is_some, Result, IfErr}
use Rattle.std.specs.Result.{IsErrAnd}
use Rattle.causes.specs.Causes.{Rose}
use Rattle.atomic_table.specs.Seated.{TableId}
use Rattle.cell_format.specs.declared.cell.Cell.{Cell}
use Rattle.disk_trait.specs.Drive.{Drive, AttachedOne}
use Rattle.disk_trait.specs.Moments.{LeavesNow, LeavesOnly}
use Rattle.split_log.specs.LogText.{IsLog}
use Rattle.split_log.specs.LogView.{LogView, most_cells}
use Rattle.log_state.specs.Recovers.{Recovers, IsLegalCells, state_of}
use Rattle.recovery.specs.declared.seen.OpenFault.{OpenFault}
use Rattle.recovery.specs.declared.seen.Seen.{Seen}
use Rattle.recovery.specs.Calls.{AllWentWell}
use Rattle.recovery.specs.Making.{IsSmall}
use Rattle.book_lock.specs.Pass.{Known}
use Rattle.store_file.specs.declared.either.Which.{Which}
use Rattle.store_file.specs.declared.either.Which.TheVariants as side
use Rattle.store_file.specs.declared.faults.OpenCause.TheVariants as opening
use Rattle.store_file.specs.declared.faults.EitherCause.{EitherCause}
use Rattle.store_file.specs.declared.faults.EitherCause.TheVariants.{Bucket, OneFile, First, Second, Differ, Disk, Memory}
use Rattle.store_file.specs.declared.faults.NotEither.{NotEither}
use Rattle.log_compact.specs.Clearing.{Clears, FailsToClear, KeepsOrClears}
use Rattle.store_file.specs.Files.{CanOpen, FindsCells, IsUnmade, KeepsFile, ShowsFault}
use Rattle.store_file.specs.Opened.{OpensStore, BeginsOver}
use Rattle.store_file.specs.Refused.{NotOpens, is_bucket}

-- The one of two values that is chosen, and the other one.
abbrev pub chosen_of : {A : Type 0} → Which → A → A → A
chosen_of side.First first second = first
chosen_of side.Second first second = second

abbrev pub other_of : {A : Type 0} → Which → A → A → A
other_of side.First first second = second
other_of side.Second first second = first

-- Whether a log of `cells` cells is chosen, if the other one has `other` cells. The first log is chosen if the second
-- has no cells, or if both have cells and the first has no more. The second is chosen if the first has no cells, or if
-- both have cells and the second has fewer.
abbrev pub IsChosen : Which → ℕ → ℕ → Type 0
IsChosen side.First cells other = (other ≡ 0) ⊎ ((0 < cells) × (cells ≤ other))
IsChosen side.Second cells other = (0 < cells) × ((other ≡ 0) ⊎ (cells < other))

-- Cells may be chosen rather than other ones if there are no others, or if both leave the same objects.
abbrev pub MayGoBy : ℕ → List Cell → List Cell → Type 0
MayGoBy w cells other = (other ≡ []) ⊎ ((state_of w other).world ≡ (state_of w cells).world)

-- Both logs have cells, which leave different objects.
abbrev pub AreAtOdds : ℕ → List Cell → List Cell → Type 0
AreAtOdds w first second = (first ≢ []) × (second ≢ []) × ((state_of w first).world ≢ (state_of w second).world)

-- The same choice, in terms of what was found in two logs.
abbrev pub MayGoOn : Which → Seen → Seen → Type 0
MayGoOn which chosen other = IsChosen which chosen.cells other.cells × ((other.cells ≡ 0) ⊎ (other.world ≡ chosen.world))

abbrev pub Chooses : Seen → Seen → Option Which → Type 0
Chooses one two (Some which) = MayGoOn which (chosen_of which one two) (other_of which one two)
Chooses one two None = (one.cells ≢ 0) × (two.cells ≢ 0) × (one.world ≢ two.world)

-- A file was attached, and its log was opened. The log was created if the file was small. These cells were found, and
-- the file is their text. A crash leaves what was in the file, and no device call failed.
pub record FindsFile (w : ℕ) (file : List ℕ) (cells : List Cell) (old new : Drive) : Type 0 where
  pub attached : AttachedOne file true old new
  pub told : is_some new.bytes ≡ is_some old.bytes
  pub calm : new.faults ≡ old.faults
  pub calls : AllWentWell old new
  pub legal : IsLegalCells w cells
  pub few : length cells ≤ most_cells
  pub finds : (bytes : List ℕ) → old.bytes ≡ Some bytes → FindsCells w cells bytes
  pub log : (bytes : List ℕ) → old.bytes ≡ Some bytes → IsLog w cells new
  pub keeps : KeepsFile w old new

-- At any moment a crash leaves the cells of the log that was in the file, or a log of no cells. If the file was small,
-- a crash leaves a small file, or a log of no cells.
pub record KeepsOrEmpties (w : ℕ) (old new : Drive) : Type 0 where
  pub in_use : (bytes : List ℕ) (cells : List Cell) → old.bytes ≡ Some bytes → 17 < length bytes → LeavesNow old (Recovers w cells)
      → LeavesOnly old new (λ c. Recovers w cells c ⊎ Recovers w [] c)
  pub small : (bytes : List ℕ) → old.bytes ≡ Some bytes → LeavesNow old IsSmall → LeavesOnly old new (IsUnmade w)

-- A file was opened, and these cells were found in it. Then its log was cleared, with the result `Came`.
pub record GivesUp {D : Type 0} (drive : D → Drive) (w : ℕ) (Came : Drive → Drive → Type 0) (file : List ℕ) (cells : List Cell) (old new : D) : Type 0 where
  pub opened : D
  pub finds : FindsFile w file cells (drive old) (drive opened)
  pub came : Came (drive opened) (drive new)
  pub keeps : KeepsOrEmpties w (drive old) (drive new)

-- A store was opened over one of two files, and begins with what its cells leave. The other file has no cells, or its
-- cells leave the same objects. The log of the other file was emptied.
pub record OpensEither {D : Type 0} (drive : D → Drive) (w bucket : ℕ) (first_file second_file : List ℕ) (first second : D) (which : Which)
    (lock : TableId) (pass : Known) (points : ℕ) (latest : Option ℕ) (records : ℕ) (spare : D) : Type 0 where
  pub opens : OpensStore drive w bucket (chosen_of which first_file second_file) (drive (chosen_of which first second)) lock pass points latest records
  pub other : List Cell
  pub chosen : IsChosen which (length opens.cells) (length other)
  pub may : MayGoBy w opens.cells other
  pub gives_up : GivesUp drive w (Clears (length other)) (other_of which first_file second_file) other (other_of which first second) spare
  pub empty : (bytes : List ℕ) → (drive (other_of which first second)).bytes ≡ Some bytes → IsLog w [] (drive spare)

-- A file was opened, and keeps the cells that were found in it.
pub record WasOpened (w : ℕ) (file : List ℕ) (old new : Drive) : Type 0 where
  pub cells : List Cell
  pub finds : FindsFile w file cells old new

-- Both files were opened, and leave different objects.
pub record DiffersIn (w : ℕ) (first_file second_file : List ℕ) (first second one two : Drive) : Type 0 where
  pub first_cells : List Cell
  pub second_cells : List Cell
  pub first_finds : FindsFile w first_file first_cells first one
  pub second_finds : FindsFile w second_file second_cells second two
  pub at_odds : AreAtOdds w first_cells second_cells

-- A file was chosen, and keeps its cells. The clearing of the other log had the result `Came`.
pub record GoesNotOn {D : Type 0} (drive : D → Drive) (w : ℕ) (Came : List Cell → Drive → Drive → Type 0) (first_file second_file : List ℕ) (first second one two : D) : Type 0 where
  pub which : Which
  pub cells : List Cell
  pub other : List Cell
  pub chosen : IsChosen which (length cells) (length other)
  pub may : MayGoBy w cells other
  pub stands : FindsFile w (chosen_of which first_file second_file) cells (drive (chosen_of which first second)) (drive (chosen_of which one two))
  pub gives_up : GivesUp drive w (Came other) (other_of which first_file second_file) other (other_of which first second) (other_of which one two)

-- Why no store is opened, and what that leaves of both files.
abbrev pub RefusesEither : {D : Type 0} → (D → Drive) → ℕ → ℕ → List ℕ → List ℕ → D → D → D → D → EitherCause → Type 0
RefusesEither drive w bucket first_file second_file first second one two Bucket = (is_bucket bucket ≡ false) × (one ≡ first) × (two ≡ second)
RefusesEither drive w bucket first_file second_file first second one two OneFile =
    (is_bucket bucket ≡ true) × (first_file ≡ second_file) × (one ≡ first) × (two ≡ second)
RefusesEither drive w bucket first_file second_file first second one two (First why) =
    (is_bucket bucket ≡ true) × NotOpens w first_file (drive first) (drive one) why × (two ≡ second)
RefusesEither drive w bucket first_file second_file first second one two (Second why) =
    (is_bucket bucket ≡ true) × WasOpened w first_file (drive first) (drive one) × NotOpens w second_file (drive second) (drive two) why
RefusesEither drive w bucket first_file second_file first second one two Differ =
    (is_bucket bucket ≡ true) × DiffersIn w first_file second_file (drive first) (drive second) (drive one) (drive two)
RefusesEither drive w bucket first_file second_file first second one two Disk =
    (is_bucket bucket ≡ true) × GoesNotOn drive w (λ cells. FailsToClear) first_file second_file first second one two
RefusesEither drive w bucket first_file second_file first second one two Memory =
    (is_bucket bucket ≡ true) × GoesNotOn drive w (λ cells. Clears (length cells)) first_file second_file first second one two

-- The same if one of the two files wasn't opened and the bucket size is allowed.
abbrev pub RefusesBoth : {D : Type 0} → (D → Drive) → ℕ → List ℕ → List ℕ → D → D → D → D → EitherCause → Type 0
RefusesBoth drive w first_file second_file first second one two (First why) = NotOpens w first_file (drive first) (drive one) why × (two ≡ second)
RefusesBoth drive w first_file second_file first second one two (Second why) =
    WasOpened w first_file (drive first) (drive one) × NotOpens w second_file (drive second) (drive two) why
RefusesBoth drive w first_file second_file first second one two Bucket = ⊥
RefusesBoth drive w first_file second_file first second one two OneFile = ⊥
RefusesBoth drive w first_file second_file first second one two Differ = ⊥
RefusesBoth drive w first_file second_file first second one two Disk = ⊥
RefusesBoth drive w first_file second_file first second one two Memory = ⊥

-- A cause that the bytes don't decide: memory ran out, or the fault count of a drive rose.
abbrev pub IsOfMemory : EitherCause → Type 0
IsOfMemory cause = (cause ≡ Memory) ⊎ (cause ≡ First opening.Memory) ⊎ (cause ≡ Second opening.Memory)

abbrev pub IsFreeEither : Drive → Drive → Drive → Drive → EitherCause → Type 0
IsFreeEither first second one two cause = IsOfMemory cause ⊎ Rose first.faults one.faults ⊎ Rose second.faults two.faults

-- When the opening of two files is refused, for which cause, and what that leaves. A bucket size that isn't allowed is
-- always refused, and so is one name for both files (`bucket`, `one_file`). Otherwise a fault that the bytes of a file show
-- is the cause, that of the first file first (`exact_first`, `exact_second`). Two files that can be opened are refused for
-- their content only if they differ (`whole`). In the last three cases memory or a drive may refuse too. `refused` says
-- what each cause leaves.
pub record RefusesEitherExactly {A D : Type 0} (drive : D → Drive) (w size : ℕ) (first_file second_file : List ℕ) (first second : D) (result : Result A (NotEither D)) : Type 0 where
  pub refused : IfErr result (λ (e : NotEither D). RefusesEither drive w size first_file second_file first second e.first e.second e.cause)
  pub bucket : is_bucket size ≡ false → IsErrAnd result (λ (e : NotEither D). e.cause ≡ Bucket)
  pub one_file : is_bucket size ≡ true → first_file ≡ second_file → IsErrAnd result (λ (e : NotEither D). e.cause ≡ OneFile)
  pub exact_first : (fault : OpenFault) → is_bucket size ≡ true → first_file ≢ second_file → ShowsFault w (drive first) fault
      → IsErrAnd result (λ (e : NotEither D). (e.cause ≡ First (opening.Log fault)) ⊎ IsFreeEither (drive first) (drive second) (drive e.first) (drive e.second) e.cause)
  pub exact_second : (fault : OpenFault) → is_bucket size ≡ true → first_file ≢ second_file → CanOpen w (drive first) → ShowsFault w (drive second) fault
      → IsErrAnd result (λ (e : NotEither D). (e.cause ≡ Second (opening.Log fault)) ⊎ IsFreeEither (drive first) (drive second) (drive e.first) (drive e.second) e.cause)
  pub whole : is_bucket size ≡ true → first_file ≢ second_file → CanOpen w (drive first) → CanOpen w (drive second)
      → IfErr result (λ (e : NotEither D). (e.cause ≡ Differ) ⊎ IsFreeEither (drive first) (drive second) (drive e.first) (drive e.second) e.cause)

-- The result of clearing a log, if no store continues over the other log.
abbrev pub CameOf : ℕ → EitherCause → Drive → Drive → Type 0
CameOf count Disk old new = FailsToClear old new
CameOf count Memory old new = Clears count old new
CameOf count Bucket old new = ⊥
CameOf count OneFile old new = ⊥
CameOf count Differ old new = ⊥
CameOf count (First why) old new = ⊥
CameOf count (Second why) old new = ⊥

-- A store continues over one of two logs that were opened, and the other log is cleared.
pub record BeginsEither {D : Type 0} (drive : D → Drive) (bucket : ℕ) (one two : Seen) (log also : LogView D) (start begun : D) (which : Which) (lock : TableId) (pass : Known) (points : ℕ) (latest : Option ℕ) (records : ℕ) (spare : D) : Type 0 where
  pub may : MayGoOn which (chosen_of which one two) (other_of which one two)
  pub begins : BeginsOver drive bucket (chosen_of which one two) (chosen_of which start begun) lock pass points latest records
  pub cleared : Clears (other_of which log also).cells (drive (other_of which log also).disk) (drive spare)
  pub keeps : KeepsOrClears (drive (other_of which log also).disk) (drive spare)

-- The store could continue over one log. The clearing of the other log had this result.
pub record BeginsNone {D : Type 0} (drive : D → Drive) (one two : Seen) (log also : LogView D) (first second : D) (why : EitherCause) : Type 0 where
  pub which : Which
  pub may : MayGoOn which (chosen_of which one two) (other_of which one two)
  pub kept : chosen_of which first second ≡ (chosen_of which log also).disk
  pub came : CameOf (other_of which log also).cells why (drive (other_of which log also).disk) (drive (other_of which first second))
  pub keeps : KeepsOrClears (drive (other_of which log also).disk) (drive (other_of which first second))

-- The same, or the two logs leave different objects and are unchanged since they were opened.
abbrev pub BeginsNeither : {D : Type 0} → (D → Drive) → Seen → Seen → LogView D → LogView D → D → D → EitherCause → Type 0
BeginsNeither drive one two log also first second Differ = (first ≡ log.disk) × (second ≡ also.disk) × Chooses one two None
BeginsNeither drive one two log also first second Disk = BeginsNone drive one two log also first second Disk
BeginsNeither drive one two log also first second Memory = BeginsNone drive one two log also first second Memory
BeginsNeither drive one two log also first second Bucket = ⊥
BeginsNeither drive one two log also first second OneFile = ⊥
BeginsNeither drive one two log also first second (First why) = ⊥
BeginsNeither drive one two log also first second (Second why) = ⊥
