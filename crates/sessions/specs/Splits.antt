-- What a split leaves of its pass, and why one is not made.
use Rattle.std.specs.Prelude.{◌≡◌, ◌⊎◌, ℕ, ◌+◌, Bool, List, [], ◌∷◌, ◌++◌, length, Option, is_some, Result, Ok, Err, IsTrue, ⊤}
use mathlib.Core.List.{IsPrefix}
use Rattle.bucket_versions.specs.declared.row.Row.{Row}
use Rattle.bucket_versions.specs.Rows.{as_base}
use Rattle.plain_list.specs.declared.entries.Entry.{Entry}
use Rattle.plain_list.specs.declared.entries.Entry.TheVariants.{Begin, Install, Abandon}
use Rattle.plain_list.specs.declared.entries.Lost.{Lost}
use Rattle.plain_list.specs.declared.entries.Lost.TheVariants as lost
use Rattle.plain_list.specs.World.{places_of}
use Rattle.plain_list.specs.History.{world_after}
use Rattle.plain_list.specs.State.{State, state_after, split_name}
use Rattle.book_lock.specs.Pass.{Known}
use Rattle.book_lock.specs.Own.{IsBelow}
use Rattle.book_lock.specs.declared.origin.Origin.{Origin}
use Rattle.commit_book.specs.KeptBases.{HasBaseOf}
use Rattle.commit_book.specs.Refusals.{IsDisk, IsMemoryOrDisk, first_of, closed_refusal, room_refusal, leaf_refusal, end_refusal}
use Rattle.commit_book.specs.declared.faults.BookFault.{BookFault}
use Rattle.commit_book.specs.declared.faults.BookFault.TheVariants as book
use Rattle.split_prepare.specs.declared.ticket.SplitTicket.{SplitTicket}
use Rattle.sessions.specs.Shared.{start_of}
use Rattle.sessions.specs.Steps.{IsStep}
use Rattle.sessions.specs.declared.faults.Split.{Split}
use Rattle.sessions.specs.declared.faults.Split.TheVariants.{Installed, NotSplit}

-- The state of a store of this origin after a history.
abbrev pub state_of : ℕ → Origin → List Entry → State
state_of w origin before = state_after w (start_of origin) before

-- Why the begin of a split is refused after a history.
abbrev pub begin_cause : ℕ → Origin → List Bool → ℕ → List Entry → Option BookFault
begin_cause w origin name cells before =
    first_of (closed_refusal before) (first_of (room_refusal origin.kept cells (length before)) (leaf_refusal w (state_of w origin before) name))

-- The split has the next number.
abbrev pub IsNextSplit : ℕ → Origin → List Entry → ℕ → Type 0
IsNextSplit w origin before number = number ≡ (state_of w origin before).begun + 1

-- The number of a split that was begun.
abbrev pub number_of : Result SplitTicket BookFault → Result ℕ BookFault
number_of (Ok ticket) = Ok ticket.number
number_of (Err fault) = Err fault

-- The begin of a split of a leaf, under the lock.
abbrev pub BeginsSplit : ℕ → List Bool → Known → Known → Result ℕ BookFault → Type 0
BeginsSplit w name old new result =
    IsStep IsMemoryOrDisk (begin_cause w old.origin name) (λ number. Begin number name) (λ before. lost.Begin ((state_of w old.origin before).begun + 1) name) (IsNextSplit w old.origin) old new result

-- A step that ends a split. The split is open in the history that the pass saw under the lock, so only causes that any
-- step has refuse it.
pub record EndsOpen (w number : ℕ) (IsFree : BookFault → Type 0) (e : Entry) (left : Lost) (old new : Known) (result : Result (Unit {0}) BookFault) : Type 0 where
  pub step : IsStep IsFree (end_refusal old.origin.kept) (λ done. e) (λ before. left) (λ before done. ⊤) old new result
  pub is_open : IsTrue (is_some (split_name (state_of w old.origin step.before).splits number))

-- The install of a split that the pass has begun.
abbrev pub InstallsSplit : ℕ → ℕ → Known → Known → Result (Unit {0}) BookFault → Type 0
InstallsSplit w number old new result = EndsOpen w number IsMemoryOrDisk (Install number) (lost.Install number) old new result

-- The abandonment of a split that the pass has begun. It takes no memory.
abbrev pub AbandonsSplit : ℕ → ℕ → Known → Known → Result (Unit {0}) BookFault → Type 0
AbandonsSplit w number old new result = EndsOpen w number IsDisk (Abandon number) (lost.Abandon number) old new result

-- The begin of this split is the last of the pass's own entries. The leaf had these rows then.
pub record HasBegun (pass : Known) (number : ℕ) (name : List Bool) (base : List Row) : Type 0 where
  pub before : List Entry
  pub own : List ℕ
  pub seen : IsPrefix (before ++ Begin number name ∷ []) pass.seen
  pub own_is : pass.own ≡ own ++ length before ∷ []
  pub below : IsBelow (length before) own
  pub rows : HasBaseOf (places_of (world_after pass.origin.world before)) (record { name = name; bucket = as_base base })

-- Any fault except a lack of memory.
abbrev pub IsLasting : BookFault → Type 0
IsLasting (book.Disk cell) = ⊤
IsLasting (book.Closed cell) = ⊤
IsLasting book.HistoryFull = ⊤
IsLasting book.LogFull = ⊤
IsLasting book.Memory = ⊥
IsLasting (book.Room cells events) = ⊤
IsLasting (book.Splitting number) = ⊤
IsLasting book.Deep = ⊤
IsLasting book.NoLeaf = ⊤
IsLasting (book.Stale number) = ⊤
IsLasting (book.NotOpen number) = ⊤

-- A split is given up because memory ran out. It is abandoned, or its abandonment is refused.
abbrev pub GivesUp : ℕ → ℕ → Known → Known → BookFault → Type 0
GivesUp w number old new fault = ((fault ≡ book.Memory) × AbandonsSplit w number old new (Ok tt)) ⊎ AbandonsSplit w number old new (Err fault)

-- Memory ran out in the preparation, or in the install.
abbrev pub RanOut : ℕ → ℕ → Known → Known → Type 0
RanOut w number mid seen = (seen ≡ mid) ⊎ InstallsSplit w number mid seen (Err book.Memory)

-- A split that was begun is not installed. The install is refused, or memory ran out and the split is given up.
abbrev pub NotInstalled : ℕ → ℕ → Known → Known → BookFault → Type 0
NotInstalled w number mid new fault = (IsLasting fault × InstallsSplit w number mid new (Err fault)) ⊎ ((seen : Known) × RanOut w number mid seen × GivesUp w number seen new fault)

-- How a split ends that was begun.
abbrev pub BegunEnds : ℕ → ℕ → Known → Known → Split → Type 0
BegunEnds w number mid new (Installed n) = (n ≡ number) × InstallsSplit w number mid new (Ok tt)
BegunEnds w number mid new (NotSplit fault) = NotInstalled w number mid new fault

-- The split was begun, and has this number.
abbrev pub BeginsAs : ℕ → List Bool → Known → Known → ℕ → Type 0
BeginsAs w name old mid number = BeginsSplit w name old mid (Ok number)

-- How a split ends, or why it does not begin.
abbrev pub SplitEnds : ℕ → List Bool → Known → Known → Split → Type 0
SplitEnds w name old new (Installed number) = (mid : Known) × BeginsAs w name old mid number × InstallsSplit w number mid new (Ok tt)
SplitEnds w name old new (NotSplit fault) =
    BeginsSplit w name old new (Err fault) ⊎ ((number : ℕ) × (mid : Known) × BeginsAs w name old mid number × NotInstalled w number mid new fault)

-- The leaf is not split, and the fact holds of the fault.
abbrev pub IsNotSplit : (BookFault → Type 0) → Split → Type 0
IsNotSplit P (Installed number) = ⊥
IsNotSplit P (NotSplit fault) = P fault

-- A call changes only what a pass has seen and owns, and what it has seen only grows.
abbrev pub SamePass : Known → Known → Type 0
SamePass old new = IsPrefix old.seen new.seen × (new ≡ record old { seen = new.seen; own = new.own })
