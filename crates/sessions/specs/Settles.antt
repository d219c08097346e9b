-- What `settle` leaves, which makes the splits that are due at the end.
use Rattle.std.specs.Prelude.{◌≡◌, ◌⊎◌, ℕ, Bool, true, List, [], ◌∷◌, Option, Some, None, Result, Ok, Err, ⊤}
use Rattle.book_lock.specs.Pass.{Known}
use Rattle.commit_book.specs.Refusals.{closed_refusal}
use Rattle.commit_book.specs.declared.faults.BookFault.{BookFault}
use Rattle.commit_book.specs.declared.faults.BookFault.TheVariants as book
use Rattle.sessions.specs.Calls.{next_full}
use Rattle.sessions.specs.Shared.{moves_of}
use Rattle.sessions.specs.Splits.{BeginsSplit, SplitEnds, SamePass}
use Rattle.sessions.specs.declared.faults.Settled.{Settled}
use Rattle.sessions.specs.declared.faults.Settled.TheVariants.{Small, Room}
use Rattle.sessions.specs.declared.faults.Split.{Split}
use Rattle.sessions.specs.declared.faults.Split.TheVariants.{Installed, NotSplit}

-- The leaf to split next, if the book is not closed.
abbrev pub TellsNext : ℕ → Known → Result (Option (List Bool)) BookFault → Type 0
TellsNext w pass (Ok full) = (closed_refusal pass.seen ≡ None) × (full ≡ next_full w pass)
TellsNext w pass (Err fault) = closed_refusal pass.seen ≡ Some fault

-- Splits of the leaf that is next, one after another.
abbrev pub SplitsAll : ℕ → Known → List ℕ → Known → Type 0
SplitsAll w old [] new = new ≡ old
SplitsAll w old (number ∷ numbers) new = (name : List Bool) × (mid : Known) × (next_full w old ≡ Some name) × SplitEnds w name old mid (Installed number) × SplitsAll w mid numbers new

-- A fault that `settle` may return. The log is full only if a fresh log may replace it: the history then doesn't determine
-- how many cells it has.
abbrev pub IsSettleFault : Bool → BookFault → Type 0
IsSettleFault moves (book.Closed cell) = ⊤
IsSettleFault moves (book.Disk cell) = ⊤
IsSettleFault moves book.Memory = ⊤
IsSettleFault moves (book.Room cells events) = ⊥
IsSettleFault moves book.HistoryFull = ⊥
IsSettleFault moves book.LogFull = moves ≡ true
IsSettleFault moves (book.Splitting number) = ⊥
IsSettleFault moves book.Deep = ⊥
IsSettleFault moves book.NoLeaf = ⊥
IsSettleFault moves (book.Stale number) = ⊥
IsSettleFault moves (book.NotOpen number) = ⊥

-- Any fault except too little room for a split.
abbrev pub IsNoRoom : BookFault → Type 0
IsNoRoom (book.Room cells events) = ⊥
IsNoRoom (book.Closed cell) = ⊤
IsNoRoom (book.Disk cell) = ⊤
IsNoRoom book.HistoryFull = ⊤
IsNoRoom book.LogFull = ⊤
IsNoRoom book.Memory = ⊤
IsNoRoom (book.Splitting number) = ⊤
IsNoRoom book.Deep = ⊤
IsNoRoom book.NoLeaf = ⊤
IsNoRoom (book.Stale number) = ⊤
IsNoRoom (book.NotOpen number) = ⊤

-- Why the split of the next leaf may fail while no other caller is there: such a fault, or too little room.
abbrev pub IsNextFault : Bool → BookFault → Type 0
IsNextFault moves (book.Closed cell) = ⊤
IsNextFault moves (book.Disk cell) = ⊤
IsNextFault moves book.Memory = ⊤
IsNextFault moves (book.Room cells events) = ⊤
IsNextFault moves book.HistoryFull = ⊥
IsNextFault moves book.LogFull = moves ≡ true
IsNextFault moves (book.Splitting number) = ⊥
IsNextFault moves book.Deep = ⊥
IsNextFault moves book.NoLeaf = ⊥
IsNextFault moves (book.Stale number) = ⊥
IsNextFault moves (book.NotOpen number) = ⊥

-- The fact holds of the fault, if the leaf was not split.
abbrev pub SplitFault : (BookFault → Type 0) → Split → Type 0
SplitFault P (Installed number) = ⊤
SplitFault P (NotSplit fault) = P fault

-- Why `settle` ended. No leaf was due, or there was no room for the next split, or the book is closed, or the split
-- failed.
abbrev pub SettleEnds : ℕ → Known → Known → Result Settled BookFault → Type 0
SettleEnds w mid new (Ok Small) = TellsNext w mid (Ok None) × (new ≡ mid)
SettleEnds w mid new (Ok Room) = (name : List Bool) × (next_full w mid ≡ Some name) × (cells : ℕ) × (events : ℕ) × BeginsSplit w name mid new (Err (book.Room cells events))
SettleEnds w mid new (Err fault) =
    (TellsNext w mid (Err fault) × (new ≡ mid)) ⊎ ((name : List Bool) × (next_full w mid ≡ Some name) × IsSettleFault (moves_of mid.origin) fault × SplitEnds w name mid new (NotSplit fault))

-- Leaves were split as long as one was due and its split succeeded. `ends` says why that stopped.
pub record Settles (w : ℕ) (old new : Known) (result : Result Settled BookFault) : Type 0 where
  pub numbers : List ℕ
  pub mid : Known
  pub splits : SplitsAll w old numbers mid
  pub ends : SettleEnds w mid new result

-- The splits so far.
pub record Settling (w : ℕ) (old new : Known) : Type 0 where
  pub numbers : List ℕ
  pub splits : SplitsAll w old numbers new
  pub pass : SamePass old new
