-- A run's source, sink and two drives, and what a command did with them.
use Rattle.std.specs.Prelude.{◌≡◌, ℕ, List, []}
use Rattle.io_edge.specs.Streams.{Input, Output}
use Rattle.disk_trait.specs.Drive.{Drive}
use Rattle.plain_list.specs.declared.entries.Entry.{Entry}
use Rattle.run_ends.specs.declared.ended.Drives.{Drives}
use Rattle.run_ends.specs.declared.ended.Ended.{Ended}

-- what a run writes to, a sink and two drives, as values and as contracts see them
pub record Targets (D : Type 0) : Type 1 where
  pub output : Output
  pub disk : D
  pub drive : Drive
  pub other : D
  pub other_drive : Drive

-- what a run reads from and writes to
pub record Ends (S D : Type 0) : Type 1 where
  pub source : S
  pub input : Input
  pub to : Targets D

-- what a command did: its ends before and after, its status, and the history of the rows that it called
pub record Done (E : Type 1) : Type 1 where
  pub old : E
  pub new : E
  pub status : ℕ
  pub history : List Entry

abbrev pub targets : {K D : Type 0} → (K → Output) → (D → Drive) → K → Drives D → Targets D
targets output drive sink drives = record { output = output sink; disk = drives.disk; drive = drive drives.disk; other = drives.other; other_drive = drive drives.other }

abbrev pub ends : {S K D : Type 0} → (S → Input) → (K → Output) → (D → Drive) → S → K → Drives D → Ends S D
ends input output drive source sink drives = record { source = source; input = input source; to = targets output drive sink drives }

-- what a command without a source did
abbrev pub written_by : {K D : Type 0} → (K → Output) → (D → Drive) → K → Drives D → K → Ended D → Done (Targets D)
written_by output drive sink drives after end =
    record { old = targets output drive sink drives; new = targets output drive after end.drives; status = end.status; history = end.history }

-- what a command with a source did
abbrev pub done_by : {S K D : Type 0} → (S → Input) → (K → Output) → (D → Drive) → S → K → Drives D → S → K → Ended D → Done (Ends S D)
done_by input output drive source sink drives left after end =
    record { old = ends input output drive source sink drives; new = ends input output drive left after end.drives; status = end.status; history = end.history }

-- what a command did, without its source
abbrev pub written_of : {S D : Type 0} → Done (Ends S D) → Done (Targets D)
written_of done = record { old = done.old.to; new = done.new.to; status = done.status; history = done.history }

-- no row was called, the second drive is unchanged, and P holds of the rest
pub record IsQuiet {D : Type 0} (P : Targets D → Targets D → ℕ → Type 0) (done : Done (Targets D)) : Type 0 where
  pub ends : P done.old done.new done.status
  pub none : done.history ≡ []
  pub other : done.new.other ≡ done.old.other

-- the source is unchanged, and P holds of the rest
pub record IsUnread {S D : Type 0} (P : Done (Targets D) → Type 0) (done : Done (Ends S D)) : Type 0 where
  pub did : P (written_of done)
  pub unread : done.new.source ≡ done.old.source
