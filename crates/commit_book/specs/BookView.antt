-- What contracts see of a book.
use Rattle.std.specs.Prelude.{ℕ, ◌+◌, Bool, true, false, List, [], Option, None}
use Rattle.index_layer.specs.Leaves.{Leaf}
use Rattle.index_layer.specs.Stands.{Stands}
use Rattle.plain_list.specs.declared.entries.Entry.{Entry}
use Rattle.plain_list.specs.World.{places_of}
use Rattle.plain_list.specs.History.{world_after}
use Rattle.plain_list.specs.State.{State, state_after}
use Rattle.split_log.specs.LogView.{LogView}
use Rattle.kept_log.specs.KeptView.{KeptView}

-- The leaves of the index, the state at which the book began, the history since, the bucket size in rows, and the log.
-- `kept` is whether the book keeps the list of its entries. If it doesn't, `entries` is the history for contracts alone.
pub record BookView (D : Type 0) : Type 0 where
  pub leaves : List Leaf
  pub opening : State
  pub entries : List Entry
  pub bucket : ℕ
  pub log : Option (KeptView D)
  pub kept : Bool

-- the number of the next split
abbrev pub next_number : {D : Type 0} → ℕ → BookView D → ℕ
next_number w b = (state_after w b.opening b.entries).begun + 1

-- these leaves stand for the world after the history, and have the leaf names of its state
abbrev pub StandsAfter : {D : Type 0} → ℕ → BookView D → List Leaf → Type 0
StandsAfter w b leaves = Stands leaves (places_of (world_after b.opening.world b.entries)) (state_after w b.opening b.entries).leaves

-- A log as it was opened on this drive, with no record more. Each record is written at once, and no fresh log may replace
-- it.
abbrev pub first_log : {D : Type 0} → LogView D → D → KeptView D
first_log log start = record {
  disk = log.disk;
  cells = log.cells;
  failed = None;
  start = start;
  first = log.cells;
  waiting = [];
  at_sync = false;
  moves = false;
  earlier = None;
}

-- the list that is left of a history: the whole history if the list is kept, and else no entry
abbrev pub list_in : Bool → List Entry → List Entry
list_in true entries = entries
list_in false entries = []
