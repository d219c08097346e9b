-- Why a call of a book is refused: the first cause that applies.
use Rattle.std.specs.Prelude.{◌≡◌, ◌⊎◌, ℕ, ◌+◌, nat_lt, ◌==◌, Bool, true, false, not, ◌&&◌, List, [], ◌∷◌, ◌++◌, length, if◌then◌else◌, Option, Some, None, is_some, Result, Ok, Err, ⊤}
use Rattle.std.specs.Option.{option_map, option_map_or}
use Rattle.zorder.specs.SameName.{same_name}
use Rattle.bucket_versions.specs.declared.row.Row.{Row}
use Rattle.bucket_versions.specs.Rows.{same_rows}
use Rattle.index_layer.specs.Leaves.{Leaf, leaf_named}
use Rattle.plain_list.specs.declared.ops.Op.{Op}
use Rattle.plain_list.specs.declared.entries.Entry.{Entry}
use Rattle.plain_list.specs.declared.entries.Entry.TheVariants.{Fail}
use Rattle.plain_list.specs.declared.entries.Lost.{Lost}
use Rattle.plain_list.specs.declared.entries.Lost.TheVariants as lost
use Rattle.plain_list.specs.Answer.{answer_of, is_change}
use Rattle.plain_list.specs.History.{world_after, failed_cell}
use Rattle.plain_list.specs.State.{State, OpenSplit, split_name, is_leaf, state_after}
use Rattle.disk_trait.specs.Drive.{Drive}
use Rattle.split_prepare.specs.Prepared.{PreparedView}
pub use Rattle.split_log.specs.LogView.{most_cells}
use Rattle.kept_log.specs.Journal.{cells_in, written_in, RoseIn}
use Rattle.commit_book.specs.BookView.{BookView}
use Rattle.commit_book.specs.IsBook.{most_events}
pub use Rattle.commit_book.specs.Room.{most_events_to_begin, most_cells_to_begin, has_no_room}
use Rattle.commit_book.specs.declared.faults.BookFault.{BookFault}
use Rattle.commit_book.specs.declared.faults.BookFault.TheVariants.{Closed, Disk, HistoryFull, LogFull, Memory, Room, Splitting, Deep, NoLeaf, Stale, NotOpen}

-- the drive failed
abbrev pub IsDisk : BookFault → Type 0
IsDisk (Disk cell) = ⊤
IsDisk _ = ⊥

-- memory ran out
abbrev pub IsMemory : BookFault → Type 0
IsMemory fault = fault ≡ Memory

-- memory ran out, or the drive failed
abbrev pub IsMemoryOrDisk : BookFault → Type 0
IsMemoryOrDisk fault = IsMemory fault ⊎ IsDisk fault

-- no fault except the cause
abbrev pub IsNoFault : BookFault → Type 0
IsNoFault fault = ⊥

-- the call is refused by this cause; if there is none, it returns Ok, or a fault of the kind that is free to come
abbrev pub IsRefusedBy : {A : Type 0} → (BookFault → Type 0) → Option BookFault → Result A BookFault → Type 0
IsRefusedBy IsFree (Some cause) result = result ≡ Err cause
IsRefusedBy IsFree None (Ok value) = ⊤
IsRefusedBy IsFree None (Err fault) = IsFree fault

-- a lost call would have changed the world
abbrev pub WouldChange : {D : Type 0} → BookView D → Lost → Type 0
WouldChange b (lost.Call session row op) = is_change (answer_of (world_after b.opening.world b.entries) op) ≡ true
WouldChange b _ = ⊤

-- An append failed. The history ends with the entry of the lost step, and the book is closed. `cell` is the number of
-- records in the file before: the first record that the file may lack.
pub record Closes {D : Type 0} (drive : D → Drive) (lost : Lost) (old new : BookView D) (cell : ℕ) : Type 0 where
  pub entries : new.entries ≡ old.entries ++ Fail cell lost ∷ []
  pub cell_is : cell ≡ written_in old.log
  pub leaves : new.leaves ≡ old.leaves
  pub rose : RoseIn drive old.log new.log
  pub change : WouldChange old lost

-- what a refused call leaves: a closed book if the drive failed, and else the unchanged book
abbrev pub LeavesRefused : {D : Type 0} → (D → Drive) → Lost → BookView D → BookView D → BookFault → Type 0
LeavesRefused drive lost old new (Disk cell) = Closes drive lost old new cell
LeavesRefused drive lost old new _ = new ≡ old

-- the first cause, or the later one if there is no first
abbrev pub first_of : Option BookFault → Option BookFault → Option BookFault
first_of (Some cause) later = Some cause
first_of None later = later

-- an append has failed
abbrev pub closed_refusal : List Entry → Option BookFault
closed_refusal entries = option_map Closed (failed_cell entries)

abbrev pub events_refusal : Bool → List Entry → Option BookFault
events_refusal kept entries = if length entries == most_events kept then Some HistoryFull else None

-- why a query is refused
abbrev pub call_refusal : Bool → List Entry → Option BookFault
call_refusal kept entries = first_of (closed_refusal entries) (events_refusal kept entries)

-- why the end of a split is refused
abbrev pub end_refusal : Bool → ℕ → List Entry → Option BookFault
end_refusal kept cells entries = first_of (call_refusal kept entries) (if cells == most_cells then Some LogFull else None)

-- why a change or a find is refused; a find, and a call that changes nothing, needs no record
abbrev pub update_refusal : {D : Type 0} → BookView D → Op → Option BookFault
update_refusal b op =
    first_of (call_refusal b.kept b.entries)
    (if (cells_in b.log == most_cells) && is_change (answer_of (world_after b.opening.world b.entries) op) then Some LogFull else None)

-- the number of the open split of this name
abbrev pub split_number : List OpenSplit → List Bool → Option ℕ
split_number [] name = None
split_number (s ∷ splits) name = if same_name s.name name then Some s.number else split_number splits name

-- why the begin of a split is refused at a state, if there is room
abbrev pub leaf_refusal : ℕ → State → List Bool → Option BookFault
leaf_refusal w s name =
    if not (is_leaf s.leaves name) then Some NoLeaf
    else if nat_lt 64 (length name + w) then Some Deep
    else option_map Splitting (split_number s.splits name)

abbrev pub room_refusal : Bool → ℕ → ℕ → Option BookFault
room_refusal kept cells events = if has_no_room kept cells events then Some (Room cells events) else None

-- why the begin of a split is refused
abbrev pub begin_refusal : {D : Type 0} → ℕ → BookView D → List Bool → Option BookFault
begin_refusal w b name =
    first_of (closed_refusal b.entries) (first_of (room_refusal b.kept (cells_in b.log) (length b.entries)) (leaf_refusal w (state_after w b.opening b.entries) name))

-- whether an open split has this number and this name
abbrev pub is_open : List OpenSplit → ℕ → List Bool → Bool
is_open splits number name = option_map_or (λ (n : List Bool). same_name n name) (split_name splits number) false

-- whether the leaf of this name exists and has this base
abbrev pub has_base : List Leaf → List Bool → List Row → Bool
has_base leaves name base = option_map_or (λ (l : Leaf). same_rows l.bucket.base base) (leaf_named name leaves) false

-- why the install of a split with this number, name and base is refused
abbrev pub install_refusal : {D : Type 0} → ℕ → BookView D → ℕ → List Bool → List Row → Option BookFault
install_refusal w b number name base =
    first_of (end_refusal b.kept (cells_in b.log) b.entries)
    (if is_open (state_after w b.opening b.entries).splits number name && has_base b.leaves name base then None else Some (Stale number))

abbrev pub prepared_refusal : {D : Type 0} → ℕ → BookView D → PreparedView → Option BookFault
prepared_refusal w b p = install_refusal w b p.number p.name p.base

-- why the abandonment of a split is refused
abbrev pub abandon_refusal : {D : Type 0} → ℕ → BookView D → ℕ → Option BookFault
abandon_refusal w b number =
    first_of (end_refusal b.kept (cells_in b.log) b.entries) (if is_some (split_name (state_after w b.opening b.entries).splits number) then None else Some (NotOpen number))
