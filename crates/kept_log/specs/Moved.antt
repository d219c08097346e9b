-- A log that has replaced another one in the middle of a history: its own history, and the state in which it began. The
-- log numbers its splits from its own beginning, so its numbers are less than those of the history.
use Rattle.std.specs.Prelude.{ℕ, ◌-◌, List, map, Option, Some, None}
use Rattle.cell_format.specs.declared.cell.Cell.{Cell}
use Rattle.cell_format.specs.declared.cell.Cell.TheVariants as cell
use Rattle.plain_list.specs.declared.entries.Lost.{Lost}
use Rattle.plain_list.specs.declared.entries.Lost.TheVariants as lost
use Rattle.plain_list.specs.declared.entries.Entry.{Entry}
use Rattle.plain_list.specs.declared.entries.Entry.TheVariants.{Fail, Call, Begin, Install, Abandon}
use Rattle.plain_list.specs.State.{State, OpenSplit, state_after}
use Rattle.kept_log.specs.KeptView.{KeptView, Earlier}

-- The cell, with `n` taken from the number of its split.
abbrev pub lessen_cell : ℕ → Cell → Cell
lessen_cell n (cell.Put id at moment) = cell.Put id at moment
lessen_cell n (cell.Move id at moment) = cell.Move id at moment
lessen_cell n (cell.Remove id) = cell.Remove id
lessen_cell n (cell.Begin number name) = cell.Begin (number - n) name
lessen_cell n (cell.Install number) = cell.Install (number - n)
lessen_cell n (cell.Abandon number) = cell.Abandon (number - n)

-- The step that was lost, alike.
abbrev pub lessen_lost : ℕ → Lost → Lost
lessen_lost n (lost.Call session row op) = lost.Call session row op
lessen_lost n (lost.Begin number name) = lost.Begin (number - n) name
lessen_lost n (lost.Install number) = lost.Install (number - n)
lessen_lost n (lost.Abandon number) = lost.Abandon (number - n)

-- The entry, alike.
abbrev pub lessen : ℕ → Entry → Entry
lessen n (Call session row op) = Call session row op
lessen n (Begin number name) = Begin (number - n) name
lessen n (Install number) = Install (number - n)
lessen n (Abandon number) = Abandon (number - n)
lessen n (Fail number left) = Fail number (lessen_lost n left)

-- The open split, alike.
abbrev pub lessen_split : ℕ → OpenSplit → OpenSplit
lessen_split n split = record { number = split.number - n; name = split.name }

-- The state, with `n` taken from the numbers of its open splits and from the number of splits that have begun.
abbrev pub fewer : ℕ → State → State
fewer n s = record { world = s.world; leaves = s.leaves; splits = map (lessen_split n) s.splits; begun = s.begun - n }

-- The state in which the log began, as its own cells tell it, if the history began at `s`.
abbrev pub own_state : {D : Type 0} → ℕ → State → Earlier D → State
own_state w s e = fewer e.skipped (state_after w s e.entries)

-- Entries of the history, as the log's own cells tell them.
abbrev pub own_entries : {D : Type 0} → Earlier D → List Entry → List Entry
own_entries e es = map (lessen e.skipped) es

-- The log by itself, from its own opening on.
abbrev pub own_view : {D : Type 0} → Earlier D → KeptView D → KeptView D
own_view e log = record log { start = e.start; first = e.first; earlier = None }

-- The log, as if it had replaced no other one.
abbrev pub alone : {D : Type 0} → KeptView D → KeptView D
alone log = record log { earlier = None }

-- A log by itself as a store sees it, with what came before its opening: the first opening is that of the first log.
abbrev pub seen_as : {D : Type 0} → KeptView D → Option (Earlier D) → KeptView D
seen_as own None = alone own
seen_as own (Some before) = record own {
  start = before.start;
  first = before.first;
  earlier = Some (record { entries = before.entries; skipped = before.skipped; start = own.start; first = own.first });
}

-- The first opening of a log with this opening of its own, and what came before it.
abbrev pub seen_first : {D : Type 0} → D → ℕ → Option (Earlier D) → D × ℕ
seen_first start first None = (start, first)
seen_first start first (Some before) = (before.start, before.first)
