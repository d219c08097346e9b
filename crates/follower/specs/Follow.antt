-- A follower along a schedule of turns.
use Rattle.std.specs.Prelude.{ℕ, ◌+◌, ◌-◌, ◌≤◌, nat_lt, ◌==◌, ◌&&◌, max, List, [], ◌∷◌, ◌++◌, length, slice_index, if◌then◌else◌, ⊤}
use Rattle.std.specs.List.{AllByRecursion}
use Rattle.follower.specs.declared.turns.Turn.{Turn}
use Rattle.follower.specs.declared.turns.Turn.TheVariants.{Send, Arrive, Ack, Restart}
use Rattle.follower.specs.declared.turns.Report.{Report}

-- How many cells are held, and how many of them the leader knows to be held. The packets that were sent, each with the
-- number of its cell. The acknowledgements that were sent, each with the number of cells that were held then.
pub record Following : Type 0 where
  pub held : ℕ
  pub known : ℕ
  pub packets : List ℕ
  pub acks : List ℕ

-- A follower that was just opened and holds `held` cells.
abbrev pub opened_with : ℕ → Following
opened_with held = record { held = held; known = 0; packets = []; acks = [] }

-- The number of the cell that a packet carries.
abbrev pub cell_of : ℕ → Following → ℕ
cell_of packet s = slice_index s.packets (packet - 1)

-- How many of `count` cells are held after a packet: one more if it carries the next one.
abbrev pub held_after : ℕ → ℕ → ℕ → ℕ
held_after count packet held = if (packet == held) && nat_lt held count then held + 1 else held

-- `held` cells are held, and that was acknowledged.
abbrev pub acknowledging : ℕ → Following → Following
acknowledging held s = record s { held = held; acks = s.acks ++ held ∷ [] }

-- The state after a turn, if the leader has `count` cells.
abbrev pub after_turn : ℕ → Following → Turn → Following
after_turn count s (Send cell) = record s { packets = s.packets ++ cell ∷ [] }
after_turn count s (Arrive packet) = acknowledging (held_after count (cell_of packet s) s.held) s
after_turn count s (Ack number) = record s { known = max s.known (slice_index s.acks (number - 1)) }
after_turn count s Restart = s

abbrev pub after_turns : ℕ → Following → List Turn → Following
after_turns count s [] = s
after_turns count s (t ∷ turns) = after_turns count (after_turn count s t) turns

-- Both numbers.
abbrev pub report_of : Following → Report
report_of s = record { held = s.held; known = s.known }

-- The report after each turn.
abbrev pub reports : ℕ → Following → List Turn → List Report
reports count s [] = []
reports count s (t ∷ turns) = report_of (after_turn count s t) ∷ reports count (after_turn count s t) turns

-- At most as many cells are known to be held, and were acknowledged, as are held.
pub record IsSound (s : Following) : Type 0 where
  pub known : s.known ≤ s.held
  pub acks : AllByRecursion (λ (a : ℕ). a ≤ s.held) s.acks

-- A turn names only what was sent before it, if that many packets and acknowledgements were sent.
abbrev pub NamesSent : ℕ → ℕ → Turn → Type 0
NamesSent packets acks (Send cell) = ⊤
NamesSent packets acks (Arrive packet) = (1 ≤ packet) × (packet ≤ packets)
NamesSent packets acks (Ack number) = (1 ≤ number) × (number ≤ acks)
NamesSent packets acks Restart = ⊤

-- How many packets, and acknowledgements, were sent after a turn.
abbrev pub packets_after : ℕ → Turn → ℕ
packets_after packets (Send cell) = packets + 1
packets_after packets (Arrive packet) = packets
packets_after packets (Ack number) = packets
packets_after packets Restart = packets

abbrev pub acks_after : ℕ → Turn → ℕ
acks_after acks (Send cell) = acks
acks_after acks (Arrive packet) = acks + 1
acks_after acks (Ack number) = acks
acks_after acks Restart = acks

abbrev pub AllNameSent : ℕ → ℕ → List Turn → Type 0
AllNameSent packets acks [] = ⊤
AllNameSent packets acks (t ∷ turns) = NamesSent packets acks t × AllNameSent (packets_after packets t) (acks_after acks t) turns

-- At most 65,536 such turns.
pub record AreTurns (turns : List Turn) : Type 0 where
  pub each : AllNameSent 0 0 turns
  pub most : length turns ≤ 65536
