-- The rows that a seed makes.
use Rattle.std.specs.Prelude.{ℕ, ◌+◌, ◌*◌, ◌/◌, ◌%◌, nat_lt, min, List, map, if◌then◌else◌, ◌==◌}
use Rattle.std.specs.List.{range_with_len}
use Rattle.zorder.specs.declared.points.Point.{Point}
use Rattle.zorder.specs.declared.points.Region.{Region}
use Rattle.plain_list.specs.declared.ops.Op.{Op}
use Rattle.plain_list.specs.declared.ops.Op.TheVariants as op
use Rattle.csv_rows.specs.declared.rows.InRow.{InRow}
use Rattle.make_moves.specs.Draws.{after_draws, draw_at}

-- the session of the row after i others: 1 to 16, one after the other
abbrev pub session_at : ℕ → ℕ
session_at i = 1 + i % 16

-- the id for a session and a draw: one of the session's own thousand ids
abbrev pub made_id : ℕ → ℕ → ℕ
made_id session u = 1000 * session + u / 16 % 1000

-- the coordinate 16,777,216 further on, or the end of the axis
abbrev pub reach : ℕ → ℕ
reach x = min (x + 16777216) 4294967295

-- the box from a point to the point that far on, on both axes
abbrev pub box_from : Point → Region
box_from at = record { lo = at; hi = record { x = reach at.x; y = reach at.y } }

-- the moment of a position: the upper half of its x
abbrev pub moment_of : Point → ℕ
moment_of at = at.x / 65536

-- the operation for the last decimal digit of the first draw: 4 of 10 are puts, 2 moves, and 1 each drop, where, box,
-- near
abbrev pub op_by : ℕ → ℕ → ℕ → Point → Op
op_by digit id k at =
    if nat_lt digit 4 then op.Put id at (moment_of at) else if nat_lt digit 6 then op.Move id at (moment_of at) else if digit == 6 then op.Remove id else if digit == 7 then op.Find id else if digit == 8 then op.Within (box_from at) else op.Near at k

-- the operation of a session, from its first draw and the point that the other two make
abbrev pub made_op : ℕ → ℕ → Point → Op
made_op session u at = op_by (u % 10) (made_id session u) (1 + u / 16 % 8) at

-- the row after i others, from the three draws that begin at this state
abbrev pub row_drawn : ℕ → ℕ → InRow
row_drawn i state = record { session = session_at i; op = made_op (session_at i) (draw_at state 0) (record { x = draw_at state 1; y = draw_at state 2 }) }

-- the row after i others, each of which took three draws
abbrev pub made_row : ℕ → ℕ → InRow
made_row seed i = row_drawn i (after_draws (3 * i) seed)

-- the first n rows of a seed
abbrev pub made_rows : ℕ → ℕ → List InRow
made_rows n seed = map (made_row seed) (range_with_len 0 n)
