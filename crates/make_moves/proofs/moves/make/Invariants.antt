use Rattle.std.proofs.Common.{◌≡◌, ◌*◌}
use Rattle.make_moves.specs.Draws.{after_draws}
use Rattle.make_moves.specs.Moves.{made_rows}
use Rattle.make_moves.proofs.moves.make.Given as goal

-- the rows so far were made, and each took three draws
abbrev pub invariant-loop-i : goal.invariant-loop-i
invariant-loop-i l = record { rows : l.rows.items ≡ made_rows l.i l.fn.seed; state : l.draws.state ≡ after_draws (3 * l.i) l.fn.seed }
