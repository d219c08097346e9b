-- Made rows keep the rules of an input's rows.
use Rattle.std.proofs.Common.{◌≡◌, ℕ, zero, suc, ◌+◌, ◌*◌, ◌/◌, ◌%◌, ◌^◌, ◌<◌, ◌≤◌, Bool, true, false, cond, ◌==◌, arith, refl, subst}
use Rattle.std.specs.Prelude.{nat_lt, map}
use Rattle.std.specs.List.{AllByRecursion, range_with_len}
use Rattle.std.proofs.lemmas.List.FromFn.{length-map-range_with_len}
use Rattle.zorder.specs.declared.points.Point.{Point}
use Rattle.zorder.specs.Key.{IsPoint}
use Rattle.zorder.specs.Region.{IsBox}
use Rattle.plain_list.specs.declared.ops.Op.{Op}
use Rattle.plain_list.specs.declared.ops.Op.TheVariants as op
use Rattle.plain_list.specs.Answer.{IsValid, FitsOp}
use Rattle.csv_rows.specs.InRows.{IsInRow, AreInRows}
use Rattle.make_moves.specs.Draws.{next_state, after_draws, drawn, draw_at}
use Rattle.make_moves.specs.Moves.{made_id, moment_of, reach, box_from, op_by, session_at, row_drawn, made_row, made_rows}

drawn-fits : (state : ℕ) → drawn (next_state state) < 2 ^ 32
drawn-fits state = omega arith

at_drawn : (state : ℕ) → IsPoint (record { x = draw_at state 1; y = draw_at state 2 })
at_drawn state = record { x = drawn-fits (after_draws 1 state); y = drawn-fits (after_draws 2 state) }

reach-fits : (x : ℕ) → reach x < 2 ^ 32
reach-fits x = omega arith

reach-above : (x : ℕ) → x < 2 ^ 32 → x ≤ reach x
reach-above x fits = omega arith

IsBox-box_from : (at : Point) → IsPoint at → IsBox (box_from at)
IsBox-box_from at fits = record { x = reach-above at.x fits.x; y = reach-above at.y fits.y }

moment-fits : (at : Point) → IsPoint at → moment_of at < 2 ^ 64
moment-fits at fits = omega (arith, fits.x)

-- what a row asks of its operation
pub record KeepsRules (o : Op) : Type 0 where
  pub valid : IsValid o
  pub fits : FitsOp o

-- each operation that a digit may stand for keeps the rules
op-rules : (digit id k : ℕ) (at : Point) → id < 2 ^ 64 → 1 ≤ k → k ≤ 2048 → IsPoint at → KeepsRules (op_by digit id k at)
op-rules digit id k at id_fits low high fits = by_tests (nat_lt digit 4) (nat_lt digit 6) (digit == 6) (digit == 7) (digit == 8)
  where
    by_tests : (a b c d e : Bool) → KeepsRules (cond a (op.Put id at (moment_of at)) (cond b (op.Move id at (moment_of at)) (cond c (op.Remove id) (cond d (op.Find id) (cond e (op.Within (box_from at)) (op.Near at k))))))
    by_tests true b c d e = record { valid = tt; fits = (id_fits, fits, moment-fits at fits) }
    by_tests false true c d e = record { valid = tt; fits = (id_fits, fits, moment-fits at fits) }
    by_tests false false true d e = record { valid = tt; fits = id_fits }
    by_tests false false false true e = record { valid = tt; fits = id_fits }
    by_tests false false false false true = record { valid = IsBox-box_from at fits; fits = (fits, record { x = reach-fits at.x; y = reach-fits at.y }) }
    by_tests false false false false false = record { valid = (low, high); fits = fits }

session-few : (i : ℕ) → session_at i ≤ 16
session-few i = omega arith

id-fits : (session u : ℕ) → session ≤ 16 → made_id session u < 2 ^ 64
id-fits session u few = omega arith

IsInRow-row_drawn : (i state : ℕ) → IsInRow (row_drawn i state)
IsInRow-row_drawn i state =
    let u = draw_at state 0 in
    let rules = op-rules (u % 10) (made_id (session_at i) u) (1 + u / 16 % 8) (record { x = draw_at state 1; y = draw_at state 2 }) (id-fits (session_at i) u (session-few i)) (omega arith) (omega arith) (at_drawn state) in
    record { first = omega arith; last = session-few i; valid = rules.valid; fits = rules.fits }

each : (seed first n : ℕ) → AllByRecursion IsInRow (map (made_row seed) (range_with_len first n))
each seed first zero = tt
each seed first (suc n) = (IsInRow-row_drawn first (after_draws (3 * first) seed), each seed (first + 1) n)

pub AreInRows-made_rows : (n seed : ℕ) → n ≤ 65536 → AreInRows (made_rows n seed)
AreInRows-made_rows n seed few = record { each = each seed 0 n; most = omega (arith, length-map-range_with_len (made_row seed) 0 n, few) }

-- a row takes three draws
pub after_draws-row : (i seed : ℕ) → after_draws (3 * (i + 1)) seed ≡ after_draws 3 (after_draws (3 * i) seed)
after_draws-row i seed =
    let more : suc (suc (suc (3 * i))) ≡ 3 * (i + 1) = omega arith in
    subst (λ n. after_draws n seed ≡ after_draws 3 (after_draws (3 * i) seed)) more refl
