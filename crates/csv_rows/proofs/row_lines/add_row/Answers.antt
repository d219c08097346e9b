use Rattle.std.proofs.Common.{◌≡◌, ◌∙◌, ◌+◌, ◌≤◌, ◌<◌, ◌++◌, ℕ, List, length, ap, arith, length-append}
use Rattle.std.specs.Fmt.{decimal}
use Rattle.std.proofs.lemmas.Fmt.{length-decimal-le}
use Rattle.csv_rows.proofs.row_lines.add_row.Goals as goal

-- a session has three digits at most
session-short : (old new : List ℕ) (session : ℕ) → session < 256 → new ≡ old ++ decimal session → length new ≤ length old + 3
session-short old new session few is =
    let digits : length (decimal session) ≤ 3 = length-decimal-le 3 session (omega arith) (omega arith) (omega arith) in
    omega (arith, ap length is ∙ length-append old (decimal session))

pub add_op-requires : goal.add_op-requires
add_op-requires c =
    let short = session-short _ _ c.from.result (omega (arith, c.from.ensures)) c.add_number.ensures.bytes in
    omega (arith, short, c.requires)

pub returns-clause-len : goal.returns-clause-len
returns-clause-len c =
    let short = session-short _ _ c.from.result (omega (arith, c.from.ensures)) c.add_number.ensures.bytes in
    omega (arith, short, c.add_op.ensures.len)
