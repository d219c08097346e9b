use Rattle.std.proofs.Common.{◌≡◌, false}
use Rattle.thread_tests.proofs.sheets.add_rows.Given as goal

abbrev pub invariant-loop-row : goal.invariant-loop-row
invariant-loop-row g l = (l.pass.lock ≡ l.initial.pass.lock) × (l.pass.holds ≡ false) × (l.pass.parts ≡ l.initial.pass.parts)
