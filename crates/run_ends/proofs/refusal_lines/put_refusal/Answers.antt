use Rattle.run_ends.proofs.Ends.{takes-from_puts}
use Rattle.run_ends.proofs.refusal_lines.put_refusal.Goals as goal

pub returns-clause-refused : goal.returns-clause-refused
returns-clause-refused g c = record {
  status_is = c.status_of-status.ensures;
  line = takes-from_puts _ _ _ c.refusal_line.result c.refusal_line.ensures.bytes c.refusal_line.ensures.cause;
}
