use Rattle.std.proofs.Common.{sym, eqb-true}
use Rattle.csv_rows.proofs.WrittenFacts.{taken-all, taken-more, taken-none}
use Rattle.csv_rows.proofs.written.written_rows.Goals as goal

pub loop-init : goal.loop-init
loop-init c = rw c.in_ok-rows.ensures.items (taken-none c.args.text.now c.in-Some.lines.now c.in-Some.ensures)

pub loop-preserved : goal.loop-preserved
loop-preserved c =
    rw c.in_ok-push.ensures.items (taken-more c.args.text.now _ _ _ c.in-Some-take_row.row _ c.loop.invariant c.in-Some-take_row.ensures.line c.in-Some-take_row.ensures.rules)

pub from_vec-requires : goal.from_vec-requires
from_vec-requires c = (taken-all c.args.text.now _ _ _ c.loop.invariant (eqb-true _ _ (sym c.if-not-is_empty.ensures)) c.loop.auto.counter-end).1

pub returns-clause-rows : goal.returns-clause-rows
returns-clause-rows c =
    rw c.from_vec.ensures (taken-all c.args.text.now _ _ _ c.loop.invariant (eqb-true _ _ (sym c.if-not-is_empty.ensures)) c.loop.auto.counter-end)
