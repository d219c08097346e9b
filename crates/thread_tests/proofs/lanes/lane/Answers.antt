use Rattle.std.proofs.Common.{refl, arith}
use Rattle.thread_tests.proofs.ValidRows.{valid-at}
use Rattle.thread_tests.proofs.lanes.lane.Goals as goal

pub returns-clause-ready : goal.returns-clause-ready
returns-clause-ready g c =
    let items = rw c.expect-kept.ensures at c.with_capacity.ensures.items in
    let len = rw c.expect-kept.ensures at c.with_capacity.ensures.len in
    let room = rw c.expect-kept.ensures at c.with_capacity.ensures.capacity in
    record {
      lock_is = refl;
      off = c.requires.off;
      valid = valid-at c.args.rows.items c.requires.valid;
      room = omega (arith, len, room, c.len.ensures, c.args.rows.ok.0);
      kept = items;
      fault = refl;
    }
