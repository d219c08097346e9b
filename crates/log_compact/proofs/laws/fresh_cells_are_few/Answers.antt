use Rattle.std.proofs.Common.{◌≡◌, length, sym, subst, arith}
use Rattle.log_state.specs.Recovers.{state_of}
use Rattle.log_compact.specs.Fresh.{fresh_cells}
use Rattle.plain_list.specs.State.{ComesBySplits}
use Rattle.log_compact.proofs.Counting.{comes_by_splits, fresh_few}
use Rattle.log_compact.proofs.laws.fresh_cells_are_few.Goals as goal

pub returns-clause-splits : goal.returns-clause-splits
returns-clause-splits c cells finds = subst (ComesBySplits c.args.width) (sym finds.leaves) (comes_by_splits c.args.width cells)

pub returns-clause-few : goal.returns-clause-few
returns-clause-few c cells legal finds =
    let same : length (fresh_cells c.args.width c.args.seen.now.world c.args.seen.now.leaves) ≡ length (fresh_cells c.args.width (state_of c.args.width cells).world (state_of c.args.width cells).leaves) =
    λ i. length (fresh_cells c.args.width (finds.world i) (finds.leaves i)) in
    omega (arith, same, fresh_few c.args.width c.requires cells legal, finds.count)
