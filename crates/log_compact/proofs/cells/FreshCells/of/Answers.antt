-- The names that come at the leaves are the inner names.
use Rattle.std.proofs.Common.{◌≡◌, ℕ, length, List, Bool, false, sym, ◌∙◌, ap, subst, arith}
use Rattle.cell_format.specs.declared.cell.Cell.{Cell}
use Rattle.plain_list.specs.World.{World}
use Rattle.log_compact.specs.Fresh.{inner_names, fresh_cells}
use Rattle.plain_list.specs.State.{ComesBySplits}
use Rattle.log_compact.specs.Walk.{all_new_names, AreShort, cells_left}
use Rattle.log_compact.specs.State.{IsStateOf}
use Rattle.zorder.specs.Width.{IsWidth}
use Rattle.log_compact.proofs.Inner.{inner_names-walked}
use Rattle.log_compact.proofs.Counting.{length-fresh_cells}
use Rattle.log_compact.proofs.FreshState.{fresh_state}
use Rattle.log_compact.proofs.cells.FreshCells.of.Goals as goal

met : (w : ℕ) → IsWidth w → (leaves slice names : List (List Bool)) → slice ≡ leaves → names ≡ all_new_names w slice → AreShort slice → ComesBySplits w leaves → names ≡ inner_names w leaves
met w width leaves slice names is are short by =
    are ∙ ap (all_new_names w) is ∙ sym (inner_names-walked w width leaves by (subst AreShort is short))

at_start : (w : ℕ) (world slice : World) (leaves names : List (List Bool)) → slice ≡ world → names ≡ inner_names w leaves → cells_left 0 false names slice ≡ fresh_cells w world leaves
at_start w world slice leaves names is are = λ i. cells_left 0 false (are i) (is i)

pub invariant_of-result : goal.invariant_of-result
invariant_of-result c =
    omega (
      arith,
      ap length (met c.args.width c.requires.width c.args.seen.now.leaves c.as_slice-leaves.result.now c.over.result c.as_slice-leaves.ensures c.over.ensures c.names_are_short.ensures c.requires.splits),
      c.requires.few,
      length-fresh_cells c.args.width c.args.seen.now.world c.args.seen.now.leaves,
    )

pub returns-clause-cells : goal.returns-clause-cells
returns-clause-cells c =
    at_start c.args.width c.args.seen.now.world c.as_slice.result.now c.args.seen.now.leaves c.over.result c.as_slice.ensures.members
    (met c.args.width c.requires.width c.args.seen.now.leaves c.as_slice-leaves.result.now c.over.result c.as_slice-leaves.ensures c.over.ensures c.names_are_short.ensures c.requires.splits)

pub returns-clause-state : goal.returns-clause-state
returns-clause-state c =
    subst (λ (cells : List Cell). IsStateOf c.args.width cells c.args.seen.now.world c.args.seen.now.leaves) (sym (returns-clause-cells c))
    (fresh_state c.args.width c.requires.width c.args.seen.now.world c.args.seen.now.leaves c.as_slice.ensures.world c.requires.splits
    (subst AreShort c.as_slice-leaves.ensures c.names_are_short.ensures))
