-- There is a begin and an install for each inner name, and a put for each object.
use Rattle.std.proofs.Common.{length, refl, ap, subst, arith}
use Rattle.log_compact.specs.Walk.{AreShort}
use Rattle.log_compact.proofs.Counting.{length-fresh_cells}
use Rattle.log_compact.proofs.Begun.{fresh-short, is-fresh}
use Rattle.log_compact.proofs.beginning.fresh_seen.Goals as goal

pub count_fresh-requires-clause-few : goal.count_fresh-requires-clause-few
count_fresh-requires-clause-few c =
    omega (
      arith,
      fresh-short c.args.width c.requires.width c.args.world c.args.leaves c.requires.splits,
      ap length c.as_slice.ensures.members,
      ap length c.as_slice-names.ensures,
    )

pub returns : goal.returns
returns c = (
  refl,
  refl,
  is-fresh c.args.width c.requires.width _ c.as_slice.ensures.world c.requires.splits (subst AreShort c.as_slice-names.ensures c.names_are_short.ensures)
      (omega (arith, c.count_fresh.ensures, c.if-seen-gt-MOST_CELLS.false))
      refl c.count_fresh.ensures
      (omega (arith, c.count_fresh.ensures, length-fresh_cells c.args.width c.args.world c.args.leaves, ap length c.as_slice.ensures.members)) refl,
)
