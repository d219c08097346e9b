use Rattle.std.proofs.Common.{◌≡◌, sym, subst, rules}
use Rattle.std.specs.Arc.{arc_value}
use Rattle.std.specs.Prelude.{map}
use Rattle.zorder.specs.Tile.{children}
use Rattle.split_prepare.specs.Cut.{cut, HaveRowsUnder}
use Rattle.split_prepare.proofs.CutLemmas.{HaveRowsUnder-cut}
use Rattle.split_prepare.proofs.cuts.prepare.Goals as goal

pub returns-clause-rows : goal.returns-clause-rows
returns-clause-rows c =
    let base = (arc_value c.args.ticket.now.bucket).base in
    let is : map arc_value c.in_ok-children.children.items ≡ cut c.args.width c.args.ticket.now.name base = search rules in
    subst (HaveRowsUnder (children c.args.width c.args.ticket.now.name) base) (sym is) (HaveRowsUnder-cut c.args.width c.args.ticket.now.name base c.requires.short)
