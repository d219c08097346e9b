use Rattle.std.proofs.Common.{◌∙◌, List, length, sym, ap, subst, arith}
use Rattle.bucket_versions.specs.Rows.{IsRows}
use Rattle.index_layer.specs.Leaves.{Leaf}
use Rattle.table_share.proofs.RowsInOrder.{IsRows-between}
use Rattle.table_share.specs.Subtree.{subtree, leaves_between}
use Rattle.table_share.proofs.Subtrees.{subtree-whole}
use Rattle.table_share.proofs.SharedKeys.{rows_whole}
use Rattle.table_share.proofs.scans.scan.Goals as goal

pub returns-in_err-push_subtree-clause-opened : goal.returns-in_err-push_subtree-clause-opened
returns-in_err-push_subtree-clause-opened g c =
    let leaves : List Leaf = g.I.Index.leaves c.args.index.now in
    omega (arith, c.push_subtree.ensures.opened, ap (λ ls. length (leaves_between c.args.lo c.args.hi ls)) (ap (λ n. subtree n leaves) c.whole.ensures ∙ subtree-whole leaves))

pub returns-clause-rows : goal.returns-clause-rows
returns-clause-rows g c =
    let leaves : List Leaf = g.I.Index.leaves c.args.index.now in
    c.in_ok-push_subtree.ensures.rows
    ∙ rows_whole c.args.lo c.args.hi leaves c.new-found.result.items c.whole.result c.new-found.ensures.items c.whole.ensures c.ranges.hi.fits (g.met.I.Index.are_leaves c.args.index.now)

pub returns-clause-in_order : goal.returns-clause-in_order
returns-clause-in_order g c =
    let leaves : List Leaf = g.I.Index.leaves c.args.index.now in
    let is = c.in_ok-push_subtree.ensures.rows
    ∙ rows_whole c.args.lo c.args.hi leaves c.new-found.result.items c.whole.result c.new-found.ensures.items c.whole.ensures c.ranges.hi.fits (g.met.I.Index.are_leaves c.args.index.now) in
    subst IsRows (sym is) (IsRows-between c.args.lo c.args.hi leaves c.ranges.hi.fits (g.met.I.Index.are_leaves c.args.index.now))

pub returns-clause-opened : goal.returns-clause-opened
returns-clause-opened g c =
    let leaves : List Leaf = g.I.Index.leaves c.args.index.now in
    omega (arith, c.push_subtree.ensures.opened, ap (λ ls. length (leaves_between c.args.lo c.args.hi ls)) (ap (λ n. subtree n leaves) c.whole.ensures ∙ subtree-whole leaves))

pub returns-clause-exact : goal.returns-clause-exact
returns-clause-exact g c =
    let leaves : List Leaf = g.I.Index.leaves c.args.index.now in
    omega (arith, c.in_ok-push_subtree.ensures.exact, ap (λ ls. length (leaves_between c.args.lo c.args.hi ls)) (ap (λ n. subtree n leaves) c.whole.ensures ∙ subtree-whole leaves))
