use Rattle.std.proofs.Common.{◌≡◌, ◌++◌, append-nil, sym, ap, subst, ◌∙◌}
use Rattle.point_table.specs.Drafts.{Net}
use Rattle.point_table.specs.Nets.{AreNew}
use Rattle.point_table.proofs.NetSteps.{new_of, are_new}
use Rattle.point_table.proofs.table.net.new_ones.Goals as goal

pub returns : goal.returns
returns c =
    let net = c.args.left.now.entries in
    let world = c.args.members.now in
    let new = c.loop-id.new.items in
    let is : new ≡ new_of world net = sym (append-nil new) ∙ ap (λ (left : Net). new ++ new_of world left) (sym c.in-None.ensures.steps.0) ∙ c.loop-id.invariant in
    subst (AreNew world net) (sym is) (are_new world net)
