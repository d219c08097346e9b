use Rattle.std.proofs.Common.{◌∙◌, Some, sym, ap, subst}
use Rattle.plain_list.specs.Places.{IsRising}
use Rattle.plain_list.specs.World.{World, places_of, position_of}
use Rattle.plain_list.proofs.IdSearches.{position_of-at}
use Rattle.plain_list.proofs.searches.find_id.Goals as goal

pub returns-in-Ok : goal.returns-in-Ok
returns-in-Ok c =
    let found = c.in-Ok.ensures in
    let members = c.as_slice-members.result.now in
    let same = c.as_slice-members.ensures.members in
    ap Some c.stamped.ensures ∙ sym (position_of-at members c.in-Ok.index c.args.id _ (subst (λ (l : World). IsRising (places_of l)) (sym same) c.as_slice-members.ensures.world.rising) found.0 (found.1 _)) ∙ ap (λ l. position_of l c.args.id) same
