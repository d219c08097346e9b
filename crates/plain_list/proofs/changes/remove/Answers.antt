use Rattle.std.proofs.Common.{◌≡◌, ◌<◌, ◌∙◌, length, get_or, sym, subst}
use Rattle.plain_list.specs.declared.world.Member.{Member}
use Rattle.plain_list.specs.World.{World, IsWorld, stamped_of}
use Rattle.plain_list.proofs.IdSearches.{position_of-at, remove-without, after_remove-there}
use Rattle.plain_list.proofs.Worlds.{IsWorld-without}
use Rattle.plain_list.proofs.changes.remove.Goals as goal

pub returns-in-Ok : goal.returns-in-Ok
returns-in-Ok c =
    let ms = c.args.members.now.items in
    let there = subst (λ (l : World). (c.in-Ok.index < length l) × ((d : Member) → (get_or l c.in-Ok.index d).id ≡ c.args.id)) c.deref.ensures.value c.in-Ok.ensures in
    let m = c.remove.result in
    let gone = c.remove.ensures.items ∙ remove-without ms c.in-Ok.index c.args.id m c.requires.rising there.0 (there.1 m) in
    record {
      after = gone ∙ sym (after_remove-there c.args.id ms (stamped_of (get_or ms c.in-Ok.index m)) (position_of-at ms c.in-Ok.index c.args.id m c.requires.rising there.0 (there.1 m)));
      world = subst IsWorld (sym gone) (IsWorld-without c.args.id ms c.requires);
    }
