use Rattle.std.proofs.Common.{◌≡◌, ◌<◌, ◌∙◌, length, false, true, get_or, sym, ap, subst, arith}
use Rattle.std.specs.Prelude.{nat_lt}
use Rattle.std.proofs.lemmas.Bool.{lt-ltb, le-ltb}
use Rattle.plain_list.specs.declared.world.Member.{Member}
use Rattle.plain_list.specs.World.{World, IsWorld, stamped_of}
use Rattle.plain_list.proofs.IdSearches.{position_of-at, set-with_moved, after_move-there, after_move-stale}
use Rattle.plain_list.proofs.Worlds.{IsWorld-with_moved}
use Rattle.plain_list.proofs.changes.move_to.Goals as goal

pub returns-then-index-member : goal.returns-then-index-member
returns-then-index-member c =
    let ms = c.args.members.now.items in
    let there = subst (λ (l : World). (c.in-Ok.index < length l) × ((d : Member) → (get_or l c.in-Ok.index d).id ≡ c.args.member.id)) c.deref.ensures.value c.in-Ok.ensures in
    let m = c.args.member in
    let kept = get_or ms c.in-Ok.index c.index.result.now in
    let moment : c.index.result.now.moment ≡ kept.moment = ap (λ (n : Member). n.moment) c.index.ensures in
    let fresh : nat_lt m.moment kept.moment ≡ false = le-ltb m.moment kept.moment (omega (arith, c.if-index-member.true, moment)) in
    let moved = set-with_moved ms c.in-Ok.index m m c.requires.rising there.0 (there.1 m) in
    record {
      after = moved ∙ sym (after_move-there m ms (stamped_of kept) (position_of-at ms c.in-Ok.index m.id c.index.result.now c.requires.rising there.0 (there.1 c.index.result.now)) fresh);
      world = subst IsWorld (sym moved) (IsWorld-with_moved m.id (stamped_of m) ms c.requires c.coordinates_fit.ensures);
    }

pub returns-else-index-member : goal.returns-else-index-member
returns-else-index-member c =
    let ms = c.args.members.now.items in
    let there = subst (λ (l : World). (c.in-Ok.index < length l) × ((d : Member) → (get_or l c.in-Ok.index d).id ≡ c.args.member.id)) c.deref.ensures.value c.in-Ok.ensures in
    let m = c.args.member in
    let kept = get_or ms c.in-Ok.index c.index.result.now in
    let moment : c.index.result.now.moment ≡ kept.moment = ap (λ (n : Member). n.moment) c.index.ensures in
    let stale : nat_lt m.moment kept.moment ≡ true = lt-ltb m.moment kept.moment (omega (arith, c.if-index-member.false, moment)) in
    record {
      after = sym (after_move-stale m ms (stamped_of kept) (position_of-at ms c.in-Ok.index m.id c.index.result.now c.requires.rising there.0 (there.1 c.index.result.now)) stale);
      world = c.requires;
    }
