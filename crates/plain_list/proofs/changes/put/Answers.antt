use Rattle.std.proofs.Common.{◌≡◌, ◌<◌, ◌∙◌, length, None, get_or, ap, sym, subst, arith, rules}
use Rattle.std.specs.List.{insert}
use Rattle.plain_list.specs.declared.world.Member.{Member}
use Rattle.plain_list.specs.World.{World, position_of, IsWorld, stamped_of}
use Rattle.plain_list.specs.Answer.{index_for}
use Rattle.plain_list.proofs.Members.{insert-index_for, index_for-le}
use Rattle.plain_list.proofs.IdSearches.{position_of-at, after_put-present, after_put-new}
use Rattle.plain_list.proofs.Worlds.{IsWorld-with_member}
use Rattle.plain_list.proofs.changes.put.Goals as goal

pub insert-requires : goal.insert-requires
insert-requires c =
    let at : c.in-Err.index ≡ index_for c.args.member.id c.deref.result.now = c.in-Err.ensures.0 in
    omega (arith, at, index_for-le c.args.member.id c.deref.result.now, c.deref.ensures.len)

pub returns-in-Ok-clause-ok : goal.returns-in-Ok-clause-ok
returns-in-Ok-clause-ok c =
    let ms = c.args.members.now.items in
    let there = subst (λ (l : World). (c.in-Ok.field-0 < length l) × ((d : Member) → (get_or l c.in-Ok.field-0 d).id ≡ c.args.member.id)) c.deref.ensures.value c.in-Ok.ensures in
    let m = c.args.member in
    sym (after_put-present m ms (stamped_of (get_or ms c.in-Ok.field-0 m)) (position_of-at ms c.in-Ok.field-0 m.id m c.requires.rising there.0 (there.1 m)))

pub returns-in_ok-insert-in-Err : goal.returns-in_ok-insert-in-Err
returns-in_ok-insert-in-Err c =
    let ms = c.args.members.now.items in
    let m = c.args.member in
    let index = subst (λ (l : World). (c.in-Err.index ≡ index_for m.id l) × (position_of l m.id ≡ None)) c.deref.ensures.value c.in-Err.ensures in
    let inserted = c.in_ok-insert-in-Err.ensures.items ∙ ap (λ i. insert ms i m) index.0 ∙ insert-index_for m ms in
    record {
      ok = inserted ∙ sym (after_put-new m ms index.1 (omega arith));
      err = search rules;
      world = subst IsWorld (sym inserted) (IsWorld-with_member m ms c.requires index.1 (omega arith) c.coordinates_fit.ensures);
    }
