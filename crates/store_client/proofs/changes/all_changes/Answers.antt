use Rattle.std.proofs.Common.{◌≡◌, ◌-◌, length, ℕ, suc, ◌+◌, ◌<◌, ◌≤◌, List, [], ◌∷◌, ◌++◌, arith, ap, sym, ◌∙◌, length-append, append-nil}
use Rattle.std.proofs.lemmas.Slice.Zip.{zip_turn, zip_end}
use Rattle.store_client.specs.Changes.{changes_in}
use Rattle.store_client.proofs.Changed.{changes-more, changes-end}
use Rattle.store_client.proofs.changes.all_changes.Goals as goal

pub loop-op-preserved : goal.loop-op-preserved
loop-op-preserved c =
    let ops = c.args.ops.now in
    let answers = c.args.answers.now in
    let before = c.loop-op in
    let turn = zip_turn ops answers before.yielded c.into_iter-op-iterator.result before.op-iterator c.next.new.self c.next.result
    (grind (arith, c.iter.ensures.rest, c.zip-op-items.ensures.first, c.into_iter-op-iterator.ensures.into_iter_gives))
    (grind (arith, c.iter.ensures.rest, c.zip-op-items.ensures.second, c.into_iter-op-iterator.ensures.into_iter_gives)) before.yielded_by (c.in-Some.op, c.in-Some.answer) c.in-Some.is c.next.ensures.steps in
    let long = length-append before.yielded ((c.in-Some.op, c.in-Some.answer) ∷ []) in
    let next : c.saturating_add-place.result ≡ suc before.place = omega (arith, c.saturating_add-place.ensures, c.saturating_sub-place.ensures, before.invariant.counted, turn.1) in
    record {
      counted = omega (arith, next, long, before.invariant.counted);
      so_far = changes-more before.changes.items c.push_some.new.changes.items (changes_in c.saturating_sub-place.result ops answers) c.of.result before.place c.saturating_add-place.result (length before.yielded) _ ops answers c.in-Some.op.now c.in-Some.answer.now
          c.in_ok-push_some.ensures c.of.ensures next (omega (arith, long)) turn.0 turn.1 (turn.2 c.in-Some.op.now) (turn.3 c.in-Some.answer.now) before.invariant.so_far;
    }

pub returns : goal.returns
returns c =
    let ops = c.args.ops.now in
    let answers = c.args.answers.now in
    let ends = zip_end ops answers c.loop-op.yielded c.into_iter-op-iterator.result c.loop-op.op-iterator c.next.new.self c.next.result
    (grind (arith, c.iter.ensures.rest, c.zip-op-items.ensures.first, c.into_iter-op-iterator.ensures.into_iter_gives))
    (grind (arith, c.iter.ensures.rest, c.zip-op-items.ensures.second, c.into_iter-op-iterator.ensures.into_iter_gives)) c.loop-op.yielded_by c.in-None.is c.next.ensures.steps in
    sym (ap (λ l. c.loop-op.changes.items ++ l) (changes-end c.loop-op.place (length c.loop-op.yielded) ops answers ends) ∙ append-nil c.loop-op.changes.items)
    ∙ c.loop-op.invariant.so_far
    ∙ ap (λ n. changes_in n ops answers) c.saturating_sub-place.ensures
