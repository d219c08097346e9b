use Rattle.std.proofs.Common.{◌+◌, ◌≤◌, ◌<◌, ◌≡◌, ◌++◌, ◌∷◌, [], length, take, ◌*◌, IsOk, sym, ◌∙◌, ap, subst, arith, vec_len, vec_capacity}
use Rattle.cell_format.specs.Spelling.{spelling}
use Rattle.cell_format.proofs.Decoded.{length-spelling}
use Rattle.split_log.specs.Waiting.{most_waiting}
use Rattle.split_log.proofs.Waitings.{length-spelled, room-left, waits-one, keeps-one, ok-then}
use Rattle.split_log.proofs.waiting.Waiting.push.Goals as goal

few : (c : goal.After-push_reserved-arg-1) → c.self.inside.cells ≤ most_waiting
few c = omega (arith, subst (λ l. length l ≤ most_waiting) (sym c.self.view_is) c.requires.room, length-spelled c.self.inside.cells c.self.inside.text.items)

left : (c : goal.After-push_reserved-arg-1) → 32 + vec_len c.truncate.new.self < vec_capacity c.self.inside.text
left c =
    room-left c.self.inside.cells c.self.inside.text.items (vec_capacity c.self.inside.text) c.self.invariant (vec_len c.self.inside.text) (vec_len c.truncate.new.self) (few c)
    c.self.inside.text.ok.0 c.truncate.ensures.len

encoded : (c : goal.After-push_reserved-arg-1) → length c.encode.result ≡ 32
encoded c = ap length c.encode.ensures.spells.spelled ∙ length-spelling c.args.cell.now

added : (c : goal.After-push_reserved-arg-1) → IsOk c.extend_from_slice.result
added c = c.extend_from_slice.ensures.succeeds (omega (arith, left c, encoded c, c.truncate.ensures.capacity))

pub push_reserved-requires : goal.push_reserved-requires
push_reserved-requires c =
    omega (
      arith,
      c.extend_from_slice.ensures.len ∙ ok-then c.extend_from_slice.result _ _ (added c),
      left c,
      encoded c,
      c.truncate.ensures.capacity,
      c.extend_from_slice.ensures.capacity,
    )

few-then : (c : goal.After-self-1) → c.self.inside.cells ≤ most_waiting
few-then c = omega (arith, subst (λ l. length l ≤ most_waiting) (sym c.self.view_is) c.requires.room, length-spelled c.self.inside.cells c.self.inside.text.items)

left-then : (c : goal.After-self-1) → 32 + vec_len c.truncate.new.self < vec_capacity c.self.inside.text
left-then c =
    room-left c.self.inside.cells c.self.inside.text.items (vec_capacity c.self.inside.text) c.self.invariant (vec_len c.self.inside.text) (vec_len c.truncate.new.self) (few-then c)
    c.self.inside.text.ok.0 c.truncate.ensures.len

encoded-then : (c : goal.After-self-1) → length c.encode.result ≡ 32
encoded-then c = ap length c.encode.ensures.spells.spelled ∙ length-spelling c.args.cell.now

added-then : (c : goal.After-self-1) → IsOk c.extend_from_slice.result
added-then c = c.extend_from_slice.ensures.succeeds (omega (arith, left-then c, encoded-then c, c.truncate.ensures.capacity))

items : (c : goal.After-self-1) → c.push_reserved.new.self.items ≡ (take (32 * c.self.inside.cells) c.self.inside.text.items ++ spelling c.args.cell.now) ++ 0 ∷ []
items c =
    c.push_reserved.ensures.items
    ∙ ap (λ l. l ++ 0 ∷ [])
    (c.extend_from_slice.ensures.items ∙ ok-then c.extend_from_slice.result _ _ (added-then c) ∙ (λ i. c.truncate.ensures.items i ++ c.encode.ensures.spells.spelled i))

pub invariant_of-self : goal.invariant_of-self
invariant_of-self c =
    keeps-one c.self.inside.cells c.self.inside.text.items (vec_capacity c.self.inside.text) c.self.invariant c.args.cell.now c.encode.ensures.spells.fits c.push_reserved.new.self.items
    (items c) (vec_capacity c.push_reserved.new.self) (few-then c) (omega (arith, c.truncate.ensures.capacity, c.extend_from_slice.ensures.capacity, c.push_reserved.ensures.capacity))

pub returns : goal.returns
returns c =
    waits-one c.self.inside.cells c.self.inside.text.items (vec_capacity c.self.inside.text) c.self.invariant c.args.cell.now c.encode.ensures.spells.fits c.push_reserved.new.self.items (items c)
    ∙ ap (λ l. l ++ c.args.cell.now ∷ []) c.self.view_is
