use Rattle.std.proofs.Common.{◌≤◌, ◌++◌, ◌∷◌, [], length, take, sym, ◌∙◌, ap, subst, arith, vec_len, vec_capacity}
use Rattle.split_log.proofs.Waitings.{length-spelled, room-behind, waits-first, keeps-first}
use Rattle.split_log.proofs.waiting.Waiting.truncate.Goals as goal

pub overflow_mul-cells : goal.overflow_mul-cells
overflow_mul-cells c =
    omega (arith, subst (λ l. c.args.cells ≤ length l) (sym c.self.view_is) c.requires.few, length-spelled c.self.inside.cells c.self.inside.text.items, c.self.invariant.few)

pub push_reserved-requires : goal.push_reserved-requires
push_reserved-requires c =
    room-behind c.self.inside.cells c.self.inside.text.items (vec_capacity c.self.inside.text) c.self.invariant
    c.args.cells (vec_len c.self.inside.text) (vec_capacity c.truncate.new.self) (vec_len c.truncate.new.self)
    (omega (arith, subst (λ l. c.args.cells ≤ length l) (sym c.self.view_is) c.requires.few, length-spelled c.self.inside.cells c.self.inside.text.items))
    c.self.inside.text.ok.0 (omega (arith, c.self.inside.text.ok.1, c.truncate.ensures.capacity)) c.truncate.ensures.len

pub invariant_of-self : goal.invariant_of-self
invariant_of-self c =
    keeps-first c.self.inside.cells c.self.inside.text.items (vec_capacity c.self.inside.text) c.self.invariant c.args.cells
    (omega (arith, subst (λ l. c.args.cells ≤ length l) (sym c.self.view_is) c.requires.few, length-spelled c.self.inside.cells c.self.inside.text.items))
    c.push_reserved.new.self.items (c.push_reserved.ensures.items ∙ ap (λ l. l ++ 0 ∷ []) c.truncate.ensures.items)
    (vec_capacity c.push_reserved.new.self) (c.push_reserved.ensures.capacity ∙ c.truncate.ensures.capacity)

pub returns : goal.returns
returns c =
    waits-first c.self.inside.cells c.self.inside.text.items (vec_capacity c.self.inside.text) c.self.invariant c.args.cells
    (omega (arith, subst (λ l. c.args.cells ≤ length l) (sym c.self.view_is) c.requires.few, length-spelled c.self.inside.cells c.self.inside.text.items))
    c.push_reserved.new.self.items (c.push_reserved.ensures.items ∙ ap (λ l. l ++ 0 ∷ []) c.truncate.ensures.items)
    ∙ ap (take c.args.cells) c.self.view_is
