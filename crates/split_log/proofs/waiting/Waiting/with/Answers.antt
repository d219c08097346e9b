use Rattle.std.proofs.Common.{◌≤◌, ◌+◌, ◌*◌, ◌≡◌, ◌++◌, ◌∷◌, [], length, take, sym, ◌∙◌, ap, subst, arith, vec_capacity}
use Rattle.std.proofs.lemmas.List.{length-take-le}
use Rattle.std.specs.List.{flat_map}
use Rattle.cell_format.specs.Spelling.{spelling}
use Rattle.split_log.specs.LogView.{most_cells}
use Rattle.split_log.proofs.Waitings.{length-spelled, length-text, waits-both, keeps-both}
use Rattle.split_log.proofs.waiting.Waiting.with.Goals as goal

pub slice_bounds-extend_from_slice-end : goal.slice_bounds-extend_from_slice-end
slice_bounds-extend_from_slice-end c =
    sym (length-take-le (32 * c.self.inside.cells) c.deref.result.now
    (omega (arith, ap length c.deref.ensures.value, length-text c.self.inside.cells c.self.inside.text.items (vec_capacity c.self.inside.text) c.self.invariant)))

items : (c : goal.In_ok-spell_all) → c.spell_all.new.text.items ≡ take (32 * c.self.inside.cells) c.self.inside.text.items ++ (flat_map spelling c.args.cells.now ++ 0 ∷ [])
items c =
    c.in_ok-spell_all.ensures.text
    ∙ (λ i. (c.in_ok-extend_from_slice.ensures.items ∙ ap (λ l. l ++ take (32 * c.self.inside.cells) c.deref.result.now) c.in_ok-text.ensures.items
    ∙ ap (take (32 * c.self.inside.cells)) c.deref.ensures.value) i ++ (flat_map spelling c.args.cells.now ++ 0 ∷ []))

pub invariant_of-result : goal.invariant_of-result
invariant_of-result c =
    keeps-both c.self.inside.cells c.self.inside.text.items (vec_capacity c.self.inside.text) c.self.invariant c.args.cells.now c.in_ok-spell_all.ensures.fits
    c.spell_all.new.text.items (items c) (vec_capacity c.spell_all.new.text)
    (omega (arith, subst (λ l. length l + length c.args.cells.now ≤ most_cells) (sym c.self.view_is) c.requires.few, length-spelled c.self.inside.cells c.self.inside.text.items))
    (omega (arith, c.max.ensures, c.in_ok-text.ensures.capacity, c.in_ok-extend_from_slice.ensures.capacity, c.in_ok-spell_all.ensures.capacity))

pub returns : goal.returns
returns c =
    waits-both c.self.inside.cells c.self.inside.text.items (vec_capacity c.self.inside.text) c.self.invariant c.args.cells.now c.in_ok-spell_all.ensures.fits
    c.spell_all.new.text.items (items c)
    ∙ ap (λ l. l ++ c.args.cells.now) c.self.view_is
