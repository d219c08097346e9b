use Rattle.std.proofs.Common.{◌≡◌, ◌∙◌, ℕ, List, Some, None, sym, ap}
use Rattle.zorder.specs.declared.points.Region.{Region}
use Rattle.csv_rows.specs.Numbers.{number_in}
use Rattle.command_words.specs.Words.{SpellsBox}
use Rattle.command_words.proofs.boxes.box_in.Goals as goal

-- no number is at least the lower corner's
no-upper : (low : ℕ) (x y a b : List ℕ) (region : Region) → number_in 0 4294967295 x ≡ Some low → number_in low 4294967295 a ≡ None → SpellsBox x y a b region → ⊥
no-upper low x y a b region is none spells =
    let same : Some low ≡ Some region.lo.x = sym is ∙ spells.lo_x in
    let low_is : low ≡ region.lo.x = cc same in
    let some : None ≡ Some region.hi.x = sym none ∙ ap (λ n. number_in n 4294967295 a) low_is ∙ spells.hi_x in
    cc some

pub returns-in_err-a : goal.returns-in_err-a
returns-in_err-a c =
    rw c.from_residual-in_err-a.ensures (λ region spells. no-upper c.in_ok-x.x c.args.x.now c.args.y.now c.args.a.now c.args.b.now region (sym c.coordinate_in.ensures ∙ c.in_ok-x.was) (sym c.coordinate_in-3.ensures ∙ c.in_err-a.was) spells)

pub returns : goal.returns
returns c = record {
  lo_x = sym c.coordinate_in.ensures ∙ c.in_ok-x.was;
  lo_y = sym c.coordinate_in-2.ensures ∙ c.in_ok-y.was;
  hi_x = sym c.coordinate_in-3.ensures ∙ c.in_ok-a.was;
  hi_y = sym c.coordinate_in-4.ensures ∙ c.in_ok-b.was;
}
