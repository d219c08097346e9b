use Rattle.std.proofs.Common.{◌≡◌, refl, sym, ap, subst, ◌∙◌}
use Rattle.std.specs.List.{AllByRecursion}
use Rattle.index_layer.specs.Stands.{HasRowsOf}
use Rattle.plain_list.specs.World.{World, places_of}
use Rattle.point_table.specs.Crowds.{crowded_of}
use Rattle.point_table.specs.Drafts.{DraftView}
use Rattle.point_table.specs.TableView.{TableView}
use Rattle.point_table.proofs.table.PointTable.publish.Goals as goal

pub invariant_of-self-2 : goal.invariant_of-self-2
invariant_of-self-2 g c =
    let inside = c.self.inside in
    let draft = c.draft.inside in
    let makes = c.in_ok-make.ensures.ok in
    let size : draft.size ≡ inside.size = ap (λ (d : DraftView). d.size) c.draft.view_is ∙ c.requires.draft.size ∙ sym (ap (λ (t : TableView). t.size) c.self.view_is) in
    let rows = rw (← c.draft.view_is, ← c.self.view_is) at c.requires.draft.rows in
    record {
      world = makes.world;
      rows = subst (λ (ms : World). AllByRecursion (HasRowsOf (places_of ms)) (g.I.Index.leaves draft.index)) (sym makes.is) rows;
      crowded = c.draft.invariant ∙ ap (λ s. crowded_of g.I.Index.WIDTH s (g.I.Index.leaves draft.index)) size;
    }

pub returns-clause-ok : goal.returns-clause-ok
returns-clause-ok g c =
    let draft = c.draft.inside in
    rw (← c.draft.view_is, ← c.self.view_is) (λ i. record { leaves = g.I.Index.leaves draft.index; world = c.in_ok-make.ensures.ok.is i; size = c.self.inside.size }, refl)
