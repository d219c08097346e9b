use Rattle.std.proofs.Common.{◌≡◌, ◌∙◌, ap, sym, subst, List, []}
use Rattle.std.specs.Arc.{arc_value}
use Rattle.bucket_versions.specs.declared.row.Row.{Row}
use Rattle.bucket_versions.specs.Rows.{Rows, IsRows, has_row}
use Rattle.index_layer.specs.Stands.{places_have}
use Rattle.plain_list.specs.World.{places_of}
use Rattle.point_table.proofs.Anew.{HasSized-whole, StandsBySize-split}
use Rattle.point_table.proofs.table.PointTable.index_anew.Goals as goal

pub split_on-requires : goal.split_on-requires
split_on-requires g c = record {
  done = [];
  later = [];
  has = HasSized-whole g.I.Index.WIDTH c.self.inside.size c.from_vec-whole.result.base c.whole-name.result (arc_value c.in_ok-cut_out.field-0) (g.I.Index.leaves c.in_ok-index.index) c.whole-name.ensures c.in_ok-cut_out.ensures c.in_ok-index.ensures;
}

pub returns : goal.returns
returns g c =
    let rows : List Row = c.from_vec-whole.result.base in
    let ordered : IsRows rows = subst (λ (b : Rows). IsRows b.base) (sym c.from_vec-whole.ensures) c.in_ok-rows.ensures.in_order in
    let has : (r : Row) → has_row r rows ≡ places_have (places_of c.self.inside.members) r = λ r. ap (λ (b : Rows). has_row r b.base) c.from_vec-whole.ensures ∙ (rw (← c.self.view_is) at c.in_ok-rows.ensures.has) r in
    let leaves = g.I.Index.leaves c.split_on.new.index in
    rw (← c.self.view_is)
    (StandsBySize-split g.I.Index.WIDTH c.self.inside.size c.self.inside.members c.self.invariant.world rows ordered has c.whole-name.result (arc_value c.in_ok-cut_out.field-0) (g.I.Index.leaves c.in_ok-index.index) leaves
    c.whole-name.ensures c.in_ok-cut_out.ensures c.in_ok-index.ensures (g.met.I.Index.are_leaves c.split_on.new.index) c.in_ok-split_on.ensures)
