use Rattle.std.proofs.Common.{◌∙◌, ap, refl}
use Rattle.std.proofs.lemmas.Result.{IfOk-weaker}
use Rattle.bucket_versions.specs.Rows.{has_row}
use Rattle.index_layer.specs.Leaves.{names_of, all_rows}
use Rattle.index_layer.specs.Stands.{Stands}
use Rattle.plain_list.specs.World.{places_of}
use Rattle.table_share.proofs.TableRows.{table_of}
use Rattle.point_table.proofs.Anew.{has_row-all}
use Rattle.point_table.proofs.table.PointTable.rows.Goals as goal

pub returns-clause-has : goal.returns-clause-has
returns-clause-has g c =
    let inside = c.self.inside in
    let leaves = g.I.Index.leaves inside.index in
    let places = places_of inside.members in
    let stands : Stands leaves places (names_of leaves) = record { names_are = refl; are_leaves = g.met.I.Index.are_leaves inside.index; rows = c.self.invariant.rows } in
    rw (← c.self.view_is) (IfOk-weaker c.scan.result _ _ (λ rows is q. ap (has_row q) is ∙ has_row-all places (all_rows leaves) (table_of leaves places (names_of leaves) stands) q) c.scan.ensures.rows)
