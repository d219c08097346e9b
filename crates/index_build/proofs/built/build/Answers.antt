use Rattle.std.proofs.Common.{◌≡◌, ◌∙◌, ap, List}
use Rattle.std.specs.Arc.{arc_value}
use Rattle.bucket_versions.specs.declared.row.Row.{Row}
use Rattle.bucket_versions.specs.Rows.{Rows, has_row}
use Rattle.index_layer.specs.Leaves.{Leaf}
use Rattle.index_layer.specs.Stands.{places_have}
use Rattle.index_build.specs.Growing.{leaves_for}
use Rattle.index_build.proofs.GrowingLeaves.{all_there, Stands-leaves_for, folded-leaves_for}
use Rattle.index_build.proofs.built.build.Goals as goal
use Rattle.plain_list.specs.World.{places_of}

pub returns-clause-stands : goal.returns-clause-stands
returns-clause-stands g c =
    let rows : List Row = c.from_vec-whole.result.base in
    let leaves : List Leaf = g.I.Index.leaves c.in_ok-growing.growing.index in
    let are = g.met.I.Index.are_leaves c.in_ok-growing.growing.index in
    let is : leaves ≡ leaves_for rows c.args.leaves.now =
    all_there rows c.args.leaves.now c.whole-name.result (arc_value c.in_ok-cut_out.field-0) (g.I.Index.leaves c.in_ok-index.index) leaves c.in_ok-growing.growing.done
    c.whole-name.ensures c.in_ok-cut_out.ensures c.in_ok-index.ensures c.requires.tile are c.in_ok-growing.ensures in
    let has : (r : Row) → has_row r rows ≡ places_have (places_of c.args.world.now) r = λ r. ap (λ (b : Rows). has_row r b.base) c.from_vec-whole.ensures ∙ c.in_ok-rows_of.ensures.has r in
    Stands-leaves_for (places_of c.args.world.now) rows has leaves c.args.leaves.now are c.requires.tile is

pub returns-clause-folded : goal.returns-clause-folded
returns-clause-folded g c =
    let rows : List Row = c.from_vec-whole.result.base in
    let leaves : List Leaf = g.I.Index.leaves c.in_ok-growing.growing.index in
    let are = g.met.I.Index.are_leaves c.in_ok-growing.growing.index in
    let is : leaves ≡ leaves_for rows c.args.leaves.now =
    all_there rows c.args.leaves.now c.whole-name.result (arc_value c.in_ok-cut_out.field-0) (g.I.Index.leaves c.in_ok-index.index) leaves c.in_ok-growing.growing.done
    c.whole-name.ensures c.in_ok-cut_out.ensures c.in_ok-index.ensures c.requires.tile are c.in_ok-growing.ensures in
    folded-leaves_for rows leaves c.args.leaves.now is
