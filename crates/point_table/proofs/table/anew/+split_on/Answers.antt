use Rattle.std.proofs.Common.{◌≡◌, ◌+◌, ◌-◌, ◌<◌, ◌≤◌, ◌∙◌, ap, sym, arith, true, false, length, slice_get, Some}
use Rattle.std.specs.Prelude.{nat_le, nat_lt}
use Rattle.std.specs.Arc.{arc_value}
use Rattle.std.specs.Cmp.{second_so}
use Rattle.std.proofs.lemmas.Bool.{leb-true}
use Rattle.zorder.specs.Tile.{children}
use Rattle.index_build.proofs.ChildNames.{child-at, width-positive}
use Rattle.index_build.proofs.GrowingLeaves.{has_name-there}
use Rattle.point_table.specs.Crowds.{is_crowded}
use Rattle.point_table.proofs.SplitOn.{no-leaf, crowded-there, split-none, split-first, child-there, split-child}
use Rattle.point_table.proofs.table.anew.+split_on.Goals as goal

pub unreachable-requires : goal.unreachable-requires
unreachable-requires g t c =
    let leaves = g.I.Index.leaves c.args.index.now in
    no-leaf leaves c.args.name.now c.part.result c.part.ensures (has_name-there c.args.whole.now.base c.requires.done c.args.name.now c.requires.later leaves c.requires.has.leaves_are) c.in_default.not-Leaf

pub returns-then-not-is_over : goal.returns-then-not-is_over
returns-then-not-is_over g t c =
    let w = g.I.Index.WIDTH in
    let name = c.args.name.now in
    let rows = c.args.whole.now.base in
    let leaves = g.I.Index.leaves c.args.index.now in
    let told : is_crowded w c.args.size (record { name = name; bucket = arc_value c.in-Leaf.bucket.now }) ≡ false =
    (λ i. is_crowded (sym c.WIDTH.ensures i) c.args.size (record { name = name; bucket = sym c.deref.ensures i })) ∙ sym c.is_over.ensures ∙ c.if-not-is_over.true in
    split-none w c.args.size rows name leaves (sym (crowded-there w c.args.size rows name leaves (arc_value c.in-Leaf.bucket.now) c.requires c.in-Leaf.ensures) ∙ told)

pub split-requires-clause-leaf : goal.split-requires-clause-leaf
split-requires-clause-leaf g t c = has_name-there c.args.whole.now.base c.requires.done c.args.name.now c.requires.later (g.I.Index.leaves c.args.index.now) c.requires.has.leaves_are

pub loop-place-init : goal.loop-place-init
loop-place-init g t c =
    let w = g.I.Index.WIDTH in
    let name = c.args.name.now in
    let rows = c.args.whole.now.base in
    let leaves = g.I.Index.leaves c.args.index.now in
    let told : is_crowded w c.args.size (record { name = name; bucket = arc_value c.in-Leaf.bucket.now }) ≡ true =
    (λ i. is_crowded (sym c.WIDTH.ensures i) c.args.size (record { name = name; bucket = sym c.deref.ensures i })) ∙ sym c.is_over.ensures ∙ c.if-not-is_over.false in
    let over = sym (crowded-there w c.args.size rows name leaves (arc_value c.in-Leaf.bucket.now) c.requires c.in-Leaf.ensures) ∙ told in
    split-first w c.args.size rows name leaves (g.I.Index.leaves c.split.new.index) (g.met.I.Index.are_leaves c.args.index.now) over c.in_ok-split.ensures

pub split_on-requires : goal.split_on-requires
split_on-requires g t c κs within =
    let w = g.I.Index.WIDTH in
    let name = c.args.name.now in
    let child = c.child_at-child.result in
    let at : slice_get (children w name) c.loop-place.place ≡ Some child = ap (λ v. slice_get (children v name) c.loop-place.place) (sym c.WIDTH-in-loop-place.ensures) ∙ c.child_at-child.ensures in
    let told : is_crowded c.WIDTH.result c.args.size (record { name = name; bucket = c.deref.result.now }) ≡ true = sym c.is_over.ensures ∙ c.if-not-is_over.false in
    let room : length name + c.WIDTH.result ≤ 64 = leb-true (length name + c.WIDTH.result) 64 (second_so (nat_lt c.args.size (length c.deref.result.now.rows)) (nat_le (length name + c.WIDTH.result) 64) told) in
    let less : 64 - length child < 64 - length name = omega (arith, (child-at w name c.loop-place.place child at).long, room, c.WIDTH.ensures, width-positive w g.met.I.Index.width) in (
      omega (arith, less, c.decreases),
      (
        within.0,
        (
          within.1,
          child-there w c.args.size c.args.whole.now.base name (g.I.Index.leaves c.args.index.now) c.loop-place.place (g.I.Index.leaves c.loop-place.index) c.loop-place.invariant child at c.requires,
        ),
      ),
    )

pub loop-place-preserved : goal.loop-place-preserved
loop-place-preserved g t c =
    let w = g.I.Index.WIDTH in
    let name = c.args.name.now in
    let child = c.child_at-child.result in
    let at : slice_get (children w name) c.loop-place.place ≡ Some child = ap (λ v. slice_get (children v name) c.loop-place.place) (sym c.WIDTH-in-loop-place.ensures) ∙ c.child_at-child.ensures in
    split-child w c.args.size c.args.whole.now.base name (g.I.Index.leaves c.args.index.now) c.loop-place.place (g.I.Index.leaves c.loop-place.index) c.loop-place.invariant child at (g.I.Index.leaves c.split_on.new.index) c.in_ok-split_on.ensures
