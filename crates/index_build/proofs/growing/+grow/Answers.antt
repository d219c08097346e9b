use Rattle.std.proofs.Common.{rules, ◌≡◌, ◌+◌, ◌-◌, ◌^◌, ◌<◌, ◌≤◌, ◌∙◌, ap, sym, arith, Bool, true, false, List, length, get_or, slice_get, Some}
use Rattle.zorder.specs.SameName.{same_name}
use Rattle.zorder.specs.Tile.{children}
use Rattle.index_build.proofs.ChildNames.{child-at, shifted, width-positive}
use Rattle.index_build.proofs.GrowingLeaves.{IsAsked, next_there, name_there, room-there, growing-split, done-there, child-there, child-splits, child-no_longer, growing-child}
use Rattle.index_build.proofs.growing.+grow.Goals as goal

pub offset_bounds-leaves-done : goal.offset_bounds-leaves-done
offset_bounds-leaves-done g t c =
    let a : IsAsked g.I.Index.WIDTH c.args.whole.now.base c.args.leaves.now c.args.growing.done c.args.name.now (g.I.Index.leaves c.args.growing.index) = record {
      width = g.met.I.Index.width;
      are_leaves = g.met.I.Index.are_leaves c.args.growing.index;
      grown = c.requires.grown;
      splits = c.requires.splits;
      no_shorter = c.requires.longer;
      there = c.requires.leaf;
    } in
    let lt : c.args.growing.done < length c.args.leaves.now = (next_there a).within in
    search rules

pub bounds-leaves-done : goal.bounds-leaves-done
bounds-leaves-done g t c =
    let a : IsAsked g.I.Index.WIDTH c.args.whole.now.base c.args.leaves.now c.args.growing.done c.args.name.now (g.I.Index.leaves c.args.growing.index) = record {
      width = g.met.I.Index.width;
      are_leaves = g.met.I.Index.are_leaves c.args.growing.index;
      grown = c.requires.grown;
      splits = c.requires.splits;
      no_shorter = c.requires.longer;
      there = c.requires.leaf;
    } in
    (next_there a).within

pub overflow_add-result : goal.overflow_add-result
overflow_add-result g t c =
    let a : IsAsked g.I.Index.WIDTH c.args.whole.now.base c.args.leaves.now c.args.growing.done c.args.name.now (g.I.Index.leaves c.args.growing.index) = record {
      width = g.met.I.Index.width;
      are_leaves = g.met.I.Index.are_leaves c.args.growing.index;
      grown = c.requires.grown;
      splits = c.requires.splits;
      no_shorter = c.requires.longer;
      there = c.requires.leaf;
    } in
    let lt : c.args.growing.done < length c.args.leaves.now = (next_there a).within in
    search rules

pub returns-then-eq : goal.returns-then-eq
returns-then-eq g t c =
    let a : IsAsked g.I.Index.WIDTH c.args.whole.now.base c.args.leaves.now c.args.growing.done c.args.name.now (g.I.Index.leaves c.args.growing.index) = record {
      width = g.met.I.Index.width;
      are_leaves = g.met.I.Index.are_leaves c.args.growing.index;
      grown = c.requires.grown;
      splits = c.requires.splits;
      no_shorter = c.requires.longer;
      there = c.requires.leaf;
    } in
    let n = next_there a in
    let same : same_name n.next c.args.name.now ≡ true = ap (λ (m : List Bool). same_name m c.args.name.now) (sym (n.at c.index-leaves-done.result) ∙ sym c.index-leaves-done.is) ∙ sym c.eq.ensures ∙ c.if-eq.true in
    λ later is. done-there c.args.whole.now.base c.args.leaves.now c.args.growing.done c.args.name.now later (g.I.Index.leaves c.args.growing.index) is n same

pub split-requires-clause-short : goal.split-requires-clause-short
split-requires-clause-short g t c =
    let a : IsAsked g.I.Index.WIDTH c.args.whole.now.base c.args.leaves.now c.args.growing.done c.args.name.now (g.I.Index.leaves c.args.growing.index) = record {
      width = g.met.I.Index.width;
      are_leaves = g.met.I.Index.are_leaves c.args.growing.index;
      grown = c.requires.grown;
      splits = c.requires.splits;
      no_shorter = c.requires.longer;
      there = c.requires.leaf;
    } in
    let other : (d : List Bool) → same_name (get_or c.args.leaves.now c.args.growing.done d) c.args.name.now ≡ false =
    λ d. ap (λ (n : List Bool). same_name n c.args.name.now) ((next_there a).at d ∙ sym ((next_there a).at c.index-leaves-done.result) ∙ sym c.index-leaves-done.is) ∙ sym c.eq.ensures ∙ c.if-eq.false in
    room-there a other

pub split-requires-clause-leaf : goal.split-requires-clause-leaf
split-requires-clause-leaf g t c =
    let a : IsAsked g.I.Index.WIDTH c.args.whole.now.base c.args.leaves.now c.args.growing.done c.args.name.now (g.I.Index.leaves c.args.growing.index) = record {
      width = g.met.I.Index.width;
      are_leaves = g.met.I.Index.are_leaves c.args.growing.index;
      grown = c.requires.grown;
      splits = c.requires.splits;
      no_shorter = c.requires.longer;
      there = c.requires.leaf;
    } in
    name_there a

pub loop-place-init : goal.loop-place-init
loop-place-init g t c =
    let a : IsAsked g.I.Index.WIDTH c.args.whole.now.base c.args.leaves.now c.args.growing.done c.args.name.now (g.I.Index.leaves c.args.growing.index) = record {
      width = g.met.I.Index.width;
      are_leaves = g.met.I.Index.are_leaves c.args.growing.index;
      grown = c.requires.grown;
      splits = c.requires.splits;
      no_shorter = c.requires.longer;
      there = c.requires.leaf;
    } in
    let other : (d : List Bool) → same_name (get_or c.args.leaves.now c.args.growing.done d) c.args.name.now ≡ false =
    λ d. ap (λ (n : List Bool). same_name n c.args.name.now) ((next_there a).at d ∙ sym ((next_there a).at c.index-leaves-done.result) ∙ sym c.index-leaves-done.is) ∙ sym c.eq.ensures ∙ c.if-eq.false in
    growing-split a other (g.I.Index.leaves c.split.new.index) c.in_ok-split.ensures

pub child_at-requires-clause-short : goal.child_at-requires-clause-short
child_at-requires-clause-short g t c =
    let a : IsAsked g.I.Index.WIDTH c.args.whole.now.base c.args.leaves.now c.args.growing.done c.args.name.now (g.I.Index.leaves c.args.growing.index) = record {
      width = g.met.I.Index.width;
      are_leaves = g.met.I.Index.are_leaves c.args.growing.index;
      grown = c.requires.grown;
      splits = c.requires.splits;
      no_shorter = c.requires.longer;
      there = c.requires.leaf;
    } in
    let other : (d : List Bool) → same_name (get_or c.args.leaves.now c.args.growing.done d) c.args.name.now ≡ false =
    λ d. ap (λ (n : List Bool). same_name n c.args.name.now) ((next_there a).at d ∙ sym ((next_there a).at c.index-leaves-done.result) ∙ sym c.index-leaves-done.is) ∙ sym c.eq.ensures ∙ c.if-eq.false in
    omega (arith, room-there a other, c.WIDTH-in-loop-place.ensures)

pub grow-requires : goal.grow-requires
grow-requires g t c κs within =
    let a : IsAsked g.I.Index.WIDTH c.args.whole.now.base c.args.leaves.now c.args.growing.done c.args.name.now (g.I.Index.leaves c.args.growing.index) = record {
      width = g.met.I.Index.width;
      are_leaves = g.met.I.Index.are_leaves c.args.growing.index;
      grown = c.requires.grown;
      splits = c.requires.splits;
      no_shorter = c.requires.longer;
      there = c.requires.leaf;
    } in
    let other : (d : List Bool) → same_name (get_or c.args.leaves.now c.args.growing.done d) c.args.name.now ≡ false =
    λ d. ap (λ (n : List Bool). same_name n c.args.name.now) ((next_there a).at d ∙ sym ((next_there a).at c.index-leaves-done.result) ∙ sym c.index-leaves-done.is) ∙ sym c.eq.ensures ∙ c.if-eq.false in
    let room : length c.args.name.now + g.I.Index.WIDTH ≤ 64 = room-there a other in
    let at : slice_get (children g.I.Index.WIDTH c.args.name.now) c.loop-place.place ≡ Some c.child_at.result = ap (λ w. slice_get (children w c.args.name.now) c.loop-place.place) (sym c.WIDTH-in-loop-place.ensures) ∙ c.child_at.ensures in
    let lt : c.loop-place.place < 2 ^ g.I.Index.WIDTH = omega (arith, c.loop-place-test.true, shifted c.WIDTH.result g.I.Index.WIDTH c.WIDTH.ensures a.width) in
    let is = child-at g.I.Index.WIDTH c.args.name.now c.loop-place.place c.child_at.result at in
    let less : 64 - length c.child_at.result < 64 - length c.args.name.now = omega (arith, is.long, room, width-positive g.I.Index.WIDTH a.width) in
    (omega (arith, less, c.decreases), (within.0, (within.1, (c.requires.grown, (child-splits a c.loop-place.invariant room c.child_at.result at, (child-no_longer a c.loop-place.invariant room c.child_at.result at (g.met.I.Index.are_leaves c.loop-place.growing.index) lt, child-there a c.loop-place.invariant room c.child_at.result at))))))

pub loop-place-preserved : goal.loop-place-preserved
loop-place-preserved g t c =
    let a : IsAsked g.I.Index.WIDTH c.args.whole.now.base c.args.leaves.now c.args.growing.done c.args.name.now (g.I.Index.leaves c.args.growing.index) = record {
      width = g.met.I.Index.width;
      are_leaves = g.met.I.Index.are_leaves c.args.growing.index;
      grown = c.requires.grown;
      splits = c.requires.splits;
      no_shorter = c.requires.longer;
      there = c.requires.leaf;
    } in
    let other : (d : List Bool) → same_name (get_or c.args.leaves.now c.args.growing.done d) c.args.name.now ≡ false =
    λ d. ap (λ (n : List Bool). same_name n c.args.name.now) ((next_there a).at d ∙ sym ((next_there a).at c.index-leaves-done.result) ∙ sym c.index-leaves-done.is) ∙ sym c.eq.ensures ∙ c.if-eq.false in
    let room : length c.args.name.now + g.I.Index.WIDTH ≤ 64 = room-there a other in
    let at : slice_get (children g.I.Index.WIDTH c.args.name.now) c.loop-place.place ≡ Some c.child_at.result = ap (λ w. slice_get (children w c.args.name.now) c.loop-place.place) (sym c.WIDTH-in-loop-place.ensures) ∙ c.child_at.ensures in
    growing-child a c.loop-place.invariant room c.child_at.result at c.in_ok-growing.growing.done (g.I.Index.leaves c.in_ok-growing.growing.index) (g.met.I.Index.are_leaves c.in_ok-growing.growing.index) c.in_ok-growing.ensures
