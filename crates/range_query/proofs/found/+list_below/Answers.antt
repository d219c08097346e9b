use Rattle.std.proofs.Common.{◌≡◌, ◌≤◌, ◌+◌, ◌++◌, ◌∷◌, ◌∙◌, [], Bool, List, OnOk, length, length-append, true, false, refl, sym, ap, subst, arith, ◌<◌, rules}
use Rattle.std.specs.Arc.{arc_value}
use Rattle.std.proofs.lemmas.List.{length-map}
use Rattle.zorder.specs.declared.points.Placed.{Placed}
use Rattle.plain_list.specs.Queries.{most_listed}
use Rattle.prefix_names.specs.Regions.{region_of}
use Rattle.index_layer.specs.Leaves.{Leaf, all_rows}
use Rattle.table_share.specs.KeysUnder.{AreKeysUnder}
use Rattle.table_share.specs.Objects.{placed_of}
use Rattle.table_share.specs.Subtree.{subtree, leaves_of}
use Rattle.table_share.proofs.Subtrees.{whenever, inner-room, passing-both, passing-leaf, subtree-failing}
use Rattle.range_query.specs.Cut.{IsAreaOf, is_met, leaves_met, objects_held}
use Rattle.range_query.specs.Listing.{IsListing}
use Rattle.range_query.proofs.BoxLeaves.{keys_of_leaf, met-is, is_met-narrows, found_one, found_two, found_none, held-append}
use Rattle.range_query.proofs.Listings.{on_ok}
use Rattle.range_query.proofs.Reaches.{area-box}
use Rattle.range_query.proofs.Wholes.{met-whole, held-whole, within-name}
use Rattle.range_query.proofs.found.+list_below.Goals as goal

pub returns-then-not-meets-clause-lists : goal.returns-then-not-meets-clause-lists
returns-then-not-meets-clause-lists g t c under ms fits is =
    let leaves : List Leaf = g.I.Index.leaves c.args.index.now in
    let fails : is_met c.args.region.now c.args.name.now ≡ false = met-is c.args.region.now c.args.area.now c.args.name.now c.meets.result false c.meets.ensures.test c.requires.area.is c.if-not-meets.true in
    let none = subtree-failing (is_met c.args.region.now) (is_met-narrows c.args.region.now c.requires.is_box) c.args.name.now 0 leaves (g.met.I.Index.are_leaves c.args.index.now).tile fails in
    subst (λ (xs : List Placed). IsListing xs c.args.found.now) (found_none c.args.region.now c.requires.is_box ms (leaves_met c.args.region.now (subtree c.args.name.now leaves)) none) is

pub returns-then-not-meets-clause-exact : goal.returns-then-not-meets-clause-exact
returns-then-not-meets-clause-exact g t c few =
    let leaves : List Leaf = g.I.Index.leaves c.args.index.now in
    let fails : is_met c.args.region.now c.args.name.now ≡ false = met-is c.args.region.now c.args.area.now c.args.name.now c.meets.result false c.meets.ensures.test c.requires.area.is c.if-not-meets.true in
    let none = subtree-failing (is_met c.args.region.now) (is_met-narrows c.args.region.now c.requires.is_box) c.args.name.now 0 leaves (g.met.I.Index.are_leaves c.args.index.now).tile fails in
    omega (arith, ap length none)

pub meets-requires-clause-a_box : goal.meets-requires-clause-a_box
meets-requires-clause-a_box g t c = area-box c.args.name.now c.args.area.now c.requires.area

pub halves-requires-clause-room : goal.halves-requires-clause-room
halves-requires-clause-room g t c =
    inner-room c.args.name.now (g.I.Index.leaves c.args.index.now) (g.met.I.Index.are_leaves c.args.index.now).tile c.in-Halves.ensures.0

pub child-requires : goal.child-requires
child-requires g t c =
    inner-room c.args.name.now (g.I.Index.leaves c.args.index.now) (g.met.I.Index.are_leaves c.args.index.now).tile c.in-Halves.ensures.0

pub returns-in_err-list_below-in-Halves-clause-opened : goal.returns-in_err-list_below-in-Halves-clause-opened
returns-in_err-list_below-in-Halves-clause-opened g t c =
    let leaves : List Leaf = g.I.Index.leaves c.args.index.now in
    let name = c.args.name.now in
    let passes : List Bool → Bool = is_met c.args.region.now in
    let both = passing-both passes leaves (g.met.I.Index.are_leaves c.args.index.now).tile name c.child.result (name ++ true ∷ []) c.child.ensures refl c.in-Halves.ensures.0 c.in-Halves.ensures.1 in
    omega (arith, c.list_below.ensures.opened, ap length both, length-append (leaves_of passes (subtree c.child.result leaves)) (leaves_of passes (subtree (name ++ true ∷ []) leaves)))

pub returns-then-inside-clause-lists : goal.returns-then-inside-clause-lists
returns-then-inside-clause-lists g t c under ms fits is =
    let leaves : List Leaf = g.I.Index.leaves c.args.index.now in
    let name = c.args.name.now in
    let held = held-whole c.args.region.now c.requires.is_box name (within-name c.args.area.now c.args.region.now name c.requires.area (c.inside.ensures.points.0 c.if-inside.true))
    leaves (g.met.I.Index.are_leaves c.args.index.now).tile under in
    subst (λ (xs : List Placed). OnOk c.list_whole.result (IsListing (ms ++ xs) c.list_whole.new.found)) (sym held)
    (c.list_whole.ensures.lists ms (omega (arith, fits, ap length held, length-map (all_rows (subtree name leaves)) placed_of)) is)

pub returns-then-inside-clause-opened : goal.returns-then-inside-clause-opened
returns-then-inside-clause-opened g t c =
    let name = c.args.name.now in
    let met = met-whole c.args.region.now c.requires.is_box name (within-name c.args.area.now c.args.region.now name c.requires.area (c.inside.ensures.points.0 c.if-inside.true))
    0 (g.I.Index.leaves c.args.index.now) (g.met.I.Index.are_leaves c.args.index.now).tile in
    omega (arith, c.list_whole.ensures.opened, ap length met)

pub returns-then-inside-clause-exact : goal.returns-then-inside-clause-exact
returns-then-inside-clause-exact g t c =
    let name = c.args.name.now in
    let met = met-whole c.args.region.now c.requires.is_box name (within-name c.args.area.now c.args.region.now name c.requires.area (c.inside.ensures.points.0 c.if-inside.true))
    0 (g.I.Index.leaves c.args.index.now) (g.met.I.Index.are_leaves c.args.index.now).tile in
    subst (λ n. OnOk c.list_whole.result (c.list_whole.new.found.count ≤ most_listed → c.list_whole.new.steps ≡ c.args.steps.now + n)) (sym (ap length met)) c.list_whole.ensures.exact

pub inside-requires-clause-a_box : goal.inside-requires-clause-a_box
inside-requires-clause-a_box g t c = area-box c.args.name.now c.args.area.now c.requires.area

pub returns-in-Leaf-clause-lists : goal.returns-in-Leaf-clause-lists
returns-in-Leaf-clause-lists g t c under ms fits is =
    let leaves : List Leaf = g.I.Index.leaves c.args.index.now in
    let name = c.args.name.now in
    let region = c.args.region.now in
    let b = arc_value c.in-Leaf.bucket.now in
    let rows = c.deref.result.now.rows in
    let passes : List Bool → Bool = is_met region in
    let ls : List Leaf = leaves_of passes (subtree name leaves) in
    let one = passing-leaf passes leaves (g.met.I.Index.are_leaves c.args.index.now).tile name b c.in-Leaf.ensures (met-is region c.args.area.now c.args.name.now c.meets.result true c.meets.ensures.test c.requires.area.is c.if-not-meets.false) in
    let count = ap length (found_one region c.requires.is_box [] rows ls name b (ap (λ r. r.rows) c.deref.ensures) one) in
    subst (λ (xs : List Placed). OnOk c.list_leaf.result (IsListing xs c.list_leaf.new.found)) (found_one region c.requires.is_box ms rows ls name b (ap (λ r. r.rows) c.deref.ensures) one)
    (c.list_leaf.ensures.lists (subst (λ r. AreKeysUnder name r.rows) (sym c.deref.ensures) (keys_of_leaf name b leaves c.in-Leaf.ensures under)) ms (omega (arith, fits, count)) is)

pub returns-in-Leaf-clause-opened : goal.returns-in-Leaf-clause-opened
returns-in-Leaf-clause-opened g t c =
    let leaves : List Leaf = g.I.Index.leaves c.args.index.now in
    let passes : List Bool → Bool = is_met c.args.region.now in
    let one = passing-leaf passes leaves (g.met.I.Index.are_leaves c.args.index.now).tile c.args.name.now (arc_value c.in-Leaf.bucket.now) c.in-Leaf.ensures (met-is c.args.region.now c.args.area.now c.args.name.now c.meets.result true c.meets.ensures.test c.requires.area.is c.if-not-meets.false) in
    omega (arith, c.list_leaf.ensures.opened, ap length one)

pub returns-in-Leaf-clause-exact : goal.returns-in-Leaf-clause-exact
returns-in-Leaf-clause-exact g t c =
    let leaves : List Leaf = g.I.Index.leaves c.args.index.now in
    let passes : List Bool → Bool = is_met c.args.region.now in
    let one = passing-leaf passes leaves (g.met.I.Index.are_leaves c.args.index.now).tile c.args.name.now (arc_value c.in-Leaf.bucket.now) c.in-Leaf.ensures (met-is c.args.region.now c.args.area.now c.args.name.now c.meets.result true c.meets.ensures.test c.requires.area.is c.if-not-meets.false) in
    whenever c.list_leaf.result (λ few. omega (arith, c.list_leaf.ensures.opened, ap length one))

pub returns-in_ok-list_below-in-Halves-clause-lists : goal.returns-in_ok-list_below-in-Halves-clause-lists
returns-in_ok-list_below-in-Halves-clause-lists g t c under ms fits is =
    let leaves : List Leaf = g.I.Index.leaves c.args.index.now in
    let name = c.args.name.now in
    let region = c.args.region.now in
    let passes : List Bool → Bool = is_met region in
    let ls : List Leaf = leaves_of passes (subtree name leaves) in
    let zero : List Leaf = leaves_of passes (subtree c.child.result leaves) in
    let one : List Leaf = leaves_of passes (subtree c.child-in-Halves.result leaves) in
    let both = passing-both passes leaves (g.met.I.Index.are_leaves c.args.index.now).tile name c.child.result c.child-in-Halves.result c.child.ensures c.child-in-Halves.ensures c.in-Halves.ensures.0 c.in-Halves.ensures.1 in
    let held : List Leaf → List Placed = objects_held region in
    let sum = ap length (ap held both ∙ held-append region c.requires.is_box zero one) in
    let parts = length-append (held zero) (held one) in
    let first = c.in_ok-list_below-in-Halves.ensures.lists under ms (omega (arith, fits, sum, parts)) is in
    subst (λ (xs : List Placed). OnOk c.list_below-in-Halves.result (IsListing xs c.list_below-in-Halves.new.found)) (found_two region c.requires.is_box ms (ms ++ held zero) ls zero one both refl)
    (c.list_below-in-Halves.ensures.lists under (ms ++ held zero) (omega (arith, fits, sum, parts, length-append ms (held zero))) first)

pub returns-in_ok-list_below-in-Halves-clause-opened : goal.returns-in_ok-list_below-in-Halves-clause-opened
returns-in_ok-list_below-in-Halves-clause-opened g t c =
    let leaves : List Leaf = g.I.Index.leaves c.args.index.now in
    let name = c.args.name.now in
    let passes : List Bool → Bool = is_met c.args.region.now in
    let both = passing-both passes leaves (g.met.I.Index.are_leaves c.args.index.now).tile name c.child.result c.child-in-Halves.result c.child.ensures c.child-in-Halves.ensures c.in-Halves.ensures.0 c.in-Halves.ensures.1 in
    omega (
      arith,
      c.list_below.ensures.opened,
      c.list_below-in-Halves.ensures.opened,
      ap length both,
      length-append (leaves_of passes (subtree c.child.result leaves)) (leaves_of passes (subtree c.child-in-Halves.result leaves)),
    )

pub returns-in_ok-list_below-in-Halves-clause-exact : goal.returns-in_ok-list_below-in-Halves-clause-exact
returns-in_ok-list_below-in-Halves-clause-exact g t c =
    let leaves : List Leaf = g.I.Index.leaves c.args.index.now in
    let name = c.args.name.now in
    let passes : List Bool → Bool = is_met c.args.region.now in
    let zero : List Leaf = leaves_of passes (subtree c.child.result leaves) in
    let one : List Leaf = leaves_of passes (subtree c.child-in-Halves.result leaves) in
    let both = passing-both passes leaves (g.met.I.Index.are_leaves c.args.index.now).tile name c.child.result c.child-in-Halves.result c.child.ensures c.child-in-Halves.ensures c.in-Halves.ensures.0 c.in-Halves.ensures.1 in
    let first = c.in_ok-list_below-in-Halves.ensures.exact in
    let grows = c.list_below-in-Halves.ensures.grows in
    on_ok c.list_below-in-Halves.result
    (λ rest few. let before = first (omega (arith, few, grows)) in let after = rest few in omega (arith, before, after, ap length both, length-append zero one))
    c.list_below-in-Halves.ensures.exact

pub child-requires-in-Halves : goal.child-requires-in-Halves
child-requires-in-Halves g t c =
    inner-room c.args.name.now (g.I.Index.leaves c.args.index.now) (g.met.I.Index.are_leaves c.args.index.now).tile c.in-Halves.ensures.0

pub list_below-requires : goal.list_below-requires
list_below-requires g t c κs within =
    let name = c.args.name.now in
    let room : length name < 64 = inner-room c.args.name.now (g.I.Index.leaves c.args.index.now) (g.met.I.Index.are_leaves c.args.index.now).tile c.in-Halves.ensures.0 in
    let longer : length c.child.result ≡ length name + 1 = ap length c.child.ensures ∙ length-append name (false ∷ []) in
    let there = subst (g.I.Index.is_at c.args.index.now c.in-Halves.zero.now) (sym c.child.ensures) c.in-Halves.ensures.2 in
    let of : IsAreaOf c.child.result c.halves.result.0 = record { is = c.halves.ensures.zero ∙ ap region_of (sym c.child.ensures); short = omega (arith, room, longer) } in
    (omega (arith, room, longer), (search rules, (search rules, (search rules, (c.requires.is_box, (there, of))))))

pub list_below-requires-in-Halves : goal.list_below-requires-in-Halves
list_below-requires-in-Halves g t c κs within =
    let name = c.args.name.now in
    let room : length name < 64 = inner-room c.args.name.now (g.I.Index.leaves c.args.index.now) (g.met.I.Index.are_leaves c.args.index.now).tile c.in-Halves.ensures.0 in
    let longer : length c.child-in-Halves.result ≡ length name + 1 = ap length c.child-in-Halves.ensures ∙ length-append name (true ∷ []) in
    let there = subst (g.I.Index.is_at c.args.index.now c.in-Halves.one.now) (sym c.child-in-Halves.ensures) c.in-Halves.ensures.3 in
    let of : IsAreaOf c.child-in-Halves.result c.halves.result.1 = record { is = c.halves.ensures.one ∙ ap region_of (sym c.child-in-Halves.ensures); short = omega (arith, room, longer) } in
    (omega (arith, room, longer), (search rules, (search rules, (search rules, (c.requires.is_box, (there, of))))))

pub halves-requires-clause-whole : goal.halves-requires-clause-whole
halves-requires-clause-whole g t c = c.requires.area.is
