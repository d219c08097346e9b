use Rattle.std.proofs.Common.{◌≡◌, ◌<◌, ◌^◌, ◌∙◌, ℕ, cond, List, length, length-append, true, false, not, sym, ap, subst, arith, ◌+◌, ◌∷◌, [], rules}
use Rattle.std.specs.Prelude.{◌&&◌}
use Rattle.std.specs.Arc.{arc_value}
use Rattle.std.specs.Cmp.Derive.{both_true}
use Rattle.zorder.specs.declared.points.Region.{Region}
use Rattle.prefix_names.specs.Regions.{lies_in, region_of}
use Rattle.index_layer.specs.Leaves.{Leaf, all_rows}
use Rattle.table_share.specs.KeysUnder.{AreKeysUnder}
use Rattle.table_share.specs.Subtree.{subtree}
use Rattle.table_share.proofs.Subtrees.{inner-room, passing-both, passing-leaf, subtree-failing, subtree-leaf}
use Rattle.range_query.specs.Cut.{IsAreaOf, is_met, is_cut, leaves_met, leaves_cut, number_in}
use Rattle.range_query.proofs.BoxCounts.{count_one, count_two, cut_one}
use Rattle.range_query.proofs.BoxLeaves.{keys_of_leaf, met-is, is_met-narrows, is_cut-narrows}
use Rattle.range_query.proofs.Reaches.{area-box}
use Rattle.range_query.proofs.Wholes.{number-whole, uncut-whole, within-name}
use Rattle.range_query.proofs.counts.+number_below.Goals as goal

pub returns-then-not-meets-clause-number : goal.returns-then-not-meets-clause-number
returns-then-not-meets-clause-number g t c under fits =
    let leaves : List Leaf = g.I.Index.leaves c.args.index.now in
    let region = c.args.region.now in
    let fails : is_met region c.args.name.now ≡ false = met-is region c.args.area.now c.args.name.now c.meets.result false c.meets.ensures.test c.requires.area.is c.if-not-meets.true in
    sym (ap (λ (ls : List Leaf). number_in region (all_rows ls)) (subtree-failing (is_met region) (is_met-narrows region c.requires.is_box) c.args.name.now 0 leaves (g.met.I.Index.are_leaves c.args.index.now).tile fails))

pub returns-then-not-meets-clause-opened : goal.returns-then-not-meets-clause-opened
returns-then-not-meets-clause-opened g t c =
    let leaves : List Leaf = g.I.Index.leaves c.args.index.now in
    let region = c.args.region.now in
    let fails : is_met region c.args.name.now ≡ false = met-is region c.args.area.now c.args.name.now c.meets.result false c.meets.ensures.test c.requires.area.is c.if-not-meets.true in
    let uncut : is_cut region c.args.name.now ≡ false = ap (λ b. b && not (lies_in (region_of c.args.name.now) region)) fails in
    omega (arith, ap length (subtree-failing (is_cut region) (is_cut-narrows region c.requires.is_box) c.args.name.now 0 leaves (g.met.I.Index.are_leaves c.args.index.now).tile uncut))

pub meets-requires-clause-a_box : goal.meets-requires-clause-a_box
meets-requires-clause-a_box g t c = area-box c.args.name.now c.args.area.now c.requires.area

pub halves-requires-clause-room : goal.halves-requires-clause-room
halves-requires-clause-room g t c =
    inner-room c.args.name.now (g.I.Index.leaves c.args.index.now) (g.met.I.Index.are_leaves c.args.index.now).tile c.in-Halves.ensures.0

pub child-requires : goal.child-requires
child-requires g t c =
    inner-room c.args.name.now (g.I.Index.leaves c.args.index.now) (g.met.I.Index.are_leaves c.args.index.now).tile c.in-Halves.ensures.0

pub returns-then-inside-clause-number : goal.returns-then-inside-clause-number
returns-then-inside-clause-number g t c under fits =
    let leaves : List Leaf = g.I.Index.leaves c.args.index.now in
    let whole = number-whole c.args.region.now c.requires.is_box c.args.name.now (within-name c.args.area.now c.args.region.now c.args.name.now c.requires.area (c.inside.ensures.points.0 c.if-inside.true))
    leaves (g.met.I.Index.are_leaves c.args.index.now).tile under in
    omega (arith, c.count_below.ensures, whole, fits)

pub returns-then-inside-clause-opened : goal.returns-then-inside-clause-opened
returns-then-inside-clause-opened g t c =
    let leaves : List Leaf = g.I.Index.leaves c.args.index.now in
    let within : lies_in (region_of c.args.name.now) c.args.region.now ≡ true =
    ap (λ (r : Region). lies_in r c.args.region.now) (sym c.requires.area.is) ∙ sym c.inside.ensures.test ∙ c.if-inside.true in
    omega (arith, ap length (uncut-whole c.args.region.now c.requires.is_box c.args.name.now leaves (g.met.I.Index.are_leaves c.args.index.now).tile within))

pub inside-requires-clause-a_box : goal.inside-requires-clause-a_box
inside-requires-clause-a_box g t c = area-box c.args.name.now c.args.area.now c.requires.area

pub returns-in-Leaf-clause-number : goal.returns-in-Leaf-clause-number
returns-in-Leaf-clause-number g t c under fits =
    let leaves : List Leaf = g.I.Index.leaves c.args.index.now in
    let name = c.args.name.now in
    let region = c.args.region.now in
    let b = arc_value c.in-Leaf.bucket.now in
    let met : is_met region name ≡ true = met-is region c.args.area.now c.args.name.now c.meets.result true c.meets.ensures.test c.requires.area.is c.if-not-meets.false in
    let one = passing-leaf (is_met region) leaves (g.met.I.Index.are_leaves c.args.index.now).tile name b c.in-Leaf.ensures met in
    let same = count_one region c.deref.result.now.rows (leaves_met region (subtree name leaves)) name b (ap (λ b. b.rows) c.deref.ensures) one in
    let keys : AreKeysUnder name c.deref.result.now.rows = subst (λ b. AreKeysUnder name b.rows) (sym c.deref.ensures) (keys_of_leaf name b leaves c.in-Leaf.ensures under) in
    c.count_rows.ensures.number keys (subst (λ n. n < 2 ^ 64) same fits) ∙ sym same

pub returns-in-Leaf-clause-opened : goal.returns-in-Leaf-clause-opened
returns-in-Leaf-clause-opened g t c =
    let leaves : List Leaf = g.I.Index.leaves c.args.index.now in
    let name = c.args.name.now in
    let region = c.args.region.now in
    let b = arc_value c.in-Leaf.bucket.now in
    let met : is_met region name ≡ true = met-is region c.args.area.now name c.meets.result true c.meets.ensures.test c.requires.area.is c.if-not-meets.false in
    let part : lies_in (region_of name) region ≡ false =
    ap (λ (r : Region). lies_in r region) (sym c.requires.area.is) ∙ sym c.inside.ensures.test ∙ c.if-inside.false in
    let cut : is_cut region name ≡ true = both_true met (ap not part) in
    let one = subtree-leaf name 0 leaves (record { name = name; bucket = b }) (g.met.I.Index.are_leaves c.args.index.now).tile c.in-Leaf.ensures in
    omega (arith, c.count_rows.ensures.opened, ap (λ (ls : List Leaf). length (leaves_cut region ls)) one, cut_one region name b, ap {B = ℕ} (λ t. cond t 1 0) cut)

pub returns-in-Halves-clause-number : goal.returns-in-Halves-clause-number
returns-in-Halves-clause-number g t c under fits =
    let leaves : List Leaf = g.I.Index.leaves c.args.index.now in
    let name = c.args.name.now in
    let region = c.args.region.now in
    let both = passing-both (is_met region) leaves (g.met.I.Index.are_leaves c.args.index.now).tile name c.child.result c.child-in-Halves.result c.child.ensures c.child-in-Halves.ensures c.in-Halves.ensures.0 c.in-Halves.ensures.1 in
    let sum = count_two region (leaves_met region (subtree name leaves)) (leaves_met region (subtree c.child.result leaves)) (leaves_met region (subtree c.child-in-Halves.result leaves)) both in
    let first = c.number_below-first.ensures.number under (omega (arith, sum, fits)) in
    let second = c.number_below-second.ensures.number under (omega (arith, sum, fits)) in
    omega (arith, c.saturating_add.ensures, first, second, sum, fits)

pub returns-in-Halves-clause-opened : goal.returns-in-Halves-clause-opened
returns-in-Halves-clause-opened g t c =
    let leaves : List Leaf = g.I.Index.leaves c.args.index.now in
    let region = c.args.region.now in
    let both = passing-both (is_cut region) leaves (g.met.I.Index.are_leaves c.args.index.now).tile c.args.name.now c.child.result c.child-in-Halves.result c.child.ensures c.child-in-Halves.ensures c.in-Halves.ensures.0 c.in-Halves.ensures.1 in
    omega (arith, c.number_below-first.ensures.opened, c.number_below-second.ensures.opened, ap length both, length-append (leaves_cut region (subtree c.child.result leaves)) (leaves_cut region (subtree c.child-in-Halves.result leaves)))

pub child-requires-in-Halves : goal.child-requires-in-Halves
child-requires-in-Halves g t c =
    inner-room c.args.name.now (g.I.Index.leaves c.args.index.now) (g.met.I.Index.are_leaves c.args.index.now).tile c.in-Halves.ensures.0

pub number_below-first-requires : goal.number_below-first-requires
number_below-first-requires g t c κs within =
    let name = c.args.name.now in
    let room : length name < 64 = inner-room c.args.name.now (g.I.Index.leaves c.args.index.now) (g.met.I.Index.are_leaves c.args.index.now).tile c.in-Halves.ensures.0 in
    let longer : length c.child.result ≡ length name + 1 = ap length c.child.ensures ∙ length-append name (false ∷ []) in
    let there = subst (g.I.Index.is_at c.args.index.now c.in-Halves.zero.now) (sym c.child.ensures) c.in-Halves.ensures.2 in
    let of : IsAreaOf c.child.result c.halves.result.0 = record { is = c.halves.ensures.zero ∙ ap region_of (sym c.child.ensures); short = omega (arith, room, longer) } in
    (omega (arith, room, longer), (search rules, (search rules, (search rules, (c.requires.is_box, (there, of))))))

pub number_below-second-requires : goal.number_below-second-requires
number_below-second-requires g t c κs within =
    let name = c.args.name.now in
    let room : length name < 64 = inner-room c.args.name.now (g.I.Index.leaves c.args.index.now) (g.met.I.Index.are_leaves c.args.index.now).tile c.in-Halves.ensures.0 in
    let longer : length c.child-in-Halves.result ≡ length name + 1 = ap length c.child-in-Halves.ensures ∙ length-append name (true ∷ []) in
    let there = subst (g.I.Index.is_at c.args.index.now c.in-Halves.one.now) (sym c.child-in-Halves.ensures) c.in-Halves.ensures.3 in
    let of : IsAreaOf c.child-in-Halves.result c.halves.result.1 = record { is = c.halves.ensures.one ∙ ap region_of (sym c.child-in-Halves.ensures); short = omega (arith, room, longer) } in
    (omega (arith, room, longer), (search rules, (search rules, (search rules, (c.requires.is_box, (there, of))))))

pub halves-requires-clause-whole : goal.halves-requires-clause-whole
halves-requires-clause-whole g t c = c.requires.area.is
