use Rattle.std.proofs.Common.{◌≡◌, ◌∙◌, [], ap, length, arith, subst, Bool, true, List, rules}
use Rattle.std.specs.List.Sorted.{IsPermutation}
use Rattle.std.proofs.lemmas.Fn.{always_returns_same}
use Rattle.std.proofs.lemmas.List.Sorted.{IsPermutation-trans}
use Rattle.zorder.specs.declared.points.Placed.{Placed}
use Rattle.zorder.specs.declared.points.Region.{Region}
use Rattle.zorder.specs.Region.{IsBox, has_point}
use Rattle.zorder.specs.Tile.{tiles_from}
use Rattle.index_layer.specs.Leaves.{Leaf, names_of, all_rows}
use Rattle.index_layer.specs.Stands.{Stands}
use Rattle.plain_list.specs.Places.{ArePlaces}
use Rattle.plain_list.specs.Queries.{members_in}
use Rattle.table_share.specs.KeysUnder.{AreAllKeysUnder}
use Rattle.table_share.specs.Objects.{objects_of}
use Rattle.table_share.specs.Subtree.{subtree}
use Rattle.table_share.proofs.LeafRows.{leaves_under}
use Rattle.table_share.proofs.RowObjects.{objects-permutation}
use Rattle.table_share.proofs.TableRows.{table_of}
use Rattle.range_query.specs.Cut.{leaves_met, objects_held}
use Rattle.range_query.proofs.BoxCounts.{number-fits}
use Rattle.range_query.proofs.BoxLeaves.{held-met}
use Rattle.range_query.proofs.InOrder.{same_as_rising, IsRising-members_in}
use Rattle.range_query.proofs.Listings.{listed-many, listed-found}
use Rattle.range_query.proofs.Reaches.{short-some, met-below}
use Rattle.range_query.proofs.found.found_in.Goals as goal

-- all objects in the box are found in the leaves that it meets
held-of : (region : Region) → IsBox region → (below leaves : List Leaf) → leaves_met region below ≡ leaves_met region leaves → tiles_from 0 (names_of leaves) ≡ true → AreAllKeysUnder leaves
    → objects_held region (leaves_met region below) ≡ members_in region (objects_of (all_rows leaves))
held-of region is_box below leaves met tile under = ap (objects_held region) met ∙ held-met region is_box 0 leaves tile under

module _ (region : Region) (leaves : List Leaf) (places : List Placed) (names : List (List Bool)) (are_places : ArePlaces places) (stands : Stands leaves places names) where
  shuffled : IsPermutation (members_in region places) (members_in region (objects_of (all_rows leaves)))
  shuffled =
      let table = table_of leaves places names stands in
      objects-permutation (λ (m : Placed). has_point region m.at) places (all_rows leaves) are_places.rising are_places.points table.ordered table.has

pub list_below-requires-clause-area : goal.list_below-requires-clause-area
list_below-requires-clause-area g c = record {
  is = c.region-area.ensures.value;
  short = short-some c.reach-name.result.0 (g.I.Index.leaves c.args.index.now) (g.met.I.Index.are_leaves c.args.index.now).tile c.reach-name.ensures.some;
}

pub returns-in_err-list_below-clause-opened : goal.returns-in_err-list_below-clause-opened
returns-in_err-list_below-clause-opened g c =
    omega (arith, c.list_below.ensures.opened, ap length (met-below c.args.region.now c.requires c.key.result c.key-2.result c.key.ensures.sum c.key.ensures.back c.key-2.ensures.sum c.key-2.ensures.back (g.I.Index.leaves c.args.index.now) (g.met.I.Index.are_leaves c.args.index.now).tile c.reach-name.result.0 c.reach-name.ensures.some c.reach-name.ensures.over))

pub returns-then-found-gt-MOST_LISTED-clause-answer : goal.returns-then-found-gt-MOST_LISTED-clause-answer
returns-then-found-gt-MOST_LISTED-clause-answer g c places names are_places stands =
    let leaves : List Leaf = g.I.Index.leaves c.args.index.now in
    let region = c.args.region.now in
    let under = leaves_under places leaves stands.rows in
    let held = held-of region c.requires (subtree c.reach-name.result.0 leaves) leaves (met-below c.args.region.now c.requires c.key.result c.key-2.result c.key.ensures.sum c.key.ensures.back c.key-2.ensures.sum c.key-2.ensures.back (g.I.Index.leaves c.args.index.now) (g.met.I.Index.are_leaves c.args.index.now).tile c.reach-name.result.0 c.reach-name.ensures.some c.reach-name.ensures.over) (g.met.I.Index.are_leaves c.args.index.now).tile under in
    let fits = number-fits region leaves places names are_places stands in
    let is = c.in_ok-list_below.ensures.lists under [] (omega (arith, fits, ap length held)) c.in_ok-found.ensures in
    listed-many (members_in region places) (members_in region (objects_of (all_rows leaves))) c.list_below.new.found.count (shuffled region leaves places names are_places stands) (is.count ∙ ap length held) (omega (arith, c.if-found-gt-MOST_LISTED.true))

pub returns-then-found-gt-MOST_LISTED-clause-opened : goal.returns-then-found-gt-MOST_LISTED-clause-opened
returns-then-found-gt-MOST_LISTED-clause-opened g c =
    omega (arith, c.list_below.ensures.opened, ap length (met-below c.args.region.now c.requires c.key.result c.key-2.result c.key.ensures.sum c.key.ensures.back c.key-2.ensures.sum c.key-2.ensures.back (g.I.Index.leaves c.args.index.now) (g.met.I.Index.are_leaves c.args.index.now).tile c.reach-name.result.0 c.reach-name.ensures.some c.reach-name.ensures.over))

pub returns-clause-answer : goal.returns-clause-answer
returns-clause-answer g c places names are_places stands =
    let leaves : List Leaf = g.I.Index.leaves c.args.index.now in
    let region = c.args.region.now in
    let under = leaves_under places leaves stands.rows in
    let held = held-of region c.requires (subtree c.reach-name.result.0 leaves) leaves (met-below c.args.region.now c.requires c.key.result c.key-2.result c.key.ensures.sum c.key.ensures.back c.key-2.ensures.sum c.key-2.ensures.back (g.I.Index.leaves c.args.index.now) (g.met.I.Index.are_leaves c.args.index.now).tile c.reach-name.result.0 c.reach-name.ensures.some c.reach-name.ensures.over) (g.met.I.Index.are_leaves c.args.index.now).tile under in
    let fits = number-fits region leaves places names are_places stands in
    let is = c.in_ok-list_below.ensures.lists under [] (omega (arith, fits, ap length held)) c.in_ok-found.ensures in
    let found : c.list_below.new.found.list.items ≡ members_in region (objects_of (all_rows leaves)) = is.items (omega (arith, is.count, c.if-found-gt-MOST_LISTED.false)) ∙ held in
    let ys : List Placed = c.sort_unstable_by_key.new.self.items in
    let moved = shuffled region leaves places names are_places stands in
    let perm : IsPermutation (members_in region places) ys =
    IsPermutation-trans (members_in region places) (members_in region (objects_of (all_rows leaves))) ys moved (subst (λ (l : List Placed). IsPermutation l ys) found c.sort_unstable_by_key.ensures.permutation) in
    let sorted = c.sort_unstable_by_key.ensures.sorted (λ m. m.id) (always_returns_same _ _ _ (λ a r q k. search rules)) in
    listed-found (members_in region places) (members_in region (objects_of (all_rows leaves))) c.from_vec.result c.list_below.new.found.count moved (is.count ∙ ap length held) (omega (arith, c.if-found-gt-MOST_LISTED.false))
    (c.from_vec.ensures ∙ c.shrink_to_fit.ensures.items ∙ same_as_rising (members_in region places) ys (IsRising-members_in region places are_places.rising) perm sorted)

pub returns-clause-opened : goal.returns-clause-opened
returns-clause-opened g c =
    omega (arith, c.list_below.ensures.opened, ap length (met-below c.args.region.now c.requires c.key.result c.key-2.result c.key.ensures.sum c.key.ensures.back c.key-2.ensures.sum c.key-2.ensures.back (g.I.Index.leaves c.args.index.now) (g.met.I.Index.are_leaves c.args.index.now).tile c.reach-name.result.0 c.reach-name.ensures.some c.reach-name.ensures.over))

pub returns-clause-exact : goal.returns-clause-exact
returns-clause-exact g c =
    let exact = c.in_ok-list_below.ensures.exact (omega (arith, c.if-found-gt-MOST_LISTED.false)) in
    omega (arith, exact, ap length (met-below c.args.region.now c.requires c.key.result c.key-2.result c.key.ensures.sum c.key.ensures.back c.key-2.ensures.sum c.key-2.ensures.back (g.I.Index.leaves c.args.index.now) (g.met.I.Index.are_leaves c.args.index.now).tile c.reach-name.result.0 c.reach-name.ensures.some c.reach-name.ensures.over))
