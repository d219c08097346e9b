use Rattle.std.proofs.Common.{◌≡◌, ◌∙◌, ◌∷◌, ◌++◌, ◌<◌, [], List, Some, length, ap, subst, sym, refl, arith}
use Rattle.std.specs.Arc.{arc_value}
use Rattle.std.specs.BinaryHeap.{heap_items}
use Rattle.std.specs.List.Sorted.{IsPermutation}
use Rattle.std.proofs.lemmas.List.{append-nil, nil_from_length}
use Rattle.std.proofs.lemmas.List.Elements.{All-head}
use Rattle.bucket_versions.specs.declared.row.Row.{Row}
use Rattle.bucket_versions.specs.Rows.{Rows}
use Rattle.index_layer.specs.Leaves.{Leaf, all_rows}
use Rattle.index_layer.proofs.LeafChanges.{leaf_at}
use Rattle.table_share.specs.Subtree.{subtree}
use Rattle.table_share.proofs.Subtrees.{inner-room, subtree-leaf}
use Rattle.knn_query.specs.Ahead.{IsAhead}
use Rattle.knn_query.specs.Waiting.{ahead_of}
use Rattle.browse_query.specs.Front.{founds}
use Rattle.browse_query.proofs.Fronts.{are, bare-added, counted-leaf, gone-on, halved, less-halved, less-on}
use Rattle.browse_query.proofs.Rows.{founds_of}
use Rattle.browse_query.proofs.front.open_nearest.Goals as goal

pub returns-then-count_below-eq0-clause-goes_on : goal.returns-then-count_below-eq0-clause-goes_on
returns-then-count_below-eq0-clause-goes_on g c =
    let leaves : List Leaf = g.I.Index.leaves c.args.index.now in
    let old = c.args.front.now in
    let rows : List Row = all_rows (subtree c.in-Some.next.ahead.name leaves) in
    let none : length rows ≡ 0 = omega (arith, c.count_below.ensures, c.if-count_below-eq0.true) in
    let taken = c.take_nearest-front.ensures in
    gone-on leaves (g.I.Index.is_at c.args.index.now) old _ c.in-Some.next c.in-Some.is c.requires.front refl c.args.steps.now c.args.steps.now taken.all taken.farther taken.ordered c.requires.front.found_order
    (bare-added old.from rows (founds (heap_items old.found)) (nil_from_length rows none))
    (λ passes passing. omega arith)

pub returns-then-count_below-eq0-clause-less : goal.returns-then-count_below-eq0-clause-less
returns-then-count_below-eq0-clause-less g c =
    let leaves : List Leaf = g.I.Index.leaves c.args.index.now in
    let old = c.args.front.now in
    let rows : List Row = all_rows (subtree c.in-Some.next.ahead.name leaves) in
    let none : length rows ≡ 0 = omega (arith, c.count_below.ensures, c.if-count_below-eq0.true) in
    let taken = c.take_nearest-front.ensures in
    less-on leaves (g.I.Index.is_at c.args.index.now) old
    (record { from = old.from; nearest = c.take_nearest-front.result; waiting = c.take_nearest-front.new.waiting; found = old.found }) c.in-Some.next c.in-Some.is c.requires.front refl c.args.steps.now c.args.steps.now taken.all taken.farther taken.ordered c.requires.front.found_order
    (bare-added old.from rows (founds (heap_items old.found)) (nil_from_length rows none))
    (λ passes passing. omega arith)

pub halves_at-near-requires-clause-room : goal.halves_at-near-requires-clause-room
halves_at-near-requires-clause-room g c =
    inner-room c.in-Some.next.ahead.name (g.I.Index.leaves c.args.index.now) (g.met.I.Index.are_leaves c.args.index.now).tile c.in-Halves.ensures.0

pub halves_at-near-requires-clause-ahead : goal.halves_at-near-requires-clause-ahead
halves_at-near-requires-clause-ahead g c =
    let old = c.args.front.now in
    All-head (IsAhead old.from) c.in-Some.next.ahead (ahead_of (heap_items old.waiting)) (are (g.I.Index.leaves c.args.index.now) (g.I.Index.is_at c.args.index.now) old old c.in-Some.next c.in-Some.is c.requires.front refl)

pub returns-in_ok-push_rows-in-Leaf-clause-goes_on : goal.returns-in_ok-push_rows-in-Leaf-clause-goes_on
returns-in_ok-push_rows-in-Leaf-clause-goes_on g c =
    let leaves : List Leaf = g.I.Index.leaves c.args.index.now in
    let tile = (g.met.I.Index.are_leaves c.args.index.now).tile in
    let is_at = g.I.Index.is_at c.args.index.now in
    let old = c.args.front.now in
    let w = c.in-Some.next in
    let b : Rows = arc_value c.in-Leaf.bucket.now in
    let rows : List Row = all_rows (subtree w.ahead.name leaves) in
    let l : Leaf = leaf_at w.ahead.name b in
    let one : subtree w.ahead.name leaves ≡ l ∷ [] = subtree-leaf w.ahead.name 0 leaves l tile c.in-Leaf.ensures in
    let same : rows ≡ c.deref.result.now.rows = ap all_rows one ∙ append-nil b.rows ∙ ap (λ (b : Rows). b.rows) (sym c.deref.ensures) in
    let some : 0 < length rows = omega (arith, c.count_below.ensures, c.if-count_below-eq0.false) in
    let taken = c.take_nearest-front-in-Leaf.ensures in
    let added : IsPermutation (founds (heap_items old.found) ++ founds_of old.from rows) (founds (heap_items c.push_rows.new.found)) =
    subst (λ (rs : List Row). IsPermutation (founds (heap_items old.found) ++ founds_of old.from rs) (founds (heap_items c.push_rows.new.found))) (sym same) c.in_ok-push_rows-in-Leaf.ensures.added in
    gone-on leaves is_at old _ w c.in-Some.is c.requires.front refl c.args.steps.now c.push_rows.new.steps taken.all taken.farther taken.ordered c.push_rows.ensures.ordered added
    (counted-leaf leaves is_at old old w c.in-Some.is c.requires.front refl l one refl some c.args.steps.now c.push_rows.new.steps c.in_ok-push_rows-in-Leaf.ensures.opened)

pub returns-in_ok-push_rows-in-Leaf-clause-less : goal.returns-in_ok-push_rows-in-Leaf-clause-less
returns-in_ok-push_rows-in-Leaf-clause-less g c =
    let leaves : List Leaf = g.I.Index.leaves c.args.index.now in
    let tile = (g.met.I.Index.are_leaves c.args.index.now).tile in
    let is_at = g.I.Index.is_at c.args.index.now in
    let old = c.args.front.now in
    let w = c.in-Some.next in
    let b : Rows = arc_value c.in-Leaf.bucket.now in
    let rows : List Row = all_rows (subtree w.ahead.name leaves) in
    let l : Leaf = leaf_at w.ahead.name b in
    let one : subtree w.ahead.name leaves ≡ l ∷ [] = subtree-leaf w.ahead.name 0 leaves l tile c.in-Leaf.ensures in
    let same : rows ≡ c.deref.result.now.rows = ap all_rows one ∙ append-nil b.rows ∙ ap (λ (b : Rows). b.rows) (sym c.deref.ensures) in
    let some : 0 < length rows = omega (arith, c.count_below.ensures, c.if-count_below-eq0.false) in
    let taken = c.take_nearest-front-in-Leaf.ensures in
    let added : IsPermutation (founds (heap_items old.found) ++ founds_of old.from rows) (founds (heap_items c.push_rows.new.found)) =
    subst (λ (rs : List Row). IsPermutation (founds (heap_items old.found) ++ founds_of old.from rs) (founds (heap_items c.push_rows.new.found))) (sym same) c.in_ok-push_rows-in-Leaf.ensures.added in
    less-on leaves is_at old
    (record { from = old.from; nearest = c.take_nearest-front-in-Leaf.result; waiting = c.take_nearest-front-in-Leaf.new.waiting; found = c.push_rows.new.found }) w c.in-Some.is c.requires.front refl c.args.steps.now c.push_rows.new.steps taken.all taken.farther taken.ordered c.push_rows.ensures.ordered added
    (counted-leaf leaves is_at old old w c.in-Some.is c.requires.front refl l one refl some c.args.steps.now c.push_rows.new.steps c.in_ok-push_rows-in-Leaf.ensures.opened)

pub returns-in_ok-put-in-Halves-clause-goes_on : goal.returns-in_ok-put-in-Halves-clause-goes_on
returns-in_ok-put-in-Halves-clause-goes_on g c =
    let leaves : List Leaf = g.I.Index.leaves c.args.index.now in
    let tile = (g.met.I.Index.are_leaves c.args.index.now).tile in
    let below = c.in-Halves.ensures in
    halved leaves (g.I.Index.is_at c.args.index.now) c.args.front.now _ c.in-Some.next c.in-Some.is c.requires.front refl c.args.steps.now tile below.0 below.1 c.in-Halves.zero c.in-Halves.one c.halves_at-near.result.0
    c.halves_at-near.result.1 c.halves_at-near.ensures below.2 below.3 refl c.in_ok-put-in-Halves.ensures.all c.put.ensures.ordered refl

pub returns-in_ok-put-in-Halves-clause-less : goal.returns-in_ok-put-in-Halves-clause-less
returns-in_ok-put-in-Halves-clause-less g c =
    let leaves : List Leaf = g.I.Index.leaves c.args.index.now in
    let tile = (g.met.I.Index.are_leaves c.args.index.now).tile in
    let old = c.args.front.now in
    let below = c.in-Halves.ensures in
    less-halved leaves (g.I.Index.is_at c.args.index.now) old
    (record { from = old.from; nearest = Some c.halves_at-near.result.0; waiting = c.put.new.waiting; found = old.found }) c.in-Some.next c.in-Some.is c.requires.front refl c.args.steps.now tile below.0 below.1 c.in-Halves.zero c.in-Halves.one c.halves_at-near.result.0
    c.halves_at-near.result.1 c.halves_at-near.ensures below.2 below.3 refl c.in_ok-put-in-Halves.ensures.all c.put.ensures.ordered refl
