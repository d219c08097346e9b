use Rattle.std.proofs.Common.{◌≡◌, ◌≤◌, ◌+◌, ◌∷◌, ◌∙◌, [], ℕ, List, sym, subst, arith}
use Rattle.std.specs.Prelude.{nat_le}
use Rattle.std.specs.Arc.{arc_value}
use Rattle.std.specs.BinaryHeap.{heap_items}
use Rattle.std.specs.List.Sorted.{IsPermutation}
use Rattle.std.proofs.lemmas.Bool.{leb-true, leb-false}
use Rattle.std.proofs.lemmas.List.Elements.{All-nil, All-cons, All-head, All-tail}
use Rattle.std.proofs.lemmas.List.Sorted.{All-permutation, IsPermutation-map}
use Rattle.bucket_versions.specs.Rows.{Rows}
use Rattle.index_layer.specs.Leaves.{Leaf}
use Rattle.index_layer.specs.Narrowed.{PassesBare}
use Rattle.table_share.specs.Objects.{objects_of}
use Rattle.knn_query.specs.Waiting.{waiting_at, ahead_of}
use Rattle.knn_query.specs.Ahead.{IsAhead, number_nearer, reach_of, leaves_ahead, objects_ahead}
use Rattle.knn_query.specs.Passes.{held, Keeps, Passes}
use Rattle.knn_query.specs.Search.{Leads, LeadsTo, LeadsNowhere, within}
use Rattle.knn_query.specs.declared.ahead.Ahead.{Ahead}
use Rattle.knn_query.proofs.Places.{at-taken, IsAt}
use Rattle.knn_query.proofs.Steps.{begins-state, closed, opened-leaf, near-leaf, leaf-state, ends, ends-every, state-shuffled}
use Rattle.knn_query.proofs.Goings.{state-taken, low-taken, weight-taken, low-all, few-here}
use Rattle.knn_query.proofs.ranking.keep_nearest.Goals as goal

pub loop-next-init : goal.loop-next-init
loop-next-init g c =
    let leaves : List Leaf = g.I.Index.leaves c.args.index.now in
    let p = c.args.kept.from in
    let k = c.args.kept.k in
    let is_at = g.I.Index.is_at c.args.index.now in
    let name = c.narrow-name.result.0 in
    let a : Ahead = c.at-ahead.result in
    let named : a.name ≡ name = c.at-ahead.ensures.name in
    let first = waiting_at a c.narrow-name.result.1 in
    let all = heap_items c.in_ok-waiting.waiting in
    let one : IsPermutation (first ∷ []) all = c.in_ok-waiting.ensures.one in
    let passed : PassesBare [] a.name leaves = subst (λ n. PassesBare [] n leaves) (sym named) (subst (λ n. PassesBare n name leaves) c.whole.ensures c.narrow-name.ensures.passed) in
    let begun = begins-state p k leaves c.args.steps.now a c.args.kept c.requires.empty passed c.at-ahead.ensures.ahead in (
      state-shuffled p k leaves c.args.steps.now c.args.steps.now (a ∷ []) (ahead_of all) c.args.kept (IsPermutation-map (λ w. w.ahead) (first ∷ []) all one) begun,
      omega arith,
      All-permutation (IsAt is_at) (first ∷ []) all one (All-cons (IsAt is_at) first [] (subst (is_at c.narrow-name.result.1.now) (sym named) c.narrow-name.ensures.at) (All-nil (IsAt is_at))),
      c.in_ok-waiting.ensures.ordered,
    )

pub returns-then-has_nearer-clause-keeps : goal.returns-then-has_nearer-clause-keeps
returns-then-has_nearer-clause-keeps g c =
    let leaves : List Leaf = g.I.Index.leaves c.args.index.now in
    let p = c.args.kept.from in
    let k = c.args.kept.k in
    let tile = (g.met.I.Index.are_leaves c.args.index.now).tile in
    let s = c.loop-next.invariant.0 in
    let a : Ahead = c.in-Some.next.ahead in
    let old = heap_items c.loop-next.waiting in
    let left = heap_items c.take_nearest.new.waiting in
    let first = state-taken p k leaves c.args.steps.now c.loop-next.steps old left c.in-Some.next c.loop-next.kept s c.in-Some.ensures.taken in
    let number : ℕ = number_nearer p a.least.0 (held c.loop-next.kept) in
    let test : nat_le k number ≡ c.has_nearer.result = (λ i. nat_le (sym s.k_is i) (number_nearer (sym s.from i) a.least.0 (held c.loop-next.kept))) ∙ sym c.has_nearer.ensures in
    closed p k leaves c.args.steps.now c.loop-next.steps a (ahead_of left) c.loop-next.kept first (low-taken old left c.in-Some.next c.in-Some.ensures.taken) (leb-true k number (test ∙ c.if-has_nearer.true))

pub returns-then-has_nearer-clause-opened : goal.returns-then-has_nearer-clause-opened
returns-then-has_nearer-clause-opened g c =
    let leaves : List Leaf = g.I.Index.leaves c.args.index.now in
    let p = c.args.kept.from in
    let k = c.args.kept.k in
    ends-every p k leaves c.args.steps.now c.loop-next.steps (leaves_ahead leaves (ahead_of (heap_items c.loop-next.waiting))) c.loop-next.invariant.0.opened

pub returns-then-has_nearer-clause-near : goal.returns-then-has_nearer-clause-near
returns-then-has_nearer-clause-near g c places names are_places stands d many =
    let leaves : List Leaf = g.I.Index.leaves c.args.index.now in
    let p = c.args.kept.from in
    let k = c.args.kept.k in
    ends p k leaves c.args.steps.now (within p (reach_of p k places d)) c.loop-next.steps (leaves_ahead leaves (ahead_of (heap_items c.loop-next.waiting))) (c.loop-next.invariant.0.near places names are_places stands d many)

pub nearest_leaf-requires-clause-wanted : goal.nearest_leaf-requires-clause-wanted
nearest_leaf-requires-clause-wanted g c =
    let leaves : List Leaf = g.I.Index.leaves c.args.index.now in
    let p = c.args.kept.from in
    let k = c.args.kept.k in
    let s = c.loop-next.invariant.0 in
    let kept = c.loop-next.kept in
    let a : Ahead = c.in-Some.next.ahead in
    let old = heap_items c.loop-next.waiting in
    let left = heap_items c.take_nearest.new.waiting in
    let first = state-taken p k leaves c.args.steps.now c.loop-next.steps old left c.in-Some.next kept s c.in-Some.ensures.taken in
    record {
      is_held = s.is_held;
      some = omega (arith, s.k_is, c.requires.least);
      is = subst (λ q. IsAhead q a) (sym s.from) (All-head (IsAhead p) a (ahead_of left) first.are);
      low = All-tail (λ (b : Ahead). a.least.0 ≤ b.least.0) a (ahead_of left) (low-taken old left c.in-Some.next c.in-Some.ensures.taken);
      few = leb-false kept.k (number_nearer kept.from a.least.0 (held kept)) (sym c.has_nearer.ensures ∙ c.if-has_nearer.false);
    }

pub nearest_leaf-requires-clause-place : goal.nearest_leaf-requires-clause-place
nearest_leaf-requires-clause-place g c =
    let is_at = g.I.Index.is_at c.args.index.now in
    let left = heap_items c.take_nearest.new.waiting in
    All-head (IsAt is_at) c.in-Some.next left (at-taken is_at (heap_items c.loop-next.waiting) left c.in-Some.next c.in-Some.ensures.taken c.loop-next.invariant.2)

pub nearest_leaf-requires-clause-places : goal.nearest_leaf-requires-clause-places
nearest_leaf-requires-clause-places g c =
    let is_at = g.I.Index.is_at c.args.index.now in
    let left = heap_items c.take_nearest.new.waiting in
    All-tail (IsAt is_at) c.in-Some.next left (at-taken is_at (heap_items c.loop-next.waiting) left c.in-Some.next c.in-Some.ensures.taken c.loop-next.invariant.2)

pub returns-in_err-found-clause-opened : goal.returns-in_err-found-clause-opened
returns-in_err-found-clause-opened g c =
    let leaves : List Leaf = g.I.Index.leaves c.args.index.now in
    let p = c.args.kept.from in
    let k = c.args.kept.k in
    ends-every p k leaves c.args.steps.now c.loop-next.steps (leaves_ahead leaves (ahead_of (heap_items c.loop-next.waiting))) c.loop-next.invariant.0.opened

pub returns-in_err-found-clause-near : goal.returns-in_err-found-clause-near
returns-in_err-found-clause-near g c places names are_places stands d many =
    let leaves : List Leaf = g.I.Index.leaves c.args.index.now in
    let p = c.args.kept.from in
    let k = c.args.kept.k in
    ends p k leaves c.args.steps.now (within p (reach_of p k places d)) c.loop-next.steps (leaves_ahead leaves (ahead_of (heap_items c.loop-next.waiting))) (c.loop-next.invariant.0.near places names are_places stands d many)

pub loop-next-smaller : goal.loop-next-smaller
loop-next-smaller g c =
    let leaves : List Leaf = g.I.Index.leaves c.args.index.now in
    let b : Rows = arc_value c.in-Some-found.bucket.now in
    let kept = c.loop-next.kept in
    let left : List Ahead = ahead_of (heap_items c.nearest_leaf.new.waiting) in
    let begun : List Ahead = c.in-Some.next.ahead ∷ ahead_of (heap_items c.take_nearest.new.waiting) in
    let leads : LeadsTo leaves b kept begun left = subst (Leads leaves kept begun left) c.in-Some-found.is c.in_ok-found.ensures.leads in
    omega (arith, leads.less, weight-taken (heap_items c.loop-next.waiting) (heap_items c.take_nearest.new.waiting) c.in-Some.next c.in-Some.ensures.taken)

pub loop-next-preserved : goal.loop-next-preserved
loop-next-preserved g c =
    let leaves : List Leaf = g.I.Index.leaves c.args.index.now in
    let p = c.args.kept.from in
    let k = c.args.kept.k in
    let tile = (g.met.I.Index.are_leaves c.args.index.now).tile in
    let s = c.loop-next.invariant.0 in
    let kept = c.loop-next.kept in
    let left : List Ahead = ahead_of (heap_items c.nearest_leaf.new.waiting) in
    let b : Rows = arc_value c.in-Some-found.bucket.now in
    let begun : List Ahead = c.in-Some.next.ahead ∷ ahead_of (heap_items c.take_nearest.new.waiting) in
    let leads : LeadsTo leaves b kept begun left = subst (Leads leaves kept begun left) c.in-Some-found.is c.in_ok-found.ensures.leads in
    let a : Ahead = leads.leaf in
    let first = state-taken p k leaves c.args.steps.now c.loop-next.steps (heap_items c.loop-next.waiting) (heap_items c.take_nearest.new.waiting) c.in-Some.next kept s c.in-Some.ensures.taken in
    let t = leads.state p k c.args.steps.now c.loop-next.steps first in
    let low = low-all kept a left leads.wanted in
    let few = few-here p k a.least.0 kept s.from s.k_is leads.wanted.few in
    let passes : Passes (objects_of b.rows) kept c.add_rows.new.kept = subst (λ (r : Rows). Passes (objects_of r.rows) c.loop-next.kept c.add_rows.new.kept) c.deref.ensures c.in_ok-add_rows.ensures.passes in (
      leaf-state p k leaves c.args.steps.now tile c.loop-next.steps a left kept t b leads.found low few c.add_rows.new.kept c.add_rows.new.steps c.add_rows.ensures.opened c.loop-next.invariant.1 passes,
      omega (arith, c.loop-next.invariant.1, c.add_rows.ensures.opened),
      c.in_ok-found.ensures.places,
      c.in_ok-found.ensures.ordered,
    )

pub loop-next-smaller-in_default-found : goal.loop-next-smaller-in_default-found
loop-next-smaller-in_default-found g c =
    let leaves : List Leaf = g.I.Index.leaves c.args.index.now in
    let left : List Ahead = ahead_of (heap_items c.nearest_leaf.new.waiting) in
    let begun : List Ahead = c.in-Some.next.ahead ∷ ahead_of (heap_items c.take_nearest.new.waiting) in
    let leads : LeadsNowhere leaves c.loop-next.kept begun left = subst (Leads leaves c.loop-next.kept begun left) c.in_default-found.is c.in_ok-found.ensures.leads in
    omega (arith, leads.less, weight-taken (heap_items c.loop-next.waiting) (heap_items c.take_nearest.new.waiting) c.in-Some.next c.in-Some.ensures.taken)

pub loop-next-preserved-in_default-found : goal.loop-next-preserved-in_default-found
loop-next-preserved-in_default-found g c =
    let leaves : List Leaf = g.I.Index.leaves c.args.index.now in
    let p = c.args.kept.from in
    let k = c.args.kept.k in
    let first = state-taken p k leaves c.args.steps.now c.loop-next.steps (heap_items c.loop-next.waiting) (heap_items c.take_nearest.new.waiting) c.in-Some.next c.loop-next.kept c.loop-next.invariant.0 c.in-Some.ensures.taken in
    let left : List Ahead = ahead_of (heap_items c.nearest_leaf.new.waiting) in
    let begun : List Ahead = c.in-Some.next.ahead ∷ ahead_of (heap_items c.take_nearest.new.waiting) in
    let leads : LeadsNowhere leaves c.loop-next.kept begun left = subst (Leads leaves c.loop-next.kept begun left) c.in_default-found.is c.in_ok-found.ensures.leads in (
      leads.state p k c.args.steps.now c.loop-next.steps first,
      c.loop-next.invariant.1,
      c.in_ok-found.ensures.places,
      c.in_ok-found.ensures.ordered,
    )

pub returns-in_err-add_rows-clause-opened : goal.returns-in_err-add_rows-clause-opened
returns-in_err-add_rows-clause-opened g c =
    let leaves : List Leaf = g.I.Index.leaves c.args.index.now in
    let p = c.args.kept.from in
    let k = c.args.kept.k in
    let tile = (g.met.I.Index.are_leaves c.args.index.now).tile in
    let s = c.loop-next.invariant.0 in
    let kept = c.loop-next.kept in
    let left : List Ahead = ahead_of (heap_items c.nearest_leaf.new.waiting) in
    let b : Rows = arc_value c.in-Some-found.bucket.now in
    let begun : List Ahead = c.in-Some.next.ahead ∷ ahead_of (heap_items c.take_nearest.new.waiting) in
    let leads : LeadsTo leaves b kept begun left = subst (Leads leaves kept begun left) c.in-Some-found.is c.in_ok-found.ensures.leads in
    let a : Ahead = leads.leaf in
    let first = state-taken p k leaves c.args.steps.now c.loop-next.steps (heap_items c.loop-next.waiting) (heap_items c.take_nearest.new.waiting) c.in-Some.next kept s c.in-Some.ensures.taken in
    let t = leads.state p k c.args.steps.now c.loop-next.steps first in
    let low = low-all kept a left leads.wanted in
    let few = few-here p k a.least.0 kept s.from s.k_is leads.wanted.few in
    let most = ends-every p k leaves c.args.steps.now (c.loop-next.steps + 1) (leaves_ahead leaves left) (opened-leaf p k leaves c.args.steps.now tile c.loop-next.steps a left kept t b leads.found low few) in
    omega (arith, most, c.add_rows.ensures.opened)

pub returns-in_err-add_rows-clause-near : goal.returns-in_err-add_rows-clause-near
returns-in_err-add_rows-clause-near g c places names are_places stands d many =
    let leaves : List Leaf = g.I.Index.leaves c.args.index.now in
    let p = c.args.kept.from in
    let k = c.args.kept.k in
    let tile = (g.met.I.Index.are_leaves c.args.index.now).tile in
    let s = c.loop-next.invariant.0 in
    let kept = c.loop-next.kept in
    let left : List Ahead = ahead_of (heap_items c.nearest_leaf.new.waiting) in
    let b : Rows = arc_value c.in-Some-found.bucket.now in
    let begun : List Ahead = c.in-Some.next.ahead ∷ ahead_of (heap_items c.take_nearest.new.waiting) in
    let leads : LeadsTo leaves b kept begun left = subst (Leads leaves kept begun left) c.in-Some-found.is c.in_ok-found.ensures.leads in
    let a : Ahead = leads.leaf in
    let first = state-taken p k leaves c.args.steps.now c.loop-next.steps (heap_items c.loop-next.waiting) (heap_items c.take_nearest.new.waiting) c.in-Some.next kept s c.in-Some.ensures.taken in
    let t = leads.state p k c.args.steps.now c.loop-next.steps first in
    let low = low-all kept a left leads.wanted in
    let few = few-here p k a.least.0 kept s.from s.k_is leads.wanted.few in
    let most = ends p k leaves c.args.steps.now (within p (reach_of p k places d)) (c.loop-next.steps + 1) (leaves_ahead leaves left)
    (near-leaf p k leaves c.args.steps.now tile c.loop-next.steps a left kept t b leads.found low few places names are_places stands d many) in
    omega (arith, most, c.add_rows.ensures.opened)

pub returns-clause-keeps : goal.returns-clause-keeps
returns-clause-keeps g c places names are_places stands =
    let leaves : List Leaf = g.I.Index.leaves c.args.index.now in
    let p = c.args.kept.from in
    let k = c.args.kept.k in
    subst (λ ws. Keeps p k places (objects_ahead leaves (ahead_of ws)) c.loop-next.kept) c.in_default.ensures.taken (c.loop-next.invariant.0.searches places names are_places stands).keeps

pub returns-clause-opened : goal.returns-clause-opened
returns-clause-opened g c =
    let leaves : List Leaf = g.I.Index.leaves c.args.index.now in
    let p = c.args.kept.from in
    let k = c.args.kept.k in
    ends-every p k leaves c.args.steps.now c.loop-next.steps (leaves_ahead leaves (ahead_of (heap_items c.loop-next.waiting))) c.loop-next.invariant.0.opened

pub returns-clause-near : goal.returns-clause-near
returns-clause-near g c places names are_places stands d many =
    let leaves : List Leaf = g.I.Index.leaves c.args.index.now in
    let p = c.args.kept.from in
    let k = c.args.kept.k in
    ends p k leaves c.args.steps.now (within p (reach_of p k places d)) c.loop-next.steps (leaves_ahead leaves (ahead_of (heap_items c.loop-next.waiting))) (c.loop-next.invariant.0.near places names are_places stands d many)
