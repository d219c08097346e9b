use Rattle.std.proofs.Common.{◌≡◌, ◌+◌, ◌∙◌, ap, sym, subst, List, map, get_or, rules}
use Rattle.std.specs.List.Sorted.{IsPermutation, IsSortedBy}
use Rattle.std.proofs.lemmas.Simd.{map-map}
use Rattle.std.proofs.lemmas.Fn.{always_returns_same}
use Rattle.bucket_versions.specs.declared.row.Row.{Row}
use Rattle.bucket_versions.specs.Rows.{is_below}
use Rattle.plain_list.specs.World.{placed_of, places_of}
use Rattle.plain_list.proofs.Ranking.{is_before-cmp}
use Rattle.index_build.specs.WorldRows.{bucket_row, member_row}
use Rattle.index_build.proofs.RowsOfWorld.{IsRows-sorted, has_row-sorted}
use Rattle.index_build.proofs.rows.rows_of.Goals as goal

pub returns-clause-in_order : goal.returns-clause-in_order
returns-clause-in_order c =
    let world = c.args.world.now in
    let places = places_of world in
    let ys : List Row = c.sort_unstable_by_key.new.self.items in
    let listed : c.in_ok-rows.rows.items ≡ map bucket_row places = c.in_ok-rows.ensures ∙ ap (map member_row) c.as_slice.ensures.members ∙ sym (map-map bucket_row placed_of world) in
    let perm : IsPermutation (map bucket_row places) ys = subst (λ (l : List Row). IsPermutation l ys) listed c.sort_unstable_by_key.ensures.permutation in
    let sorted = c.sort_unstable_by_key.ensures.sorted (λ r. (r.key, r.id)) (always_returns_same _ _ _ (λ a r q k. search rules)) in
    let rises : IsSortedBy is_below ys =
    λ k d low lt. sym (is_before-cmp (get_or ys (k + 1) d).key (get_or ys (k + 1) d).id (get_or ys k d).key (get_or ys k d).id) ∙ sorted k d low lt in
    IsRows-sorted places ys c.as_slice.ensures.world.rising perm rises

pub returns-clause-has : goal.returns-clause-has
returns-clause-has c =
    let world = c.args.world.now in
    let places = places_of world in
    let ys : List Row = c.sort_unstable_by_key.new.self.items in
    let listed : c.in_ok-rows.rows.items ≡ map bucket_row places = c.in_ok-rows.ensures ∙ ap (map member_row) c.as_slice.ensures.members ∙ sym (map-map bucket_row placed_of world) in
    let perm : IsPermutation (map bucket_row places) ys = subst (λ (l : List Row). IsPermutation l ys) listed c.sort_unstable_by_key.ensures.permutation in
    has_row-sorted places ys c.as_slice.ensures.world.rising perm
