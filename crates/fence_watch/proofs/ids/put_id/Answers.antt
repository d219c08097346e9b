use Rattle.std.proofs.Common.{◌≡◌, ℕ, true, List, leb, cond, sym, ◌∙◌, ap, subst, arith, rules}
use Rattle.std.specs.List.{insert}
use Rattle.std.specs.Result.{is_ok}
use Rattle.std.proofs.lemmas.List.Sorted.{IsPartitionPoint-from_clause, IsPartitionedBy-leb}
use Rattle.fence_watch.specs.Guards.{AreRising}
use Rattle.fence_watch.specs.Watches.{with_id}
use Rattle.fence_watch.proofs.RisingIds.{never_fall, insert-with_id}
use Rattle.fence_watch.proofs.ids.put_id.Goals as goal

pub returns : goal.returns
returns c =
    let xs = c.args.ids.now.items in
    let ys = c.deref.result.now in
    let id = c.args.id in
    let i = c.partition_point-place.result in
    let same : ys ≡ xs = c.deref.ensures.value in
    let rising : AreRising ys = subst AreRising (sym same) c.requires.rising in
    let parted = IsPartitionedBy-leb (λ (x : ℕ). x) ys id (never_fall ys rising) in
    let point = IsPartitionPoint-from_clause (λ (x : ℕ). leb x id) ys i c.partition_point-place.ensures.partitioned parted (λ a r q k. search rules) in
    let put : insert ys i id ≡ with_id id ys = insert-with_id id ys i c.partition_point-place.ensures.bound (λ k d lt. point.0 k d (omega arith) lt) (λ k d low lt. point.1 k d low lt) in
    let ok : is_ok c.insert.result ≡ true = c.insert.ensures.succeeds (omega (arith, c.requires.room)) in
    c.insert.ensures.items ∙ ap (λ b. cond b (insert xs i id) xs) ok ∙ subst (λ (l : List ℕ). insert l i id ≡ with_id id l) same put
