use Rattle.std.proofs.Common.{◌≡◌, ◌∷◌, ◌++◌, List, length, map, ap, subst, arith}
use Rattle.std.specs.BinaryHeap.{heap_items}
use Rattle.std.specs.List.Sorted.{IsPermutation}
use Rattle.std.specs.declared.cmp.Reverse.{Reverse}
use Rattle.std.proofs.lemmas.List.Sorted.{IsPermutation-append_left, IsPermutation-map, IsPermutation-middle, IsPermutation-trans}
use Rattle.bucket_versions.specs.declared.row.Row.{Row}
use Rattle.browse_query.specs.Found.{found_of}
use Rattle.browse_query.specs.Front.{founds}
use Rattle.browse_query.specs.declared.found.Found.{Found}
use Rattle.browse_query.proofs.front.push_rows.Goals as goal

pub loop-row-preserved : goal.loop-row-preserved
loop-row-preserved g c =
    let (perm, ordered, room, steps) = c.loop-row.invariant in
    let f : Row → Found = found_of c.args.from in
    let row : Row = c.in-Some.row.now in
    let rows : List Row = c.next.new.self in
    let before : List Found = founds (heap_items c.args.found.now) ++ map f c.args.bucket.now.rows in
    let old : List Found = founds (heap_items c.loop-row.found) in
    let new : List Found = founds (heap_items c.push.new.self) in
    let left : c.loop-row.row-iterator ≡ row ∷ rows = c.in-Some.ensures.steps in
    let begun : IsPermutation before (old ++ f row ∷ map f rows) = subst (λ rs. IsPermutation before (old ++ map f rs)) left perm in
    let pushed : IsPermutation (f row ∷ old) new =
    subst (λ (one : Found). IsPermutation (one ∷ old) new) c.new.ensures (IsPermutation-map (λ (c : Reverse Found). c.0) (record { 0 = c.new.result } ∷ heap_items c.loop-row.found) (heap_items c.push.new.self) c.in_ok-push.ensures.permutation) in (
      IsPermutation-trans before (old ++ f row ∷ map f rows) (new ++ map f rows) begun
          (IsPermutation-trans (old ++ f row ∷ map f rows) (f row ∷ (old ++ map f rows)) (new ++ map f rows) (IsPermutation-middle old (f row) (map f rows)) (IsPermutation-append_left (map f rows) (f row ∷ old) new pushed)),
      c.in_ok-push.ensures.heap_order ordered,
      omega (arith, room, ap length left, c.in_ok-push.ensures.len, c.push.ensures.capacity),
      steps,
    )
