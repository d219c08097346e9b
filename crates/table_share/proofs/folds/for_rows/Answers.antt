use Rattle.std.proofs.Common.{◌≡◌, suc, ◌++◌, List, length, sym, subst, ap, arith}
use Rattle.std.specs.List.{FoldsTo}
use Rattle.bucket_versions.specs.Rows.{Rows}
use Rattle.index_layer.specs.Leaves.{Leaf, all_rows}
use Rattle.table_share.specs.Folds.{FoldsRow}
use Rattle.table_share.proofs.FoldLemmas.{FoldsTo-join}
use Rattle.table_share.proofs.folds.for_rows.Goals as goal

pub loop-bucket-preserved : goal.loop-bucket-preserved
loop-bucket-preserved g c =
    let gone : length c.loop-bucket.walk ≡ suc (length c.next_leaf.new.self) = ap (λ (ls : List Leaf). length ls) c.in-Some.ensures in (
      (λ last rest.
          let joined = FoldsTo-join (FoldsRow g.F.Fn c.args.f) c.deref.result.now.rows (all_rows c.next_leaf.new.self) c.loop-bucket.folded c.fold_bucket-folded.result last c.fold_bucket-folded.ensures.folded rest in
          c.loop-bucket.invariant.0 last
          (subst (λ (ls : List Leaf). FoldsTo (FoldsRow g.F.Fn c.args.f) c.loop-bucket.folded (all_rows ls) last) (sym c.in-Some.ensures)
          (subst (λ (b : Rows). FoldsTo (FoldsRow g.F.Fn c.args.f) c.loop-bucket.folded (b.rows ++ all_rows c.next_leaf.new.self) last) c.deref.ensures joined))),
      omega (arith, gone, c.loop-bucket.invariant.1, c.fold_bucket-folded.ensures.opened),
    )
