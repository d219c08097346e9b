use Rattle.std.proofs.Common.{◌≡◌, ap, sym, ◌∙◌, Some, Ok}
use Rattle.std.specs.Arc.{arc_value}
use Rattle.std.proofs.lemmas.Result.{IfOk-at_ok, IfOk-weaker}
use Rattle.bucket_versions.specs.Rows.{Rows, gone_row, rows_over, after_gone}
use Rattle.index_layer.specs.Leaves.{Leaf, AreUnder, replaced}
use Rattle.index_layer.specs.RowChanges.{ChangesAt}
use Rattle.index_layer.proofs.FoundLeaves.{found_has, AreUnder-without_row}
use Rattle.index_layer.proofs.index.Index.without_row.Goals as goal

pub replaced-requires : goal.replaced-requires
replaced-requires g c =
    let leaf : Leaf = record { name = c.leaf_of-name.result.0; bucket = c.deref.result.now } in
    let found = c.leaf_of-name.ensures ∙ ap (λ (b : Rows). Some (record { name = c.leaf_of-name.result.0; bucket = b })) (sym c.deref.ensures) in
    let all = found_has (λ (l : Leaf). AreUnder l.name l.bucket.rows) c.args.gone.row.key (g.Self.Index.leaves c.args.self.now) leaf found (g.met.Self.Index.are_leaves c.args.self.now).under in
    let made = IfOk-at_ok (λ (b : Rows). b ≡ gone_row c.args.gone.row leaf.bucket) c.in_ok-changed.ensures c.with_gone.ensures.ok in
    rw (c.in_ok-bucket.ensures ∙ c.in_ok-settled.ensures ∙ ap (λ (b : Rows). rows_over c.args.gone.keeps_base b.rows b) made) (AreUnder-without_row leaf.name c.args.gone.row leaf.bucket.rows all)

pub returns : goal.returns
returns g c =
    let old = g.Self.Index.leaves c.args.self.now in
    let leaf : Leaf = record { name = c.leaf_of-name.result.0; bucket = c.deref.result.now } in
    let found = c.leaf_of-name.ensures ∙ ap (λ (b : Rows). Some (record { name = c.leaf_of-name.result.0; bucket = b })) (sym c.deref.ensures) in
    let made = IfOk-at_ok (λ (b : Rows). b ≡ gone_row c.args.gone.row leaf.bucket) c.in_ok-changed.ensures c.with_gone.ensures.ok in
    let bucket : arc_value c.in_ok-bucket.bucket ≡ after_gone c.args.gone leaf.bucket = c.in_ok-bucket.ensures ∙ c.in_ok-settled.ensures ∙ ap (λ (b : Rows). rows_over c.args.gone.keeps_base b.rows b) made in
    IfOk-weaker c.or_memory-2.result (λ index. c.replaced.result ≡ Ok index) (λ index. ChangesAt c.args.gone.row.key (after_gone c.args.gone) old (g.Self.Index.leaves index))
    (λ index is. record {
      leaf = leaf;
      found = found;
      leaves = IfOk-at_ok (λ i. g.Self.Index.leaves i ≡ replaced leaf.name (arc_value c.in_ok-bucket.bucket) old) is c.replaced.ensures.ok ∙ ap (λ (b : Rows). replaced leaf.name b old) bucket;
    }) c.or_memory-2.ensures
