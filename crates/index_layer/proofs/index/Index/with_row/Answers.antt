use Rattle.std.proofs.Common.{◌≡◌, ap, sym, ◌∙◌, Some}
use Rattle.std.proofs.lemmas.Result.{IfOk-at_ok}
use Rattle.bucket_versions.specs.Rows.{Rows, put_row, rows_over}
use Rattle.index_layer.specs.Leaves.{Leaf, AreUnder}
use Rattle.index_layer.proofs.FoundLeaves.{found_named, found_has, AreUnder-with_row}
use Rattle.index_layer.proofs.index.Index.with_row.Goals as goal

pub replaced-requires : goal.replaced-requires
replaced-requires g c =
    let leaf : Leaf = record { name = c.leaf_of-name.result.0; bucket = c.deref.result.now } in
    let found = c.leaf_of-name.ensures ∙ ap (λ (b : Rows). Some (record { name = c.leaf_of-name.result.0; bucket = b })) (sym c.deref.ensures) in
    let all = found_has (λ (l : Leaf). AreUnder l.name l.bucket.rows) c.args.put.row.key (g.Self.Index.leaves c.args.self.now) leaf found (g.met.Self.Index.are_leaves c.args.self.now).under in
    let made = IfOk-at_ok (λ (b : Rows). b ≡ put_row c.args.put.row leaf.bucket) c.in_ok-changed.ensures c.with_put.ensures.ok in
    rw (c.in_ok-bucket.ensures ∙ c.in_ok-settled.ensures ∙ ap (λ (b : Rows). rows_over c.args.put.keeps_base b.rows b) made) (AreUnder-with_row leaf.name c.args.put.row leaf.bucket.rows (found_named c.args.put.row.key (g.Self.Index.leaves c.args.self.now) leaf found).1 all)
