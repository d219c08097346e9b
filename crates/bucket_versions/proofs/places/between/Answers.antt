use Rattle.std.proofs.Common.{◌≡◌, ◌∙◌, ap, sym, subst, List, leb}
use Rattle.std.specs.List.{filter}
use Rattle.bucket_versions.specs.declared.row.Row.{Row}
use Rattle.bucket_versions.specs.Rows.{IsRows, rows_between}
use Rattle.bucket_versions.proofs.RowFilters.{filter-both}
use Rattle.bucket_versions.proofs.RowOrder.{IsRows-rows_between}
use Rattle.bucket_versions.proofs.places.between.Goals as goal

pub returns : goal.returns
returns c =
    let rows : c.from_key.result.now ≡ rows_between c.args.lo c.args.hi c.args.rows.now =
    c.from_key.ensures
    ∙ ap (λ (l : List Row). filter (λ (r : Row). leb c.args.lo r.key) l) c.up_to_key.ensures.rows
    ∙ filter-both (λ (r : Row). leb c.args.lo r.key) (λ (r : Row). leb r.key c.args.hi) c.args.rows.now in
    record { rows = rows; in_order = subst IsRows (sym rows) (IsRows-rows_between c.args.lo c.args.hi c.args.rows.now c.requires) }
