use Rattle.std.proofs.Common.{get_or, sym, arith}
use Rattle.std.specs.Prelude.{nat_le}
use Rattle.std.proofs.lemmas.Bool.{le-leb}
use Rattle.bucket_versions.specs.declared.row.Row.{Row}
use Rattle.bucket_versions.proofs.RowFilters.{filter-all}
use Rattle.range_query.proofs.counted.skip_to.Goals as goal

pub returns-else-from-gt0 : goal.returns-else-from-gt0
returns-else-from-gt0 c =
    sym (filter-all (λ (r : Row). nat_le c.args.from r.key) c.args.rows (λ k d lt. le-leb c.args.from (get_or c.args.rows k d).key (omega (arith, c.if-from-gt0.false))))
