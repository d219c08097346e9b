use Rattle.std.proofs.Common.{◌∙◌, ◌++◌, List, sym, ap, rules}
use Rattle.std.proofs.lemmas.List.{append-nil}
use Rattle.bucket_versions.specs.declared.row.Row.{Row}
use Rattle.bucket_versions.specs.Rows.{rows_between}
use Rattle.table_share.proofs.scans.push_between.Goals as goal

pub loop-row-preserved : goal.loop-row-preserved
loop-row-preserved g c = search rules

pub loop-row-init : goal.loop-row-init
loop-row-init g c =
    ap (λ (left : List Row). c.args.found.now.items ++ rows_between c.args.lo c.args.hi left) (c.into_iter-row-iterator.ensures.into_iter_gives ∙ c.rows-row-items.ensures.rows)

pub returns-clause-rows : goal.returns-clause-rows
returns-clause-rows g c =
    let found = c.loop-row.found.items in
    sym (append-nil found)
    ∙ ap (λ (left : List Row). found ++ rows_between c.args.lo c.args.hi left) (sym c.in-None.ensures.steps.0)
    ∙ c.loop-row.invariant
