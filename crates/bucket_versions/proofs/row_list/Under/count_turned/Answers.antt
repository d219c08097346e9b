use Rattle.std.proofs.Common.{◌≡◌, ◌∙◌, List, length, sym, ap, arith, rules}
use Rattle.bucket_versions.specs.declared.row.Row.{Row}
use Rattle.bucket_versions.specs.Delta.{difference, turn}
use Rattle.bucket_versions.proofs.RowSets.{difference-turn, length-difference}
use Rattle.bucket_versions.proofs.row_list.Under.count_turned.Goals as goal

pub count_turned-requires-clause-fits : goal.count_turned-requires-clause-fits
count_turned-requires-clause-fits c =
    let counted = rw c.in-Shared.is at c.requires.counted in
    let fits = rw c.in-Shared.is at c.requires.fits in
    let most = length-difference c.in-Shared.base.value.items c.args.list.now in
    omega (arith, counted, fits, most)

pub returns-in-Shared-clause-counted : goal.returns-in-Shared-clause-counted
returns-in-Shared-clause-counted c =
    let row = c.args.row.now in
    let list = c.args.list.now in
    let base : List Row = c.in-Shared.base.value.items in
    let same : c.deref-in-Shared.result.now ≡ base = search rules in
    let rising = rw c.in-Shared.is at c.requires.parts in
    c.count_turned.ensures
    ∙ (λ i. length (turn row (difference (same i) list)))
    ∙ ap length (sym (difference-turn row base list rising.0 rising.1))
