use Rattle.std.proofs.Common.{◌≡◌, ◌∙◌, ap, sym, subst, rules}
use Rattle.bucket_versions.specs.Rows.{IsRows, rows_between, as_base}
use Rattle.bucket_versions.specs.Delta.{difference}
use Rattle.bucket_versions.proofs.RowSets.{difference-between, IsRows-difference}
use Rattle.bucket_versions.proofs.bucket.cut_out.Goals as goal

pub from_vec-requires : goal.from_vec-requires
from_vec-requires c =
    let some = c.between-some.result.now in
    let late = c.between-late.result.now in
    let rows : c.in_ok-merged.field-0.items ≡ difference some late = search rules in
    subst IsRows (sym rows) (IsRows-difference some late c.between-some.ensures.in_order c.between-late.ensures.in_order)

pub returns : goal.returns
returns c =
    let lo = c.args.lo in
    let hi = c.args.hi in
    let base = c.args.base.now in
    let delta = c.args.delta.now in
    let merged : c.in_ok-merged.field-0.items ≡ difference c.between-some.result.now c.between-late.result.now = search rules in
    let some : c.between-some.result.now ≡ rows_between lo hi base = search rules in
    let late : c.between-late.result.now ≡ rows_between lo hi delta = search rules in
    let rows : c.in_ok-merged.field-0.items ≡ rows_between lo hi (difference base delta) =
    merged ∙ (λ i. difference (some i) (late i)) ∙ difference-between lo hi base delta c.requires.base c.requires.delta in
    c.from_vec.ensures ∙ ap as_base rows
