use Rattle.std.proofs.Common.{◌≡◌, ◌∙◌, Bool, true, false, not, sym, refl, rules}
use Rattle.bucket_versions.specs.Rows.{has_row}
use Rattle.bucket_versions.proofs.RowSets.{differ, has_row-difference}
use Rattle.bucket_versions.proofs.deltas.holds.Goals as goal

unequal : (x y : Bool) → not (mathlib.Core.Bool.beq x y) ≡ differ x y
unequal true true = refl
unequal true false = refl
unequal false true = refl
unequal false false = refl

pub returns : goal.returns
returns c =
    let row = c.args.row.now in
    let base = c.args.base.now in
    let delta = c.args.delta.now in
    let first : c.is_ok-in_base.result ≡ has_row row base = search rules in
    let second : c.is_ok.result ≡ has_row row delta = search rules in
    unequal c.is_ok-in_base.result c.is_ok.result
    ∙ (λ i. differ (first i) (second i))
    ∙ sym (has_row-difference row base delta c.requires.base c.requires.delta)
