use Rattle.std.proofs.Common.{◌≡◌, ◌∙◌, ◌++◌, List, length, drop, length-drop, sym, ap, arith}
use Rattle.bucket_versions.specs.declared.row.Row.{Row}
use Rattle.bucket_versions.proofs.RowSets.{difference-empty}
use Rattle.bucket_versions.proofs.deltas.merged.Goals as goal

pub returns : goal.returns
returns c =
    let left : List Row = drop c.loop-turned.turned-index c.args.delta.now in
    let none : length left ≡ 0 = omega (arith, length-drop c.loop-turned.turned-index c.args.delta.now, c.loop-turned-test.false) in
    c.in_ok-extend_from_slice.ensures.items ∙ ap (λ (l : List Row). c.loop-turned.all.items ++ l) (sym (difference-empty c.loop-turned.rest.now left none)) ∙ c.loop-turned.invariant.0
