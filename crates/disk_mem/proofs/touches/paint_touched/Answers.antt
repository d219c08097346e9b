use Rattle.std.proofs.Common.{◌<◌, ◌∙◌, ap, sym, get_or, length, List, ℕ, arith}
use Rattle.disk_mem.proofs.FileLemmas.{painted-some, painted-none}
use Rattle.disk_mem.proofs.touches.paint_touched.Goals as goal
use Rattle.disk_mem.proofs.touches.paint_touched.Goals.{in-Some, in_default}

pub loop-touch-preserved : goal.loop-touch-preserved
loop-touch-preserved c =
    elim c.match-range.branch [
      | in-Some w ↦ (λ k lt.
          let within : k < length c.loop-touch.image = omega arith in
          painted-some c.args.touches.now c.loop-touch.touch-index _ (w.in-Some.at, w.in-Some.len) k _ _ _ _ c.loop-touch-test.true (sym c.range.ensures ∙ w.in-Some.is) (c.loop-touch.invariant k within) (ap (λ (xs : List ℕ). get_or xs k 0) w.image-is ∙ w.paint.ensures k within))
      | in_default w ↦ (λ k lt.
          let within : k < length c.loop-touch.image = omega arith in
          ap (λ (xs : List ℕ). get_or xs k 0) w.image-is ∙ painted-none c.args.touches.now c.loop-touch.touch-index _ k _ _ _ c.loop-touch-test.true (sym c.range.ensures ∙ w.in_default.is) (c.loop-touch.invariant k within))
    ]
