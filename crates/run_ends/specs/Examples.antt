-- Worked values, computed.
use Rattle.std.specs.Prelude.{◌≡◌, ℕ, [], ◌∷◌, codes}
use Rattle.std.proofs.Common.{refl}
use Rattle.std.specs.Fmt.{digits}
use Rattle.zorder.specs.declared.points.Point.{Point}
use Rattle.zorder.specs.declared.points.Region.{Region}
use Rattle.cell_format.specs.declared.cell.Cause.TheVariants as cause
use Rattle.run_ends.specs.declared.refusals.Refusal.TheVariants as refusal
use Rattle.run_ends.specs.RefusalLines.{refusal_text}
use Rattle.run_ends.specs.ObjectLines.{objects_text}

abbrev pt : ℕ → ℕ → Point
pt x y = record { x = x; y = y }

refused : refusal_text (refusal.Field 3 6) ≡ codes "refused row 3 column 6\n"
unfolding refusal_text digits
refused = refl

damaged : refusal_text (refusal.Damaged 0 cause.Kind) ≡ codes "refused cell 0 kind\n"
unfolding refusal_text digits
damaged = refl

old_log : refusal_text (refusal.OldLog 3 1) ≡ codes "refused log version 3 width 1\n"
unfolding refusal_text digits
old_log = refl

in_use : refusal_text (refusal.InUse 49) ≡ codes "refused in use 49\n"
unfolding refusal_text digits
in_use = refl

abbrev whole : Region
whole = record { lo = pt 0 0; hi = pt 9 9 }

shown : objects_text whole (record { id = 7; at = pt 3 5; moment = 10 } ∷ []) ≡ codes "id,x,y,moment\n7,3,5,10\n"
unfolding objects_text digits
shown = refl
