use Rattle.std.proofs.Common.{◌∙◌, sym, ap, get_or, arith}
use Rattle.bucket_versions.specs.declared.row.Row.{Row}
use Rattle.bucket_versions.specs.Rows.{same_row}
use Rattle.bucket_versions.proofs.RowPlaces.{nowhere}
use Rattle.bucket_versions.proofs.places.place_of.Goals as goal
use Rattle.bucket_versions.proofs.places.place_of.Goals.{else-place-rows-via-then-place-rows+else-eq, else-place-rows-via-else-place-rows}

no_row : Row
no_row = record { key = 0; id = 0 }

pub returns-else-place-rows-clause-there : goal.returns-else-place-rows-clause-there
unfolding no_row
returns-else-place-rows-clause-there c =
    nowhere c.args.row.now c.args.rows.now no_row c.requires (λ lt. elim c.else-place-rows.branch [
      | else-place-rows-via-then-place-rows+else-eq w ↦
          ap (λ k. same_row (get_or c.args.rows.now k no_row) c.args.row.now) (sym c.rows_below-place.ensures.place) ∙ sym w.if-eq.ensures
      | else-place-rows-via-else-place-rows w ↦ absurd (omega (arith, lt))
    ])
