use Rattle.std.proofs.Common.{◌≡◌, false, List, [], ◌∷◌, refl, sym, subst, ap, ◌∙◌}
use Rattle.std.specs.Arc.{arc_value}
use Rattle.zorder.specs.Key.{key_bits}
use Rattle.bucket_versions.specs.declared.row.Row.{Row}
use Rattle.bucket_versions.specs.Rows.{Rows, as_base, put_row}
use Rattle.index_layer.specs.Leaves.{AreUnder}
use Rattle.crate_tests.proofs.index.buckets.three_rows.Goals as goal

abbrev two : List Row
two = record { key = 1; id = 9 } ∷ record { key = 27; id = 7 } ∷ []

abbrev more : Row
more = record { key = 2; id = 4 }

-- A key below 2 ^ 63 begins with the bit 0.
three-under : AreUnder (false ∷ []) (put_row more (as_base two)).rows
unfolding key_bits
three-under = (refl, (refl, (refl, tt)))

-- A key below 2 ^ 62 begins with 00.
three-below : AreUnder (false ∷ false ∷ []) (put_row more (as_base two)).rows
unfolding key_bits
three-below = (refl, (refl, (refl, tt)))

abbrev AreLow : Rows → Type 0
AreLow b = AreUnder (false ∷ []) b.rows × AreUnder (false ∷ false ∷ []) b.rows

pub returns : goal.returns
returns c =
    let is : arc_value c.in_ok-into_shared.field-0 ≡ put_row more (as_base two) = c.in_ok-into_shared.ensures ∙ c.in_ok-bucket-2.ensures.ok ∙ ap (put_row more) c.in_ok-bucket.ensures in
    subst AreLow (sym is) (three-under, three-below)
