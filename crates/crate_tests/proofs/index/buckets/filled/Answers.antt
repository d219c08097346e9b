use Rattle.std.proofs.Common.{◌≡◌, ◌⊎◌, ⊎_elim, ◌∙◌, ap, sym, subst, refl, ℕ, Bool, false, List, [], ◌∷◌, take}
use Rattle.std.specs.Prelude.{IfOk}
use Rattle.std.specs.Arc.{arc_value}
use Rattle.zorder.specs.Width.{IsWidth}
use Rattle.zorder.specs.Key.{key_bits}
use Rattle.bucket_versions.specs.Rows.{Rows}
use Rattle.index_layer.specs.Leaves.{AreUnder}
use Rattle.crate_tests.proofs.index.buckets.filled.Goals as goal

abbrev AreLow : Rows → Type 0
AreLow b = AreUnder (false ∷ []) b.rows × AreUnder (false ∷ false ∷ []) b.rows

one_bit : take 1 (key_bits 0) ≡ false ∷ []
unfolding key_bits
one_bit = refl

two_bits : take 2 (key_bits 0) ≡ false ∷ false ∷ []
unfolding key_bits
two_bits = refl

of_width : (w : ℕ) (name : List Bool) (b : Rows) → IsWidth w → name ≡ take w (key_bits 0) → AreLow b → AreUnder name b.rows
of_width w name b width is low = ⊎_elim
    (λ one. subst (λ (n : List Bool). AreUnder n b.rows) (sym (is ∙ ap (λ (n : ℕ). take n (key_bits 0)) one ∙ one_bit)) low.0)
    (λ two. subst (λ (n : List Bool). AreUnder n b.rows) (sym (is ∙ ap (λ (n : ℕ). take n (key_bits 0)) two ∙ two_bits)) low.1) width

pub replaced-requires : goal.replaced-requires
replaced-requires g c =
    let low : AreLow (arc_value c.expect-bucket.result) = subst (λ r. IfOk r (λ b. AreLow (arc_value b))) c.expect-bucket.ensures c.three_rows.ensures in
    of_width g.I.Index.WIDTH c.child_over.result (arc_value c.expect-bucket.result) g.met.I.Index.width c.child_over.ensures low
