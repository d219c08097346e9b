use Rattle.std.proofs.Common.{◌≡◌, ◌∙◌, ℕ, ◌/◌, Bool, true, false, ◌&&◌, refl}
use Rattle.std.specs.Prelude.{nat_le}
use Rattle.zorder.specs.Key.{even_bits, point_of}
use Rattle.zorder.specs.Region.{has_point}
use Rattle.prefix_names.specs.declared.key_boxes.KeyBox.{KeyBox}
use Rattle.prefix_names.specs.Regions.{box_of}
use Rattle.prefix_names.proofs.key_boxes.KeyBox.has.Goals as goal

-- whether the number that the even places of a key make is one from the first to the last
abbrev among : ℕ → ℕ → ℕ → Bool
among first key last = nat_le (even_bits first) (even_bits key) && nat_le (even_bits key) (even_bits last)

four : (a b c d : Bool) → ((a && b) && (c && d)) ≡ (a && b && c && d)
four true true c d = refl
four true false c d = refl
four false b c d = refl

both_axes : (b : KeyBox) (key : ℕ) → (among (b.lo / 2) (key / 2) (b.hi / 2) && among b.lo key b.hi) ≡ has_point (box_of b) (point_of key)
both_axes b key =
    four (nat_le (even_bits (b.lo / 2)) (even_bits (key / 2))) (nat_le (even_bits (key / 2)) (even_bits (b.hi / 2))) (nat_le (even_bits b.lo) (even_bits key)) (nat_le (even_bits key) (even_bits b.hi))

pub returns : goal.returns
returns c = (λ i. c.between.ensures i && c.between-2.ensures i) ∙ both_axes c.args.self.now c.args.key
