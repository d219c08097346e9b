use Rattle.std.proofs.Common.{◌≡◌, ◌-◌, ◌^◌, sym, ◌∙◌, ap, refl}
use Rattle.std.specs.Prelude.{bit_and}
use Rattle.zorder.proofs.Masks.{no_name-stray, name-sound, name-named, masked-unused}
use Rattle.zorder.proofs.names.Name.new.Goals as goal

whole : (c : goal.Then-bits-high_mask) → bit_and c.args.bits (2 ^ 64 - 2 ^ (64 - c.args.len)) ≡ c.args.bits
whole c = ap (bit_and c.args.bits) (sym c.high_mask.ensures) ∙ c.if-bits-high_mask.true

pub invariant_of-result : goal.invariant_of-result
invariant_of-result c =
    record {
      len = c.if-len-gt64.false;
      fits = c.ranges.bits.fits;
      unused = masked-unused c.args.bits c.args.len c.if-len-gt64.false c.ranges.bits.fits (whole c);
    }

pub returns-then-bits-high_mask-clause-none : goal.returns-then-bits-high_mask-clause-none
returns-then-bits-high_mask-clause-none c =
    (λ e. cc, λ stray. absurd (name-sound c.args.bits c.args.len c.if-len-gt64.false c.ranges.bits.fits (whole c) stray))

pub returns-then-bits-high_mask-clause-some : goal.returns-then-bits-high_mask-clause-some
returns-then-bits-high_mask-clause-some c = name-named c.args.bits c.args.len c.if-len-gt64.false c.ranges.bits.fits (whole c)

pub returns-else-bits-high_mask-clause-none : goal.returns-else-bits-high_mask-clause-none
returns-else-bits-high_mask-clause-none c = (
  λ e. no_name-stray c.args.bits c.args.len c.if-len-gt64.false c.ranges.bits.fits
      (λ same. c.if-bits-high_mask.false (ap (bit_and c.args.bits) c.high_mask.ensures ∙ same)),
  λ stray. refl,
)
