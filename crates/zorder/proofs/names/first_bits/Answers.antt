use Rattle.std.proofs.Common.{◌≡◌, ◌≤◌, length, take, sym, ◌∙◌, ap, arith}
use Rattle.std.specs.Prelude.{bit_and}
use Rattle.zorder.specs.Key.{key_bits}
use Rattle.zorder.specs.Name.{first_key}
use Rattle.zorder.proofs.Masks.{IsName-made, bits_of-made, first_key-take, length-take_bits}
use Rattle.zorder.proofs.names.first_bits.Goals as goal

bits_is : (c : goal.After-high_mask) → bit_and c.args.key c.high_mask.result ≡ first_key (take c.args.len (key_bits c.args.key))
bits_is c = ap (bit_and c.args.key) c.high_mask.ensures ∙ first_key-take c.args.key c.args.len c.requires c.ranges.key.fits

short : (c : goal.After-high_mask) → length (take c.args.len (key_bits c.args.key)) ≤ 64
short c = omega (arith, length-take_bits c.args.key c.args.len c.requires, c.requires)

pub invariant_of-result : goal.invariant_of-result
invariant_of-result c = IsName-made (take c.args.len (key_bits c.args.key)) (short c) _ _ (bits_is c) (sym (length-take_bits c.args.key c.args.len c.requires))

pub returns : goal.returns
returns c = bits_of-made (take c.args.len (key_bits c.args.key)) (short c) _ _ (bits_is c) (sym (length-take_bits c.args.key c.args.len c.requires))
