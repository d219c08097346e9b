use Rattle.std.proofs.Common.{◌≡◌, ◌+◌, ◌-◌, ◌*◌, ◌%◌, ◌^◌, ◌≤◌, [], ◌∷◌, ◌++◌, length, ◌∙◌, arith, length-append}
use Rattle.std.specs.Prelude.{bit_or}
use Rattle.zorder.specs.Name.{first_key}
use Rattle.zorder.proofs.Masks.{IsName-made, bits_of-made, first_key-or}
use Rattle.zorder.proofs.names.child.Goals as goal

-- both numbers of the child
bits_is : (c : goal.After-len-2) → bit_or c.bits.result (c.from.result * 2 ^ (63 - c.len.result) % 2 ^ 64) ≡ first_key (c.args.name.now ++ c.args.bit ∷ [])
bits_is c =
    let room : length c.args.name.now + 1 ≤ 64 = omega arith in
    (λ i. bit_or (c.bits.ensures i) (c.from.ensures i * 2 ^ (63 - c.len.ensures.len i) % 2 ^ 64)) ∙ first_key-or c.args.name.now c.args.bit room

len_is : (c : goal.After-len-2) → c.len-2.result + 1 ≡ length (c.args.name.now ++ c.args.bit ∷ [])
len_is c = omega (arith, c.len-2.ensures.len, length-append c.args.name.now (c.args.bit ∷ []))

pub invariant_of-result : goal.invariant_of-result
invariant_of-result c = IsName-made (c.args.name.now ++ c.args.bit ∷ []) (omega (arith, len_is c, c.len-2.ensures.len)) _ _ (bits_is c) (len_is c)

pub returns : goal.returns
returns c = bits_of-made (c.args.name.now ++ c.args.bit ∷ []) (omega (arith, len_is c, c.len-2.ensures.len)) _ _ (bits_is c) (len_is c)
