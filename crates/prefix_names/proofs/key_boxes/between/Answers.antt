use Rattle.std.proofs.Common.{◌∙◌, ◌&&◌, nat_le}
use Rattle.prefix_names.proofs.KeyBits.{evens-order}
use Rattle.prefix_names.proofs.key_boxes.between.Goals as goal

pub returns : goal.returns
returns c =
    (λ i. nat_le (c.evens.ensures i) (c.evens-bits.ensures i) && nat_le (c.evens-bits.ensures i) (c.evens-2.ensures i))
    ∙ (λ i. evens-order c.args.first c.args.key i && evens-order c.args.key c.args.last i)
