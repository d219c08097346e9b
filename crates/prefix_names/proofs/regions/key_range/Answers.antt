use Rattle.std.proofs.Common.{◌≡◌, ◌+◌, ◌-◌, ◌^◌, ◌∙◌, ap}
use Rattle.std.specs.Prelude.{bit_or}
use Rattle.zorder.specs.Tile.{next_key}
use Rattle.prefix_names.proofs.Corners.{last-mask, is_under-between}
use Rattle.prefix_names.proofs.regions.key_range.Goals as goal

last_is : (c : goal.After-low_mask) → bit_or c.bits-first.result c.low_mask.result + 1 ≡ next_key c.args.name.now
last_is c =
    (λ i. bit_or (c.bits-first.ensures i) ((c.low_mask.ensures ∙ ap (λ n. 2 ^ (64 - n) - 1) c.len.ensures.len) i) + 1)
    ∙ last-mask c.args.name.now c.len.ensures.most

pub returns-clause-last : goal.returns-clause-last
returns-clause-last c = last_is c

pub returns-clause-keys : goal.returns-clause-keys
returns-clause-keys c k fits =
    is_under-between c.args.name.now c.len.ensures.most c.bits-first.result (bit_or c.bits-first.result c.low_mask.result) k c.bits-first.ensures (last_is c) fits
