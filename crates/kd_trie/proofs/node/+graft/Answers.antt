use Rattle.std.proofs.Common.{◌∙◌, ◌-◌, sym, ap, arith}
use Rattle.zorder.specs.Bits.{low_bits}
use Rattle.kd_trie.specs.Nodes.{seen, is_counted}
use Rattle.kd_trie.proofs.Counting.{counts-owned, grafted-most}
use Rattle.kd_trie.proofs.node.+graft.Goals as goal

pub overflow_add-pair : goal.overflow_add-pair
overflow_add-pair g t c =
    let p = c.in_ok-pair-in-Inner.pair.now in
    let is = counts-owned c.in_ok-pair-in-Inner.ensures.value (ap is_counted (sym c.in-Inner.is) ∙ c.requires.counted.0) in
    let most = grafted-most c.graft-done.result p c.next_bit.result c.graft-done.new.node (low_bits (c.args.left - 1) c.args.key) (seen c.args.part) (seen c.half-half.result.now) is c.half-half.ensures.half c.graft-done.ensures.ok c.graft-done.ensures.err in
    omega (arith, most)
