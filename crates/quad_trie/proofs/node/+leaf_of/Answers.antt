use Rattle.std.proofs.Common.{◌∙◌, sym, ap, arith}
use Rattle.quad_trie.specs.Nodes.{seen, four}
use Rattle.quad_trie.proofs.Quarters.{step, bucket-step, name-step}
use Rattle.quad_trie.proofs.node.+leaf_of.Goals as goal

pub leaf_of-requires : goal.leaf_of-requires
leaf_of-requires t c =
    let s = step {key = c.args.key} c.requires.fits (ap seen c.in-Inner.is ∙ ap four (sym c.deref.ensures)) c.next_bit-high.ensures c.next_bit-low.ensures c.quarter.ensures in
    (omega (arith, s.some), s.fits)

pub returns-in-Inner-clause-bucket : goal.returns-in-Inner-clause-bucket
returns-in-Inner-clause-bucket t c =
    let s = step {key = c.args.key} c.requires.fits (ap seen c.in-Inner.is ∙ ap four (sym c.deref.ensures)) c.next_bit-high.ensures c.next_bit-low.ensures c.quarter.ensures in
    bucket-step s ∙ c.leaf_of.ensures.bucket

pub returns-in-Inner-clause-left : goal.returns-in-Inner-clause-left
returns-in-Inner-clause-left t c =
    let s = step {key = c.args.key} c.requires.fits (ap seen c.in-Inner.is ∙ ap four (sym c.deref.ensures)) c.next_bit-high.ensures c.next_bit-low.ensures c.quarter.ensures in
    omega (arith, name-step s, s.some, c.leaf_of.ensures.left)
