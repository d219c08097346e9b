use Rattle.std.proofs.Common.{◌∙◌, sym, ap, arith}
use Rattle.quad_trie.specs.Nodes.{seen, four}
use Rattle.quad_trie.proofs.Quarters.{step}
use Rattle.quad_trie.proofs.Steps.{same-step}
use Rattle.quad_trie.proofs.Downwards.{agrees-step}
use Rattle.quad_trie.proofs.node.+agreed.Goals as goal

pub agreed-requires : goal.agreed-requires
agreed-requires t c =
    let s = step {key = c.args.from} c.requires.fits (ap seen c.in-Inner.is ∙ ap four (sym c.deref.ensures)) c.next_bit-high.ensures c.next_bit-low.ensures c.quarter.ensures in
    (omega (arith, s.some), s.fits)

pub returns-then-go_together-clause-agrees : goal.returns-then-go_together-clause-agrees
returns-then-go_together-clause-agrees t c =
    let s = step {key = c.args.from} c.requires.fits (ap seen c.in-Inner.is ∙ ap four (sym c.deref.ensures)) c.next_bit-high.ensures c.next_bit-low.ensures c.quarter.ensures in
    let o = same-step s c.args.to (sym c.go_together.ensures ∙ c.if-go_together.true) c.next_bit-high.ensures c.next_bit-low.ensures in
    agrees-step c.agreed.result.0 (seen c.agreed.result.1.now) s o c.agreed.ensures.agrees

pub returns-then-go_together-clause-rest : goal.returns-then-go_together-clause-rest
returns-then-go_together-clause-rest t c = omega (arith, c.agreed.ensures.rest)

pub returns-then-go_together-clause-even : goal.returns-then-go_together-clause-even
returns-then-go_together-clause-even t c =
    let s = step {key = c.args.from} c.requires.fits (ap seen c.in-Inner.is ∙ ap four (sym c.deref.ensures)) c.next_bit-high.ensures c.next_bit-low.ensures c.quarter.ensures in
    omega (arith, s.some, c.agreed.ensures.even)
