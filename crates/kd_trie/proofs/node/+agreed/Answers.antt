use Rattle.std.proofs.Common.{◌≡◌, ◌-◌, ◌==◌, ◌∙◌, ℕ, suc, true, false, sym, ap, subst, arith}
use Rattle.std.specs.Int.{bit_at}
use Rattle.bit_trie.specs.Tries.{Trie, fork, height}
use Rattle.kd_trie.specs.Nodes.{seen}
use Rattle.bit_trie.specs.Walks.{Agrees}
use Rattle.bit_trie.proofs.Walking.{agrees-half}
use Rattle.kd_trie.proofs.node.+agreed.Goals as goal

pub returns-then-next_bit-2-clause-agrees : goal.returns-then-next_bit-2-clause-agrees
returns-then-next_bit-2-clause-agrees t c =
    let z : Trie = seen c.deref.result.now.zero in
    let o : Trie = seen c.deref.result.now.one in
    let u : Trie = seen c.agreed.result.1.now in
    let is : seen c.args.node.now ≡ fork z o = ap seen c.in-Inner.is ∙ (λ i. fork (seen (sym c.deref.ensures i).zero) (seen (sym c.deref.ensures i).one)) in
    let some : suc (c.args.left - 1) ≡ c.args.left = omega (arith, c.requires.fits.height, ap height is) in
    let first : (bit_at c.args.from (c.args.left - 1) == 1) ≡ true = sym c.next_bit.ensures ∙ c.if-next_bit.true in
    let second : (bit_at c.args.to (c.args.left - 1) == 1) ≡ true = sym c.next_bit-then-next_bit.ensures ∙ c.if-next_bit-2.true in
    subst (λ (v : Trie). Agrees c.args.from c.args.to c.args.left c.agreed.result.0 v u) (sym is)
    (subst (λ (n : ℕ). Agrees c.args.from c.args.to n c.agreed.result.0 (fork z o) u) some
    (agrees-half c.args.from c.args.to (c.args.left - 1) c.agreed.result.0 true z o u first second c.agreed.ensures.agrees))

pub returns-else-next_bit-3-clause-agrees : goal.returns-else-next_bit-3-clause-agrees
returns-else-next_bit-3-clause-agrees t c =
    let z : Trie = seen c.deref-else-next_bit-3.result.now.zero in
    let o : Trie = seen c.deref-else-next_bit-3.result.now.one in
    let u : Trie = seen c.agreed-else-next_bit-3.result.1.now in
    let is : seen c.args.node.now ≡ fork z o = ap seen c.in-Inner.is ∙ (λ i. fork (seen (sym c.deref-else-next_bit-3.ensures i).zero) (seen (sym c.deref-else-next_bit-3.ensures i).one)) in
    let some : suc (c.args.left - 1) ≡ c.args.left = omega (arith, c.requires.fits.height, ap height is) in
    let first : (bit_at c.args.from (c.args.left - 1) == 1) ≡ false = sym c.next_bit.ensures ∙ c.if-next_bit.false in
    let second : (bit_at c.args.to (c.args.left - 1) == 1) ≡ false = sym c.next_bit-else-next_bit.ensures ∙ c.if-next_bit-3.false in
    subst (λ (v : Trie). Agrees c.args.from c.args.to c.args.left c.agreed-else-next_bit-3.result.0 v u) (sym is)
    (subst (λ (n : ℕ). Agrees c.args.from c.args.to n c.agreed-else-next_bit-3.result.0 (fork z o) u) some
    (agrees-half c.args.from c.args.to (c.args.left - 1) c.agreed-else-next_bit-3.result.0 false z o u first second c.agreed-else-next_bit-3.ensures.agrees))
