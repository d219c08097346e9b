use Rattle.std.proofs.Common.{◌≡◌, ◌∙◌, ◌%◌, inl, List, [], Bool, length, ap, arith}
use Rattle.zorder.specs.Key.{is_under}
use Rattle.index_layer.specs.Below.{begins_some}
use Rattle.bit_trie.specs.Tries.{leaves_under, reach}
use Rattle.bit_trie.proofs.Walking.{path-is, over-from, over-to, begun}
use Rattle.quad_trie.specs.Nodes.{seen}
use Rattle.quad_trie.proofs.Downwards.{even-path}
use Rattle.quad_trie.proofs.trie.QuadTrieIndex.reach.Goals as goal

named : (c : goal.After-first_bits) → c.first_bits.result ≡ c.agreed-left.ensures.agrees.path
named c = c.first_bits.ensures ∙ path-is c.args.from c.args.to c.agreed-left.result.0 (seen c.args.self.now.root) (seen c.agreed-left.result.1.now) c.agreed-left.ensures.agrees

pub returns-clause-at : goal.returns-clause-at
returns-clause-at c =
    let t = seen c.args.self.now.root in
    let a = c.agreed-left.ensures.agrees in
    inl (record {
      even = ap (λ (n : List Bool). length n % 2) (named c) ∙ even-path c.args.from c.args.to c.agreed-left.result.0 t (seen c.agreed-left.result.1.now) a (omega (arith, c.agreed-left.ensures.even));
      at = ap (λ (n : List Bool). reach n t) (named c) ∙ a.at;
    })

pub returns-clause-over : goal.returns-clause-over
returns-clause-over c =
    let t = seen c.args.self.now.root in
    let u = seen c.agreed-left.result.1.now in
    let a = c.agreed-left.ensures.agrees in (
      ap (λ (n : List Bool). is_under n c.args.from) (named c) ∙ over-from c.args.from c.args.to c.agreed-left.result.0 t u a,
      ap (λ (n : List Bool). is_under n c.args.to) (named c) ∙ over-to c.args.from c.args.to c.agreed-left.result.0 t u a,
    )

pub returns-clause-some : goal.returns-clause-some
returns-clause-some c =
    let t = seen c.args.self.now.root in
    let a = c.agreed-left.ensures.agrees in
    ap (λ (n : List Bool). begins_some n (leaves_under [] t)) (named c) ∙ begun a.path t (seen c.agreed-left.result.1.now) a.at
