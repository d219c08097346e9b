use Rattle.std.proofs.Common.{◌≡◌, ◌∙◌, ◌⊎◌, Bool, List, [], inr, sym, ap, subst}
use Rattle.zorder.specs.Key.{is_under}
use Rattle.index_layer.specs.Below.{begins_some}
use Rattle.index_layer.proofs.Narrowing.{under-none, some-whole}
use Rattle.bit_trie.specs.Tries.{leaves_under, reach}
use Rattle.kd_trie.specs.Nodes.{seen, StandsFor}
use Rattle.kd_trie.specs.Stems.{GoesPast}
use Rattle.kd_trie.specs.Wholes.{sides_of, whole}
use Rattle.kd_trie.proofs.Passing.{top-at}
use Rattle.kd_trie.proofs.Counted.{with-count}
use Rattle.bit_trie.proofs.Walking.{path-is, over-from, over-to, begun}
use Rattle.kd_trie.proofs.trie.KdTrieIndex.reach.Goals as goal

named : (c : goal.After-first_bits) → c.first_bits.result ≡ c.in-Some.ensures.agrees.path
named c = c.first_bits.ensures ∙ path-is c.args.from c.args.to c.in-Some.left (whole c.args.self.now.tree) (seen c.in-Some.node.now) c.in-Some.ensures.agrees

pub returns-in_default-clause-at : goal.returns-in_default-clause-at
returns-in_default-clause-at c =
    let s = c.args.self.now.tree in
    subst (λ (n : List Bool). GoesPast n s.stem.name ⊎ StandsFor s.counts_hold n (whole s) s.root) (sym c.whole.ensures)
    (with-count s.counts_hold [] s.stem.name (whole s) s.root (top-at s.stem.name (sides_of s.stem) (seen s.root) s.stem.named) s.counted)

pub returns-in_default-clause-over : goal.returns-in_default-clause-over
returns-in_default-clause-over c =
    (ap (λ (n : List Bool). is_under n c.args.from) c.whole.ensures ∙ under-none c.args.from, ap (λ (n : List Bool). is_under n c.args.to) c.whole.ensures ∙ under-none c.args.to)

pub returns-in_default-clause-some : goal.returns-in_default-clause-some
returns-in_default-clause-some c =
    let leaves = leaves_under [] (whole c.args.self.now.tree) in
    ap (λ (n : List Bool). begins_some n leaves) c.whole.ensures ∙ some-whole leaves c.args.self.now.are_leaves.tile

pub returns-clause-at : goal.returns-clause-at
returns-clause-at c = inr (record { at = ap (λ (n : List Bool). reach n (whole c.args.self.now.tree)) (named c) ∙ c.in-Some.ensures.agrees.at; counted = c.in-Some.ensures.counted })

pub returns-clause-over : goal.returns-clause-over
returns-clause-over c =
    let t = whole c.args.self.now.tree in
    let u = seen c.in-Some.node.now in
    let a = c.in-Some.ensures.agrees in (
      ap (λ (n : List Bool). is_under n c.args.from) (named c) ∙ over-from c.args.from c.args.to c.in-Some.left t u a,
      ap (λ (n : List Bool). is_under n c.args.to) (named c) ∙ over-to c.args.from c.args.to c.in-Some.left t u a,
    )

pub returns-clause-some : goal.returns-clause-some
returns-clause-some c =
    let t = whole c.args.self.now.tree in
    let a = c.in-Some.ensures.agrees in
    ap (λ (n : List Bool). begins_some n (leaves_under [] t)) (named c) ∙ begun a.path t (seen c.in-Some.node.now) a.at
