use Rattle.std.proofs.Common.{◌≡◌, ◌∙◌, ◌+◌, ◌-◌, ◌<◌, ◌^◌, ℕ, Bool, true, false, List, length, min, sym, ap, subst, arith, rules}
use Rattle.std.specs.Arc.{arc_value}
use Rattle.bucket_versions.specs.Rows.{Rows}
use Rattle.bit_trie.specs.Tries.{Trie, rows_in}
use Rattle.quad_trie.specs.declared.node.Quad.{Quad}
use Rattle.quad_trie.specs.Nodes.{seen, quarter_of}
use Rattle.quad_trie.specs.Places.{IsAt}
use Rattle.quad_trie.proofs.Between.{odd-at}
use Rattle.quad_trie.proofs.Counted.{count-leaf, count-node, count-half}
use Rattle.quad_trie.proofs.trie.QuadTrieIndex.count_below.Goals as goal

abbrev capped : ℕ → ℕ
capped n = min n (2 ^ 64 - 1)

pub returns-in-Leaf : goal.returns-in-Leaf
returns-in-Leaf c =
    let t : Trie = seen c.args.self.now.root in
    let b : Rows = arc_value c.in-Leaf.bucket in
    let all = count-leaf t c.args.name.now b (subst (λ (n : Trie). IsAt t n c.args.name.now) (ap seen c.in-Leaf.is) c.requires) in
    let here : c.count.result ≡ length b.rows = c.count.ensures.count ∙ ap (λ (r : Rows). length r.rows) c.deref.ensures in
    let most : c.count.result < 2 ^ 64 = search rules in
    omega (arith, all, here, most)

pub returns-then-len-eq0 : goal.returns-then-len-eq0
returns-then-len-eq0 c =
    let all = count-node (seen c.args.self.now.root) c.args.name.now (seen c.args.place.now) (omega (arith, c.if-len-eq0.true, c.len.ensures.len)) c.requires in
    c.count-then-len-eq0.ensures ∙ ap capped (sym all)

pub returns-else-len-eq0 : goal.returns-else-len-eq0
returns-else-len-eq0 c =
    let t : Trie = seen c.args.self.now.root in
    let name : List Bool = c.args.name.now in
    let q : Quad = c.in-Inner.quad.value in
    let m = odd-at t c.args.self.now.are_leaves.tile (seen q.zero_zero) (seen q.zero_one) (seen q.one_zero) (seen q.one_one) name (omega (arith, c.if-len-eq0.false, c.len.ensures.len)) (subst (λ (n : Trie). IsAt t n name) (ap seen c.in-Inner.is) c.requires) in
    let all = count-half t name q m c.ends_with_one.result (sym (c.ends_with_one.ensures m.front m.bit m.named)) in
    c.count_half.ensures
    ∙ ap (λ (p : Quad). capped (rows_in (quarter_of p c.ends_with_one.result false) + rows_in (quarter_of p c.ends_with_one.result true))) c.deref-else-len-eq0.ensures
    ∙ ap capped (sym all)
