use Rattle.std.proofs.Common.{◌≡◌, ◌%◌, [], inl, length, arith}
use Rattle.index_layer.proofs.Narrowing.{passes-none}
use Rattle.bit_trie.specs.Tries.{leaves_under}
use Rattle.bit_trie.proofs.Walking.{Narrowed, narrowed-place}
use Rattle.quad_trie.specs.Nodes.{seen}
use Rattle.quad_trie.proofs.Downwards.{even-place}
use Rattle.quad_trie.proofs.trie.QuadTrieIndex.narrow.Goals as goal

below : (c : goal.After-narrowed) → Narrowed c.args.name c.narrowed.result.0 (seen c.args.self.now.root) (seen c.narrowed.result.1.now)
below c =
    let t = seen c.args.self.now.root in
    let u = seen c.args.place.now in
    let even : length c.args.name % 2 ≡ 0 = omega (arith, c.if-len-eq1.false, c.len.ensures.len) in
    narrowed-place c.args.name c.narrowed.result.0 t u (seen c.narrowed.result.1.now) (even-place t u c.args.name even c.requires) c.narrowed.ensures.narrows

pub returns-clause-at : goal.returns-clause-at
returns-clause-at c = inl (record { even = omega (arith, c.narrowed.ensures.even, c.if-len-eq1.false, c.len.ensures.len); at = (below c).at })

pub returns-clause-passed : goal.returns-clause-passed
returns-clause-passed c = (below c).passed

pub returns-then-len-eq1-clause-passed : goal.returns-then-len-eq1-clause-passed
returns-then-len-eq1-clause-passed c = passes-none c.args.name (leaves_under [] (seen c.args.self.now.root))
