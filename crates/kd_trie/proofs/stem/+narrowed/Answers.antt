use Rattle.std.proofs.Common.{List, Bool, subst}
use Rattle.kd_trie.specs.Nodes.{seen}
use Rattle.bit_trie.specs.Walks.{Narrows}
use Rattle.bit_trie.proofs.Walking.{narrows-here, narrows-half}
use Rattle.kd_trie.proofs.stem.+narrowed.Goals as goal

pub returns-then-len-eq64-clause-narrows : goal.returns-then-len-eq64-clause-narrows
returns-then-len-eq64-clause-narrows t c = narrows-here c.args.name (seen c.args.node.now)

pub returns-in_default-clause-narrows : goal.returns-in_default-clause-narrows
returns-in_default-clause-narrows t c = narrows-here c.args.name (seen c.args.node.now)

pub returns-clause-narrows : goal.returns-clause-narrows
returns-clause-narrows t c =
    narrows-half c.args.name c.narrowed.result.0 c.in-Some.bit (seen c.in-Some._leaf.now) (seen c.in-Some.on.now) (seen c.args.node.now) (seen c.narrowed.result.1.now) c.in-Some.ensures.halves c.in-Some.ensures.bare
    (subst (λ (n : List Bool). Narrows n c.narrowed.result.0 (seen c.in-Some.on.now) (seen c.narrowed.result.1.now)) c.child.ensures c.narrowed.ensures.narrows)
