use Rattle.std.proofs.Common.{◌≡◌, true, ◌∙◌, ◌++◌, ◌∷◌, [], Bool, List, length-append, sym, ap, subst, arith, length}
use Rattle.bit_trie.specs.Walks.{Narrows}
use Rattle.bit_trie.proofs.Walking.{narrows-here}
use Rattle.quad_trie.specs.declared.node.Quad.{Quad}
use Rattle.quad_trie.specs.Nodes.{seen, four}
use Rattle.quad_trie.specs.Quarters.{is_lone}
use Rattle.quad_trie.proofs.Downwards.{narrows-quarter}
use Rattle.quad_trie.proofs.narrow.+narrowed.Goals as goal

pub returns-in_default-clause-narrows : goal.returns-in_default-clause-narrows
returns-in_default-clause-narrows t c = narrows-here c.args.name (seen c.args.node.now)

pub returns-then-len-gt62-clause-narrows : goal.returns-then-len-gt62-clause-narrows
returns-then-len-gt62-clause-narrows t c = narrows-here c.args.name (seen c.args.node.now)

pub returns-in_default-lone-clause-narrows : goal.returns-in_default-lone-clause-narrows
returns-in_default-lone-clause-narrows t c = narrows-here c.args.name (seen c.args.node.now)

pub returns-clause-narrows : goal.returns-clause-narrows
returns-clause-narrows t c =
    let named = c.child.ensures ∙ ap (λ (n : List Bool). n ++ c.in-Some.low ∷ []) c.child-half.ensures in
    let is = ap seen c.in-Inner.is ∙ ap four (sym c.deref-2.ensures) in
    let lone = subst (λ (q : Quad). is_lone q c.in-Some.high c.in-Some.low ≡ true) (c.deref.ensures ∙ sym c.deref-2.ensures) c.in-Some.ensures in
    narrows-quarter c.deref-2.result.now c.args.name c.narrowed.result.0 c.in-Some.high c.in-Some.low (seen c.args.node.now) (seen c.quarter.result.now) (seen c.narrowed.result.1.now) is lone c.quarter.ensures
    (subst (λ (n : List Bool). Narrows n c.narrowed.result.0 (seen c.quarter.result.now) (seen c.narrowed.result.1.now)) named c.narrowed.ensures.narrows)

pub returns-clause-even : goal.returns-clause-even
returns-clause-even t c =
    omega (arith, c.narrowed.ensures.even, ap length c.child.ensures, ap length c.child-half.ensures, length-append c.child-half.result (c.in-Some.low ∷ []), length-append c.args.name (c.in-Some.high ∷ []))
