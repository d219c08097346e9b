use Rattle.std.proofs.Common.{◌≡◌, ◌+◌, ◌++◌, ◌∷◌, ◌∙◌, [], Bool, List, length, length-append, sym, ap, arith}
use Rattle.kd_trie.specs.declared.stem.Side.{Side}
use Rattle.bit_trie.specs.Tries.{Trie, halves}
use Rattle.kd_trie.specs.Nodes.{seen}
use Rattle.kd_trie.specs.Stems.{way_of}
use Rattle.kd_trie.proofs.StemLemmas.{stretched, way-append}
use Rattle.kd_trie.proofs.stem.+stretch.Goals as goal

pub returns-clause-over : goal.returns-clause-over
returns-clause-over t c =
    stretched c.stretch.result c.args.aside.now.items c.push.new.self.items c.stretch.new.aside.items (record { bit = c.in-Some.bit; node = c.in_ok-leaf.leaf }) (seen c.in-Some.on.now) (seen c.args.node.now)
    c.in_ok-push.ensures.items
    (c.in-Some.ensures.halves ∙ ap (λ (u : Trie). halves c.in-Some.bit u (seen c.in-Some.on.now)) (sym c.in_ok-leaf.ensures.0))
    c.stretch.ensures.over

pub stretch-requires : goal.stretch-requires
stretch-requires t c =
    let longer : length c.child.result ≡ length c.args.name.now + 1 = ap length c.child.ensures ∙ length-append c.args.name.now (c.in-Some.bit ∷ []) in
    let side : Side = record { bit = c.in-Some.bit; node = c.in_ok-leaf.leaf } in
    let named : c.child.result ≡ way_of c.push.new.self.items =
    c.child.ensures ∙ ap (λ (n : List Bool). n ++ c.in-Some.bit ∷ []) c.requires.named ∙ sym (way-append c.args.aside.now.items side) ∙ ap way_of (sym c.in_ok-push.ensures.items) in
    (omega (arith, longer), (named, c.in-Some.ensures.counted c.requires.counted))
