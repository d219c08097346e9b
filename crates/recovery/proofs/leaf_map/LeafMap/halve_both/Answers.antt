use Rattle.std.proofs.Common.{◌≡◌, ◌+◌, ◌<◌, ◌≤◌, [], ◌∷◌, ◌++◌, false, length, Some, ap, ◌∙◌, arith, length-append}
use Rattle.recovery.specs.LeafMap.{split_at}
use Rattle.recovery.proofs.LeafMaps.{leaf-halved, second_half_leaf}
use Rattle.recovery.proofs.Unites.{half_mark}
use Rattle.recovery.proofs.leaf_map.LeafMap.halve_both.Goals as goal

pub halve-requires-clause-leaf : goal.halve-requires-clause-leaf
halve-requires-clause-leaf c =
    let h = c.requires.halved in
    rw (c.child-first.ensures, h.3) (leaf-halved h.0 c.args.name.now h.1).0

pub halve-requires-2-clause-leaf : goal.halve-requires-2-clause-leaf
halve-requires-2-clause-leaf c =
    let h = c.requires.halved in
    rw (c.in_ok-halve.ensures.ok, c.child-first.ensures, c.child.ensures, h.3) (second_half_leaf h.0 c.args.name.now c.requires.short h.2 h.1)

pub unite-requires : goal.unite-requires
unite-requires c =
    let h = c.requires.halved in
    let name = c.args.name.now in
    let room : length name + 1 ≤ 64 = omega (arith, c.requires.short) in
    let mark : split_at c.args.self.now (name ++ false ∷ []) ≡ Some 0 = ap (λ ls. split_at ls (name ++ false ∷ [])) h.3 ∙ half_mark 0 h.0 name room h.2 h.1 in
    let short : length c.child-first.result < 64 = omega (arith, c.requires.short, ap length c.child-first.ensures, length-append name (false ∷ [])) in
    record {
      halved = (
        c.args.self.now,
        record {
          tile = c.halve.ensures.tile;
          short = short;
          mark = ap (split_at c.args.self.now) c.child-first.ensures ∙ mark;
          is = c.in-Err.ensures.err ∙ c.in_ok-halve.ensures.ok;
        },
      );
    }

pub returns-in-Err-clause-err : goal.returns-in-Err-clause-err
returns-in-Err-clause-err c =
    let h = c.requires.halved in
    let name = c.args.name.now in
    let room : length name + 1 ≤ 64 = omega (arith, c.requires.short) in
    let mark : split_at c.args.self.now (name ++ false ∷ []) ≡ Some 0 = ap (λ ls. split_at ls (name ++ false ∷ [])) h.3 ∙ half_mark 0 h.0 name room h.2 h.1 in
    let short : length c.child-first.result < 64 = omega (arith, c.requires.short, ap length c.child-first.ensures, length-append name (false ∷ [])) in
    c.unite.ensures c.args.self.now
    (record { tile = c.halve.ensures.tile; short = short; mark = ap (split_at c.args.self.now) c.child-first.ensures ∙ mark; is = c.in-Err.ensures.err ∙ c.in_ok-halve.ensures.ok })
