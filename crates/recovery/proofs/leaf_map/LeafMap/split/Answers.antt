use Rattle.std.proofs.Common.{◌≡◌, ◌+◌, ◌≤◌, length, sym, ap, ◌∙◌, arith}
use Rattle.plain_list.specs.State.{split_leaf}
use Rattle.recovery.specs.LeafMap.{names_of}
use Rattle.recovery.proofs.LeafMaps.{keeps-quartered, keeps-halved, names_of-halved, names_of-quartered}
use Rattle.std.proofs.lemmas.Result.{on_ok_weaker}
use Rattle.recovery.proofs.leaf_map.LeafMap.split.Goals as goal

pub returns-then-width-eq2-clause-names : goal.returns-then-width-eq2-clause-names
returns-then-width-eq2-clause-names c =
    let room : length c.args.name.now + 2 ≤ 64 = omega (arith, c.requires.short, c.if-width-eq2.true) in
    on_ok_weaker c.quarter.result (λ is. ap names_of is ∙ names_of-quartered 0 c.args.self.now c.args.name.now room c.quarter.ensures.tile c.requires.leaf ∙ ap (λ w. split_leaf w c.args.name.now (names_of c.args.self.now)) (sym c.if-width-eq2.true)) c.quarter.ensures.ok

pub returns-then-width-eq2-clause-kept : goal.returns-then-width-eq2-clause-kept
returns-then-width-eq2-clause-kept c =
    let room : length c.args.name.now + 2 ≤ 64 = omega (arith, c.requires.short, c.if-width-eq2.true) in
    on_ok_weaker c.quarter.result (λ is. rw is (keeps-quartered c.args.self.now c.args.name.now room c.quarter.ensures.tile c.requires.leaf)) c.quarter.ensures.ok

pub returns-else-width-eq2-clause-names : goal.returns-else-width-eq2-clause-names
returns-else-width-eq2-clause-names c =
    let one : c.args.width ≡ 1 = omega (arith, c.requires.width, c.if-width-eq2.false) in
    on_ok_weaker c.halve.result (λ is. ap names_of is ∙ names_of-halved c.args.self.now c.args.name.now ∙ ap (λ w. split_leaf w c.args.name.now (names_of c.args.self.now)) (sym one)) c.halve.ensures.ok

pub returns-else-width-eq2-clause-kept : goal.returns-else-width-eq2-clause-kept
returns-else-width-eq2-clause-kept c =
    let one : length c.args.name.now + 1 ≤ 64 = omega (arith, c.requires.short, c.requires.width) in
    on_ok_weaker c.halve.result (λ is. rw is (keeps-halved c.args.self.now c.args.name.now one c.halve.ensures.tile c.requires.leaf)) c.halve.ensures.ok
