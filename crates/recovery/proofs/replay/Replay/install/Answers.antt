use Rattle.std.proofs.Common.{sym, ◌∙◌}
use Rattle.recovery.proofs.LeafMaps.{leaf_marked}
use Rattle.recovery.proofs.Replays.{IsReplay-installed, found_open}
use Rattle.recovery.proofs.replay.Replay.install.Goals as goal

pub split-requires-clause-leaf : goal.split-requires-clause-leaf
split-requires-clause-leaf c =
    let it = found_open c.self.inside.version c.self.inside.width c.self.inside.begun c.self.inside.leaves c.self.inside.splits c.in-Some.name c.args.number c.self.invariant (sym c.name.ensures ∙ c.in-Some.is) in
    leaf_marked c.self.inside.leaves c.in-Some.name c.args.number it.mark

pub split-requires-clause-short : goal.split-requires-clause-short
split-requires-clause-short c =
    (found_open c.self.inside.version c.self.inside.width c.self.inside.begun c.self.inside.leaves c.self.inside.splits c.in-Some.name c.args.number c.self.invariant (sym c.name.ensures ∙ c.in-Some.is)).short

pub invariant_of-self-2 : goal.invariant_of-self-2
invariant_of-self-2 c = rw c.remove.ensures (IsReplay-installed c.self.inside.version c.self.inside.width c.self.inside.begun c.self.inside.leaves c.self.inside.splits c.in-Some.name c.args.number c.split.new.self c.self.invariant
    (sym c.name.ensures ∙ c.in-Some.is) c.in_ok-split.ensures.kept)
