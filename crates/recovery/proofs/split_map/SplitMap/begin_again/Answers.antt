use Rattle.std.proofs.Common.{sym, ap, ◌∙◌, [], ◌∷◌, ◌++◌, List}
use Rattle.plain_list.specs.State.{OpenSplit}
use Rattle.recovery.proofs.SplitMaps.{begun_again, without_split-other}
use Rattle.recovery.proofs.split_map.SplitMap.begin_again.Goals as goal

pub returns-then-again-clause-ok : goal.returns-then-again-clause-ok
returns-then-again-clause-ok c =
    begun_again c.args.earlier c.args.number c.args.name c.args.self.now c.push.new.self c.remove.new.self c.is_split-again.ensures.rising c.requires (c.is_split-again.ensures.yes c.if-again.true)
    c.in_ok-push.ensures.ok c.remove.ensures

pub returns-else-again-clause-ok : goal.returns-else-again-clause-ok
returns-else-again-clause-ok c =
    c.in_ok-push.ensures.ok
    ∙ ap (λ (l : List OpenSplit). l ++ record { number = c.args.number; name = c.args.name } ∷ [])
    (sym (without_split-other c.args.earlier c.args.name c.args.self.now c.is_split-again.ensures.rising (c.is_split-again.ensures.no c.if-again.false)))
