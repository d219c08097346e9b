use Rattle.std.proofs.Common.{refl, sym, ◌∙◌}
use Rattle.kept_log.proofs.InJournal.{in-opened}
use Rattle.kept_log.proofs.journal.Journal.opened.Goals as goal

pub returns-clause-keeps : goal.returns-clause-keeps
returns-clause-keeps g c = λ w s opened sound.
    in-opened g.D.LogDisk.drive w s _ (sym (c.of-first.ensures ∙ c.cells.ensures.cells)) opened c.cells.ensures.most sound refl
