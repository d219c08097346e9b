use Rattle.std.proofs.Common.{List, [], ◌∷◌, ◌++◌, ap, ◌∙◌}
use Rattle.plain_list.specs.declared.entries.Entry.{Entry}
use Rattle.thread_tests.proofs.sheets.add.Goals as goal

pub note-requires-clause-entry : goal.note-requires-clause-entry
note-requires-clause-entry g c = (
  c.args.entry,
  c.if-pushed.ensures.entries ∙ ap (λ (l : List Entry). l ++ c.args.entry ∷ []) c.take-sheet.ensures.value.0,
  λ n e. absurd (c.requires.plain n e),
)
