use Rattle.std.proofs.Common.{List, [], ◌∷◌, ◌++◌, ap, ◌∙◌, ⊎_elim}
use Rattle.plain_list.specs.declared.entries.Entry.{Entry}
use Rattle.benches.specs.Tally.{one_find}
use Rattle.benches.proofs.crowd.run_round.Goals as goal

pub note-requires-clause-entry : goal.note-requires-clause-entry
note-requires-clause-entry g c = (
  one_find,
  c.if-add.ensures ∙ ap (λ (l : List Entry). l ++ one_find ∷ []) c.take-tally.ensures.value.0,
  λ n e. ⊎_elim (λ i. absurd (cc (i))) (λ i. absurd (cc (i))) e,
)
