use Rattle.std.proofs.Common.{ℕ, List, [], ◌∷◌, ◌++◌, ap, ◌∙◌}
use Rattle.recovery.proofs.making.empty_log.Goals as goal

pub returns : goal.returns
returns c = ap (λ (l : List ℕ). l ++ 0 ∷ []) (c.copy_from_slice.ensures.after ∙ c.header.ensures)
