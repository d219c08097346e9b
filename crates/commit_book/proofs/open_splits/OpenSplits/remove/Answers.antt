use Rattle.std.proofs.Common.{◌∙◌, ap, rules, not}
use Rattle.std.specs.Prelude.{◌==◌}
use Rattle.std.proofs.lemmas.Fn.{filter_same}
use Rattle.point_table.specs.declared.crowded.Begun.{Begun}
use Rattle.point_table.specs.Splits.{splits_of}
use Rattle.point_table.proofs.SplitLemmas.{without_number-splits_of}
use Rattle.commit_book.proofs.open_splits.OpenSplits.remove.Goals as goal

pub returns-clause-splits : goal.returns-clause-splits
returns-clause-splits c =
    let kept = filter_same _ (λ (b : Begun). not (b.number == c.args.number)) _ (λ x b f k. search rules) _ _ c.retain.ensures.filtered in
    rw (← c.self.view_is) (ap splits_of kept ∙ without_number-splits_of c.args.number c.self.inside.splits.items)
