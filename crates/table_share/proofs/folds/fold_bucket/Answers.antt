use Rattle.std.proofs.Common.{◌∙◌, List, refl, sym, subst}
use Rattle.std.specs.List.{FoldsTo}
use Rattle.bucket_versions.specs.declared.row.Row.{Row}
use Rattle.table_share.specs.Folds.{FoldsRow}
use Rattle.table_share.proofs.folds.fold_bucket.Goals as goal

pub loop-row-init : goal.loop-row-init
loop-row-init g c = λ last rest.
    subst (λ (rows : List Row). FoldsTo (FoldsRow g.F.Fn c.args.f.now) c.args.start rows last) (c.into_iter-row-iterator.ensures.into_iter_gives ∙ c.rows-row-items.ensures.rows) rest

pub loop-row-preserved : goal.loop-row-preserved
loop-row-preserved g c = λ last rest.
    c.loop-row.invariant last
    (subst (λ (rows : List Row). FoldsTo (FoldsRow g.F.Fn c.args.f.now) c.loop-row.folded rows last) (sym c.in-Some.ensures.steps)
    (c.f-folded.result, record { shown = c.in-Some.row; shows = refl; says = c.f-folded.ensures }, rest))

pub returns-clause-folded : goal.returns-clause-folded
returns-clause-folded g c =
    let folded = c.loop-row.folded in
    c.loop-row.invariant folded (subst (λ (rows : List Row). FoldsTo (FoldsRow g.F.Fn c.args.f.now) folded rows folded) (sym c.in-None.ensures.steps.0) refl)
