use Rattle.std.proofs.Common.{◌≡◌, ◌∙◌, ap, sym, subst, List, []}
use Rattle.std.proofs.lemmas.Bool.{eqb-true}
use Rattle.std.proofs.lemmas.List.{nil_from_length}
use Rattle.bucket_versions.specs.declared.row.Row.{Row}
use Rattle.bucket_versions.specs.declared.content.Base.{Base}
use Rattle.bucket_versions.specs.Rows.{rows_between}
use Rattle.bucket_versions.specs.RowList.{rows_under, listed}
use Rattle.bucket_versions.specs.Content.{base_in}
use Rattle.bucket_versions.proofs.Contents.{between-base}
use Rattle.bucket_versions.proofs.content.Content.is_as_cut.Goals as goal

pub returns-in-Below : goal.returns-in-Below
returns-in-Below c empty =
    let lo = c.args.lo in
    let hi = c.args.hi in
    let rows = c.args.self.now.rows in
    let list : List Row = rows.list.items in
    let none : rows_between lo hi list ≡ [] =
    sym (c.between.ensures.rows ∙ ap (rows_between lo hi) c.deref.ensures.value) ∙ nil_from_length c.between.result.now (eqb-true _ _ (sym c.is_empty.ensures ∙ empty)) in
    let Keeps : Base → Type 0 = λ b. rows_between lo hi (listed rows) ≡ rows_between lo hi (base_in b rows) in
    subst Keeps (sym c.in-Below.is) (between-base lo hi (rows_under rows.under) list c.requires.rows.under c.requires.rows.list none)
