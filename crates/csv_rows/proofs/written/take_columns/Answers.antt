use Rattle.std.proofs.Common.{◌≡◌, ◌-◌, ◌++◌, length, take, drop, arith}
use Rattle.std.proofs.lemmas.Grind.{common_steps}
use Rattle.std.specs.Prelude.{codes}
use Rattle.csv_rows.proofs.ColumnsFacts.{kept-columns, taken-columns}
use Rattle.csv_rows.proofs.written.take_columns.Goals as goal

pub returns-clause-texts : goal.returns-clause-texts
returns-clause-texts c =
    let behind = c.in-Some-take_column-5.rest.now in
    let end : behind ≡ codes "\n" ++ take (length behind - 1) (drop 1 behind) = grind (arith, common_steps) in
    taken-columns c.args.word _ _ _ c.rules_of-rules.ensures c.rules_of-rules-2.ensures _ _ _ _ _ _ _ _
    c.in-Some.ensures.text c.in-Some-take_column.ensures.text c.in-Some-take_column-2.ensures.text c.in-Some-take_column-3.ensures.text c.in-Some-take_column-4.ensures.text c.in-Some-take_column-5.ensures.text end

pub returns-clause-kept : goal.returns-clause-kept
returns-clause-kept c =
    kept-columns c.args.word _ _ _ c.rules_of-rules.ensures c.rules_of-rules-2.ensures
    c.in-Some.ensures.fits c.in-Some-take_column.ensures.fits c.in-Some-take_column-2.ensures.fits c.in-Some-take_column-3.ensures.fits c.in-Some-take_column-4.ensures.fits c.in-Some-take_column-5.ensures.fits
