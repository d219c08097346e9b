use Rattle.std.proofs.Common.{◌≡◌, ◌∙◌, ℕ, length, refl, sym, ap, subst, arith, get_or}
use Rattle.causes.specs.Causes.{Counts}
use Rattle.csv_rows.specs.declared.rows.InRow.{InRow}
use Rattle.plain_list.specs.declared.ops.Op.TheVariants.{Put}
use Rattle.play_run.specs.inside.Answered.{kept_of}
use Rattle.run_ends.proofs.Ends.{counts-lost}
use Rattle.play_run.proofs.LineOrder.{before, told-none, title-added, title-lost, line-added, line-lost, lines-put, told-is, told-few, told-more, row-few}
use Rattle.play_run.proofs.output.write_lines.Given as given
use Rattle.play_run.proofs.output.write_lines.Goals.{After-index-lanes-session, After-index-lane-told}
use Rattle.play_run.proofs.output.write_lines.Goals as goal

abbrev blank : InRow
blank = record { session = 0; op = Put 0 (record { x = 0; y = 0 }) 0 }

-- the lane of a row's session
lane : (g : given.Over) (c : goal.After-index-lanes-session g) → c.index-lanes-session.result.now ≡ kept_of (get_or c.args.rows.now c.loop-row.row-index blank).session c.args.ends.now
lane g c =
    let few = row-few c.args.rows.now c.requires.rows.each c.loop-row.row-index blank c.loop-row-test.true in
    ap (λ v. v.now) c.index-lanes-session.is ∙ c.by_session-by_session.ensures.each (get_or c.args.rows.now c.loop-row.row-index blank).session _ (omega (arith, few))

-- what it kept next
kept : (g : given.Over) (c : goal.After-index-lane-told g) → c.index-lanes-session.result.now ≡ kept_of (get_or c.args.rows.now c.loop-row.row-index blank).session c.args.ends.now
    → get_or (kept_of (get_or c.args.rows.now c.loop-row.row-index blank).session c.args.ends.now) (before c.args.rows.now c.loop-row.row-index (get_or c.args.rows.now c.loop-row.row-index blank).session) c.index-lane-told.result ≡ c.index-lane-told.result
kept g c same =
    let told = told-is c.args.rows.now c.loop-row.row-index blank c.loop-row.told c.loop-row.invariant.0 (row-few c.args.rows.now c.requires.rows.each c.loop-row.row-index blank c.loop-row-test.true) in
    (λ j. get_or ((sym same) j) ((sym told) j) c.index-lane-told.result) ∙ sym c.index-lane-told.is

pub returns-in_err-add_title-clause-bytes : goal.returns-in_err-add_title-clause-bytes
returns-in_err-add_title-clause-bytes g c = λ world h answers.
    let lost = c.in_err-add_title.ensures.bytes in
    title-lost world h c.args.rows.now _ _ c.new-lines.result lost.0 c.from_residual.result c.new-lines.ensures lost.1 c.from_residual.ensures.0

pub offset_bounds-lane-told : goal.offset_bounds-lane-told
offset_bounds-lane-told g c = omega (arith, (told-few c.args.rows.now c.args.ends.now c.loop-row.row-index blank c.loop-row.told c.requires.rows c.requires.numbers c.loop-row.invariant.0 c.loop-row-test.true).1)

pub bounds-lane-told : goal.bounds-lane-told
bounds-lane-told g c =
    let few = told-few c.args.rows.now c.args.ends.now c.loop-row.row-index blank c.loop-row.told c.requires.rows c.requires.numbers c.loop-row.invariant.0 c.loop-row-test.true in
    omega (arith, few.0, ap length (lane g (goal.at.bounds-lane-told g c).After-index-lanes-session))

pub returns-in_err-add_line-clause-bytes : goal.returns-in_err-add_line-clause-bytes
returns-in_err-add_line-clause-bytes g c = λ world h answers.
    let at = goal.at.returns-in_err-add_line-clause-bytes g c in
    let is = kept g at.After-index-lane-told (lane g at.After-index-lanes-session) in
    let lost = c.in_err-add_line.ensures.bytes in
    line-lost world h c.args.rows.now c.args.ends.now answers _ _ _ _ _ c.loop-row.row-index blank c.index-lane-told.result c.loop-row.lines lost.0 c.loop-row-test.true is (c.loop-row.invariant.2 world h answers) lost.1 c.from_residual-in_err-add_line.result c.from_residual-in_err-add_line.ensures.0

pub overflow_add-told : goal.overflow_add-told
overflow_add-told g c = omega (arith, (told-few c.args.rows.now c.args.ends.now c.loop-row.row-index blank c.loop-row.told c.requires.rows c.requires.numbers c.loop-row.invariant.0 c.loop-row-test.true).1)

pub loop-row-preserved : goal.loop-row-preserved
loop-row-preserved g c =
    let rows = c.args.rows.now in
    let i = c.loop-row.row-index in
    let at = goal.at.loop-row-preserved g c in
    let is = kept g at.After-index-lane-told (lane g at.After-index-lanes-session) in
    let same = c.in_ok-add_line.ensures.cause.same in (
      told-more rows i blank c.loop-row.told _ c.loop-row.invariant.0 c.loop-row-test.true (row-few rows c.requires.rows.each i blank c.loop-row-test.true) refl,
      same ∙ c.loop-row.invariant.1,
      λ world h answers. line-added world h rows c.args.ends.now answers _ _ _ _ _ i blank c.index-lane-told.result c.loop-row.lines _ c.loop-row-test.true is (c.loop-row.invariant.2 world h answers) c.in_ok-add_line.ensures.bytes _ same,
    )

pub returns-clause-bytes : goal.returns-clause-bytes
returns-clause-bytes g c = λ world h answers.
    lines-put world h c.args.rows.now _ _ _ _ _ c.loop-row.row-index c.loop-row.lines c.finish.result (c.loop-row.invariant.2 world h answers) (omega arith) c.finish.ensures.bytes

pub returns-clause-cause : goal.returns-clause-cause
returns-clause-cause g c = subst (λ (n : ℕ). Counts n (g.K.Sink.output c.finish.new.sink).faults c.finish.result) c.loop-row.invariant.1 c.finish.ensures.cause

pub loop-row-init : goal.loop-row-init
loop-row-init g c =
    let same = c.in_ok-add_title.ensures.cause.same in
    (told-none c.args.rows.now, same, λ world h answers. title-added world h _ _ _ _ _ c.new-lines.result _ c.new-lines.ensures c.in_ok-add_title.ensures.bytes same)

pub bounds-lanes-session : goal.bounds-lanes-session
bounds-lanes-session g c = omega (arith, row-few c.args.rows.now c.requires.rows.each c.loop-row.row-index blank c.loop-row-test.true, c.by_session-by_session.ensures.size)

pub bounds-told-session : goal.bounds-told-session
bounds-told-session g c = omega (arith, row-few c.args.rows.now c.requires.rows.each c.loop-row.row-index blank c.loop-row-test.true)

pub returns-in_err-add_title-clause-cause : goal.returns-in_err-add_title-clause-cause
returns-in_err-add_title-clause-cause g c = counts-lost _ _ c.in_err-add_title.field-0.0 c.from_residual.result c.in_err-add_title.ensures.cause c.from_residual.ensures.0

pub returns-in_err-add_line-clause-cause : goal.returns-in_err-add_line-clause-cause
returns-in_err-add_line-clause-cause g c =
    let last = (g.K.Sink.output c.add_line.new.sink).faults in
    subst (λ (n : ℕ). Counts n last c.from_residual-in_err-add_line.result) c.loop-row.invariant.1
    (counts-lost _ _ c.in_err-add_line.field-0.0 c.from_residual-in_err-add_line.result c.in_err-add_line.ensures.cause c.from_residual-in_err-add_line.ensures.0)
