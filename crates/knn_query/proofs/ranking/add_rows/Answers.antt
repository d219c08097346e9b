use Rattle.std.proofs.Common.{◌≡◌, ◌++◌, ◌∷◌, ◌∙◌, List, length, sym, ap, subst, refl, arith}
use Rattle.std.specs.Prelude.{nat_lt}
use Rattle.std.proofs.lemmas.List.Sums.{length-filter, count_by-le-length}
use Rattle.bucket_versions.specs.declared.row.Row.{Row}
use Rattle.bucket_versions.specs.Rows.{IsRows}
use Rattle.bucket_versions.proofs.RowOrder.{IsRows-filter}
use Rattle.plain_list.specs.AtPlaces.{AreOf}
use Rattle.table_share.specs.Objects.{placed_of, objects_of}
use Rattle.knn_query.specs.Passes.{Keeps}
use Rattle.knn_query.proofs.Passing.{row_passes}
use Rattle.knn_query.proofs.Pasts.{past, past-passes}
use Rattle.knn_query.proofs.ranking.add_rows.Goals as goal

pub loop-row-preserved : goal.loop-row-preserved
loop-row-preserved g c =
    let (from_is, k_is, is_held, reach, out, keeps, rising) = c.loop-row.invariant in
    let passes = c.in_ok-add_row.ensures.passes in
    let risen : IsRows (c.in-Some.row.now ∷ c.next.new.self) = subst IsRows c.in-Some.ensures.steps rising in (
      passes.from ∙ from_is,
      passes.k_is ∙ k_is,
      passes.is_held,
      c.in_ok-add_row.ensures.reach,
      λ m o. passes.out m (out m o),
      λ places rest are_of before. row_passes c.args.kept.now.from c.args.kept.now.k places rest c.in-Some.row.now c.next.new.self c.loop-row.rows (placed_of c.in-Some.row.now) c.loop-row.kept c.add_row.new.kept
          c.in-Some.ensures.steps refl from_is k_is passes (keeps places rest are_of before),
      risen.1,
    )

pub loop-row-preserved-then-not-branch : goal.loop-row-preserved-then-not-branch
loop-row-preserved-then-not-branch g c =
    let (from_is, k_is, is_held, reach, out, keeps, rising) = c.loop-row.invariant in
    let passes = c.in_ok-add_row.ensures.passes in
    let p = c.args.kept.now.from in
    let k = c.args.kept.now.k in
    let row : Row = c.in-Some.row.now in
    let left : List Row = c.next.new.self in
    let risen : IsRows (row ∷ left) = subst IsRows c.in-Some.ensures.steps rising in
    let beyond = c.in_ok-add_row.ensures.beyond c.if-not-branch.true in
    let passed : c.pass_key.new.self ≡ past row.key left = c.pass_key.ensures in (
      passes.from ∙ from_is,
      passes.k_is ∙ k_is,
      passes.is_held,
      c.in_ok-add_row.ensures.reach,
      λ m o. passes.out m (out m o),
      λ places rest are_of before.
          subst (λ (rs : List Row). AreOf places (objects_of rs) × Keeps p k places (objects_of rs ++ rest) c.add_row.new.kept) (sym passed)
          (past-passes p k places rest c.add_row.new.kept row left (passes.from ∙ from_is) (passes.k_is ∙ k_is) beyond risen.0 risen.1
          (row_passes p k places rest row left c.loop-row.rows (placed_of row) c.loop-row.kept c.add_row.new.kept c.in-Some.ensures.steps refl from_is k_is passes (keeps places rest are_of before))),
      subst IsRows (sym passed) (IsRows-filter (λ (s : Row). nat_lt row.key s.key) left risen.1),
    )

pub loop-row-smaller-then-not-branch : goal.loop-row-smaller-then-not-branch
loop-row-smaller-then-not-branch g c =
    let row : Row = c.in-Some.row.now in
    let left : List Row = c.next.new.self in
    omega (arith, ap length c.pass_key.ensures, length-filter (λ (s : Row). nat_lt row.key s.key) left, count_by-le-length (λ (s : Row). nat_lt row.key s.key) left, ap length c.in-Some.ensures.steps)

pub returns-clause-passes : goal.returns-clause-passes
returns-clause-passes g c =
    let (from_is, k_is, is_held, reach, out, keeps, rising) = c.loop-row.invariant in
    record {
      from = from_is;
      k_is = k_is;
      is_held = is_held;
      out = out;
      keeps = λ places rest are_of before.
          subst (λ (rs : List Row). Keeps c.args.kept.now.from c.args.kept.now.k places (objects_of rs ++ rest) c.loop-row.kept) c.in_default.ensures.steps.0 (keeps places rest are_of before).1;
    }

pub returns-clause-opened : goal.returns-clause-opened
returns-clause-opened g c = c.rows-rows.ensures.steps

pub returns-in_err-add_row-clause-opened : goal.returns-in_err-add_row-clause-opened
returns-in_err-add_row-clause-opened g c = c.rows-rows.ensures.steps
