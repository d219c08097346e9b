use Rattle.std.proofs.Common.{◌≡◌, ◌∷◌, ap, subst, arith}
use Rattle.bucket_versions.specs.Rows.{IsRows}
use Rattle.range_query.specs.Masks.{number_masked}
use Rattle.range_query.proofs.Rests.{none-later}
use Rattle.range_query.proofs.counted.count_masked.Goals as goal

pub returns-then-to-row : goal.returns-then-to-row
returns-then-to-row c fits =
    let r = c.in-Some.row.now in
    let rising : IsRows (r ∷ c.next.new.self) = subst IsRows c.in-Some.ensures.steps c.loop-row.invariant.0 in
    let left : number_masked c.args.mask c.args.from c.args.to c.loop-row.row-iterator ≡ number_masked c.args.mask c.args.from c.args.to (r ∷ c.next.new.self) =
    ap (number_masked c.args.mask c.args.from c.args.to) c.in-Some.ensures.steps in
    omega (arith, c.loop-row.invariant.1 fits, left, none-later c.args.mask c.args.from c.args.to r c.next.new.self c.if-to-row.true rising)
