use Rattle.std.proofs.Common.{◌≡◌, ◌∙◌, sym, ap, subst, arith}
use Rattle.std.specs.Prelude.{nat_le}
use Rattle.bucket_versions.specs.declared.row.Row.{Row}
use Rattle.bucket_versions.specs.Rows.{IsRows}
use Rattle.bucket_versions.proofs.RowOrder.{IsRows-filter}
use Rattle.table_share.specs.KeysUnder.{AreKeysUnder}
use Rattle.range_query.specs.Cut.{number_in}
use Rattle.range_query.specs.Masks.{number_masked}
use Rattle.range_query.proofs.Axes.{told-x, told-y, x-first, y-first, number_in-later}
use Rattle.range_query.proofs.Rests.{under-filter}
use Rattle.range_query.proofs.counted.count_part.Goals as goal

pub count_masked-requires-clause-order : goal.count_masked-requires-clause-order
count_masked-requires-clause-order c =
    x-first c.args.part.now c.key-from.result c.key-to.result c.key-from.ensures.sum c.key-from.ensures.back c.key-to.ensures.sum c.key-to.ensures.back c.requires.is_box.x

pub count_masked-requires-clause-rising : goal.count_masked-requires-clause-rising
count_masked-requires-clause-rising c =
    subst IsRows (sym c.skip_to-later.ensures) (IsRows-filter (λ (r : Row). nat_le c.key-from.result r.key) c.args.rows c.requires.rising)

pub count_masked-requires-then-area-part-2-clause-order : goal.count_masked-requires-then-area-part-2-clause-order
count_masked-requires-then-area-part-2-clause-order c =
    y-first c.args.part.now c.key-from.result c.key-to.result c.key-from.ensures.sum c.key-from.ensures.back c.key-to.ensures.sum c.key-to.ensures.back c.requires.is_box.y

pub count_masked-requires-then-area-part-2-clause-rising : goal.count_masked-requires-then-area-part-2-clause-rising
count_masked-requires-then-area-part-2-clause-rising c =
    subst IsRows (sym c.skip_to-later.ensures) (IsRows-filter (λ (r : Row). nat_le c.key-from.result r.key) c.args.rows c.requires.rising)

pub returns-then-area-part : goal.returns-then-area-part
returns-then-area-part c under fits =
    let name = c.args.name.now in
    let part = c.args.part.now in
    let from = c.key-from in
    let to = c.key-to in
    let later : number_in part c.skip_to-later.result ≡ number_in part c.args.rows =
    ap (number_in part) c.skip_to-later.ensures ∙ number_in-later part from.result to.result from.ensures.sum from.ensures.back to.ensures.sum to.ensures.back c.args.rows name under in
    let below : AreKeysUnder name c.skip_to-later.result = subst (AreKeysUnder name) (sym c.skip_to-later.ensures) (under-filter (λ (r : Row). nat_le c.key-from.result r.key) name c.args.rows under) in
    let same : number_masked 0xAAAAAAAAAAAAAAAA c.key-from.result c.key-to.result c.skip_to-later.result ≡ number_in part c.args.rows =
    told-x part from.result to.result from.ensures.sum from.ensures.back to.ensures.sum to.ensures.back c.args.area.now name c.requires.area (omega (arith, c.if-part-area.true)) (omega (arith, c.if-area-part.true)) c.skip_to-later.result below
    ∙ later in
    c.count_masked.ensures (omega (arith, same, fits)) ∙ same

pub returns-then-area-part-2 : goal.returns-then-area-part-2
returns-then-area-part-2 c under fits =
    let name = c.args.name.now in
    let part = c.args.part.now in
    let from = c.key-from in
    let to = c.key-to in
    let later : number_in part c.skip_to-later.result ≡ number_in part c.args.rows =
    ap (number_in part) c.skip_to-later.ensures ∙ number_in-later part from.result to.result from.ensures.sum from.ensures.back to.ensures.sum to.ensures.back c.args.rows name under in
    let below : AreKeysUnder name c.skip_to-later.result = subst (AreKeysUnder name) (sym c.skip_to-later.ensures) (under-filter (λ (r : Row). nat_le c.key-from.result r.key) name c.args.rows under) in
    let same : number_masked 0x5555555555555555 c.key-from.result c.key-to.result c.skip_to-later.result ≡ number_in part c.args.rows =
    told-y part from.result to.result from.ensures.sum from.ensures.back to.ensures.sum to.ensures.back c.args.area.now name c.requires.area (omega (arith, c.if-part-area-2.true)) (omega (arith, c.if-area-part-2.true)) c.skip_to-later.result below
    ∙ later in
    c.count_masked-then-area-part-2.ensures (omega (arith, same, fits)) ∙ same

pub returns-else-part-area-2 : goal.returns-else-part-area-2
returns-else-part-area-2 c under fits =
    let part = c.args.part.now in
    let from = c.key-from in
    let to = c.key-to in
    let later : number_in part c.skip_to-later.result ≡ number_in part c.args.rows =
    ap (number_in part) c.skip_to-later.ensures ∙ number_in-later part from.result to.result from.ensures.sum from.ensures.back to.ensures.sum to.ensures.back c.args.rows c.args.name.now under in
    c.count_within.ensures (omega (arith, later, fits)) ∙ later
