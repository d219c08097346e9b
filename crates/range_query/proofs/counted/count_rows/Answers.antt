use Rattle.std.proofs.Common.{◌≡◌, ◌+◌, ◌^◌, ◌<◌, length, sym, ap, subst, arith}
use Rattle.table_share.specs.KeysUnder.{AreKeysUnder}
use Rattle.range_query.specs.Cut.{number_in}
use Rattle.range_query.proofs.Reaches.{area-box}
use Rattle.range_query.proofs.Rests.{number_in-rest}
use Rattle.range_query.proofs.counted.count_rows.Goals as goal

pub rest_of-requires : goal.rest_of-requires
rest_of-requires g c = area-box c.args.name.now c.args.area.now c.requires.area

pub returns-in-Some-clause-number : goal.returns-in-Some-clause-number
returns-in-Some-clause-number g c under fits =
    let name = c.args.name.now in
    let rows = c.args.bucket.now.rows in
    let rest = c.in-Some.rest in
    let both : number_in rest rows + number_in c.args.region.now rows ≡ length rows = number_in-rest c.args.area.now c.args.region.now rest name c.requires.area c.in-Some.ensures rows under in
    let same : number_in rest c.rows-rows.result ≡ number_in rest rows = ap (number_in rest) c.rows-rows.ensures.rows in
    let outside = c.count_part-outside.ensures (subst (AreKeysUnder name) (sym c.rows-rows.ensures.rows) under) in
    let few : number_in rest c.rows-rows.result < 2 ^ 64 = omega (arith, both, same, c.count.ensures.count, c.count.type_inv) in
    omega (arith, c.saturating_sub.ensures, outside few, same, both, c.count.ensures.count)
