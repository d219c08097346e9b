use Rattle.std.proofs.Common.{arith}
use Rattle.std.proofs.lemmas.Fmt.{length-decimal-le}
use Rattle.csv_rows.proofs.pieces.add_pair.Goals as goal

pub write_digits-start-requires : goal.write_digits-start-requires
write_digits-start-requires c =
    let behind = c.write_marked-behind.ensures in
    (omega (arith, behind.start, length-decimal-le 20 c.args.first (omega arith) (omega arith) (omega arith)), omega (arith, behind.within, behind.length))
