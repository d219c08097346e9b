use Rattle.std.proofs.Common.{arith}
use Rattle.std.proofs.lemmas.Fmt.{length-decimal-le}
use Rattle.csv_rows.proofs.PiecesFacts.{from-there, stamped-written}
use Rattle.csv_rows.proofs.pieces.add_stamped.Goals as goal

pub write_digits-start-requires : goal.write_digits-start-requires
write_digits-start-requires c =
    let moment = c.write_marked-moment.ensures in
    let y = c.write_marked-y.ensures in
    let short = length-decimal-le 20 c.from-2.result (omega arith) (omega (arith, c.from-2.ensures)) (omega (arith, c.from-2.ensures)) in
    (omega (arith, moment.start, y.start, short), omega (arith, moment.within, moment.length, y.within, y.length))

pub returns-clause-bytes : goal.returns-clause-bytes
returns-clause-bytes c =
    let start = c.write_digits-start in
    rw (c.push_bytes.ensures.bytes, from-there start.new.buf 62 start.result (omega arith), start.ensures.written, c.write_marked-y.ensures.text, c.write_marked-moment.ensures.text, c.from.ensures, c.from-2.ensures)
    (stamped-written _ _ _ _ _)
