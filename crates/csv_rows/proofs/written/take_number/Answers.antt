use Rattle.std.proofs.Common.{arith}
use Rattle.csv_rows.proofs.WrittenFacts.{front-written}
use Rattle.csv_rows.proofs.written.take_number.Goals as goal

pub returns-clause-text : goal.returns-clause-text
returns-clause-text c =
    let front = c.front_number-number.ensures in
    front-written c.args.text.now _ _ front.value front.digits (omega arith) (omega (arith, c.if-len-eq0.false)) front.few.0 c.else-text-eq48.either
