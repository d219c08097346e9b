use Rattle.std.proofs.Common.{◌≡◌, ◌+◌, ◌-◌, arith, refl}
use Rattle.std.proofs.lemmas.Fmt.{length-decimal-le}
use Rattle.std.proofs.lemmas.List.{drop-set}
use Rattle.csv_rows.proofs.pieces.write_marked.Goals as goal

pub write_digits-start-requires : goal.write_digits-start-requires
write_digits-start-requires c = (omega (arith, c.requires.room, length-decimal-le 20 c.args.number (omega arith) (omega arith) (omega arith)), c.requires.within)

pub overflow_sub-start : goal.overflow_sub-start
overflow_sub-start c = omega (arith, c.requires.room, c.write_digits-start.ensures.start, length-decimal-le 20 c.args.number (omega arith) (omega arith) (omega arith))

pub returns-clause-text : goal.returns-clause-text
returns-clause-text c =
    let w = c.write_digits-start in
    let long = length-decimal-le 20 c.args.number (omega arith) (omega arith) (omega arith) in
    let e : w.result - 1 + 1 ≡ w.result = omega (arith, c.requires.room, w.ensures.start, long) in
    rw (drop-set w.new.buf (w.result - 1) c.args.mark (omega arith), e, w.ensures.written) refl

pub returns-clause-start : goal.returns-clause-start
returns-clause-start c = omega (arith, c.requires.room, c.write_digits-start.ensures.start, length-decimal-le 20 c.args.number (omega arith) (omega arith) (omega arith))
