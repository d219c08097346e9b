use Rattle.std.proofs.Common.{Some, ap, ◌∙◌, sym, arith}
use Rattle.recovery.proofs.Unites.{has_mark}
use Rattle.recovery.proofs.leaf_map.LeafMap.quarter.Goals as goal

pub unite-requires : goal.unite-requires
unite-requires c =
    let mark = has_mark c.args.self.now c.args.name.now c.split_at-mark.result c.requires.leaf c.split_at-mark.ensures ∙ ap Some (sym c.unwrap_or.ensures) in
    record {
      halved = (
        c.args.self.now,
        record { tile = c.halve.ensures.tile; short = omega (arith, c.requires.short); mark = mark; is = c.in-Err.ensures.err ∙ c.in_ok-halve.ensures.ok },
      );
    }

pub returns-in-Err-clause-err : goal.returns-in-Err-clause-err
returns-in-Err-clause-err c =
    let mark = has_mark c.args.self.now c.args.name.now c.split_at-mark.result c.requires.leaf c.split_at-mark.ensures ∙ ap Some (sym c.unwrap_or.ensures) in
    c.unite.ensures c.args.self.now
    (record { tile = c.halve.ensures.tile; short = omega (arith, c.requires.short); mark = mark; is = c.in-Err.ensures.err ∙ c.in_ok-halve.ensures.ok })
