use Rattle.std.proofs.Common.{[], Err, ap, lit≤, refl, sym, ◌∙◌, arith}
use Rattle.recovery.proofs.ReadingLemmas.{has_read-stays}
use Rattle.recovery.proofs.WalkLemmas.{head_is_good}
use Rattle.recovery.proofs.WantedLemmas.{starts_width, for_width, refuses_walk}
use Rattle.recovery.proofs.walk.Walk.along.Goals as goal

pub returns-in-Err-clause-refused : goal.returns-in-Err-clause-refused
returns-in-Err-clause-refused g c =
    let drive = g.D.LogDisk.drive in
    refuses_walk c.args.wanted.width c.args.wanted.most (drive c.args.disk) (drive c.read_first.new.disk) c.in-Err.cause c.in-Err.ensures.fault c.in-Err.ensures.head.0 c.in-Err.ensures.head.1
    (λ e. c.read_first.ensures.reads.failed (c.in-Err.is ∙ ap (λ x. Err x) e))

pub returns-in-Ok-clause-begins : goal.returns-in-Ok-clause-begins
returns-in-Ok-clause-begins g c =
    let drive = g.D.LogDisk.drive in
    let r = c.in-Ok.reading in
    let begun = c.in-Ok.ensures.starts.0 in
    let kept = c.read_first.ensures.reads.stays.bytes in
    let width = starts_width 1 c.args.wanted.width c.args.wanted.most (drive c.args.disk) r (lit≤ tt) begun in
    record {
      fits = begun.fits;
      along = record {
        width = record { known = begun.known; named = λ bytes told. width.named bytes (sym kept ∙ told) };
        comes = record {
          legal = refl;
          few = omega arith;
          wanted = begun.starts.wanted;
          width = refl;
          most_is = begun.starts.most_is;
          room = omega (arith, begun.starts.long);
          read = has_read-stays [] (drive c.args.disk) (drive c.read_first.new.disk) r kept begun.starts.read;
        };
      };
      sound = λ bytes fault known shown head is. head_is_good r.replay.width c.args.wanted.most (drive c.args.disk) _ bytes fault begun.starts known shown head
          (for_width 1 c.args.wanted.most bytes c.args.wanted.width r.replay.width begun.fits (width.named bytes known) fault is);
    }
