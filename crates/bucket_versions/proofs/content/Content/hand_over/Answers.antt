use Rattle.std.proofs.Common.{sym, subst}
use Rattle.bucket_versions.specs.Content.{AreKept}
use Rattle.bucket_versions.proofs.Contents.{base_rising}
use Rattle.bucket_versions.proofs.content.Content.hand_over.Goals as goal

pub returns-clause-in_order : goal.returns-clause-in_order
returns-clause-in_order g c =
    let keeps = c.args.from.keeps_base in
    let ready = c.make_ready.new.self in
    let now = c.hand_over.new.self in
    subst AreKept (sym c.settle.ensures) (record {
      base = base_rising keeps ready.base ready.rows now c.in_ok-make_ready.ensures.ok.0 c.hand_over.ensures.is.1 c.make_ready.ensures.in_order.base c.hand_over.ensures.is.0;
      rows = c.hand_over.ensures.is.0;
    })
