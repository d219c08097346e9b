use Rattle.std.proofs.Common.{◌∙◌, ap, subst}
use Rattle.book_lock.specs.Pass.{Known}
use Rattle.sessions.specs.Calls.{Called}
use Rattle.sessions.proofs.CallLemmas.{called-same}
use Rattle.sessions.proofs.store.Store.call_at.Goals as goal

pub returns : goal.returns
returns g c =
    let new = c.answer-answer.new.pass in
    let called : Called g.I.Index.WIDTH c.args.session c.args.row c.args.op.now c.args.pass.now new c.answer-answer.result =
    subst (λ (pass : Known). Called g.I.Index.WIDTH c.args.session c.args.row c.args.op.now pass new c.answer-answer.result) c.will_read.ensures c.answer-answer.ensures.called in
    record {
      called = called;
      opened = c.answer-answer.ensures.opened;
      refused = c.answer-answer.ensures.refused;
      pass = called-same g.I.Index.WIDTH c.args.session c.args.row c.args.op.now c.args.pass.now new c.answer-answer.result called;
      stood = c.answer-answer.ensures.stood;
    }

pub reach-requires : goal.reach-requires
reach-requires g c = record {
  free = ap (λ (k : Known). k.holds)
      (called-same g.I.Index.WIDTH c.args.session c.args.row c.args.op.now c.will_read.new.self c.answer-answer.new.pass c.answer-answer.result c.answer-answer.ensures.called).1
      ∙ (ap (λ (k : Known). k.holds) c.will_read.ensures ∙ c.requires.off);
}
