use Rattle.std.specs.Arc.{arc_value}
use Rattle.std.proofs.Common.{inl, sym, subst, Bool, List}
use Rattle.book_lock.specs.Pass.{Known}
use Rattle.sessions.specs.Splits.{HasBegun, SamePass, SplitEnds}
use Rattle.sessions.specs.declared.faults.Split.TheVariants.{NotSplit}
use Rattle.sessions.proofs.SplitLemmas.{begun-ends, split-same}
use Rattle.sessions.proofs.store.Store.split_at.Goals as goal

pub returns-in-Err-clause-ends : goal.returns-in-Err-clause-ends
returns-in-Err-clause-ends g c = subst (λ (k : Known). SplitEnds g.I.Index.WIDTH c.args.name.now k c.begin.new.pass (NotSplit c.in-Err.fault)) c.will_read.ensures (inl c.in-Err.ensures.step)

pub returns-in-Err-clause-pass : goal.returns-in-Err-clause-pass
returns-in-Err-clause-pass g c =
    subst (λ (k : Known). SamePass k c.begin.new.pass) c.will_read.ensures
    (split-same g.I.Index.WIDTH c.args.name.now c.will_read.new.self c.begin.new.pass (NotSplit c.in-Err.fault) (inl c.in-Err.ensures.step))

pub returns-clause-ends : goal.returns-clause-ends
returns-clause-ends g c =
    subst (λ (k : Known). SplitEnds g.I.Index.WIDTH c.args.name.now k c.carry_out.new.pass c.carry_out.result) c.will_read.ensures
    (begun-ends g.I.Index.WIDTH c.in-Ok.ticket.number c.args.name.now c.will_read.new.self c.begin.new.pass c.carry_out.new.pass c.carry_out.result c.in-Ok.ensures.step c.carry_out.ensures)

pub returns-clause-pass : goal.returns-clause-pass
returns-clause-pass g c =
    let new = c.carry_out.new.pass in
    let split = c.carry_out.result in
    subst (λ (k : Known). SamePass k new) c.will_read.ensures
    (split-same g.I.Index.WIDTH c.args.name.now c.will_read.new.self new split
    (begun-ends g.I.Index.WIDTH c.in-Ok.ticket.number c.args.name.now c.will_read.new.self c.begin.new.pass new split c.in-Ok.ensures.step c.carry_out.ensures))

pub carry_out-requires-clause-ticket : goal.carry_out-requires-clause-ticket
carry_out-requires-clause-ticket g c = c.in-Ok.ensures.ticket

pub carry_out-requires-clause-begun : goal.carry_out-requires-clause-begun
carry_out-requires-clause-begun g c = subst (λ (name : List Bool). HasBegun c.begin.new.pass c.in-Ok.ticket.number name (arc_value c.in-Ok.ticket.bucket).base) (sym c.in-Ok.ensures.name) c.in-Ok.ensures.begun
