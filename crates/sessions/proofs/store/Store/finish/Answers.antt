use Rattle.std.proofs.Common.{ℕ, Err, inl, inr, sym, subst}
use Rattle.commit_book.specs.declared.faults.BookFault.{BookFault}
use Rattle.commit_book.specs.declared.faults.BookFault.TheVariants as book
use Rattle.sessions.specs.Splits.{HasBegun, InstallsSplit, GivesUp, IsNotSplit, NotInstalled}
use Rattle.sessions.proofs.SplitLemmas.{begun-still, given-up}
use Rattle.sessions.proofs.store.Store.finish.Goals as goal

pub give_up-requires-clause-begun : goal.give_up-requires-clause-begun
give_up-requires-clause-begun g c =
    let w = g.I.Index.WIDTH in
    let p = c.args.prepared.now in
    let old = c.args.pass.now in
    let seen = c.install.new.pass in
    let step : InstallsSplit w p.number old seen (Err book.Memory) = subst (λ (f : BookFault). InstallsSplit w p.number old seen (Err f)) c.in-Err-Memory.field-0-is c.in-Err-Memory.ensures in
    (p.name, p.base, subst (λ (n : ℕ). HasBegun seen n p.name p.base) (sym c.number-number.ensures) (begun-still w p.number p.name p.base old seen c.requires.begun step))

pub returns-in-Ok : goal.returns-in-Ok
returns-in-Ok g c = (c.number-number.ensures, c.in-Ok.ensures)

pub returns-in-Err-Memory : goal.returns-in-Err-Memory
returns-in-Err-Memory g c =
    let w = g.I.Index.WIDTH in
    let p = c.args.prepared.now in
    let old = c.args.pass.now in
    let seen = c.install.new.pass in
    let new = c.give_up.new.pass in
    let step : InstallsSplit w p.number old seen (Err book.Memory) = subst (λ (f : BookFault). InstallsSplit w p.number old seen (Err f)) c.in-Err-Memory.field-0-is c.in-Err-Memory.ensures in
    given-up w p.number old seen new c.give_up.result (inr step) (subst (λ (n : ℕ). IsNotSplit (GivesUp w n seen new) c.give_up.result) c.number-number.ensures c.give_up.ensures)

pub returns-in-Err : goal.returns-in-Err
returns-in-Err g c =
    let w = g.I.Index.WIDTH in
    let p = c.args.prepared.now in
    let old = c.args.pass.now in
    let new = c.install.new.pass in
    let not : NotInstalled w p.number old new c.in-Err.fault = inl (c.lasting.ensures.lasting, c.in-Err.ensures) in
    subst (NotInstalled w p.number old new) (sym c.lasting.ensures.fault) not
