use Rattle.std.proofs.Common.{Bool, sym, ap, subst, ◌∙◌}
use Rattle.sessions.specs.Steps.{MayGive, has_given}
use Rattle.sessions.proofs.store.Store.give.Goals as goal

pub put_back-requires-clause-entries : goal.put_back-requires-clause-entries
put_back-requires-clause-entries g c = subst (λ (b : Bool). MayGive c.args.pass.now b c.args.book.entries) (sym c.has_entry-grown.ensures) c.requires.entries

pub returns : goal.returns
returns g c = c.put_back.ensures ∙ ap (λ (b : Bool). has_given c.args.pass.now b c.args.book.entries) c.has_entry-grown.ensures
