use Rattle.book_lock.specs.Pass.{Known}
use Rattle.std.proofs.Common.{◌∙◌, sym, ap, false}
use Rattle.sessions.proofs.store.Store.next.Goals as goal

pub returns-clause-pass : goal.returns-clause-pass
returns-clause-pass g c =
    let take = c.take-book.ensures in
    c.put_back.ensures ∙ (λ i. record (take.pass i) { holds = false }) ∙ (λ i. record c.args.pass.now { seen = take.alone c.requires.all i; holds = sym c.requires.off i })

pub put_back-requires-clause-value : goal.put_back-requires-clause-value
put_back-requires-clause-value g c =
    let take = c.take-book.ensures in
    (take.value.0, take.value.1 ∙ ap (λ (k : Known). k.origin) (sym take.pass))
