use Rattle.std.proofs.Common.{◌≡◌, ◌∙◌, true, false, Some, sym, subst, ap}
use Rattle.commit_book.specs.BookView.{BookView}
use Rattle.sessions.specs.Shared.{StartsAs, origin_of}
use Rattle.store_file.specs.Opened.{first_pass}
use Rattle.store_file.proofs.Results.{err-with, ok-with}
use Rattle.store_file.proofs.WaitingFacts.{at-disk, waiting-of, waits-start}
use Rattle.store_file.proofs.waiting.waiting_store.Goals as goal

pub shared-requires-clause-start : goal.shared-requires-clause-start
shared-requires-clause-start g c =
    subst (λ (b : BookView _). StartsAs g.D.LogDisk.drive ⊥ (λ start waits moves. moves ≡ false) b.log) (sym c.in-Ok.ensures.book)
    (waits-start g.D.LogDisk.drive c.args.book.log c.requires.logged c.requires.fixed)

pub returns-in-Ok-clause-store : goal.returns-in-Ok-clause-store
returns-in-Ok-clause-store g c =
    let drive = g.D.LogDisk.drive in
    ok-with _ _
    (λ r is. is ∙ ap (λ (b : BookView _). first_pass r.0 (origin_of drive b)) c.in-Ok.ensures.book ∙ ap (first_pass r.0) (waiting-of drive c.args.book))
    c.shared.result c.shared.ensures.store

pub returns-in-Ok-clause-back : goal.returns-in-Ok-clause-back
returns-in-Ok-clause-back g c =
    err-with _ _ (λ disk back. at-disk g.D.LogDisk.drive true c.args.book c.in-Ok.book c.in-Ok.ensures.book (Some disk) back) c.shared.result c.shared.ensures.back
