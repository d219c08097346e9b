use Rattle.std.proofs.Common.{rules, ◌∙◌, false, refl, ap}
use Rattle.commit_book.specs.BookView.{BookView, first_log}
use Rattle.store_file.proofs.StoreFacts.{found-origin}
use Rattle.store_file.proofs.WaitingFacts.{begins-at}
use Rattle.store_file.proofs.opening.store_of.Goals as goal

pub returns-in-Ok-shared-clause-begins : goal.returns-in-Ok-shared-clause-begins
returns-in-Ok-shared-clause-begins g c =
    let drive = g.D.LogDisk.drive in
    let opened = c.args.opened in
    let b = c.without_list.result in
    let was = c.without_list.ensures in
    let by = c.in-Ok.ensures in
    let origin = found-origin drive false c.args.bucket opened.seen b (first_log opened.log opened.start.value)
    (ap (λ (v : BookView _). v.opening) was ∙ by.opening.0) (ap (λ (v : BookView _). v.kept) was) (ap (λ (v : BookView _). v.bucket) was ∙ by.opening.2) (ap (λ (v : BookView _). v.log) was ∙ by.log)
    c.requires.opened.counts refl refl in
    begins-at drive c.args.bucket opened.seen opened.start.value b c.in-Ok-written_at.book origin c.as_slice-members.ensures.world c.in-Ok-shared.store c.in-Ok-shared.pass _ _ _
    c.in-Ok-shared.ensures.store (search rules) (search rules) (search rules) c.args.at_sync c.in-Ok-written_at.ensures.book
