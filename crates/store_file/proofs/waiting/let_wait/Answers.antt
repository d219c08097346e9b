use Rattle.std.proofs.Common.{◌≡◌, false}
use Rattle.store_file.proofs.Results.{err-with}
use Rattle.store_file.proofs.StoreFacts.{closes-any, closes-store}
use Rattle.store_file.proofs.WaitingFacts.{starts-fixed}
use Rattle.store_file.proofs.waiting.let_wait.Goals as goal

pub waiting_store-requires-clause-fixed : goal.waiting_store-requires-clause-fixed
waiting_store-requires-clause-fixed g c = starts-fixed g.D.LogDisk.drive c.close-book.result.log c.close-book.ensures.start

pub returns-clause-back : goal.returns-clause-back
returns-clause-back g c =
    let drive = g.D.LogDisk.drive in
    let w = g.I.Index.WIDTH in
    err-with _ _
    (λ disk back. closes-any drive w _ c.args.pass disk
    (closes-store drive w ⊥ (λ start waits moves. (waits ≡ false) × (moves ≡ false)) c.close-book.result c.args.pass disk c.closed-lost.ensures.book c.close-book.ensures.value c.close-book.ensures.own (λ none. none) (λ start waits moves is. is)
    c.close-book.ensures.start back))
    c.waiting_store.result c.waiting_store.ensures.back
