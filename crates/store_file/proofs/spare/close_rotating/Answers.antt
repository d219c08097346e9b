use Rattle.std.proofs.Common.{◌∙◌, true, false, sym, subst}
use Rattle.store_file.specs.Waiting.{EndsUnsynced}
use Rattle.store_file.proofs.RotatingFacts.{moves-now, moves-then}
use Rattle.store_file.proofs.WaitingFacts.{closes-unsynced, done, moved-synced}
use Rattle.store_file.proofs.spare.close_rotating.Goals as goal

pub returns-in-Ok-clause-closes : goal.returns-in-Ok-clause-closes
returns-in-Ok-clause-closes g c none =
    let drive = g.D.LogDisk.drive in
    let w = g.I.Index.WIDTH in
    let old = c.close_with_spare-book.result.0 in
    let new = c.sync.new.self in
    let books = c.sync.ensures.book in
    let moves = sym (moves-now drive old c.args.pass c.close_with_spare-book.ensures.value.1) ∙ moves-then drive (λ start waits. g.O.Start.is start waits false) old.log c.close_with_spare-book.ensures.start in
    (moved-synced drive w c.args.pass old new books c.close_with_spare-book.ensures.value c.close_with_spare-book.ensures.own moves c.disk_of.result c.disk_of.ensures c.in-Ok.field-0 c.in-Ok.ensures.ok
    (done drive w c.args.pass old new books c.close_with_spare-book.ensures.value c.close_with_spare-book.ensures.own moves c.in-Ok.field-0 c.in-Ok.ensures.refused)).0

pub returns-in-Err-clause-lost : goal.returns-in-Err-clause-lost
returns-in-Err-clause-lost g c =
    let drive = g.D.LogDisk.drive in
    let w = g.I.Index.WIDTH in
    let old = c.close_with_spare-book.result.0 in
    let moves = sym (moves-now drive old c.args.pass c.close_with_spare-book.ensures.value.1) ∙ moves-then drive (λ start waits. g.O.Start.is start waits false) old.log c.close_with_spare-book.ensures.start in
    subst (EndsUnsynced drive w true c.args.pass c.disk_of-in-Err.result) (sym c.sync_cause.ensures)
    (closes-unsynced drive w c.args.pass old c.sync.new.self c.sync.ensures.book c.close_with_spare-book.ensures.value c.close_with_spare-book.ensures.own moves
    c.disk_of-in-Err.result c.disk_of-in-Err.ensures c.in-Err.fault c.in-Err.ensures.refused c.in-Err.ensures.err)
