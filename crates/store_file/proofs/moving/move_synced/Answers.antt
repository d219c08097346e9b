use Rattle.store_file.proofs.Results.{err-with, ok-with}
use Rattle.store_file.proofs.MovingFacts.{has-content, replaces-over, taken-not, unbegun-not}
use Rattle.store_file.proofs.moving.move_synced.Goals as goal

pub returns-in-Ok-begin_with-clause-moved : goal.returns-in-Ok-begin_with-clause-moved
returns-in-Ok-begin_with-clause-moved g c =
    let w = g.I.Index.WIDTH in
    let b = c.args.book.now in
    let opened = c.in-Ok-begin_with.opened in
    let by = c.in-Ok-begin_with.ensures in
    let content = has-content w b opened.seen c.in-Ok.content.world c.in-Ok.content.leaves by.seen.0 by.seen.1 c.in-Ok.ensures.world c.in-Ok.ensures.leaves in
    ok-with _ _ (replaces-over g.D.LogDisk.drive w b c.take_over.new.book c.args.spare opened.seen opened.start.value opened.log c.requires.room by.begun content) c.take_over.result c.take_over.ensures.taken

pub returns-in-Ok-begin_with-clause-not : goal.returns-in-Ok-begin_with-clause-not
returns-in-Ok-begin_with-clause-not g c =
    let w = g.I.Index.WIDTH in
    let b = c.args.book.now in
    let opened = c.in-Ok-begin_with.opened in
    let by = c.in-Ok-begin_with.ensures in
    let content = has-content w b opened.seen c.in-Ok.content.world c.in-Ok.content.leaves by.seen.0 by.seen.1 c.in-Ok.ensures.world c.in-Ok.ensures.leaves in
    err-with _ _ (taken-not g.D.LogDisk.drive w b c.take_over.new.book c.args.spare opened.seen opened.start.value opened.log c.requires.room by.begun content) c.take_over.result c.take_over.ensures.not

pub returns-in-Err-clause-not : goal.returns-in-Err-clause-not
returns-in-Err-clause-not g c =
    let w = g.I.Index.WIDTH in
    let b = c.args.book.now in
    let e = c.in-Err.field-0 in
    unbegun-not g.D.LogDisk.drive w b c.args.spare c.requires.room c.requires.may c.not_begun.new.book c.in-Ok.content.world c.in-Ok.content.leaves c.in-Ok.ensures.world c.in-Ok.ensures.leaves e.disk e.cause c.not_begun.result
    c.in-Err.ensures.refused c.not_begun.ensures
