use Rattle.std.proofs.Common.{refl}
use Rattle.store_file.specs.Rotated.{AreAnew}
use Rattle.store_file.proofs.Results.{ok-with, err-with}
use Rattle.store_file.proofs.RotateFacts.{comes-back, content-anew, is-rotated, not-rotated, goes-on, goes-not, is-ended, starts-over}
use Rattle.store_file.proofs.rotating.rotate_anew.Goals as goal

pub rotate_anew-requires-clause-content : goal.rotate_anew-requires-clause-content
rotate_anew-requires-clause-content g c =
    let drive = g.D.LogDisk.drive in
    let w = g.I.Index.WIDTH in
    let opened = c.in-Ok.field-0.opened in
    let leaves = g.I.Index.leaves c.in-Ok.field-0.index in
    let b = c.book_of.result in
    let closed = is-ended drive w b c.args.pass c.begin_anew.new.pass c.begin_anew.ensures.same c.book_of.ensures in
    content-anew drive w b c.args.pass closed c.args.spare opened.start.value opened.seen opened.log leaves c.in-Ok.ensures.begun

pub finish-requires-clause-starts : goal.finish-requires-clause-starts
finish-requires-clause-starts g c = starts-over g.D.LogDisk.drive _ _ c.rotate_anew.ensures.rotated (refl, refl)

pub returns-in-Ok-clause-rotated : goal.returns-in-Ok-clause-rotated
returns-in-Ok-clause-rotated g c =
    let drive = g.D.LogDisk.drive in
    let w = g.I.Index.WIDTH in
    let opened = c.in-Ok.field-0.opened in
    let leaves = g.I.Index.leaves c.in-Ok.field-0.index in
    let begun = c.in-Ok.ensures.begun in
    let b = c.book_of.result in
    let by = c.rotate_anew.ensures in
    let closed = is-ended drive w b c.args.pass c.begin_anew.new.pass c.begin_anew.ensures.same c.book_of.ensures in
    let content = content-anew drive w b c.args.pass closed c.args.spare opened.start.value opened.seen opened.log leaves begun in
    ok-with _ _
    (λ r on. is-rotated drive w b c.args.pass closed c.args.spare opened.start.value opened.seen opened.log (AreAnew w c.args.pass.origin c.args.pass.seen) begun.begins r.store r.pass r.spare
    (goes-on drive b c.rotate_anew.result.book leaves opened.seen opened.log opened.start.value by.rotated begun.begins.begins.opened.counts content.world closed.has _ by.log r.store r.pass r.spare on))
    c.finish.result c.finish.ensures.finished

pub returns-in-Ok-clause-refused : goal.returns-in-Ok-clause-refused
returns-in-Ok-clause-refused g c =
    let drive = g.D.LogDisk.drive in
    let w = g.I.Index.WIDTH in
    let opened = c.in-Ok.field-0.opened in
    let leaves = g.I.Index.leaves c.in-Ok.field-0.index in
    let begun = c.in-Ok.ensures.begun in
    let b = c.book_of.result in
    let by = c.rotate_anew.ensures in
    let closed = is-ended drive w b c.args.pass c.begin_anew.new.pass c.begin_anew.ensures.same c.book_of.ensures in
    let content = content-anew drive w b c.args.pass closed c.args.spare opened.start.value opened.seen opened.log leaves begun in
    err-with _ _
    (λ e on. not-rotated drive w b c.args.pass closed c.args.spare opened.start.value opened.seen opened.log (AreAnew w c.args.pass.origin c.args.pass.seen) begun.begins e
    (goes-not drive b c.rotate_anew.result.book leaves opened.seen opened.log opened.start.value by.rotated begun.begins.begins.opened.counts content.world closed.has _ by.log e on))
    c.finish.result c.finish.ensures.refused

pub returns-in-Err-clause-refused : goal.returns-in-Err-clause-refused
returns-in-Err-clause-refused g c =
    let e = c.in-Err.field-0 in
    comes-back g.D.LogDisk.drive g.I.Index.WIDTH (AreAnew g.I.Index.WIDTH c.args.pass.origin c.args.pass.seen) c.args.pass c.begin_anew.new.pass c.args.spare e.disk e.cause _ c.begin_anew.ensures.same
    c.in-Err.ensures.refused c.not_rotated.ensures
