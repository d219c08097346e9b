use Rattle.std.proofs.Common.{◌≡◌, rules}
use Rattle.std.specs.List.{insert, remove}
use Rattle.bucket_versions.specs.Rows.{row_place}
use Rattle.bucket_versions.proofs.RowSets.{put_turns, gone_turns}
use Rattle.bucket_versions.proofs.own_rows.turn_within.Goals as goal

pub returns-in-Ok-clause-rows : goal.returns-in-Ok-clause-rows
returns-in-Ok-clause-rows c =
    let at : c.in-Ok.place ≡ row_place c.args.row c.args.rows.now.items = search rules in
    let now : c.take_within.new.rows.items ≡ remove c.args.rows.now.items c.in-Ok.place = search rules in
    (gone_turns c.args.rows.now.items c.take_within.new.rows.items c.args.row c.in-Ok.place c.requires.in_order (search rules) at now).0

pub returns-in-Ok-clause-in_order : goal.returns-in-Ok-clause-in_order
returns-in-Ok-clause-in_order c =
    let at : c.in-Ok.place ≡ row_place c.args.row c.args.rows.now.items = search rules in
    let now : c.take_within.new.rows.items ≡ remove c.args.rows.now.items c.in-Ok.place = search rules in
    (gone_turns c.args.rows.now.items c.take_within.new.rows.items c.args.row c.in-Ok.place c.requires.in_order (search rules) at now).1

pub returns-in-Err-clause-rows : goal.returns-in-Err-clause-rows
returns-in-Err-clause-rows c =
    let at : c.in-Err.place ≡ row_place c.args.row c.args.rows.now.items = search rules in
    let now : c.put_within.new.rows.items ≡ insert c.args.rows.now.items c.in-Err.place c.args.row = search rules in
    (put_turns c.args.rows.now.items c.put_within.new.rows.items c.args.row c.in-Err.place c.requires.in_order (search rules) at now).0

pub returns-in-Err-clause-in_order : goal.returns-in-Err-clause-in_order
returns-in-Err-clause-in_order c =
    let at : c.in-Err.place ≡ row_place c.args.row c.args.rows.now.items = search rules in
    let now : c.put_within.new.rows.items ≡ insert c.args.rows.now.items c.in-Err.place c.args.row = search rules in
    (put_turns c.args.rows.now.items c.put_within.new.rows.items c.args.row c.in-Err.place c.requires.in_order (search rules) at now).1
