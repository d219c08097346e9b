use Rattle.std.proofs.Common.{◌≡◌, ◌∙◌, ◌+◌, ◌<◌, ◌∷◌, ◌++◌, [], ℕ, List, take, length, length-append, get_or, add-one, refl, sym, ap, arith}
use Rattle.plain_list.specs.declared.ops.Op.{Op}
use Rattle.plain_list.specs.declared.ops.Op.TheVariants.{Put}
use Rattle.plain_list.specs.declared.entries.Entry.{Entry}
use Rattle.plain_list.specs.declared.entries.Entry.TheVariants.{Call}
use Rattle.plain_list.specs.Batch.{batch_calls}
use Rattle.commit_book.specs.Events.{Events, with_entry, with_entries}
use Rattle.commit_book.proofs.BatchLemmas.{batch_calls-take, first_calls-few}
use Rattle.commit_book.proofs.EventLemmas.{with-one}
use Rattle.commit_book.proofs.history.History.push_calls.Goals as goal

pub push-requires-clause-room : goal.push-requires-clause-room
push-requires-clause-room c =
    omega (arith, ap (λ (v : Events). v.room) c.loop-i.invariant, c.requires.room, first_calls-few c.args.session c.args.row c.loop-i.i c.args.ops.now)

pub push-requires-clause-few : goal.push-requires-clause-few
push-requires-clause-few c =
    let first : List Entry = batch_calls c.args.session c.args.row (take c.loop-i.i c.args.ops.now) in
    omega (arith, ap (λ (v : Events). length v.entries) c.loop-i.invariant, length-append c.args.self.now.entries first, c.requires.few, first_calls-few c.args.session c.args.row c.loop-i.i c.args.ops.now)

pub loop-i-preserved : goal.loop-i-preserved
loop-i-preserved c =
    let i : ℕ = c.loop-i.i in
    let ops : List Op = c.args.ops.now in
    let before : Events = c.args.self.now in
    let within : i < length ops = omega arith in
    let none : Op = Put 0 (record { x = 0; y = 0 }) 0 in
    let call : Entry = Call c.args.session (c.args.row + i) (get_or ops i none) in
    let first : List Entry = batch_calls c.args.session c.args.row (take i ops) in
    let more : batch_calls c.args.session c.args.row (take (i + 1) ops) ≡ first ++ call ∷ [] = rw add-one (batch_calls-take c.args.session c.args.row i (c.args.row + i) ops none within refl) in
    c.push.ensures ∙ ap (with_entry call) c.loop-i.invariant ∙ with-one first call before ∙ ap (λ (l : List Entry). with_entries l before) (sym more)
