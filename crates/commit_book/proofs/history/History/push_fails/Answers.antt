use Rattle.std.proofs.Common.{◌≡◌, ◌∙◌, ◌+◌, ◌<◌, ◌∷◌, ◌++◌, [], ℕ, Bool, false, cond, List, take, length, length-append, get_or, add-one, refl, sym, ap, arith}
use Rattle.plain_list.specs.declared.ops.Op.{Op}
use Rattle.plain_list.specs.declared.ops.Op.TheVariants.{Put}
use Rattle.plain_list.specs.declared.entries.Entry.{Entry}
use Rattle.plain_list.specs.declared.entries.Entry.TheVariants.{Fail}
use Rattle.plain_list.specs.declared.entries.Lost.TheVariants as lost
use Rattle.commit_book.specs.BatchSteps.{flagged_fails}
use Rattle.commit_book.specs.Events.{Events, with_entries}
use Rattle.commit_book.proofs.BatchLemmas.{flagged_fails-take, first_fails-few}
use Rattle.commit_book.proofs.EventLemmas.{with-more}
use Rattle.commit_book.proofs.history.History.push_fails.Goals as goal

pub push_if-requires-clause-room : goal.push_if-requires-clause-room
push_if-requires-clause-room c =
    omega (arith, ap (λ (v : Events). v.room) c.loop-i.invariant, c.requires.room, first_fails-few c.args.cell c.args.session c.args.row c.loop-i.i c.args.changes.now c.args.ops.now)

pub push_if-requires-clause-few : goal.push_if-requires-clause-few
push_if-requires-clause-few c =
    let i : ℕ = c.loop-i.i in
    let first : List Entry = flagged_fails c.args.cell c.args.session c.args.row (take i c.args.changes.now) (take i c.args.ops.now) in
    omega (arith, ap (λ (v : Events). length v.entries) c.loop-i.invariant, length-append c.args.self.now.entries first, c.requires.few, first_fails-few c.args.cell c.args.session c.args.row i c.args.changes.now c.args.ops.now)

pub loop-i-preserved : goal.loop-i-preserved
loop-i-preserved c =
    let i : ℕ = c.loop-i.i in
    let cell : ℕ = c.args.cell in
    let session : ℕ = c.args.session in
    let row : ℕ = c.args.row in
    let changes : List Bool = c.args.changes.now in
    let ops : List Op = c.args.ops.now in
    let before : Events = c.args.self.now in
    let within : i < length ops = omega arith in
    let below : i < length changes = omega (arith, c.requires.lengths) in
    let none : Op = Put 0 (record { x = 0; y = 0 }) 0 in
    let last : List Entry = cond (get_or changes i false) (Fail cell (lost.Call session (row + i) (get_or ops i none)) ∷ []) [] in
    let first : List Entry = flagged_fails cell session row (take i changes) (take i ops) in
    let more : flagged_fails cell session row (take (i + 1) changes) (take (i + 1) ops) ≡ first ++ last = rw add-one (flagged_fails-take cell session row i (row + i) changes ops false none below within refl) in
    c.push_if.ensures ∙ ap (with_entries last) c.loop-i.invariant ∙ with-more first last before ∙ ap (λ (l : List Entry). with_entries l before) (sym more)
