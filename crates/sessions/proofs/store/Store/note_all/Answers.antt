use Rattle.std.proofs.Common.{◌≡◌, ◌<◌, ◌≤◌, ◌++◌, ◌∷◌, List, length, take, ap, sym, ◌∙◌, subst, arith}
use Rattle.plain_list.specs.declared.entries.Entry.{Entry}
use Rattle.book_lock.specs.Pass.{Known}
use Rattle.sessions.proofs.BatchLemmas.{next-new, noted-more}
use Rattle.sessions.proofs.store.Store.note_all.Goals as goal

pub note_next-requires-clause-entry : goal.note_next-requires-clause-entry
note_next-requires-clause-entry g c =
    let (es, is, all) = c.requires.entries in
    let seen = c.args.pass.now.seen in
    let at = c.loop-at.at in
    let long = ap length is in
    let from : length seen ≤ at = omega (arith, c.loop-at.auto.at, c.requires.first) in
    let below : at < length (seen ++ es) = omega (arith, c.loop-at-test.true, c.events-end.ensures) in
    let t = next-new seen es at all from below in
    let split : c.args.book.now.entries ≡ take at c.args.book.now.entries ++ t.0 ∷ t.1 = subst (λ (l : List Entry). l ≡ take at l ++ t.0 ∷ t.1) (sym is) t.2 in
    (t.0, t.1, split ∙ ap (λ (k : Known). k.seen ++ t.0 ∷ t.1) (sym c.loop-at.invariant), (λ n ends. absurd (t.3 n ends)))

pub loop-at-preserved : goal.loop-at-preserved
loop-at-preserved g c =
    let at = c.loop-at.at in
    let from : c.args.first ≤ at = omega (arith, c.loop-at.auto.at) in
    let below : at ≤ length c.args.book.now.entries = omega (arith, c.loop-at-test.true, c.events-end.ensures) in
    noted-more c.args.pass.now c.loop-at.pass c.note_next.new.pass c.args.book.now.entries c.args.first at from below c.loop-at.invariant c.note_next.ensures
