use Rattle.std.proofs.Common.{◌≡◌, ◌+◌, ◌-◌, ◌≤◌, Err, refl, sym, ap, subst, ◌∙◌, arith, set}
use Rattle.plain_list.specs.World.{World}
use Rattle.plain_list.specs.Answer.{answer_of}
use Rattle.plain_list.specs.History.{world_after}
use Rattle.commit_book.specs.Answers.{IsQuery}
use Rattle.sessions.specs.Calls.{Called}
use Rattle.sessions.specs.Runs.{freed, unplaced}
use Rattle.sessions.specs.declared.faults.CallFault.{CallFault}
use Rattle.sessions.specs.declared.store.lanes.KeptRow.{KeptRow}
use Rattle.sessions.proofs.RunLemmas.{noting-none, noting-more, noting-stops, noting-refused, next-is, note-ok, note-err, note-pass, query-at}
use Rattle.sessions.proofs.store.Store.note_rows.Goals as goal

pub loop-k-init : goal.loop-k-init
loop-k-init g c = (
  c.requires.out,
  noting-none g.I.Index.WIDTH c.args.i c.args.end c.args.base (world_after c.args.lane.now.pass.origin.world c.args.lane.now.pass.seen) c.args.lane.now c.requires.rows.1
      (omega (arith, c.requires.rows.0, c.requires.rows.2, c.args.lane.now.kept.ok.0)) c.requires.answers refl,
)

pub returns-in-Err-clause-notes : goal.returns-in-Err-clause-notes
returns-in-Err-clause-notes g c =
    let (out, so_far) = c.loop-k.invariant in
    let w = g.I.Index.WIDTH in
    let world = world_after c.args.lane.now.pass.origin.world c.args.lane.now.pass.seen in
    let mid = c.loop-k.lane in
    let r = c.index.result.now in
    let k = c.loop-k.k in
    let from : c.args.i ≤ k = omega (arith, c.loop-k.auto.k) in
    let at_is : c.args.base + (k - c.args.i) + c.args.i ≡ c.args.base + k = omega (arith, from) in
    let query : IsQuery r.1 = query-at c.args.i k c.args.end c.args.lane.now.rows.items mid.rows.items r c.requires.queries from c.loop-k-test.true so_far.rows c.index.ensures in
    let called : Called w mid.session r.0 r.1 (freed mid.pass) (freed mid.pass) (Err c.call_fault.result) =
    subst (λ (f : CallFault). Called w mid.session r.0 r.1 (freed mid.pass) (freed mid.pass) (Err f)) (sym c.call_fault.ensures) (note-err g.D.LogDisk.drive w mid.session r.0 r.1 c.loop-k.book mid.pass query out c.in-Err.fault c.in-Err.ensures.refused) in
    noting-refused w c.args.i k c.args.end c.args.base (c.args.base + (k - c.args.i)) world c.args.lane.now mid _ c.call_fault.result so_far at_is
    (noting-stops w c.args.i k c.args.end c.args.base world c.args.lane.now mid so_far r c.loop-k-test.true c.requires.queries.within c.index.ensures c.call_fault.result called) refl refl refl refl c.truncate.ensures.items
    (omega (arith, c.truncate.ensures.capacity))

pub loop-k-preserved : goal.loop-k-preserved
loop-k-preserved g c =
    let (out, so_far) = c.loop-k.invariant in
    let w = g.I.Index.WIDTH in
    let drive = g.D.LogDisk.drive in
    let world = world_after c.args.lane.now.pass.origin.world c.args.lane.now.pass.seen in
    let mid = c.loop-k.lane in
    let r = c.index.result.now in
    let k = c.loop-k.k in
    let at = c.args.base + (k - c.args.i) in
    let from : c.args.i ≤ k = omega (arith, c.loop-k.auto.k) in
    let at_is : at + c.args.i ≡ c.args.base + k = omega (arith, from) in
    let query : IsQuery r.1 = query-at c.args.i k c.args.end c.args.lane.now.rows.items mid.rows.items r c.requires.queries from c.loop-k-test.true so_far.rows c.index.ensures in
    let noted = note-pass drive w c.loop-k.book c.note.new.self mid.pass c.note-in-Ok.new.pass mid.session r.0 r.1 c.in-Ok.place out c.in-Ok.ensures.ok c.in-Ok.ensures.book query c.note-in-Ok.ensures in
    let called =
    note-ok drive w mid.session r.0 r.1 c.loop-k.book mid.pass query out c.note.new.self (freed c.note-in-Ok.new.pass) c.in-Ok.place (answer_of world r.1) c.in-Ok.ensures.ok c.in-Ok.ensures.refused noted.added
    (ap (λ (list : World). answer_of list r.1) (sym so_far.world_is)) in
    let kept : c.index_mut.result.now ≡ unplaced world r =
    c.index_mut.ensures.value ∙ next-is w c.args.i k c.args.end c.args.base world c.args.lane.now mid so_far r c.loop-k-test.true c.requires.queries.within c.index.ensures at c.index_mut.result.now at_is in (
      noted.out,
      noting-more w c.args.i k c.args.end c.args.base world c.args.lane.now mid so_far r c.loop-k-test.true c.requires.queries.within c.index.ensures _ at c.in-Ok.place at_is refl refl refl noted.lock_is refl (omega arith)
          (ap (λ (x : KeptRow). set mid.kept.items at (record x { place = c.in-Ok.place })) kept) called (noted.world ∙ so_far.world_is),
    )
