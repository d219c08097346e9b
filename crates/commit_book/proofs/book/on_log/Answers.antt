use Rattle.std.proofs.Common.{◌≡◌, ◌≤◌, false, [], Some, None, sym, ap, ◌∙◌, subst, arith}
use Rattle.plain_list.specs.State.{State, ComesBySplits}
use Rattle.kept_log.specs.Journal.{KeepsIn}
use Rattle.kept_log.specs.Kept.{found_state}
use Rattle.commit_book.specs.Events.{Events}
use Rattle.commit_book.proofs.FirstBooks.{inside-first}
use Rattle.commit_book.proofs.FoundStates.{found-begun, found-comes}
use Rattle.commit_book.proofs.book.on_log.Goals as goal

pub invariant_of-result : goal.invariant_of-result
invariant_of-result g c =
    let w = g.I.Index.WIDTH in
    let seen = c.args.opened.seen in
    let drive = g.D.LogDisk.drive in
    let begun : seen.begun ≤ 16777216 = found-begun _ w _ _ seen c.requires.opened.found in
    let same : c.of.result ≡ found_state seen = c.of.ensures ∙ (λ i. record { world = c.requires.world i; leaves = c.requires.leaves i; splits = []; begun = seen.begun }) in
    let kept = c.opened.ensures.keeps w (found_state seen) c.requires.opened.ready c.requires.opened.good in
    inside-first drive w c.of.result _
    (record {
      rests = ap (λ (s : State). s.splits) same;
      begun = omega (arith, begun, ap (λ (s : State). s.begun) same);
      comes = subst (λ (s : State). ComesBySplits w s.leaves) (sym same) (found-comes _ w _ _ seen c.requires.opened.found);
    })
    (ap (λ (v : Events). v.entries) c.empty.ensures) (sym (ap (λ (s : State). s.world) c.of.ensures)) (sym (ap (λ (s : State). s.leaves) c.of.ensures))
    (c.after.ensures ∙ (λ i. record { splits = []; begun = sym (ap (λ (s : State). s.begun) same) i; room = 0 }))
    (subst (λ (s : State). KeepsIn drive w s [] c.opened.result) (sym same) kept)

pub returns : goal.returns
returns g c =
    let log = c.args.opened.log in
    let start = c.args.opened.start.value in
    let same : c.of.result ≡ found_state c.args.opened.seen =
    c.of.ensures ∙ (λ i. record { world = c.requires.world i; leaves = c.requires.leaves i; splits = []; begun = c.args.opened.seen.begun }) in
    let journal = c.opened.ensures.value ∙ (λ i. Some (record { disk = log.disk; cells = log.cells; failed = c.requires.opened.good i; start = start; first = log.cells; waiting = []; at_sync = false; moves = false; earlier = None })) in
    λ i. record {
      leaves = c.args.table.leaves;
      opening = same i;
      entries = (c.empty.ensures i).entries;
      bucket = c.args.table.size;
      log = journal i;
      kept = (c.empty.ensures i).kept;
    }
