use Rattle.std.proofs.Common.{◌≡◌, ◌∙◌, ℕ, suc, ◌+◌, ◌==◌, true, length, Vec, Global, sym, ap, refl, subst, arith, add-one}
use Rattle.std.proofs.lemmas.Bool.Decides.{nat_tests}
use Rattle.book_lock.specs.Pass.{Known}
use Rattle.plain_list.specs.declared.ops.Op.{Op}
use Rattle.lane_history.specs.SessionRows.{session_rows}
use Rattle.play_run.specs.inside.Dealt.{AddsLane}
use Rattle.play_run.proofs.Dealing.{lanes-few, deal-more, deal-none, dealt-same}
use Rattle.play_run.proofs.Parting.{left-all, left-less}
use Rattle.play_run.proofs.lanes.deal.Goals.{then-not-is_empty+in_ok-add_lane, else-not-is_empty}
use Rattle.play_run.proofs.lanes.deal.Goals as goal

pub add_lane-requires-clause-parts : goal.add_lane-requires-clause-parts
add_lane-requires-clause-parts g c =
    let few = lanes-few c.args.store.now c.args.rows.now c.loop-i.i c.loop-i.lanes.items c.loop-i.pass c.loop-i.invariant.0 in
    omega (arith, c.loop-i.invariant.0.whole, few, c.loop-i-test.true)

none-of : (len n : ℕ) → len ≡ n → (len == 0) ≡ true → n ≡ 0
none-of len n same none = grind (arith, nat_tests)

pub loop-i-preserved : goal.loop-i-preserved
loop-i-preserved g c =
    let store = c.args.store.now in
    let rows = c.args.rows.now in
    let i = c.loop-i.i in
    let own = c.replace-rows.result in
    let taken : own.items ≡ session_rows rows (suc i) = ap (λ (v : Vec (ℕ × Op) Global). v.items) (c.replace-rows.ensures.value ∙ c.index_mut.ensures.value) ∙ c.loop-i.invariant.2.each i _ (omega arith) c.loop-i-test.true in
    let less = left-less (λ v. v.items) rows i c.loop-i.own.items c.replace-rows.new.dest c.loop-i.invariant.2 in
    elim c.if-not-is_empty.branch [
      | then-not-is_empty+in_ok-add_lane w ↦ (
        dealt-same store rows (i + 1) (suc i) w.add_lane.new.lanes.items _ w.add_lane.new.pass _ (add-one i) (ap (λ v. v.items) w.lanes-is) w.pass-is
            (deal-more store rows i c.loop-i.lanes.items w.add_lane.new.lanes.items c.loop-i.pass w.add_lane.new.pass own.items own.len taken own.ok.0 (sym c.is_empty.ensures ∙ w.if-not-is_empty.true) c.loop-i.invariant.0
            (subst (λ (k : ℕ). AddsLane k own.items c.loop-i.pass w.add_lane.new.pass c.loop-i.lanes.items w.add_lane.new.lanes.items) (add-one i) w.in_ok-add_lane.ensures.ok)),
        ap (λ (k : Known). k.origin) (w.pass-is ∙ w.in_ok-add_lane.ensures.ok.pass) ∙ c.loop-i.invariant.1,
        less,
      )
      | else-not-is_empty w ↦ (
        dealt-same store rows (i + 1) (suc i) c.loop-i.lanes.items _ c.loop-i.pass _ (add-one i) (ap (λ v. v.items) w.lanes-is) w.pass-is
            (deal-none store rows i c.loop-i.lanes.items c.loop-i.pass own.items taken (none-of own.len (length own.items) own.ok.0 (sym c.is_empty.ensures ∙ w.if-not-is_empty.false)) c.loop-i.invariant.0),
        ap (λ (k : Known). k.origin) w.pass-is ∙ c.loop-i.invariant.1,
        less,
      )
    ]

pub loop-i-init : goal.loop-i-init
loop-i-init g c = (c.requires.none, refl, left-all (λ v. v.items) c.args.rows.now _ c.in_ok-own.ensures)

pub returns-in_err-own-clause-some : goal.returns-in_err-own-clause-some
returns-in_err-own-clause-some g c = (0, omega arith, c.requires.none)

pub returns-in_err-add_lane-clause-some : goal.returns-in_err-add_lane-clause-some
returns-in_err-add_lane-clause-some g c =
    let left = c.in_err-add_lane.ensures.err in
    (c.loop-i.i, omega (arith, c.loop-i-test.true), dealt-same c.args.store.now c.args.rows.now c.loop-i.i c.loop-i.i c.loop-i.lanes.items _ c.loop-i.pass _ refl left.0 left.1 c.loop-i.invariant.0)

pub returns-in_err-add_lane-clause-origin : goal.returns-in_err-add_lane-clause-origin
returns-in_err-add_lane-clause-origin g c = ap (λ (k : Known). k.origin) c.in_err-add_lane.ensures.err.1 ∙ c.loop-i.invariant.1

pub returns-clause-some : goal.returns-clause-some
returns-clause-some g c = (c.loop-i.i, omega (arith, c.loop-i.auto.i-end), c.loop-i.invariant.0)
