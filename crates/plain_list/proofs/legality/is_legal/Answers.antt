use Rattle.std.proofs.Common.{◌≡◌, ◌↔◌, ◌+◌, ◌∷◌, ◌∙◌, List, map, drop, ap, sym, subst}
use Rattle.std.proofs.lemmas.Bool.{true≢false}
use Rattle.std.proofs.lemmas.List.{drop_more}
use Rattle.plain_list.specs.declared.ops.Call.{Call}
use Rattle.plain_list.specs.World.{World}
use Rattle.plain_list.specs.Answer.{answer_of, after_of}
use Rattle.plain_list.specs.Calls.{AreReplies, entry_of}
use Rattle.plain_list.specs.History.{replies}
use Rattle.plain_list.proofs.legality.is_legal.Goals as goal

-- of calls the first of which has the answer of this world, the others decide
others_decide : (now next : World) (call : Call) (calls rest : List Call) → calls ≡ call ∷ rest → next ≡ after_of now call.op → answer_of now call.op ≡ call.answer → AreReplies now calls ↔ AreReplies next rest
others_decide now next call calls rest is step same =
    subst (λ (cs : List Call). AreReplies now cs ↔ AreReplies next rest) (sym is) (subst (λ (w : World). AreReplies now (call ∷ rest) ↔ AreReplies w rest) (sym step) (
      λ e. let all : (call.answer ∷ map (λ c. c.answer) rest) ≡ (answer_of now call.op ∷ replies (after_of now call.op) (map entry_of rest)) = e in cc all,
      λ e. λ i. sym same i ∷ e i,
    ))

-- calls whose answers are replies begin with the answer of this world
first_answer : (now : World) (call : Call) (calls rest : List Call) → calls ≡ call ∷ rest → AreReplies now calls → answer_of now call.op ≡ call.answer
first_answer now call calls rest is e =
    let all : (call.answer ∷ map (λ c. c.answer) rest) ≡ (answer_of now call.op ∷ replies (after_of now call.op) (map entry_of rest)) = subst (AreReplies now) is e in cc all

pub returns-then-not-legal : goal.returns-then-not-legal
returns-then-not-legal c =
    let calls = c.args.calls.now in
    let i = c.loop-call.call-index in
    let item = c.call-item.result in
    let begins : drop i calls ≡ item ∷ drop (i + 1) calls = drop_more calls i item c.loop-call-test.true ∙ ap (λ (m : Call). m ∷ drop (i + 1) calls) (sym c.call-item.is) in
    (λ no. absurd (true≢false (sym no)), λ all. sym c.if-not-legal.true ∙ c.in_ok-legal.ensures.1 (first_answer c.loop-call.now item (drop i calls) (drop (i + 1) calls) begins (c.loop-call.invariant.0 all)))

pub loop-call-preserved : goal.loop-call-preserved
loop-call-preserved c =
    let calls = c.args.calls.now in
    let i = c.loop-call.call-index in
    let item = c.call-item.result in
    let begins : drop i calls ≡ item ∷ drop (i + 1) calls = drop_more calls i item c.loop-call-test.true ∙ ap (λ (m : Call). m ∷ drop (i + 1) calls) (sym c.call-item.is) in
    let step = others_decide c.loop-call.now c.in-Ok.next item (drop i calls) (drop (i + 1) calls) begins c.in-Ok.ensures.ok (c.in_ok-legal.ensures.0 c.if-not-legal.false) in
    (λ all. step.0 (c.loop-call.invariant.0 all), λ rest. c.loop-call.invariant.1 (step.1 rest))
