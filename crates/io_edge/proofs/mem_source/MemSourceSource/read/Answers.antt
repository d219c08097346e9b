use Rattle.std.proofs.Common.{◌≡◌, ◌+◌, ◌-◌, ◌++◌, ℕ, List, length, take, drop, arith, sym, ap, min, ◌∙◌}
use Rattle.std.proofs.lemmas.List.{length-drop, drop-drop}
use Rattle.io_edge.specs.FailPlan.{counted}
use Rattle.io_edge.specs.Views.{SourceView}
use Rattle.io_edge.proofs.Progress.{next_read}
use Rattle.io_edge.proofs.mem_source.MemSourceSource.read.Goals as goal

pub returns-clause-bytes : goal.returns-clause-bytes
returns-clause-bytes c =
    let inside = c.self.inside in
    let n = c.min-n.result in
    let left_is : c.args.self.now.left ≡ drop inside.at inside.bytes.items = ap (λ s. s.left) (sym c.self.view_is) in
    let long = ap (length {A = ℕ}) c.deref.ensures.value in
    let span : inside.at + n - inside.at ≡ n = omega arith in
    let part_is : c.copy_from_slice.new.self ≡ take n (drop inside.at inside.bytes.items) =
    c.copy_from_slice.ensures.after ∙ ap (λ k. take k (drop inside.at c.deref.result.now)) span ∙ ap (λ l. take n (drop inside.at l)) c.deref.ensures.value in
    next_read c.args.self.now.left inside.bytes.items c.copy_from_slice.new.self c.args.into.now inside.at n left_is c.self.invariant (c.min-n.ensures ∙ ap (λ k. min (length c.args.into.now) (k - inside.at)) (omega arith)) part_is

pub returns-clause-exact : goal.returns-clause-exact
returns-clause-exact c =
    let inside = c.self.inside in
    let n = c.min-n.result in
    let into = c.args.into.now in
    let left_is : c.args.self.now.left ≡ drop inside.at inside.bytes.items = ap (λ (s : SourceView). s.left) (sym c.self.view_is) in
    let span : inside.at + n - inside.at ≡ n = omega arith in
    let part_is : c.copy_from_slice.new.self ≡ take n (drop inside.at inside.bytes.items) =
    c.copy_from_slice.ensures.after ∙ ap (λ k. take k (drop inside.at c.deref.result.now)) span ∙ ap (λ l. take n (drop inside.at l)) c.deref.ensures.value in
    let left_long : c.len.result - inside.at ≡ length c.args.self.now.left = omega (arith, ap (length {A = ℕ}) left_is, length-drop inside.at inside.bytes.items) in
    let plan_is : c.begin.new.self ≡ counted c.args.self.now.plan = c.begin.ensures.after ∙ ap (λ (s : SourceView). counted s.plan) c.self.view_is in
    let rest_is : drop (inside.at + n) inside.bytes.items ≡ drop n c.args.self.now.left = sym (drop-drop n inside.at inside.bytes.items) ∙ ap (drop n) (sym left_is) in (
      c.min-n.ensures ∙ ap (min (length into)) left_long,
      ap (λ (l : List ℕ). l ++ drop n into) (part_is ∙ ap (take n) (sym left_is)),
      λ i. record { left = rest_is i; plan = plan_is i },
    )
