use Rattle.std.proofs.Common.{◌≡◌, ℕ, ◌<◌, ◌≤◌, ◌%◌, ◌∙◌, [], ◌∷◌, List, leb, length, get_or, cond, ap, arith, length-append}
use Rattle.std.proofs.lemmas.List.{get_or_append_left, get_or_push}
use Rattle.std.proofs.lemmas.Grind.{common_steps}
use borrow.Author.Count.{below_more}
use Rattle.disk_mem.proofs.images.unpainted.Goals as goal
use Rattle.disk_mem.proofs.images.unpainted.Goals.{then-i-cut, else-i-cut}

-- which of two bytes stands at a place
first_of : (cut i a b : ℕ) → cut ≤ i → a ≡ cond (leb cut i) a b
first_of cut i a b le = grind (arith, common_steps)

second_of : (cut i a b : ℕ) → i < cut → b ≡ cond (leb cut i) a b
second_of cut i a b lt = grind (arith, common_steps)

pub loop-i-preserved : goal.loop-i-preserved
loop-i-preserved c =
    let old = c.loop-i.image.items in
    let byte = c.if-i-cut.byte in
    let more = c.in_ok-push.ensures.items in
    let read : ℕ → ℕ = λ k. cond (leb c.args.cut k) (get_or c.args.fill.now (k % length c.args.fill.now) 0) (get_or c.args.stable.now k 0) in
    let is : byte ≡ read c.loop-i.i = elim c.if-i-cut.branch [
      | then-i-cut w ↦ w.byte-is ∙ second_of c.args.cut c.loop-i.i _ _ w.if-i-cut.true
      | else-i-cut w ↦ w.byte-is ∙ first_of c.args.cut c.loop-i.i _ _ w.if-i-cut.false
    ] in
    record {
      long = omega (arith, ap (length {A = ℕ}) more, length-append old (byte ∷ []), c.loop-i.invariant.long);
      bytes = below_more (λ k. get_or c.push.new.self.items k 0 ≡ read k) c.loop-i.i
          (λ k lt. ap (λ (l : List ℕ). get_or l k 0) more ∙ get_or_append_left old (byte ∷ []) 0 k (omega (arith, lt, c.loop-i.invariant.long)) ∙ c.loop-i.invariant.bytes k lt)
          (ap (λ (l : List ℕ). get_or l c.loop-i.i 0) more ∙ get_or_push old byte 0 c.loop-i.i c.loop-i.invariant.long ∙ is);
    }
