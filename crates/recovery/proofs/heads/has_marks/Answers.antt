use Rattle.std.proofs.Common.{List, ℕ, inl, inr, take, drop, sym, ap, ◌∙◌}
use Rattle.cell_format.specs.Spelling.{newest}
use Rattle.recovery.proofs.HeadLemmas.{bytes_like, bytes_unlike, last_zeros}
use Rattle.recovery.proofs.heads.has_marks.Goals as goal

pub returns-else-eq-clause-no : goal.returns-else-eq-clause-no
returns-else-eq-clause-no c fails =
    inl (λ e. bytes_unlike (take 8 c.args.head.now) (take 8 c.header-whole.result) (sym c.eq.ensures ∙ fails) (e ∙ sym (ap (λ (l : List ℕ). take 8 l) c.header-whole.ensures)))

pub returns-then-eq-clause-no : goal.returns-then-eq-clause-no
returns-then-eq-clause-no c fails =
    inr (λ e. bytes_unlike (take 6 (drop 10 c.args.head.now)) (take 6 (drop 10 c.header-whole.result)) (sym c.eq-then-eq.ensures ∙ fails)
    (e ∙ sym (ap (λ (l : List ℕ). take 6 (drop 10 l)) c.header-whole.ensures ∙ last_zeros newest 1)))

pub returns-then-eq-clause-yes : goal.returns-then-eq-clause-yes
returns-then-eq-clause-yes c holds = (
  bytes_like (take 8 c.args.head.now) (take 8 c.header-whole.result) (sym c.eq.ensures ∙ c.if-eq.true) ∙ ap (λ (l : List ℕ). take 8 l) c.header-whole.ensures,
  bytes_like (take 6 (drop 10 c.args.head.now)) (take 6 (drop 10 c.header-whole.result)) (sym c.eq-then-eq.ensures ∙ holds) ∙ ap (λ (l : List ℕ). take 6 (drop 10 l)) c.header-whole.ensures ∙ last_zeros newest 1,
)
