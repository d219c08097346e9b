use Rattle.std.proofs.Common.{◌≡◌, ℕ, length, ap, sym, ◌∙◌, subst}
use Rattle.std.specs.Prelude.{Some}
use mathlib.Core.Option.{some-injective}
use Rattle.book_lock.specs.Own.{times, once_below}
use Rattle.book_lock.specs.Pass.{Known}
use Rattle.book_lock.proofs.Keeps.{close_all}
use Rattle.book_lock.proofs.lock.BookLock.close.Goals as goal

pub unreachable-requires : goal.unreachable-requires
unreachable-requires g c =
    let view = c.pass.view_is in
    let t = close_all g.V.Held.entries g.V.Held.origin _ _ _ _ _ (ap (λ (k : Known). k.parts) view ∙ c.requires.parts) (ap (λ (k : Known). k.holds) view ∙ c.requires.off) c.close_with-closed.ensures.values.2 in
    let same = some-injective _ _ (sym t.1 ∙ c.take-slot.ensures.value) ∙ c.in-None.is in
    cc

pub returns-clause-value : goal.returns-clause-value
returns-clause-value g c =
    let view = c.pass.view_is in
    let t = close_all g.V.Held.entries g.V.Held.origin _ _ _ _ _ (ap (λ (k : Known). k.parts) view ∙ c.requires.parts) (ap (λ (k : Known). k.holds) view ∙ c.requires.off) c.close_with-closed.ensures.values.2 in
    let both : Some t.0 ≡ Some c.in-Some.value = some-injective _ _ (sym t.1 ∙ c.take-slot.ensures.value) ∙ c.in-Some.is in
    let is : c.in-Some.value ≡ t.0 = cc (both) in (
      ap g.V.Held.entries is ∙ (t.2 ∙ ap (λ (k : Known). k.seen) view),
      ap g.V.Held.origin is ∙ (t.3 ∙ ap (λ (k : Known). k.origin) view),
    )

pub returns-clause-own : goal.returns-clause-own
returns-clause-own g c =
    let view = c.pass.view_is in
    let t = close_all g.V.Held.entries g.V.Held.origin _ _ _ _ _ (ap (λ (k : Known). k.parts) view ∙ c.requires.parts) (ap (λ (k : Known). k.holds) view ∙ c.requires.off) c.close_with-closed.ensures.values.2 in
    subst (λ (k : Known). (p : ℕ) → times p k.own ≡ once_below p (length k.seen)) view t.4
