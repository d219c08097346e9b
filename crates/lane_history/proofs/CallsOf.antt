-- The calls of a session, and where one history has more than another.
use Rattle.std.proofs.Common.{◌≡◌, ◌≢◌, ◌⊎◌, inl, inr, ℕ, zero, suc, ◌+◌, Bool, true, false, cond, List, [], ◌∷◌, ◌++◌, Some, refl, sym, ap, subst, ◌∙◌, arith, eq-eqb, ne_eqb}
use Rattle.std.specs.Prelude.{slice_get, ◌==◌}
use mathlib.Core.List.{IsPrefix}
use Rattle.plain_list.specs.declared.ops.Op.{Op}
use Rattle.plain_list.specs.declared.entries.Entry.{Entry}
use Rattle.plain_list.specs.declared.entries.Entry.TheVariants.{Fail, Call, Begin, Install, Abandon}
use Rattle.plain_list.specs.Played.{calls_of}
use Rattle.book_lock.specs.Own.{times, Owns}
use Rattle.lane_history.proofs.OwnEntries.{own_entries, own-one, own-skip, owns-or-not, OwnsOrNot}

pub calls-append : (s : ℕ) (h g : List Entry) → calls_of s (h ++ g) ≡ calls_of s h ++ calls_of s g
calls-append s [] g = refl
calls-append s (Call session row op ∷ h) g = by_test (calls-append s h g) (session == s)
  where
    by_test : calls_of s (h ++ g) ≡ calls_of s h ++ calls_of s g → (b : Bool) → cond b ((row, op) ∷ calls_of s (h ++ g)) (calls_of s (h ++ g)) ≡ cond b ((row, op) ∷ calls_of s h) (calls_of s h) ++ calls_of s g
    by_test rest true = ap (λ (l : List (ℕ × Op)). (row, op) ∷ l) rest
    by_test rest false = rest
calls-append s (Begin number name ∷ h) g = calls-append s h g
calls-append s (Install number ∷ h) g = calls-append s h g
calls-append s (Abandon number ∷ h) g = calls-append s h g
calls-append s (Fail cell lost ∷ h) g = calls-append s h g

pub calls-prefix : (s : ℕ) (h g : List Entry) → IsPrefix h g → IsPrefix (calls_of s h) (calls_of s g)
calls-prefix s h g (rest, is) = (calls_of s rest, sym (calls-append s h rest) ∙ ap (calls_of s) is)

-- a call is one of its session, and of no other
pub calls-one : (s row : ℕ) (op : Op) → calls_of s (Call s row op ∷ []) ≡ (row, op) ∷ []
calls-one s row op = ap (λ (b : Bool). cond b ((row, op) ∷ []) []) (eq-eqb s s refl)

pub calls-other : (s t row : ℕ) (op : Op) → t ≢ s → calls_of t (Call s row op ∷ []) ≡ []
calls-other s t row op apart = ap (λ (b : Bool). cond b ((row, op) ∷ []) []) (ne_eqb s t (λ e. apart (sym e)))

pub append-none : {A : Type 0} (xs ys : List A) → xs ++ ys ≡ [] → (xs ≡ []) × (ys ≡ [])
append-none [] ys is = (refl, is)
append-none (x ∷ xs) ys is = absurd (cc is)

-- where a pass has added no call of a session, none of its entries is one
pub quiet-at : (s at : ℕ) (own : List ℕ) (h : List Entry) (k : ℕ) (e : Entry) → calls_of s (own_entries at own h) ≡ [] → slice_get h k ≡ Some e → Owns own (at + k) → calls_of s (e ∷ []) ≡ []
quiet-at s at own [] k e none is has = absurd (cc is)
quiet-at s at own (f ∷ h) zero e none is has =
    let here : at + 0 ≡ at = omega arith in
    let first : own_entries at own (f ∷ h) ≡ f ∷ own_entries (at + 1) own h = own-one at own f h (subst (Owns own) here has) in
    let same : f ≡ e = cc is in
    subst (λ (g : Entry). calls_of s (g ∷ []) ≡ []) same
    (append-none (calls_of s (f ∷ [])) (calls_of s (own_entries (at + 1) own h)) (sym (calls-append s (f ∷ []) (own_entries (at + 1) own h)) ∙ ap (calls_of s) (sym first) ∙ none)).0
quiet-at s at own (f ∷ h) (suc k) e none is has = quiet-at s (at + 1) own h k e (by_owner (owns-or-not at own)) is (subst (Owns own) next has)
  where
    next : at + suc k ≡ at + 1 + k
    next = omega arith

    by_owner : OwnsOrNot at own → calls_of s (own_entries (at + 1) own h) ≡ []
    by_owner (inl owns) =
        (append-none (calls_of s (f ∷ [])) (calls_of s (own_entries (at + 1) own h))
        (sym (calls-append s (f ∷ []) (own_entries (at + 1) own h)) ∙ ap (calls_of s) (sym (own-one at own f h owns)) ∙ none)).1
    by_owner (inr skips) = ap (calls_of s) (sym (own-skip at own f h skips)) ∙ none

-- of more own positions, an entry that is not also at one of these is no call of the session
abbrev pub Covers : ℕ → ℕ → List ℕ → List ℕ → List Entry → Type 0
Covers s at own more h = (k : ℕ) (e : Entry) → slice_get h k ≡ Some e → (Owns own (at + k) → Owns more (at + k)) × (Owns more (at + k) → Owns own (at + k) ⊎ (calls_of s (e ∷ []) ≡ []))

abbrev pub SameCalls : ℕ → ℕ → List ℕ → List ℕ → List Entry → Type 0
SameCalls s at own more h = calls_of s (own_entries at more h) ≡ calls_of s (own_entries at own h)

-- then the calls of the session are those at these
pub calls-covered : (s at : ℕ) (own more : List ℕ) (h : List Entry) → Covers s at own more h → calls_of s (own_entries at more h) ≡ calls_of s (own_entries at own h)
calls-covered s at own more [] covers = refl
calls-covered s at own more (e ∷ h) covers =
    by_owner (calls-covered s (at + 1) own more h (λ k f is. subst (λ (p : ℕ). (Owns own p → Owns more p) × (Owns more p → Owns own p ⊎ (calls_of s (f ∷ []) ≡ []))) (next k) (covers (suc k) f is)))
    (owns-or-not at own) (owns-or-not at more)
  where
    here : at + 0 ≡ at
    here = omega arith

    next : (k : ℕ) → at + suc k ≡ at + 1 + k
    next k = omega arith

    first : (Owns own at → Owns more at) × (Owns more at → Owns own at ⊎ (calls_of s (e ∷ []) ≡ []))
    first = subst (λ (p : ℕ). (Owns own p → Owns more p) × (Owns more p → Owns own p ⊎ (calls_of s (e ∷ []) ≡ []))) here (covers zero e refl)

    quiet : (g : List Entry) → calls_of s (e ∷ []) ≡ [] → calls_of s (e ∷ g) ≡ calls_of s g
    quiet g none = calls-append s (e ∷ []) g ∙ ap (λ (l : List (ℕ × Op)). l ++ calls_of s g) none

    both : SameCalls s (at + 1) own more h → Owns own at → Owns more at → calls_of s (own_entries at more (e ∷ h)) ≡ calls_of s (own_entries at own (e ∷ h))
    both rest mine has =
        ap (calls_of s) (own-one at more e h has) ∙ calls-append s (e ∷ []) (own_entries (at + 1) more h) ∙ ap (λ (l : List (ℕ × Op)). calls_of s (e ∷ []) ++ l) rest
        ∙ sym (calls-append s (e ∷ []) (own_entries (at + 1) own h)) ∙ ap (calls_of s) (sym (own-one at own e h mine))

    more-alone : SameCalls s (at + 1) own more h → times at own ≡ 0 → Owns more at → Owns own at ⊎ (calls_of s (e ∷ []) ≡ []) → calls_of s (own_entries at more (e ∷ h)) ≡ calls_of s (own_entries at own (e ∷ h))
    more-alone rest skips has (inl mine) = both rest mine has
    more-alone rest skips has (inr none) = ap (calls_of s) (own-one at more e h has) ∙ quiet (own_entries (at + 1) more h) none ∙ rest ∙ ap (calls_of s) (sym (own-skip at own e h skips))

    by_owner : SameCalls s (at + 1) own more h → OwnsOrNot at own → OwnsOrNot at more → calls_of s (own_entries at more (e ∷ h)) ≡ calls_of s (own_entries at own (e ∷ h))
    by_owner rest (inl mine) (inl has) = both rest mine has
    by_owner rest (inl mine) (inr skips) = both rest mine (first.0 mine)
    by_owner rest (inr skips) (inl has) = more-alone rest skips has (first.1 has)
    by_owner rest (inr skips) (inr other) = ap (calls_of s) (own-skip at more e h other) ∙ rest ∙ ap (calls_of s) (sym (own-skip at own e h skips))
