-- Which splits are open after a legal history.
use Rattle.std.proofs.Common.{◌≡◌, ◌≢◌, ℕ, zero, suc, ◌+◌, ◌<◌, List, [], ◌∷◌, ◌++◌, Bool, true, false, ◌&&◌, ◌||◌, not, refl, sym, ap, ◌∙◌, subst, ⊎_elim, inl, inr, arith, eq-eqb, ne_eqb}
use mathlib.Core.Bool.{true≢false}
use mathlib.Core.Logic.{dite}
use native.Mathlib.Decide.{ℕ_discrete}
use Rattle.std.specs.Prelude.{Option, Some, None, is_some, slice_get, if◌then◌else◌, ◌==◌}
use Rattle.std.specs.List.{filter}
use Rattle.std.specs.Cmp.{first_so, second_so}
use Rattle.std.proofs.lemmas.Bool.{eqb-true}
use Rattle.zorder.specs.SameName.{same_name}
use Rattle.plain_list.specs.declared.entries.Entry.{Entry}
use Rattle.plain_list.specs.declared.entries.Entry.TheVariants.{Fail, Call, Begin, Install, Abandon}
use Rattle.plain_list.specs.State.{OpenSplit, State, split_name, is_splitting, without_number, without_name, may_split, is_possible, is_free, step, state_after, is_legal_history, IsLegal}
use Rattle.plain_list.proofs.Histories.{legal-rest}
use Rattle.book_lock.specs.Ends.{IsBegin, IsEnd}

same_if : {A : Type 0} (b : Bool) (x y : A) → b ≡ true → (if b then x else y) ≡ x
same_if true x y e = refl
same_if false x y e = absurd (true≢false (sym e))

other_if : {A : Type 0} (b : Bool) (x y : A) → b ≡ false → (if b then x else y) ≡ y
other_if true x y e = absurd (true≢false e)
other_if false x y e = refl

-- A begin is possible if its number is the next one.
begin_next : (w : ℕ) (s : State) (n : ℕ) (name : List Bool) (h : List Entry) → IsLegal w s (Begin n name ∷ h) → n ≡ s.begun + 1
begin_next w s n name h legal =
    let possible = first_so (is_possible w s (Begin n name)) (is_free s (Begin n name)) (first_so (is_possible w s (Begin n name) && is_free s (Begin n name)) (is_legal_history w (step w s (Begin n name)) h) legal) in
    eqb-true n (s.begun + 1) (first_so (n == s.begun + 1) (may_split w s name) possible)

begin_free : (w : ℕ) (s : State) (n : ℕ) (name : List Bool) (h : List Entry) → IsLegal w s (Begin n name ∷ h) → not (is_splitting s.splits name) ≡ true
begin_free w s n name h legal =
    second_so (is_possible w s (Begin n name)) (is_free s (Begin n name)) (first_so (is_possible w s (Begin n name) && is_free s (Begin n name)) (is_legal_history w (step w s (Begin n name)) h) legal)

begin_rest : (w : ℕ) (s : State) (n : ℕ) (name : List Bool) (h : List Entry) → IsLegal w s (Begin n name ∷ h) → IsLegal w (step w s (Begin n name)) h
begin_rest w s n name h legal = second_so (is_possible w s (Begin n name) && is_free s (Begin n name)) (is_legal_history w (step w s (Begin n name)) h) legal

install_rest : (w : ℕ) (s : State) (n : ℕ) (h : List Entry) → IsLegal w s (Install n ∷ h) → IsLegal w (step w s (Install n)) h
install_rest w s n h legal = second_so (is_possible w s (Install n) && true) (is_legal_history w (step w s (Install n)) h) legal

abandon_rest : (w : ℕ) (s : State) (n : ℕ) (h : List Entry) → IsLegal w s (Abandon n ∷ h) → IsLegal w (step w s (Abandon n)) h
abandon_rest w s n h legal = second_so (is_possible w s (Abandon n) && true) (is_legal_history w (step w s (Abandon n)) h) legal

install_open : (w : ℕ) (s : State) (n : ℕ) (h : List Entry) → IsLegal w s (Install n ∷ h) → is_some (split_name s.splits n) ≡ true
install_open w s n h legal = first_so (is_possible w s (Install n)) true (first_so (is_possible w s (Install n) && true) (is_legal_history w (step w s (Install n)) h) legal)

abandon_open : (w : ℕ) (s : State) (n : ℕ) (h : List Entry) → IsLegal w s (Abandon n ∷ h) → is_some (split_name s.splits n) ≡ true
abandon_open w s n h legal = first_so (is_possible w s (Abandon n)) true (first_so (is_possible w s (Abandon n) && true) (is_legal_history w (step w s (Abandon n)) h) legal)

-- The begins of a legal history have numbers above those begun before.
pub begin_above : (w : ℕ) (s : State) (h : List Entry) → IsLegal w s h → (q n : ℕ) → IsBegin h q n → s.begun < n
begin_above w s [] legal q n b = absurd (cc (b.1))
begin_above w s (Call session row op ∷ h) legal zero n b = absurd (cc (b.1))
begin_above w s (Call session row op ∷ h) legal (suc q) n b = begin_above w (step w s (Call session row op)) h legal q n b
begin_above w s (Begin m name ∷ h) legal zero n b =
    let same : m ≡ n = cc (b.1) in
    let next = begin_next w s m name h legal in
    omega arith
begin_above w s (Begin m name ∷ h) legal (suc q) n b =
    let more = begin_above w (step w s (Begin m name)) h (begin_rest w s m name h legal) q n b in
    omega arith
begin_above w s (Install m ∷ h) legal zero n b = absurd (cc (b.1))
begin_above w s (Install m ∷ h) legal (suc q) n b = begin_above w (step w s (Install m)) h (install_rest w s m h legal) q n b
begin_above w s (Abandon m ∷ h) legal zero n b = absurd (cc (b.1))
begin_above w s (Abandon m ∷ h) legal (suc q) n b = begin_above w (step w s (Abandon m)) h (abandon_rest w s m h legal) q n b
begin_above w s (Fail cell lost ∷ h) legal zero n b = absurd (cc (b.1))
begin_above w s (Fail cell lost ∷ h) legal (suc q) n b = begin_above w s h (legal-rest w s (Fail cell lost) h legal) q n b

-- No number is begun twice.
pub begin_once : (w : ℕ) (s : State) (h : List Entry) → IsLegal w s h → (n q r : ℕ) → IsBegin h q n → IsBegin h r n → r ≡ q
begin_once w s [] legal n q r b c = absurd (cc (b.1))
begin_once w s (e ∷ h) legal n zero zero b c = refl
begin_once w s (Call session row op ∷ h) legal n zero (suc r) b c = absurd (cc (b.1))
begin_once w s (Call session row op ∷ h) legal n (suc q) zero b c = absurd (cc (c.1))
begin_once w s (Call session row op ∷ h) legal n (suc q) (suc r) b c = ap suc (begin_once w (step w s (Call session row op)) h legal n q r b c)
begin_once w s (Begin m name ∷ h) legal n zero (suc r) b c =
    let same : m ≡ n = cc (b.1) in
    let next = begin_next w s m name h legal in
    let more = begin_above w (step w s (Begin m name)) h (begin_rest w s m name h legal) r n c in
    absurd (omega arith)
begin_once w s (Begin m name ∷ h) legal n (suc q) zero b c =
    let same : m ≡ n = cc (c.1) in
    let next = begin_next w s m name h legal in
    let more = begin_above w (step w s (Begin m name)) h (begin_rest w s m name h legal) q n b in
    absurd (omega arith)
begin_once w s (Begin m name ∷ h) legal n (suc q) (suc r) b c = ap suc (begin_once w (step w s (Begin m name)) h (begin_rest w s m name h legal) n q r b c)
begin_once w s (Install m ∷ h) legal n zero (suc r) b c = absurd (cc (b.1))
begin_once w s (Install m ∷ h) legal n (suc q) zero b c = absurd (cc (c.1))
begin_once w s (Install m ∷ h) legal n (suc q) (suc r) b c = ap suc (begin_once w (step w s (Install m)) h (install_rest w s m h legal) n q r b c)
begin_once w s (Abandon m ∷ h) legal n zero (suc r) b c = absurd (cc (b.1))
begin_once w s (Abandon m ∷ h) legal n (suc q) zero b c = absurd (cc (c.1))
begin_once w s (Abandon m ∷ h) legal n (suc q) (suc r) b c = ap suc (begin_once w (step w s (Abandon m)) h (abandon_rest w s m h legal) n q r b c)
begin_once w s (Fail cell lost ∷ h) legal n zero (suc r) b c = absurd (cc (b.1))
begin_once w s (Fail cell lost ∷ h) legal n (suc q) zero b c = absurd (cc (c.1))
begin_once w s (Fail cell lost ∷ h) legal n (suc q) (suc r) b c = ap suc (begin_once w s h (legal-rest w s (Fail cell lost) h legal) n q r b c)

-- Open splits, and one more after them.
split_name-append : (splits : List OpenSplit) (n m : ℕ) (name other : List Bool) → split_name splits n ≡ Some name → split_name (splits ++ record { number = m; name = other } ∷ []) n ≡ Some name
split_name-append [] n m name other e = absurd (cc (e))
split_name-append (s ∷ splits) n m name other e = go (split_name-append splits n m name other) (s.number == n) e
  where
    go : (split_name splits n ≡ Some name → split_name (splits ++ record { number = m; name = other } ∷ []) n ≡ Some name) → (b : Bool)
        → (if b then Some s.name else split_name splits n) ≡ Some name → (if b then Some s.name else split_name (splits ++ record { number = m; name = other } ∷ []) n) ≡ Some name
    go more true e = e
    go more false e = more e

-- The newest split, if no other has its number.
split_name-newest : (splits : List OpenSplit) (n : ℕ) (name : List Bool) → split_name splits n ≡ None → split_name (splits ++ record { number = n; name = name } ∷ []) n ≡ Some name
split_name-newest [] n name e = same_if (n == n) (Some name) None (eq-eqb n n refl)
split_name-newest (s ∷ splits) n name e = go (split_name-newest splits n name) (s.number == n) e
  where
    go : (split_name splits n ≡ None → split_name (splits ++ record { number = n; name = name } ∷ []) n ≡ Some name) → (b : Bool)
        → (if b then Some s.name else split_name splits n) ≡ None → (if b then Some s.name else split_name (splits ++ record { number = n; name = name } ∷ []) n) ≡ Some name
    go more true e = absurd (cc (e))
    go more false e = more e

-- A number that isn't open, and one more split with another number.
split_name-other : (splits : List OpenSplit) (n m : ℕ) (other : List Bool) → m ≢ n → split_name splits n ≡ None → split_name (splits ++ record { number = m; name = other } ∷ []) n ≡ None
split_name-other [] n m other apart e = other_if (m == n) (Some other) None (ne_eqb m n apart)
split_name-other (s ∷ splits) n m other apart e = go (split_name-other splits n m other apart) (s.number == n) e
  where
    go : (split_name splits n ≡ None → split_name (splits ++ record { number = m; name = other } ∷ []) n ≡ None) → (b : Bool)
        → (if b then Some s.name else split_name splits n) ≡ None → (if b then Some s.name else split_name (splits ++ record { number = m; name = other } ∷ []) n) ≡ None
    go more true e = absurd (cc (e))
    go more false e = more e

-- A number that isn't open still isn't after some splits are removed.
split_name-none : (keep : OpenSplit → Bool) (splits : List OpenSplit) (n : ℕ) → split_name splits n ≡ None → split_name (filter keep splits) n ≡ None
split_name-none keep [] n e = refl
split_name-none keep (s ∷ splits) n e = go (split_name-none keep splits n) (s.number == n) refl (keep s) e
  where
    go : (split_name splits n ≡ None → split_name (filter keep splits) n ≡ None) → (b : Bool) → (s.number == n) ≡ b → (k : Bool)
        → (if b then Some s.name else split_name splits n) ≡ None → split_name (if k then s ∷ filter keep splits else filter keep splits) n ≡ None
    go more true is k e = absurd (cc (e))
    go more false is false e = more e
    go more false is true e = other_if (s.number == n) (Some s.name) (split_name (filter keep splits) n) is ∙ more e

-- Without the split of another number.
split_name-without : (splits : List OpenSplit) (n m : ℕ) (name : List Bool) → m ≢ n → split_name splits n ≡ Some name → split_name (without_number m splits) n ≡ Some name
split_name-without [] n m name apart e = e
split_name-without (s ∷ splits) n m name apart e = go (split_name-without splits n m name apart) (s.number == n) refl (s.number == m) refl e
  where
    go : (split_name splits n ≡ Some name → split_name (without_number m splits) n ≡ Some name) → (b : Bool) → (s.number == n) ≡ b → (k : Bool) → (s.number == m) ≡ k
        → (if b then Some s.name else split_name splits n) ≡ Some name → split_name (if not k then s ∷ without_number m splits else without_number m splits) n ≡ Some name
    go more true is true drop e = absurd (apart (sym (eqb-true s.number m drop) ∙ eqb-true s.number n is))
    go more true is false drop e = same_if (s.number == n) (Some s.name) (split_name (without_number m splits) n) is ∙ e
    go more false is true drop e = more e
    go more false is false drop e = other_if (s.number == n) (Some s.name) (split_name (without_number m splits) n) is ∙ more e

-- Without a name that no open split has.
without_name-none : (splits : List OpenSplit) (name : List Bool) → not (is_splitting splits name) ≡ true → without_name name splits ≡ splits
without_name-none [] name free = refl
without_name-none (s ∷ splits) name free = go (without_name-none splits name) (same_name s.name name) free
  where
    go : (not (is_splitting splits name) ≡ true → without_name name splits ≡ splits) → (b : Bool)
        → not (b || is_splitting splits name) ≡ true → (if not b then s ∷ without_name name splits else without_name name splits) ≡ s ∷ splits
    go more true free = absurd (true≢false (sym free))
    go more false free = ap (λ (l : List OpenSplit). s ∷ l) (more free)

-- No open split has a number above those begun.
abbrev pub Numbered : State → Type 0
Numbered s = (n : ℕ) → s.begun < n → split_name s.splits n ≡ None

begin_numbered : (w : ℕ) (s : State) (m : ℕ) (name : List Bool) → m ≡ s.begun + 1 → Numbered s → Numbered (step w s (Begin m name))
begin_numbered w s m name next numbered n above =
    split_name-other (without_name name s.splits) n m name (λ e. omega arith) (split_name-none (λ o. not (same_name o.name name)) s.splits n (numbered n (omega arith)))

end_numbered : (s : State) (m : ℕ) → Numbered s → (n : ℕ) → s.begun < n → split_name (without_number m s.splits) n ≡ None
end_numbered s m numbered n above = split_name-none (λ o. not (o.number == m)) s.splits n (numbered n above)

-- A split that is open stays open through a legal history that doesn't end it.
pub open_stays : (w : ℕ) (s : State) (h : List Entry) → IsLegal w s h → (n : ℕ) (name : List Bool) → split_name s.splits n ≡ Some name
    → ((p : ℕ) → ¬ IsEnd h p n) → split_name (state_after w s h).splits n ≡ Some name
open_stays w s [] legal n name is none = is
open_stays w s (Call session row op ∷ h) legal n name is none = open_stays w (step w s (Call session row op)) h legal n name is (λ p. none (suc p))
open_stays w s (Begin m other ∷ h) legal n name is none =
    let same = without_name-none s.splits other (begin_free w s m other h legal) in
    let kept : split_name (without_name other s.splits) n ≡ Some name = ap (λ (l : List OpenSplit). split_name l n) same ∙ is in
    open_stays w (step w s (Begin m other)) h (begin_rest w s m other h legal) n name (split_name-append (without_name other s.splits) n m name other kept) (λ p. none (suc p))
open_stays w s (Install m ∷ h) legal n name is none =
    let apart : m ≢ n = (λ e. none 0 (Install m, refl, inl (ap (λ (k : ℕ). Install k) e))) in
    open_stays w (step w s (Install m)) h (install_rest w s m h legal) n name (split_name-without s.splits n m name apart is) (λ p. none (suc p))
open_stays w s (Abandon m ∷ h) legal n name is none =
    let apart : m ≢ n = (λ e. none 0 (Abandon m, refl, inr (ap (λ (k : ℕ). Abandon k) e))) in
    open_stays w (step w s (Abandon m)) h (abandon_rest w s m h legal) n name (split_name-without s.splits n m name apart is) (λ p. none (suc p))
open_stays w s (Fail cell lost ∷ h) legal n name is none = open_stays w s h (legal-rest w s (Fail cell lost) h legal) n name is (λ p. none (suc p))

-- A split that a legal history began and didn't end is open after it, under its name.
pub begun_open : (w : ℕ) (s : State) (h : List Entry) → IsLegal w s h → Numbered s → (q n : ℕ) (name : List Bool) → slice_get h q ≡ Some (Begin n name)
    → ((p : ℕ) → ¬ IsEnd h p n) → split_name (state_after w s h).splits n ≡ Some name
begun_open w s [] legal numbered q n name at none = absurd (cc (at))
begun_open w s (Call session row op ∷ h) legal numbered zero n name at none = absurd (cc (at))
begun_open w s (Call session row op ∷ h) legal numbered (suc q) n name at none = begun_open w (step w s (Call session row op)) h legal numbered q n name at (λ p. none (suc p))
begun_open w s (Begin m other ∷ h) legal numbered zero n name at none =
    let number : m ≡ n = cc (at) in
    let same : other ≡ name = cc (at) in
    let next = begin_next w s m other h legal in
    let fresh : split_name (without_name other s.splits) m ≡ None = split_name-none (λ o. not (same_name o.name other)) s.splits m (numbered m (omega arith)) in
    let here : split_name (step w s (Begin m other)).splits m ≡ Some other = split_name-newest (without_name other s.splits) m other fresh in
    open_stays w (step w s (Begin m other)) h (begin_rest w s m other h legal) n name
    (subst (λ (k : ℕ). split_name (step w s (Begin m other)).splits k ≡ Some name) number (here ∙ ap (λ (l : List Bool). Some l) same))
    (λ p. none (suc p))
begun_open w s (Begin m other ∷ h) legal numbered (suc q) n name at none =
    begun_open w (step w s (Begin m other)) h (begin_rest w s m other h legal) (begin_numbered w s m other (begin_next w s m other h legal) numbered) q n name at (λ p. none (suc p))
begun_open w s (Install m ∷ h) legal numbered zero n name at none = absurd (cc (at))
begun_open w s (Install m ∷ h) legal numbered (suc q) n name at none =
    begun_open w (step w s (Install m)) h (install_rest w s m h legal) (end_numbered s m numbered) q n name at (λ p. none (suc p))
begun_open w s (Abandon m ∷ h) legal numbered zero n name at none = absurd (cc (at))
begun_open w s (Abandon m ∷ h) legal numbered (suc q) n name at none =
    begun_open w (step w s (Abandon m)) h (abandon_rest w s m h legal) (end_numbered s m numbered) q n name at (λ p. none (suc p))
begun_open w s (Fail cell lost ∷ h) legal numbered zero n name at none = absurd (cc (at))
begun_open w s (Fail cell lost ∷ h) legal numbered (suc q) n name at none = begun_open w s h (legal-rest w s (Fail cell lost) h legal) numbered q n name at (λ p. none (suc p))

is_none : {A : Type 0} (o : Option A) → o ≡ None → is_some o ≡ true → (X : Type 0) → X
is_none o none some X = absurd (true≢false (sym some ∙ ap is_some none))

-- An end of a split that wasn't open at first has an earlier begin.
pub end_begun : (w : ℕ) (s : State) (h : List Entry) → IsLegal w s h → (n p : ℕ) → split_name s.splits n ≡ None → IsEnd h p n → (q : ℕ) × (q < p) × IsBegin h q n
end_begun w s [] legal n p none end = absurd (cc (end.1))
end_begun w s (Call session row op ∷ h) legal n zero none (e, at, is) = ⊎_elim (λ i. absurd (cc (at, i))) (λ i. absurd (cc (at, i))) is
end_begun w s (Call session row op ∷ h) legal n (suc p) none end =
    let t = end_begun w (step w s (Call session row op)) h legal n p none end in
    (suc t.0, omega arith, t.2)
end_begun w s (Begin m name ∷ h) legal n zero none (e, at, is) = ⊎_elim (λ i. absurd (cc (at, i))) (λ i. absurd (cc (at, i))) is
end_begun w s (Begin m name ∷ h) legal n (suc p) none end = dite (ℕ_discrete m n)
    (λ (same : m ≡ n). (0, omega arith, (name, ap (λ (k : ℕ). Some (Begin k name)) same)))
    (λ (apart : m ≢ n).
    let still = split_name-other (without_name name s.splits) n m name apart (split_name-none (λ o. not (same_name o.name name)) s.splits n none) in
    let t = end_begun w (step w s (Begin m name)) h (begin_rest w s m name h legal) n p still end in
    (suc t.0, omega arith, t.2))
end_begun w s (Install m ∷ h) legal n zero none (e, at, is) =
    let same : m ≡ n = ⊎_elim (λ (i : e ≡ Install n). cc (at, i)) (λ (i : e ≡ Abandon n). absurd (cc (at, i))) is in
    is_none (split_name s.splits m) (ap (split_name s.splits) same ∙ none) (install_open w s m h legal) _
end_begun w s (Install m ∷ h) legal n (suc p) none end =
    let t = end_begun w (step w s (Install m)) h (install_rest w s m h legal) n p (split_name-none (λ o. not (o.number == m)) s.splits n none) end in
    (suc t.0, omega arith, t.2)
end_begun w s (Abandon m ∷ h) legal n zero none (e, at, is) =
    let same : m ≡ n = ⊎_elim (λ (i : e ≡ Install n). absurd (cc (at, i))) (λ (i : e ≡ Abandon n). cc (at, i)) is in
    is_none (split_name s.splits m) (ap (split_name s.splits) same ∙ none) (abandon_open w s m h legal) _
end_begun w s (Abandon m ∷ h) legal n (suc p) none end =
    let t = end_begun w (step w s (Abandon m)) h (abandon_rest w s m h legal) n p (split_name-none (λ o. not (o.number == m)) s.splits n none) end in
    (suc t.0, omega arith, t.2)
end_begun w s (Fail cell lost ∷ h) legal n zero none (e, at, is) = ⊎_elim (λ i. absurd (cc (at, i))) (λ i. absurd (cc (at, i))) is
end_begun w s (Fail cell lost ∷ h) legal n (suc p) none end =
    let t = end_begun w s h (legal-rest w s (Fail cell lost) h legal) n p none end in
    (suc t.0, omega arith, t.2)
