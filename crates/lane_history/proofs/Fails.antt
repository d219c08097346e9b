-- Where an append failed in a legal history.
use Rattle.std.proofs.Common.{◌≡◌, ℕ, ◌≤◌, true, List, [], ◌∷◌, ◌++◌, length, Option, Some, None, refl, sym, ap, ◌∙◌, arith, append_assoc}
use Rattle.plain_list.specs.declared.entries.Entry.{Entry}
use Rattle.plain_list.specs.declared.entries.Entry.TheVariants.{Fail, Call, Begin, Install, Abandon}
use Rattle.plain_list.specs.declared.entries.Lost.{Lost}
use Rattle.plain_list.specs.State.{State, step, are_fails, IsLegal}
use Rattle.plain_list.specs.History.{failed_cell}
use Rattle.plain_list.proofs.Histories.{legal-rest}
use Rattle.lane_history.proofs.Weights.{sum_of}
use Rattle.lane_history.proofs.Entries.{fails}

-- the first failed append
pub record FailsAt (h : List Entry) (cell : ℕ) : Type 0 where
  pub before : List Entry
  pub lost : Lost
  pub rest : List Entry
  pub entries : h ≡ before ++ Fail cell lost ∷ rest
  pub going : failed_cell before ≡ None

behind : (e : Entry) (h : List Entry) (cell : ℕ) → ((g : List Entry) → failed_cell (e ∷ g) ≡ failed_cell g) → FailsAt h cell → FailsAt (e ∷ h) cell
behind e h cell same f = record { before = e ∷ f.before; lost = f.lost; rest = f.rest; entries = ap (λ (l : List Entry). e ∷ l) f.entries; going = same f.before ∙ f.going }

pub fails-at : (h : List Entry) (cell : ℕ) → failed_cell h ≡ Some cell → FailsAt h cell
fails-at [] cell is = absurd (cc is)
fails-at (Fail c lost ∷ h) cell is = let same : c ≡ cell = cc is in record { before = []; lost = lost; rest = h; entries = ap (λ (n : ℕ). Fail n lost ∷ h) same; going = refl }
fails-at (Call session row op ∷ h) cell is = behind (Call session row op) h cell (λ g. refl) (fails-at h cell is)
fails-at (Begin number name ∷ h) cell is = behind (Begin number name) h cell (λ g. refl) (fails-at h cell is)
fails-at (Install number ∷ h) cell is = behind (Install number) h cell (λ g. refl) (fails-at h cell is)
fails-at (Abandon number ∷ h) cell is = behind (Abandon number) h cell (λ g. refl) (fails-at h cell is)

-- each failed append stands behind a history without one
abbrev pub FailsAlone : List Entry → Type 0
FailsAlone h = (before : List Entry) (cell : ℕ) (lost : Lost) (rest : List Entry) → h ≡ before ++ Fail cell lost ∷ rest → failed_cell before ≡ None

pub alone-front : (g t : List Entry) → FailsAlone (g ++ t) → FailsAlone g
alone-front g t alone before cell lost rest is = alone before cell lost (rest ++ t) (ap (λ (l : List Entry). l ++ t) is ∙ append_assoc before (Fail cell lost ∷ rest) t)

names-one : {A : Type 0} (before : List Entry) (cell : ℕ) (lost : Lost) (rest : List Entry) → failed_cell (before ++ Fail cell lost ∷ rest) ≡ None → A
names-one [] cell lost rest none = absurd (cc none)
names-one (Fail c l ∷ before) cell lost rest none = absurd (cc none)
names-one (Call session row op ∷ before) cell lost rest none = names-one before cell lost rest none
names-one (Begin number name ∷ before) cell lost rest none = names-one before cell lost rest none
names-one (Install number ∷ before) cell lost rest none = names-one before cell lost rest none
names-one (Abandon number ∷ before) cell lost rest none = names-one before cell lost rest none

-- so no other one stands behind it
pub no-second : (h before : List Entry) (cell : ℕ) (lost : Lost) (rest : List Entry) → FailsAlone h → h ≡ before ++ Fail cell lost ∷ rest → failed_cell rest ≡ None
no-second h before cell lost rest alone is = by_cell (failed_cell rest) refl
  where
    by_cell : (o : Option ℕ) → failed_cell rest ≡ o → o ≡ None
    by_cell None none = refl
    by_cell (Some c) some =
        let f = fails-at rest c some in
        let front : List Entry = before ++ Fail cell lost ∷ f.before in
        let whole : h ≡ front ++ Fail c f.lost ∷ f.rest =
        is ∙ ap (λ (l : List Entry). before ++ Fail cell lost ∷ l) f.entries ∙ sym (append_assoc before (Fail cell lost ∷ f.before) (Fail c f.lost ∷ f.rest)) in
        names-one before cell lost f.before (alone front c f.lost f.rest whole)

no-fails : (h : List Entry) → failed_cell h ≡ None → sum_of fails h ≡ 0
no-fails [] none = refl
no-fails (Fail c l ∷ h) none = absurd (cc none)
no-fails (Call session row op ∷ h) none = let rest = no-fails h none in omega arith
no-fails (Begin number name ∷ h) none = let rest = no-fails h none in omega arith
no-fails (Install number ∷ h) none = let rest = no-fails h none in omega arith
no-fails (Abandon number ∷ h) none = let rest = no-fails h none in omega arith

pub one-fail : (h : List Entry) → FailsAlone h → sum_of fails h ≤ 1
one-fail [] alone = omega arith
one-fail (Fail cell lost ∷ h) alone = let none = no-fails h (no-second (Fail cell lost ∷ h) [] cell lost h alone refl) in omega arith
one-fail (Call session row op ∷ h) alone = let rest = one-fail h (λ before c l r is. alone (Call session row op ∷ before) c l r (ap (λ (g : List Entry). Call session row op ∷ g) is)) in omega arith
one-fail (Begin number name ∷ h) alone = let rest = one-fail h (λ before c l r is. alone (Begin number name ∷ before) c l r (ap (λ (g : List Entry). Begin number name ∷ g) is)) in omega arith
one-fail (Install number ∷ h) alone = let rest = one-fail h (λ before c l r is. alone (Install number ∷ before) c l r (ap (λ (g : List Entry). Install number ∷ g) is)) in omega arith
one-fail (Abandon number ∷ h) alone = let rest = one-fail h (λ before c l r is. alone (Abandon number ∷ before) c l r (ap (λ (g : List Entry). Abandon number ∷ g) is)) in omega arith

all-fail : (h : List Entry) → are_fails h ≡ true → failed_cell h ≡ None → h ≡ []
all-fail [] all none = refl
all-fail (Fail c l ∷ h) all none = absurd (cc none)
all-fail (Call session row op ∷ h) all none = absurd (cc all)
all-fail (Begin number name ∷ h) all none = absurd (cc all)
all-fail (Install number ∷ h) all none = absurd (cc all)
all-fail (Abandon number ∷ h) all none = absurd (cc all)

-- and in a legal history nothing else does
pub fail-last : (w : ℕ) (s : State) (before : List Entry) (cell : ℕ) (lost : Lost) (rest : List Entry) → IsLegal w s (before ++ Fail cell lost ∷ rest) → failed_cell rest ≡ None → rest ≡ []
fail-last w s [] cell lost rest legal none = all-fail rest legal none
fail-last w s (e ∷ before) cell lost rest legal none = fail-last w (step w s e) before cell lost rest (legal-rest w s e (before ++ Fail cell lost ∷ rest) legal) none

-- two lists with an entry at one place
pub same-place : (xs ys us vs : List Entry) (x y : Entry) → length xs ≡ length ys → xs ++ x ∷ us ≡ ys ++ y ∷ vs → (xs ≡ ys) × (x ≡ y)
same-place [] [] us vs x y long is = (refl, cc is)
same-place [] (b ∷ ys) us vs x y long is = absurd (omega arith)
same-place (a ∷ xs) [] us vs x y long is = absurd (omega arith)
same-place (a ∷ xs) (b ∷ ys) us vs x y long is =
    let head : a ≡ b = cc is in
    let tail : xs ++ x ∷ us ≡ ys ++ y ∷ vs = cc is in
    let rest = same-place xs ys us vs x y (omega arith) tail in
    ((λ i. head i ∷ rest.0 i), rest.1)
