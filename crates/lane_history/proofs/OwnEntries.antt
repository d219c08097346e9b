-- The entries of a history at own positions.
use Rattle.std.proofs.Common.{◌≡◌, ◌≢◌, ◌⊎◌, inl, inr, ℕ, zero, suc, ◌+◌, ◌<◌, ◌≤◌, Bool, true, false, cond, List, [], ◌∷◌, ◌++◌, length, refl, sym, ap, ◌∙◌, arith}
use Rattle.std.proofs.lemmas.Bool.Decides.{nat_tests}
use Rattle.std.specs.Prelude.{nat_lt}
use mathlib.Core.List.{IsPrefix, append-nil}
use Rattle.plain_list.specs.declared.entries.Entry.{Entry}
use Rattle.book_lock.specs.Own.{times, Owns, IsBelow, once_below}
use Rattle.book_lock.proofs.Positions.{times-append, one_same, one_other, once_below-in}

-- of a history that begins at this position, the entries at these positions
abbrev pub own_entries : ℕ → List ℕ → List Entry → List Entry
own_entries at own [] = []
own_entries at own (e ∷ h) = cond (nat_lt 0 (times at own)) (e ∷ own_entries (at + 1) own h) (own_entries (at + 1) own h)

own-yes : (n : ℕ) → 1 ≤ n → nat_lt 0 n ≡ true
own-yes n more = grind (arith, nat_tests)

own-no : (n : ℕ) → n ≡ 0 → nat_lt 0 n ≡ false
own-no n none = grind (arith, nat_tests)

pub own-one : (at : ℕ) (own : List ℕ) (e : Entry) (h : List Entry) → Owns own at → own_entries at own (e ∷ h) ≡ e ∷ own_entries (at + 1) own h
own-one at own e h is = ap (λ (b : Bool). cond b (e ∷ own_entries (at + 1) own h) (own_entries (at + 1) own h)) (own-yes (times at own) is)

pub own-skip : (at : ℕ) (own : List ℕ) (e : Entry) (h : List Entry) → times at own ≡ 0 → own_entries at own (e ∷ h) ≡ own_entries (at + 1) own h
own-skip at own e h is = ap (λ (b : Bool). cond b (e ∷ own_entries (at + 1) own h) (own_entries (at + 1) own h)) (own-no (times at own) is)

-- a position is own or not
abbrev pub OwnsOrNot : ℕ → List ℕ → Type 0
OwnsOrNot p own = Owns own p ⊎ (times p own ≡ 0)

pub owns-or-not : (p : ℕ) (own : List ℕ) → OwnsOrNot p own
owns-or-not p own = by_count (times p own) refl
  where
    by_count : (n : ℕ) → times p own ≡ n → OwnsOrNot p own
    by_count zero is = inr is
    by_count (suc n) is = inl (omega arith)

-- none of them behind all positions
pub own-none : (at : ℕ) (own : List ℕ) (h : List Entry) → ((p : ℕ) → at ≤ p → times p own ≡ 0) → own_entries at own h ≡ []
own-none at own [] none = refl
own-none at own (e ∷ h) none = own-skip at own e h (none at (omega arith)) ∙ own-none (at + 1) own h (λ p le. none p (omega arith))

pub own-append : (at : ℕ) (own : List ℕ) (h g : List Entry) → own_entries at own (h ++ g) ≡ own_entries at own h ++ own_entries (at + length h) own g
own-append at own [] g = ap (λ (n : ℕ). own_entries n own g) (let e : at ≡ at + 0 = omega arith in e)
own-append at own (e ∷ h) g = by_test (own-append (at + 1) own h g ∙ ap (λ (n : ℕ). own_entries (at + 1) own h ++ own_entries n own g) count) (nat_lt 0 (times at own))
  where
    count : at + 1 + length h ≡ at + length (e ∷ h)
    count = omega arith

    by_test : own_entries (at + 1) own (h ++ g) ≡ own_entries (at + 1) own h ++ own_entries (at + length (e ∷ h)) own g → (b : Bool) → cond b (e ∷ own_entries (at + 1) own (h ++ g)) (own_entries (at + 1) own (h ++ g)) ≡ cond b (e ∷ own_entries (at + 1) own h) (own_entries (at + 1) own h) ++ own_entries (at + length (e ∷ h)) own g
    by_test rest true = ap (λ (l : List Entry). e ∷ l) rest
    by_test rest false = rest

-- positions within the history alone count
pub own-same : (at : ℕ) (own more : List ℕ) (h : List Entry) → ((p : ℕ) → p < at + length h → times p more ≡ times p own) → own_entries at more h ≡ own_entries at own h
own-same at own more [] same = refl
own-same at own more (e ∷ h) same =
    let here : times at more ≡ times at own = same at (omega arith) in
    let rest : own_entries (at + 1) more h ≡ own_entries (at + 1) own h = own-same (at + 1) own more h (λ p lt. same p (omega arith)) in
    λ i. cond (nat_lt 0 (here i)) (e ∷ rest i) (rest i)

-- more was seen, and nothing more is own
pub own-seen : (own : List ℕ) (seen before : List Entry) → IsBelow (length seen) own → IsPrefix seen before → own_entries 0 own before ≡ own_entries 0 own seen
own-seen own seen before below (rest, is) =
    ap (own_entries 0 own) (sym is) ∙ own-append 0 own seen rest ∙ ap (λ (l : List Entry). own_entries 0 own seen ++ l) (own-none (0 + length seen) own rest past) ∙ append-nil (own_entries 0 own seen)
  where
    past : (p : ℕ) → 0 + length seen ≤ p → times p own ≡ 0
    past p le = by_owner (owns-or-not p own)
      where
        by_owner : OwnsOrNot p own → times p own ≡ 0
        by_owner (inl is) = let b = below p is in absurd (omega arith)
        by_owner (inr none) = none

-- the newest entry, and no other, became own
pub own-added : (own : List ℕ) (before : List Entry) (e : Entry) → own_entries 0 (own ++ length before ∷ []) (before ++ e ∷ []) ≡ own_entries 0 own before ++ e ∷ []
own-added own before e =
    let more : List ℕ = own ++ length before ∷ [] in
    let last : own_entries (0 + length before) more (e ∷ []) ≡ e ∷ [] = own-one (0 + length before) more e [] here in
    own-append 0 more before (e ∷ []) ∙ (λ i. own-same 0 own more before same i ++ last i)
  where
    zero-add : 0 + length before ≡ length before
    zero-add = omega arith

    here : Owns (own ++ length before ∷ []) (0 + length before)
    here = let a = times-append (0 + length before) own (length before ∷ []) in let b = one_same (length before) (0 + length before) (sym zero-add) in omega arith

    same : (p : ℕ) → p < 0 + length before → times p (own ++ length before ∷ []) ≡ times p own
    same p lt =
        let apart : length before ≢ p = (λ e. omega arith) in
        let a = times-append p own (length before ∷ []) in
        let b = one_other (length before) p apart in
        omega arith

-- all entries are own
pub own-all : (at : ℕ) (own : List ℕ) (h : List Entry) → ((p : ℕ) → at ≤ p → p < at + length h → Owns own p) → own_entries at own h ≡ h
own-all at own [] all = refl
own-all at own (e ∷ h) all = own-one at own e h (all at (omega arith) (omega arith)) ∙ ap (λ (l : List Entry). e ∷ l) (own-all (at + 1) own h (λ p le lt. all p (omega arith) (omega arith)))

pub own-whole : (own : List ℕ) (h : List Entry) → ((p : ℕ) → times p own ≡ once_below p (length h)) → own_entries 0 own h ≡ h
own-whole own h whole = own-all 0 own h (λ p le lt. let a = whole p in let b = once_below-in p (length h) (omega arith) in omega arith)
