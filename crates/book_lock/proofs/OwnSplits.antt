-- A split that a pass began is open until this pass ends it.
use Rattle.std.proofs.Common.{◌≡◌, ◌≢◌, ℕ, List, [], ◌∷◌, ◌++◌, length, Bool, refl, ap, subst, inl, inr, arith}
use mathlib.Core.List.{IsPrefix}
use Rattle.std.specs.Prelude.{Some, slice_get}
use Rattle.plain_list.specs.declared.entries.Entry.{Entry}
use Rattle.plain_list.specs.declared.entries.Entry.TheVariants.{Begin, Install, Abandon}
use Rattle.plain_list.specs.State.{OpenSplit, State, split_name, state_after, IsLegal}
use Rattle.book_lock.specs.Own.{Owns, IsBelow}
use Rattle.book_lock.specs.Ends.{IsBegin, IsEnd, OwnsEnds, MayNote}
use Rattle.book_lock.proofs.Histories.{get_prefix, get_last}
use Rattle.book_lock.proofs.Positions.{times-append, one_same, one_other}
use Rattle.book_lock.proofs.OpenSplits.{Numbered, begin_once, end_begun, begun_open}

-- The begin is where it was noted.
pub begun_here : (seen more : List Entry) (n : ℕ) (name : List Bool) → IsPrefix (seen ++ Begin n name ∷ []) more → slice_get more (length seen) ≡ Some (Begin n name)
begun_here seen more n name p = get_prefix (seen ++ Begin n name ∷ []) more (length seen) (Begin n name) p (get_last seen (Begin n name))

pub owns_last : (own : List ℕ) (q : ℕ) → Owns (own ++ q ∷ []) q
owns_last own q = let a = times-append q own (q ∷ []) in let b = one_same q q refl in omega arith

-- A pass began a split as its newest entry. When it takes the lock again, no other pass has ended the split.
pub not_ended : (w : ℕ) (s : State) (seen more : List Entry) (own : List ℕ) (n : ℕ) (name : List Bool) → s.splits ≡ [] → IsLegal w s more
    → IsPrefix (seen ++ Begin n name ∷ []) more → IsBelow (length seen) own → OwnsEnds more (own ++ length seen ∷ []) → (p : ℕ) → ¬ IsEnd more p n
not_ended w s seen more own n name rest legal pre below ends at end =
    let q : ℕ = length seen in
    let here : IsBegin more q n = (name, begun_here seen more n name pre) in
    let owned = ends n q here (λ r b. begin_once w s more legal n q r here b) (owns_last own q) at end in
    let (r, early, first) = end_begun w s more legal n at (ap (λ (l : List OpenSplit). split_name l n) rest) end in
    let same : r ≡ q = begin_once w s more legal n q r here first in
    let a = times-append at own (q ∷ []) in
    let apart : q ≢ at = (λ e. omega arith) in
    let b = one_other q at apart in
    let low = below at (omega arith) in
    omega arith

-- The split is still open, under its name.
pub stays_open : (w : ℕ) (s : State) (seen more : List Entry) (own : List ℕ) (n : ℕ) (name : List Bool) → s.splits ≡ [] → IsLegal w s more
    → IsPrefix (seen ++ Begin n name ∷ []) more → IsBelow (length seen) own → OwnsEnds more (own ++ length seen ∷ []) → split_name (state_after w s more).splits n ≡ Some name
stays_open w s seen more own n name rest legal pre below ends =
    let numbered : Numbered s = (λ k above. ap (λ (l : List OpenSplit). split_name l k) rest) in
    begun_open w s more legal numbered (length seen) n name (begun_here seen more n name pre) (not_ended w s seen more own n name rest legal pre below ends)

-- The pass may note the end.
pub may_install : (seen more : List Entry) (own : List ℕ) (n : ℕ) (name : List Bool) → IsPrefix (seen ++ Begin n name ∷ []) more → MayNote more (own ++ length seen ∷ []) (Install n)
may_install seen more own n name p m (inl e) = let same : n ≡ m = cc (e) in (length seen, owns_last own (length seen), subst (IsBegin more (length seen)) same (name, begun_here seen more n name p))
may_install seen more own n name p m (inr e) = absurd (cc (e))

pub may_abandon : (seen more : List Entry) (own : List ℕ) (n : ℕ) (name : List Bool) → IsPrefix (seen ++ Begin n name ∷ []) more → MayNote more (own ++ length seen ∷ []) (Abandon n)
may_abandon seen more own n name p m (inl e) = absurd (cc (e))
may_abandon seen more own n name p m (inr e) = let same : n ≡ m = cc (e) in (length seen, owns_last own (length seen), subst (IsBegin more (length seen)) same (name, begun_here seen more n name p))
