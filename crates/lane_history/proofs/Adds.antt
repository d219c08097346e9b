-- A pass that goes on.
use Rattle.std.proofs.Common.{◌≡◌, ◌≢◌, ◌⊎◌, ℕ, List, [], ◌∷◌, ◌++◌, length, inl, inr, refl, sym, ap, subst, ◌∙◌, append_assoc, length-append, arith}
use Rattle.std.specs.Prelude.{⊤, None}
use mathlib.Core.Logic.{dite}
use native.Mathlib.Decide.{ℕ_discrete}
use mathlib.Core.List.{IsPrefix, append-nil}
use Rattle.plain_list.specs.declared.ops.Op.{Op}
use Rattle.plain_list.specs.declared.entries.Entry.{Entry}
use Rattle.plain_list.specs.declared.entries.Entry.TheVariants.{Fail, Call, Begin, Install, Abandon}
use Rattle.plain_list.specs.declared.entries.Lost.{Lost}
use Rattle.plain_list.specs.History.{failed_cell}
use Rattle.plain_list.specs.Played.{calls_of}
use Rattle.book_lock.specs.Pass.{Known}
use Rattle.book_lock.specs.Own.{Owns, IsBelow}
use Rattle.book_lock.proofs.Positions.{IsBelow-snoc, times-append, one_other}
use Rattle.book_lock.proofs.Histories.{prefix_refl, prefix_trans, prefix_length}
use Rattle.sessions.specs.Steps.{has_seen, has_added}
use Rattle.lane_history.proofs.OwnEntries.{own_entries, own-seen, own-added}
use Rattle.lane_history.proofs.CallsOf.{calls-append}

-- a step that was lost was one of these behind the history, and no append had failed there
abbrev pub LostSo : (List Entry → Lost → Type 0) → List Entry → Entry → Type 0
LostSo Step before (Fail cell lost) = Step before lost × (failed_cell before ≡ None)
LostSo Step before (Call session row op) = ⊤
LostSo Step before (Begin number name) = ⊤
LostSo Step before (Install number) = ⊤
LostSo Step before (Abandon number) = ⊤

lost-weaken : (Step More : List Entry → Lost → Type 0) → ((before : List Entry) (l : Lost) → Step before l → More before l) → (before : List Entry) (e : Entry) → LostSo Step before e → LostSo More before e
lost-weaken Step More more before (Fail cell lost) is = (more before lost is.0, is.1)
lost-weaken Step More more before (Call session row op) is = tt
lost-weaken Step More more before (Begin number name) is = tt
lost-weaken Step More more before (Install number) is = tt
lost-weaken Step More more before (Abandon number) is = tt

-- the pass has added these entries, maybe others did between them, and it has maybe seen more
abbrev pub Adds : (List Entry → Lost → Type 0) → Known → List Entry → Known → Type 0
Adds Step old [] new = (before : List Entry) × IsPrefix old.seen before × (new ≡ has_seen old before)
Adds Step old (e ∷ es) new = (before : List Entry) × IsPrefix old.seen before × LostSo Step before e × Adds Step (has_added old before e) es new

-- a position of a history: what stands there, and what was lost there
pub record IsAdded (Step : List Entry → Lost → Type 0) (h : List Entry) (p : ℕ) : Type 0 where
  pub before : List Entry
  pub entry : Entry
  pub place : length before ≡ p
  pub seen : IsPrefix (before ++ entry ∷ []) h
  pub lost : LostSo Step before entry

module _ (Step : List Entry → Lost → Type 0) where
  pub adds-none : (old : Known) → Adds Step old [] old
  adds-none old = (old.seen, prefix_refl old.seen, refl)

  pub adds-one : (old new : Known) (before : List Entry) (e : Entry) → IsPrefix old.seen before → LostSo Step before e → new ≡ has_added old before e → Adds Step old (e ∷ []) new
  adds-one old new before e later lost is = (before, later, lost, (before ++ e ∷ [], prefix_refl (before ++ e ∷ []), is))

  -- from an earlier history
  adds-earlier : (old new : Known) (before : List Entry) (es : List Entry) → IsPrefix old.seen before → Adds Step (has_seen old before) es new → Adds Step old es new
  adds-earlier old new before [] later (after, more, is) = (after, prefix_trans old.seen before after later more, is)
  adds-earlier old new before (e ∷ es) later (after, more, lost, rest) = (after, prefix_trans old.seen before after later more, lost, rest)

  pub adds-trans : (old mid new : Known) (es fs : List Entry) → Adds Step old es mid → Adds Step mid fs new → Adds Step old (es ++ fs) new
  adds-trans old mid new [] fs (before, later, is) rest = adds-earlier old new before fs later (subst (λ (k : Known). Adds Step k fs new) is rest)
  adds-trans old mid new (e ∷ es) fs (before, later, lost, more) rest = (before, later, lost, adds-trans (has_added old before e) mid new es fs more rest)

  -- what it had seen is a beginning of what it has seen
  pub adds-later : (old new : Known) (es : List Entry) → Adds Step old es new → IsPrefix old.seen new.seen
  adds-later old new [] (before, later, is) = subst (λ (k : Known). IsPrefix old.seen k.seen) (sym is) later
  adds-later old new (e ∷ es) (before, later, lost, more) =
      prefix_trans old.seen before new.seen later (prefix_trans before (before ++ e ∷ []) new.seen (e ∷ [], refl) (adds-later (has_added old before e) new es more))

  pub adds-origin : (old new : Known) (es : List Entry) → Adds Step old es new → new.origin ≡ old.origin
  adds-origin old new [] (before, later, is) = ap (λ (k : Known). k.origin) is
  adds-origin old new (e ∷ es) (before, later, lost, more) = adds-origin (has_added old before e) new es more

  -- an own position that is new: what stands there, and what was lost there
  pub adds-at : (old new : Known) (es : List Entry) → Adds Step old es new → (p : ℕ) → Owns new.own p → Owns old.own p ⊎ IsAdded Step new.seen p
  adds-at old new [] (before, later, is) p owns = inl (subst (λ (k : Known). Owns k.own p) is owns)
  adds-at old new (e ∷ es) (before, later, lost, more) p owns = by_step (adds-at (has_added old before e) new es more p owns) (adds-later (has_added old before e) new es more)
    where
      by_step : Owns (old.own ++ length before ∷ []) p ⊎ IsAdded Step new.seen p → IsPrefix (before ++ e ∷ []) new.seen → Owns old.own p ⊎ IsAdded Step new.seen p
      by_step (inr added) seen = inr added
      by_step (inl has) seen = dite (ℕ_discrete (length before) p)
          (λ (same : length before ≡ p). inr record { before = before; entry = e; place = same; seen = seen; lost = lost })
          (λ (apart : length before ≢ p). let a = times-append p old.own (length before ∷ []) in let b = one_other (length before) p apart in inl (omega arith))

pub adds-weaken : (Step More : List Entry → Lost → Type 0) → ((before : List Entry) (l : Lost) → Step before l → More before l) → (old new : Known) (es : List Entry) → Adds Step old es new → Adds More old es new
adds-weaken Step More more old new [] adds = adds
adds-weaken Step More more old new (e ∷ es) (before, later, lost, rest) = (before, later, lost-weaken Step More more before e lost, adds-weaken Step More more (has_added old before e) new es rest)

-- its own positions lie in what it has seen
below-seen : (own : List ℕ) (seen before : List Entry) → IsPrefix seen before → IsBelow (length seen) own → IsBelow (length before) own
below-seen own seen before later below p is = let a = below p is in let b = prefix_length seen before later in omega arith

below-added : (own : List ℕ) (before : List Entry) (e : Entry) → IsBelow (length before) own → IsBelow (length (before ++ e ∷ [])) (own ++ length before ∷ [])
below-added own before e below = subst (λ (n : ℕ). IsBelow n (own ++ length before ∷ [])) (sym (length-append before (e ∷ []))) (IsBelow-snoc own (length before) below)

-- the entries at its own positions
abbrev pub own_of : Known → List Entry
own_of pass = own_entries 0 pass.own pass.seen

module _ (Step : List Entry → Lost → Type 0) where
  pub adds-below : (old new : Known) (es : List Entry) → Adds Step old es new → IsBelow (length old.seen) old.own → IsBelow (length new.seen) new.own
  adds-below old new [] (before, later, is) below = subst (λ (k : Known). IsBelow (length k.seen) k.own) (sym is) (below-seen old.own old.seen before later below)
  adds-below old new (e ∷ es) (before, later, lost, more) below = adds-below (has_added old before e) new es more (below-added old.own before e (below-seen old.own old.seen before later below))

  pub adds-own : (old new : Known) (es : List Entry) → Adds Step old es new → IsBelow (length old.seen) old.own → own_of new ≡ own_of old ++ es
  adds-own old new [] (before, later, is) below = ap own_of is ∙ own-seen old.own old.seen before below later ∙ sym (append-nil (own_of old))
  adds-own old new (e ∷ es) (before, later, lost, more) below =
      adds-own (has_added old before e) new es more (below-added old.own before e (below-seen old.own old.seen before later below))
      ∙ ap (λ (l : List Entry). l ++ es) (own-added old.own before e ∙ ap (λ (l : List Entry). l ++ e ∷ []) (own-seen old.own old.seen before below later))
      ∙ append_assoc (own_of old) (e ∷ []) es

-- A pass has added calls of one session, and maybe entries that are no calls.
pub record AddsOf (Step : List Entry → Lost → Type 0) (s : ℕ) (calls : List (ℕ × Op)) (old new : Known) : Type 0 where
  pub entries : List Entry
  pub adds : Adds Step old entries new
  pub mine : calls_of s entries ≡ calls
  pub others : (t : ℕ) → t ≢ s → calls_of t entries ≡ []

-- it has added no call
pub record AddsQuiet (Step : List Entry → Lost → Type 0) (old new : Known) : Type 0 where
  pub entries : List Entry
  pub adds : Adds Step old entries new
  pub quiet : (t : ℕ) → calls_of t entries ≡ []

module _ (Step : List Entry → Lost → Type 0) where
  pub quiet-of : (s : ℕ) (old new : Known) → AddsQuiet Step old new → AddsOf Step s [] old new
  quiet-of s old new adds = record { entries = adds.entries; adds = adds.adds; mine = adds.quiet s; others = λ t apart. adds.quiet t }

  pub quiet-seen : (old new : Known) (before : List Entry) → IsPrefix old.seen before → new ≡ has_seen old before → AddsQuiet Step old new
  quiet-seen old new before later is = record { entries = []; adds = (before, later, is); quiet = λ t. refl }

  pub quiet-same : (old new : Known) → new ≡ old → AddsQuiet Step old new
  quiet-same old new is = quiet-seen old new old.seen (prefix_refl old.seen) is

  pub quiet-one : (old new : Known) (before : List Entry) (e : Entry) → IsPrefix old.seen before → LostSo Step before e → ((t : ℕ) → calls_of t (e ∷ []) ≡ []) → new ≡ has_added old before e → AddsQuiet Step old new
  quiet-one old new before e later lost quiet is = record { entries = e ∷ []; adds = adds-one Step old new before e later lost is; quiet = quiet }

  pub quiet-trans : (old mid new : Known) → AddsQuiet Step old mid → AddsQuiet Step mid new → AddsQuiet Step old new
  quiet-trans old mid new a b = record {
    entries = a.entries ++ b.entries;
    adds = adds-trans Step old mid new a.entries b.entries a.adds b.adds;
    quiet = λ t. calls-append t a.entries b.entries ∙ (λ i. a.quiet t i ++ b.quiet t i);
  }

  pub calls-none : (s : ℕ) (old : Known) → AddsOf Step s [] old old
  calls-none s old = quiet-of s old old (quiet-same old old refl)

  pub calls-trans : (s : ℕ) (xs ys : List (ℕ × Op)) (old mid new : Known) → AddsOf Step s xs old mid → AddsOf Step s ys mid new → AddsOf Step s (xs ++ ys) old new
  calls-trans s xs ys old mid new a b = record {
    entries = a.entries ++ b.entries;
    adds = adds-trans Step old mid new a.entries b.entries a.adds b.adds;
    mine = calls-append s a.entries b.entries ∙ (λ i. a.mine i ++ b.mine i);
    others = λ t apart. calls-append t a.entries b.entries ∙ (λ i. a.others t apart i ++ b.others t apart i);
  }

pub of-weaken : (Step More : List Entry → Lost → Type 0) → ((before : List Entry) (l : Lost) → Step before l → More before l) → (s : ℕ) (calls : List (ℕ × Op)) (old new : Known) → AddsOf Step s calls old new → AddsOf More s calls old new
of-weaken Step More more s calls old new a = record { entries = a.entries; adds = adds-weaken Step More more old new a.entries a.adds; mine = a.mine; others = a.others }
