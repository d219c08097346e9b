-- What the splits at the end add to a pass's own positions.
use Rattle.std.proofs.Common.{◌≡◌, inl, inr, ℕ, ◌+◌, Bool, false, List, [], ◌∷◌, length, Result, Ok, Err, refl, sym, ap, subst, ◌∙◌, arith}
use mathlib.Core.List.{IsPrefix}
use Rattle.plain_list.specs.declared.entries.Entry.{Entry}
use Rattle.plain_list.specs.declared.entries.Entry.TheVariants.{Begin, Install}
use Rattle.plain_list.specs.declared.entries.Lost.TheVariants as lost
use Rattle.commit_book.specs.declared.faults.BookFault.{BookFault}
use Rattle.commit_book.specs.declared.faults.BookFault.TheVariants as book
use Rattle.book_lock.specs.Pass.{Known}
use Rattle.book_lock.specs.declared.origin.Origin.{Origin}
use Rattle.book_lock.proofs.Histories.{prefix_trans, prefix_length}
use Rattle.sessions.specs.Shared.{moves_of}
use Rattle.sessions.specs.Splits.{SplitEnds, SamePass, state_of}
use Rattle.sessions.specs.Settles.{SplitsAll, SettleEnds, Settles}
use Rattle.sessions.specs.declared.faults.Settled.{Settled}
use Rattle.sessions.specs.declared.faults.Settled.TheVariants.{Small, Room}
use Rattle.sessions.specs.declared.faults.Split.TheVariants.{Installed, NotSplit}
use Rattle.sessions.proofs.StepLemmas.{same-later}
use Rattle.sessions.proofs.SplitLemmas.{begins-same, installs-same, same-none, split-same}
use Rattle.lane_history.proofs.Gains.{Idles, HasTried}
use Rattle.lane_history.proofs.Rounds.{Pairs, pairs-idle, pairs-end, pairs-begun, pairs-later}
use Rattle.lane_history.proofs.Steps.{bad, IsCalm, length-added, puts-added, left-idle, begun-room}
use Rattle.lane_history.proofs.Tries.{tried}

pub all-splits-same : (w : ℕ) (old : Known) (numbers : List ℕ) (new : Known) → SplitsAll w old numbers new → SamePass old new
all-splits-same w old [] new same = subst (SamePass old) (sym same) (same-none old)
all-splits-same w old (number ∷ numbers) new (name, mid, full, ends, rest) = same-later old mid new (split-same w name old mid (Installed number) ends) (all-splits-same w mid numbers new rest)

pub settle-ends-same : (w : ℕ) (mid new : Known) (result : Result Settled BookFault) → SettleEnds w mid new result → SamePass mid new
settle-ends-same w mid new (Ok Small) (tells, same) = subst (SamePass mid) (sym same) (same-none mid)
settle-ends-same w mid new (Ok Room) (name, full, cells, events, begins) = begins-same w name mid new (Err (book.Room cells events)) begins
settle-ends-same w mid new (Err fault) (inl (tells, same)) = subst (SamePass mid) (sym same) (same-none mid)
settle-ends-same w mid new (Err fault) (inr (name, full, is, ends)) = split-same w name mid new (NotSplit fault) ends

pub settles-same : (w : ℕ) (old new : Known) (result : Result Settled BookFault) → Settles w old new result → SamePass old new
settles-same w old new result settles = same-later old settles.mid new (all-splits-same w old settles.numbers settles.mid settles.splits) (settle-ends-same w settles.mid new result settles.ends)

-- splits at the end, from one pass to another
abbrev pub EndPairs : Origin → List Entry → Type 0 → Known → Known → Type 0
EndPairs origin h All old new = Pairs h (bad origin h) All old.own new.own (length old.seen) (length new.seen)

module _ (w : ℕ) (origin : Origin) (h : List Entry) (still : moves_of origin ≡ false) where
  one-pair : (number : ℕ) (name : List Bool) (old new : Known) → old.origin ≡ origin → SplitEnds w name old new (Installed number) → IsPrefix new.seen h → EndPairs origin h (Unit {0}) old new
  one-pair number name old new from (mid, begins, installs) pre =
      let mid-pre = prefix_trans mid.seen new.seen h (installs-same w number mid new (Ok tt) installs).0 pre in
      let a = prefix_length old.seen begins.before begins.later in
      let b = length-added old mid begins.before (Begin number name) begins.leaves in
      let c = prefix_length mid.seen installs.step.before installs.step.later in
      let d = length-added mid new installs.step.before (Install number) installs.step.leaves in
      pairs-end h (bad origin h) old.own mid.own new.own (length old.seen) (length new.seen) (length begins.before) (length installs.step.before) number name (Install number) a (omega arith) (omega arith)
      (puts-added h old mid begins.before (Begin number name) begins.leaves mid-pre) (begun-room w origin h name old mid number from still begins mid-pre) refl
      (puts-added h mid new installs.step.before (Install number) installs.step.leaves pre)

  all-pairs : (old : Known) (numbers : List ℕ) (new : Known) → old.origin ≡ origin → SplitsAll w old numbers new → IsPrefix new.seen h → EndPairs origin h (Unit {0}) old new
  all-pairs old [] new from same pre =
      let long : length new.seen ≡ length old.seen = ap (λ (k : Known). length k.seen) same in
      pairs-idle h (bad origin h) (Unit {0}) old.own new.own (length old.seen) (length new.seen) (omega arith) (inl (ap (λ (k : Known). k.own) same))
  all-pairs old (number ∷ numbers) new from (name, mid, full, ends, rest) pre =
      let mid-pre = prefix_trans mid.seen new.seen h (all-splits-same w mid numbers new rest).0 pre in
      let mid-from : mid.origin ≡ origin = ap (λ (k : Known). k.origin) (split-same w name old mid (Installed number) ends).1 ∙ from in
      pairs-later h (bad origin h) (Unit {0}) old.own mid.own new.own (length old.seen) (length mid.seen) (length mid.seen) (length new.seen) (omega arith) (one-pair number name old mid from ends mid-pre)
      (all-pairs mid numbers new mid-from rest pre)

  end-idle : (All : Type 0) (mid new : Known) → SamePass mid new → Idles h mid.own new.own → EndPairs origin h All mid new
  end-idle All mid new same idle = pairs-idle h (bad origin h) All mid.own new.own (length mid.seen) (length new.seen) (prefix_length mid.seen new.seen same.0) idle

  -- where it ended well
  end-well : (All : Type 0) (mid new : Known) (s : Settled) → SettleEnds w mid new (Ok s) → IsPrefix new.seen h → EndPairs origin h All mid new
  end-well All mid new Small (tells, same) pre = end-idle All mid new (settle-ends-same w mid new (Ok Small) (tells, same)) (inl (ap (λ (k : Known). k.own) same))
  end-well All mid new Room (name, full, cells, events, begins) pre =
      end-idle All mid new (begins-same w name mid new (Err (book.Room cells events)) begins)
      (left-idle (λ (number : ℕ). Begin number name) (λ (g : List Entry). lost.Begin ((state_of w mid.origin g).begun + 1) name) h mid begins.before new (book.Room cells events) begins.leaves pre)

  end-try : (mid new : Known) → SamePass mid new → HasTried h (bad origin h) (IsCalm origin h) (length mid.seen) mid.own new.own → EndPairs origin h ⊥ mid new
  end-try mid new same (inl idle) = end-idle ⊥ mid new same idle
  end-try mid new same (inr begun) = pairs-begun h (bad origin h) (IsCalm origin h) mid.own new.own (length mid.seen) (length new.seen) (prefix_length mid.seen new.seen same.0) begun

  end-any : (mid new : Known) (result : Result Settled BookFault) → mid.origin ≡ origin → SettleEnds w mid new result → IsPrefix new.seen h → EndPairs origin h ⊥ mid new
  end-any mid new (Ok s) from ends pre = end-well ⊥ mid new s ends pre
  end-any mid new (Err fault) from (inl (tells, same)) pre = end-idle ⊥ mid new (settle-ends-same w mid new (Err fault) (inl (tells, same))) (inl (ap (λ (k : Known). k.own) same))
  end-any mid new (Err fault) from (inr (name, full, is, ends)) pre = end-try mid new (split-same w name mid new (NotSplit fault) ends) (tried w origin h still name mid new (NotSplit fault) from ends pre)

  before-end : (old new : Known) (result : Result Settled BookFault) → old.origin ≡ origin → (settles : Settles w old new result) → IsPrefix new.seen h → EndPairs origin h (Unit {0}) old settles.mid
  before-end old new result from settles pre =
      all-pairs old settles.numbers settles.mid from settles.splits (prefix_trans settles.mid.seen new.seen h (settle-ends-same w settles.mid new result settles.ends).0 pre)

  -- at most one split stays open
  pub settles-pairs : (old new : Known) (result : Result Settled BookFault) → old.origin ≡ origin → Settles w old new result → IsPrefix new.seen h → EndPairs origin h ⊥ old new
  settles-pairs old new result from settles pre =
      let mid-from : settles.mid.origin ≡ origin = ap (λ (k : Known). k.origin) (all-splits-same w old settles.numbers settles.mid settles.splits).1 ∙ from in
      pairs-later h (bad origin h) ⊥ old.own settles.mid.own new.own (length old.seen) (length settles.mid.seen) (length settles.mid.seen) (length new.seen) (omega arith)
      (before-end old new result from settles pre) (end-any settles.mid new result mid-from settles.ends pre)

  -- and none where it ended well
  pub settles-well : (old new : Known) (s : Settled) → old.origin ≡ origin → Settles w old new (Ok s) → IsPrefix new.seen h → EndPairs origin h (Unit {0}) old new
  settles-well old new s from settles pre =
      pairs-later h (bad origin h) (Unit {0}) old.own settles.mid.own new.own (length old.seen) (length settles.mid.seen) (length settles.mid.seen) (length new.seen) (omega arith)
      (before-end old new (Ok s) from settles pre) (end-well (Unit {0}) settles.mid new s settles.ends pre)
