-- What the tries to split add to a pass's own positions.
use Rattle.std.proofs.Common.{◌≡◌, inl, inr, ℕ, ◌+◌, Bool, false, List, length, Option, Some, None, Ok, Err, refl, sym, ap, subst, ◌∙◌, arith}
use mathlib.Core.List.{IsPrefix}
use Rattle.std.specs.Prelude.{⊤}
use Rattle.plain_list.specs.declared.entries.Entry.{Entry}
use Rattle.plain_list.specs.declared.entries.Entry.TheVariants.{Begin, Install, Abandon}
use Rattle.plain_list.specs.declared.entries.Lost.TheVariants as lost
use Rattle.commit_book.specs.Refusals.{IsDisk, IsMemoryOrDisk}
use Rattle.commit_book.specs.declared.faults.BookFault.{BookFault}
use Rattle.commit_book.specs.declared.faults.BookFault.TheVariants as book
use Rattle.book_lock.specs.Pass.{Known}
use Rattle.book_lock.specs.declared.origin.Origin.{Origin}
use Rattle.book_lock.proofs.Histories.{prefix_trans, prefix_length}
use Rattle.sessions.specs.Shared.{moves_of}
use Rattle.sessions.specs.Splits.{BeginsSplit, InstallsSplit, GivesUp, RanOut, NotInstalled, SplitEnds, SamePass, state_of}
use Rattle.sessions.specs.Lanes.{Tries}
use Rattle.sessions.specs.declared.faults.Split.{Split}
use Rattle.sessions.specs.declared.faults.Split.TheVariants.{Installed, NotSplit}
use Rattle.sessions.proofs.SplitLemmas.{installs-same, not-same, same-none}
use Rattle.lane_history.proofs.Gains.{Puts, Idles, Closes, Begun, HasTried}
use Rattle.lane_history.proofs.Steps.{bad, IsCalm, length-added, puts-added, left-idle, calm-not, lasting-disk, begun-room}

-- memory ran out: nothing more is own
record HasRan (mid seen : Known) : Type 0 where
  pub same : SamePass mid seen
  pub own : seen.own ≡ mid.own

has-ran : (w number : ℕ) (mid seen : Known) → RanOut w number mid seen → HasRan mid seen
has-ran w number mid seen (inl same) = record { same = subst (SamePass mid) (sym same) (same-none mid); own = ap (λ (k : Known). k.own) same }
has-ran w number mid seen (inr step) = record { same = installs-same w number mid seen (Err book.Memory) step; own = ap (λ (k : Known). k.own) step.step.leaves }

module _ (w : ℕ) (origin : Origin) (h : List Entry) (still : moves_of origin ≡ false) where
  -- a split that was given up
  closes-gives : (number : ℕ) (mid seen new : Known) (fault : BookFault) → HasRan mid seen → seen.origin ≡ origin → GivesUp w number seen new fault → IsPrefix new.seen h
      → Closes h (IsCalm origin h) (length mid.seen) mid.own new.own
  closes-gives number mid seen new fault ran from (inl (memory, step)) pre =
      let puts = puts-added h seen new step.step.before (Abandon number) step.step.leaves pre in
      let a = prefix_length mid.seen seen.seen ran.same.0 in
      let b = prefix_length seen.seen step.step.before step.step.later in
      inl (length step.step.before, Abandon number, refl, omega arith, subst (λ (own : List ℕ). Puts h own new.own (length step.step.before) (Abandon number)) ran.own puts)
  closes-gives number mid seen new fault ran from (inr step) pre = inr (
    subst (λ (own : List ℕ). Idles h own new.own) ran.own
        (left-idle (λ (done : Unit {0}). Abandon number) (λ (g : List Entry). lost.Abandon number) h seen step.step.before new fault step.step.leaves pre),
    calm-not IsDisk (λ (done : Unit {0}). Abandon number) (λ (g : List Entry). lost.Abandon number) (λ (g : List Entry) (done : Unit {0}). ⊤) origin h seen new fault from still step.step (λ (free : IsDisk fault). free) pre,
  )

  -- a split that wasn't installed
  closes-not : (number : ℕ) (mid new : Known) (fault : BookFault) → mid.origin ≡ origin → NotInstalled w number mid new fault → IsPrefix new.seen h → Closes h (IsCalm origin h) (length mid.seen) mid.own new.own
  closes-not number mid new fault from (inl (lasting, step)) pre = inr (
    left-idle (λ (done : Unit {0}). Install number) (λ (g : List Entry). lost.Install number) h mid step.step.before new fault step.step.leaves pre,
    calm-not IsMemoryOrDisk (λ (done : Unit {0}). Install number) (λ (g : List Entry). lost.Install number) (λ (g : List Entry) (done : Unit {0}). ⊤) origin h mid new fault from still step.step (lasting-disk fault lasting) pre,
  )
  closes-not number mid new fault from (inr (seen, ran, gives)) pre =
      let has = has-ran w number mid seen ran in
      closes-gives number mid seen new fault has (ap (λ (k : Known). k.origin) has.same.1 ∙ from) gives pre

  -- a split that was installed
  closes-installed : (number : ℕ) (mid new : Known) → InstallsSplit w number mid new (Ok tt) → IsPrefix new.seen h → Closes h (IsCalm origin h) (length mid.seen) mid.own new.own
  closes-installed number mid new step pre =
      let a = prefix_length mid.seen step.step.before step.step.later in
      inl (length step.step.before, Install number, refl, omega arith, puts-added h mid new step.step.before (Install number) step.step.leaves pre)

  -- a split that was begun, and what came of it
  begun-closes : (name : List Bool) (old mid new : Known) (number : ℕ) → old.origin ≡ origin → BeginsSplit w name old mid (Ok number) → IsPrefix mid.seen h → Closes h (IsCalm origin h) (length mid.seen) mid.own new.own
      → Begun h (bad origin h) (IsCalm origin h) (length old.seen) old.own new.own
  begun-closes name old mid new number from begins pre closes = record {
    place = length begins.before;
    number = number;
    name = name;
    mid = mid.own;
    later = prefix_length old.seen begins.before begins.later;
    puts = puts-added h old mid begins.before (Begin number name) begins.leaves pre;
    room = begun-room w origin h name old mid number from still begins pre;
    closes = subst (λ (n : ℕ). Closes h (IsCalm origin h) n mid.own new.own) (length-added old mid begins.before (Begin number name) begins.leaves) closes;
  }

  mid-origin : (name : List Bool) (old mid : Known) (number : ℕ) → old.origin ≡ origin → BeginsSplit w name old mid (Ok number) → mid.origin ≡ origin
  mid-origin name old mid number from begins = ap (λ (k : Known). k.origin) begins.leaves ∙ from

  -- a try to split
  pub tried : (name : List Bool) (old new : Known) (split : Split) → old.origin ≡ origin → SplitEnds w name old new split → IsPrefix new.seen h
      → HasTried h (bad origin h) (IsCalm origin h) (length old.seen) old.own new.own
  tried name old new (Installed number) from (mid, begins, installs) pre =
      let mid-pre = prefix_trans mid.seen new.seen h (installs-same w number mid new (Ok tt) installs).0 pre in
      inr (begun-closes name old mid new number from begins mid-pre (closes-installed number mid new installs pre))
  tried name old new (NotSplit fault) from (inl step) pre =
      inl (left-idle (λ (number : ℕ). Begin number name) (λ (g : List Entry). lost.Begin ((state_of w old.origin g).begun + 1) name) h old step.before new fault step.leaves pre)
  tried name old new (NotSplit fault) from (inr (number, mid, begins, not)) pre =
      let mid-pre = prefix_trans mid.seen new.seen h (not-same w number mid new fault not).0 pre in
      inr (begun-closes name old mid new number from begins mid-pre (closes-not number mid new fault (mid-origin name old mid number from begins) not pre))

  -- where a leaf was told
  pub told-tried : (full : Option (List Bool)) (old new : Known) (split : Option Split) → old.origin ≡ origin → Tries w full old new split → IsPrefix new.seen h
      → HasTried h (bad origin h) (IsCalm origin h) (length old.seen) old.own new.own
  told-tried None old new split from (none, same) pre = inl (inl (ap (λ (k : Known). k.own) same))
  told-tried (Some name) old new split from (s, is, ends) pre = tried name old new s from ends pre
