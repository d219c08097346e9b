-- Passes of lanes as they are joined, and what the lanes leave.
use Rattle.std.proofs.Common.{◌≡◌, inl, inr, ℕ, ◌+◌, ◌<◌, false, List, [], ◌∷◌, ◌++◌, length, take, drop, Result, Ok, Err, refl, sym, ap, subst, ◌∙◌, arith}
use Rattle.std.specs.Prelude.{is_ok, slice_index_or}
use Rattle.std.proofs.lemmas.List.{append-nil, append_assoc, drop_all, take_all}
use mathlib.Core.List.{IsPrefix}
use Rattle.csv_rows.specs.declared.rows.InRow.{InRow}
use Rattle.atomic_table.specs.Seated.{TableId}
use Rattle.book_lock.specs.Pass.{Known}
use Rattle.book_lock.specs.Own.{times, merge}
use Rattle.book_lock.specs.Ends.{longer}
use Rattle.book_lock.specs.declared.origin.Origin.{Origin}
use Rattle.commit_book.specs.declared.faults.BookFault.{BookFault}
use Rattle.sessions.specs.declared.faults.Settled.{Settled}
use Rattle.sessions.specs.declared.store.lanes.Lane.{Lane}
use Rattle.sessions.specs.Settles.{Settles}
use Rattle.sessions.proofs.StepLemmas.{prefix-later}
use Rattle.lane_history.specs.Lanes.{HaveAllPlayed, TakesIn, HaveSeen, owned_by, AreCalmLanes}
use Rattle.play_run.specs.declared.lanes.LaneEnd.{LaneEnd}
use Rattle.sessions.specs.Lanes.{PlaysLane}
use Rattle.sessions.specs.Splits.{SamePass}
use Rattle.play_run.specs.inside.Dealt.{sessions_to, AreDealt, HasDealt}
use Rattle.play_run.specs.inside.Joined.{IsIdle, AreIdle, end_of, ends_of, Takes, IsDone, HasRun, HasNotRun, HasAllParts}
use Rattle.play_run.proofs.Dealing.{all-played}

seen-later : {I D O P : Type 0} (lanes : List (Lane I D O P)) (old new : Known) → IsPrefix old.seen new.seen → HaveSeen lanes old → HaveSeen lanes new
seen-later [] old new later seen = tt
seen-later (lane ∷ lanes) old new later (first, seen) = (prefix-later lane.pass.seen old.seen new.seen first later, seen-later lanes old new later seen)

idle-last : {I D O P : Type 0} (lock : TableId) (lanes : List (Lane I D O P)) (lane : Lane I D O P) → AreIdle lock (lanes ++ lane ∷ []) → AreIdle lock lanes × IsIdle lock lane
idle-last lock [] lane (one, none) = (tt, one)
idle-last lock (x ∷ lanes) lane (first, idle) = let rest = idle-last lock lanes lane idle in ((first, rest.0), rest.1)

-- some lanes are left, and the passes of the others were taken in
pub record Joining {I D O P : Type 0} (lock : TableId) (old : Known) (all : List (Lane I D O P)) (before : List LaneEnd) (left : List (Lane I D O P)) (pass : Known) (ends : List LaneEnd) : Type 0 where
  pub joined : List (Lane I D O P)
  pub whole : all ≡ left ++ joined
  pub idle : AreIdle lock left
  pub takes : Takes old pass joined
  pub ends_are : ends ≡ before ++ ends_of joined

module _ {I D O P : Type 0} (lock : TableId) (old : Known) (all : List (Lane I D O P)) (before : List LaneEnd) where
  pub joining-none : (ends : List LaneEnd) → old.holds ≡ false → old.own ≡ [] → AreIdle lock all → ends ≡ before → Joining lock old all before all old ends
  joining-none ends off own idle same = record {
    joined = [];
    whole = sym (append-nil all);
    idle = idle;
    takes = record { taken = record { begins = refl; seen = tt; owned = λ p. ap (times p) own }; lock = refl; off = off; parts = omega arith };
    ends_are = same ∙ sym (append-nil before);
  }

  pub joining-idle : (left : List (Lane I D O P)) (lane : Lane I D O P) (pass : Known) (ends : List LaneEnd) → Joining lock old all before (left ++ lane ∷ []) pass ends → IsIdle lock lane
  joining-idle left lane pass ends now = (idle-last lock left lane now.idle).1

  pub joining-more : (left : List (Lane I D O P)) (lane : Lane I D O P) (pass new : Known) (ends after : List LaneEnd) → Joining lock old all before (left ++ lane ∷ []) pass ends
      → new ≡ record pass { seen = longer pass.seen lane.pass.seen; own = merge lane.pass.own pass.own; parts = pass.parts + lane.pass.parts }
      → IsPrefix pass.seen new.seen × IsPrefix lane.pass.seen new.seen → ((p : ℕ) → times p new.own ≡ times p pass.own + times p lane.pass.own)
      → after ≡ ends ++ end_of lane ∷ [] → Joining lock old all before left new after
  joining-more left lane pass new ends after now same begins counts added = record {
    joined = lane ∷ now.joined;
    whole = now.whole ∙ append_assoc left (lane ∷ []) now.joined;
    idle = (idle-last lock left lane now.idle).0;
    takes = record {
      taken = record {
        begins = ap (λ (k : Known). k.origin) same ∙ now.takes.taken.begins;
        seen = (begins.1, seen-later now.joined pass new begins.0 now.takes.taken.seen);
        owned = λ p. omega (arith, counts p, now.takes.taken.owned p);
      };
      lock = ap (λ (k : Known). k.lock) same ∙ now.takes.lock;
      off = ap (λ (k : Known). k.holds) same ∙ now.takes.off;
      parts = omega (arith, ap (λ (k : Known). k.parts) same, now.takes.parts, (idle-last lock left lane now.idle).1.parts);
    };
    ends_are = added ∙ ap (λ (l : List LaneEnd). l ++ end_of lane ∷ []) now.ends_are ∙ append_assoc before (ends_of now.joined) (end_of lane ∷ []);
  }

  pub joining-all : (pass : Known) (ends : List LaneEnd) → Joining lock old all before [] pass ends → Takes old pass all × (ends ≡ before ++ ends_of all)
  joining-all pass ends now =
      (subst (λ (l : List (Lane I D O P)). Takes old pass l) (sym now.whole) now.takes, now.ends_are ∙ ap (λ (l : List (Lane I D O P)). before ++ ends_of l) (sym now.whole))

-- the splits at the end were settled, or not
pub settled-done : {I D O P : Type 0} (w : ℕ) (lanes : List (Lane I D O P)) (pass last : Known) (result : Result Settled BookFault) → AreCalmLanes lanes → pass.parts ≡ 65536 → Settles w pass last result → IsDone w lanes pass last (is_ok result)
settled-done w lanes pass last (Ok s) calm parts settles = (calm, (s, parts, settles))
settled-done w lanes pass last (Err fault) calm parts settles = tt

owned-none : {I D O P : Type 0} (lock : TableId) (origin : Origin) (rows : List InRow) (p : ℕ) (sessions : List ℕ) (lanes : List (Lane I D O P)) → AreDealt lock origin rows sessions lanes → owned_by p lanes ≡ 0
owned-none lock origin rows p [] [] all = refl
owned-none lock origin rows p [] (x ∷ lanes) all = absurd all
owned-none lock origin rows p (s ∷ sessions) [] all = absurd all
owned-none lock origin rows p (s ∷ sessions) (x ∷ lanes) (first, all) =
    omega (arith, ap (λ (k : Known). times p k.own) first.pass_is, owned-none lock origin rows p sessions lanes all)

-- all parts are joined again behind lanes that were dealt
joined-parts : {I D O P : Type 0} (lock : TableId) (rows : List InRow) (n : ℕ) (old dealt pass : Known) (before after : List (Lane I D O P)) → HasDealt lock rows n before dealt → old.lock ≡ lock → dealt.origin ≡ old.origin
    → length after ≡ length before → Takes dealt pass after → HasAllParts old pass
joined-parts lock rows n old dealt pass before after has lock_is origin same takes = record {
  lock = takes.lock ∙ ap (λ (k : Known). k.lock) has.pass_is ∙ sym lock_is;
  off = takes.off;
  parts = omega (arith, takes.parts, has.whole, same);
  origin = takes.taken.begins ∙ origin;
}

-- memory ran out while lanes were dealt
pub dealt-not : {I D O P : Type 0} (lock : TableId) (rows : List InRow) (n : ℕ) (old dealt pass : Known) (lanes : List (Lane I D O P)) → HasDealt lock rows n lanes dealt → old.lock ≡ lock → dealt.origin ≡ old.origin
    → Takes dealt pass lanes → HasNotRun pass false × HasAllParts old pass
dealt-not lock rows n old dealt pass lanes has lock_is origin takes = (
  record { own = λ p. takes.taken.owned p ∙ owned-none lock dealt.origin rows p (sessions_to n rows) lanes has.dealt; not_done = refl },
  joined-parts lock rows n old dealt pass lanes lanes has lock_is origin refl takes,
)

-- what was written back into a vector
written-back : {A : Type 0} (n : ℕ) (xs ys : List A) → length xs ≡ length ys → n ≡ length ys → take n (xs ++ drop (length xs) ys) ≡ xs
written-back n xs ys same count =
    let none : drop (length xs) ys ≡ [] = drop_all (length xs) ys (omega (arith, same)) in
    let all : xs ++ drop (length xs) ys ≡ xs = ap (λ l. xs ++ l) none ∙ append-nil xs in
    ap (take n) all ∙ take_all n xs (omega (arith, same, count))

-- lanes that ran, in the place of those that were dealt
pub record RanBack {I D O P : Type 0} (lock : TableId) (rows : List InRow) (dealt : Known) (before after written : List (Lane I D O P)) : Type 0 where
  pub has : HasDealt lock rows 16 before dealt
  pub same : length after ≡ length before
  pub back : written ≡ after

pub run-back : {I D O P : Type 0} (lock : TableId) (rows : List InRow) (dealt : Known) (before after items : List (Lane I D O P)) (n : ℕ) → before ≡ items → HasDealt lock rows 16 items dealt → length after ≡ length before → n ≡ length items
    → RanBack lock rows dealt before after (take n (after ++ drop (length after) items))
run-back lock rows dealt before after items n value has same count = record {
  has = subst (λ l. HasDealt lock rows 16 l dealt) (sym value) has;
  same = same;
  back = written-back n after items (same ∙ ap length value) count;
}

pub run-idle : {I D O P : Type 0} (w : ℕ) (lock : TableId) (rows : List InRow) (dealt : Known) (before after : List (Lane I D O P)) → HasDealt lock rows 16 before dealt → length after ≡ length before
    → ((i : ℕ) (d : Lane I D O P) → i < length before → PlaysLane w (slice_index_or before i d) (slice_index_or after i d)) → AreIdle lock after
run-idle w lock rows dealt before after has same plays = (all-played lock dealt.origin rows w (sessions_to 16 rows) before after has.dealt same plays).1

-- lanes that were dealt have run, and were gathered
pub record AreGathered {I D O P : Type 0} (w : ℕ) (lock : TableId) (rows : List InRow) (old dealt pass : Known) (before after : List (Lane I D O P)) (ends : List LaneEnd) : Type 0 where
  pub has : HasDealt lock rows 16 before dealt
  pub lock_is : old.lock ≡ lock
  pub origin : dealt.origin ≡ old.origin
  pub same : length after ≡ length before
  pub plays : (i : ℕ) (d : Lane I D O P) → i < length before → PlaysLane w (slice_index_or before i d) (slice_index_or after i d)
  pub takes : Takes dealt pass after
  pub ends_are : ends ≡ ends_of after

module _ {I D O P : Type 0} {w : ℕ} {lock : TableId} {rows : List InRow} {old dealt pass : Known} {before after : List (Lane I D O P)} {ends : List LaneEnd} (all : AreGathered w lock rows old dealt pass before after ends) where
  runs : HaveAllPlayed w old.origin rows (sessions_to 16 rows) after
  runs = subst (λ (o : Origin). HaveAllPlayed w o rows (sessions_to 16 rows) after) all.origin (all-played lock dealt.origin rows w (sessions_to 16 rows) before after all.has.dealt all.same all.plays).0

  taken : TakesIn old.origin after pass
  taken = subst (λ (o : Origin). TakesIn o after pass) all.origin all.takes.taken

  -- a lane met a fault
  pub run-not : HasRun I D O P w old.origin rows ends pass false
  run-not = record { lanes = after; played = runs; pass = pass; joined = taken; goes_on = inl refl; ends_are = all.ends_are; is_done = tt }

  pub parts-not : HasAllParts old pass
  parts-not = joined-parts lock rows 16 old dealt pass before after all.has all.lock_is all.origin all.same all.takes

  -- none did, and the splits at the end were settled, or not
  pub run-settled : (last : Known) (result : Result Settled BookFault) → AreCalmLanes after → Settles w pass last result → HasRun I D O P w old.origin rows ends last (is_ok result)
  run-settled last result calm settles = record {
    lanes = after;
    played = runs;
    pass = pass;
    joined = taken;
    goes_on = inr (record { calm = calm; all = parts-not.parts; result = result; settles = settles });
    ends_are = all.ends_are;
    is_done = settled-done w after pass last result calm parts-not.parts settles;
  }

  pub parts-settled : (last : Known) → SamePass pass last → HasAllParts old last
  parts-settled last still = record {
    lock = ap (λ (k : Known). k.lock) still.1 ∙ parts-not.lock;
    off = ap (λ (k : Known). k.holds) still.1 ∙ parts-not.off;
    parts = ap (λ (k : Known). k.parts) still.1 ∙ parts-not.parts;
    origin = ap (λ (k : Known). k.origin) still.1 ∙ parts-not.origin;
  }
