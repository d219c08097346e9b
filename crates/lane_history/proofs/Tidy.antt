-- The splits at the end are of the first leaf over the size, and none of them is abandoned but the last.
use Rattle.std.proofs.Common.{◌≡◌, ◌⊎◌, inl, inr, ℕ, suc, ◌+◌, ◌≤◌, Bool, true, false, not, ◌||◌, cond, List, [], ◌∷◌, ◌++◌, Option, Some, Result, Ok, Err, refl, sym, ap, subst, ◌∙◌, arith, append_assoc, ne_eqb}
use Rattle.std.specs.List.{list_any}
use Rattle.std.specs.Option.{option_map_or}
use Rattle.std.proofs.lemmas.List.{append-nil}
use Rattle.zorder.specs.SameName.{same_name, same_name-decides}
use Rattle.plain_list.specs.declared.entries.Entry.{Entry}
use Rattle.plain_list.specs.declared.entries.Entry.TheVariants.{Fail, Call, Begin, Install, Abandon}
use Rattle.plain_list.specs.State.{State, step, state_after}
use Rattle.plain_list.specs.Size.{full_leaf}
use Rattle.plain_list.specs.declared.entries.Lost.{Lost}
use Rattle.plain_list.specs.declared.entries.Lost.TheVariants as lost
use Rattle.plain_list.proofs.Histories.{state_after-append}
use Rattle.plain_list.proofs.SplitHistories.{begun-rises}
use Rattle.commit_book.specs.declared.faults.BookFault.{BookFault}
use Rattle.book_lock.specs.Pass.{Known}
use Rattle.book_lock.specs.declared.origin.Origin.{Origin}
use Rattle.sessions.specs.Shared.{start_of}
use Rattle.sessions.specs.Steps.{all_parts, Leaves}
use Rattle.sessions.specs.Splits.{BeginsSplit, RanOut, GivesUp, NotInstalled, SplitEnds, state_of}
use Rattle.sessions.specs.Settles.{SplitsAll, SettleEnds, Settles}
use Rattle.sessions.specs.declared.faults.Settled.{Settled}
use Rattle.sessions.specs.declared.faults.Settled.TheVariants.{Small, Room}
use Rattle.sessions.specs.declared.faults.Split.TheVariants.{Installed}
use Rattle.sessions.proofs.SplitLemmas.{split-same}
use Rattle.lane_history.specs.Settled.{stray_begins, is_stray, is_full_leaf, abandons}
use Rattle.lane_history.proofs.Weights.{sum_of}
use Rattle.lane_history.proofs.Entries.{begins}
use Rattle.lane_history.proofs.Steps.{seen-added, left-seen}
use Rattle.lane_history.proofs.Ends.{all-splits-same}

-- stray begins of a history are no more than the begins of its first part and the stray ones of the rest
pub stray-append : (w size : ℕ) (s : State) (g d : List Entry) → stray_begins w size s (g ++ d) ≤ sum_of begins g + stray_begins w size (state_after w s g) d
stray-append w size s [] d = omega arith
stray-append w size s (Begin number name ∷ g) d = by_test (is_stray w size s (Begin number name) (g ++ d)) (stray-append w size (step w s (Begin number name)) g d)
  where
    by_test : (b : Bool) → stray_begins w size (step w s (Begin number name)) (g ++ d) ≤ sum_of begins g + stray_begins w size (state_after w (step w s (Begin number name)) g) d
        → cond b (suc (stray_begins w size (step w s (Begin number name)) (g ++ d))) (stray_begins w size (step w s (Begin number name)) (g ++ d))
        ≤ 1 + sum_of begins g + stray_begins w size (state_after w (step w s (Begin number name)) g) d
    by_test true rest = omega arith
    by_test false rest = omega arith
stray-append w size s (Fail cell lost ∷ g) d = let rest = stray-append w size (step w s (Fail cell lost)) g d in omega arith
stray-append w size s (Call session row op ∷ g) d = let rest = stray-append w size (step w s (Call session row op)) g d in omega arith
stray-append w size s (Install number ∷ g) d = let rest = stray-append w size (step w s (Install number)) g d in omega arith
stray-append w size s (Abandon number ∷ g) d = let rest = stray-append w size (step w s (Abandon number)) g d in omega arith

-- What stands behind a history abandons no split that was begun in it, and so many begins in it are stray at most.
record IsLast (w : ℕ) (origin : Origin) (most : ℕ) (g t : List Entry) : Type 0 where
  pub spares : (n : ℕ) → n ≤ (state_after w (start_of origin) g).begun → list_any (abandons n) t ≡ false
  pub few : stray_begins w origin.bucket (state_after w (start_of origin) g) t ≤ most

-- what a pass has seen more, where so many begins in it are stray at most
pub record GoesStray (w : ℕ) (origin : Origin) (most : ℕ) (old new : Known) : Type 0 where
  pub more : List Entry
  pub seen : new.seen ≡ old.seen ++ more
  pub few : stray_begins w origin.bucket (state_after w (start_of origin) old.seen) more ≤ most

-- Behind splits that were installed something stands: nothing is abandoned in them, and with that so many begins are stray at most.
record GoesTidy (w : ℕ) (origin : Origin) (most : ℕ) (t : List Entry) (old new : Known) : Type 0 where
  pub more : List Entry
  pub seen : new.seen ≡ old.seen ++ more
  pub kept : (n : ℕ) → list_any (abandons n) more ≡ false
  pub few : stray_begins w origin.bucket (state_after w (start_of origin) old.seen) (more ++ t) ≤ most

none-append : (p : Entry → Bool) (xs ys : List Entry) → list_any p xs ≡ false → list_any p ys ≡ false → list_any p (xs ++ ys) ≡ false
none-append p [] ys none more = more
none-append p (x ∷ xs) ys none more = by_test (p x) none (λ rest. none-append p xs ys rest more)
  where
    by_test : (b : Bool) → (b || list_any p xs) ≡ false → (list_any p xs ≡ false → list_any p (xs ++ ys) ≡ false) → (b || list_any p (xs ++ ys)) ≡ false
    by_test true none rest = none
    by_test false none rest = rest none

goes-none : (w : ℕ) (origin : Origin) (most : ℕ) (t : List Entry) (old new : Known) → new.seen ≡ old.seen → IsLast w origin most new.seen t → GoesTidy w origin most t old new
goes-none w origin most t old new same last = record {
  more = [];
  seen = same ∙ sym (append-nil old.seen);
  kept = λ n. refl;
  few = subst (λ (g : List Entry). stray_begins w origin.bucket (state_after w (start_of origin) g) t ≤ most) same last.few;
}

-- a begin of the first full leaf that nothing abandons isn't stray
plain-begin : (w : ℕ) (origin : Origin) (g d : List Entry) (number most : ℕ) (name : List Bool) → full_leaf w origin.bucket (state_after w (start_of origin) g) ≡ Some name → list_any (abandons number) d ≡ false
    → stray_begins w origin.bucket (state_after w (start_of origin) (g ++ Begin number name ∷ Install number ∷ [])) d ≤ most
    → stray_begins w origin.bucket (state_after w (start_of origin) g) (Begin number name ∷ Install number ∷ d) ≤ most
plain-begin w origin g d number most name full kept few =
    let s = state_after w (start_of origin) g in
    let is : is_full_leaf w origin.bucket s name ≡ true = ap (λ (o : Option (List Bool)). option_map_or (λ (leaf : List Bool). same_name leaf name) o false) full ∙ (same_name-decides name name).1 refl in
    let plain : is_stray w origin.bucket s (Begin number name) (Install number ∷ d) ≡ false = (λ i. kept i || not (is i)) in
    let rest : stray_begins w origin.bucket (step w (step w s (Begin number name)) (Install number)) d ≤ most =
    subst (λ (t : State). stray_begins w origin.bucket t d ≤ most) (state_after-append w (start_of origin) g (Begin number name ∷ Install number ∷ [])) few in
    subst (λ (b : Bool). cond b (suc (stray_begins w origin.bucket (step w (step w s (Begin number name)) (Install number)) d)) (stray_begins w origin.bucket (step w (step w s (Begin number name)) (Install number)) d) ≤ most) (sym plain) rest

-- what one split leaves while nobody else calls
seen-split : (w : ℕ) (number : ℕ) (name : List Bool) (old new : Known) → old.parts ≡ all_parts → SplitEnds w name old new (Installed number) → new.seen ≡ old.seen ++ Begin number name ∷ Install number ∷ []
seen-split w number name old new all (mid, begins, installs) =
    let mid-all : mid.parts ≡ all_parts = ap (λ (k : Known). k.parts) begins.leaves ∙ all in
    seen-added mid new installs.step.before (Install number) installs.step.leaves
    ∙ ap (λ (l : List Entry). l ++ Install number ∷ []) (installs.step.alone mid-all ∙ seen-added old mid begins.before (Begin number name) begins.leaves ∙ ap (λ (l : List Entry). l ++ Begin number name ∷ []) (begins.alone all))
    ∙ append_assoc old.seen (Begin number name ∷ []) (Install number ∷ [])

-- its number is the next
number-next : (w : ℕ) (origin : Origin) (number : ℕ) (name : List Bool) (old mid : Known) → old.origin ≡ origin → old.parts ≡ all_parts → BeginsSplit w name old mid (Ok number) → number ≡ (state_after w (start_of origin) old.seen).begun + 1
number-next w origin number name old mid from all begins = begins.says ∙ (λ i. (state_of w (from i) (begins.alone all i)).begun + 1)

goes-all : (w : ℕ) (origin : Origin) (most : ℕ) (t : List Entry) (old : Known) (numbers : List ℕ) (new : Known) → old.origin ≡ origin → old.parts ≡ all_parts → SplitsAll w old numbers new → IsLast w origin most new.seen t
    → GoesTidy w origin most t old new
goes-all w origin most t old [] new from all same last = goes-none w origin most t old new (ap (λ (k : Known). k.seen) same) last
goes-all w origin most t old (number ∷ numbers) new from all (name, mid, full, ends, rest) last =
    let same = split-same w name old mid (Installed number) ends in
    let s = state_after w (start_of origin) old.seen in
    let here : full_leaf w origin.bucket s ≡ Some name = subst (λ (o : Origin). full_leaf w o.bucket (state_after w (start_of o) old.seen) ≡ Some name) from full in
    let is = seen-split w number name old mid all ends in
    let goes = goes-all w origin most t mid numbers new (ap (λ (k : Known). k.origin) same.1 ∙ from) (ap (λ (k : Known). k.parts) same.1 ∙ all) rest last in
    let begun : (state_after w (start_of origin) mid.seen).begun ≡ s.begun + 1 =
    ap (λ (g : List Entry). (state_after w (start_of origin) g).begun) is ∙ ap (λ (x : State). x.begun) (state_after-append w (start_of origin) old.seen (Begin number name ∷ Install number ∷ [])) in
    let later : (state_after w (start_of origin) new.seen).begun ≡ (state_after w (state_after w (start_of origin) mid.seen) goes.more).begun =
    ap (λ (g : List Entry). (state_after w (start_of origin) g).begun) goes.seen ∙ ap (λ (x : State). x.begun) (state_after-append w (start_of origin) mid.seen goes.more) in
    let rises = begun-rises w (state_after w (start_of origin) mid.seen) goes.more in
    let next = number-next w origin number name old ends.0 from all ends.1 in
    let kept = none-append (abandons number) goes.more t (goes.kept number) (last.spares number (omega arith)) in
    record {
      more = Begin number name ∷ Install number ∷ goes.more;
      seen = goes.seen ∙ ap (λ (l : List Entry). l ++ goes.more) is ∙ append_assoc old.seen (Begin number name ∷ Install number ∷ []) goes.more;
      kept = goes.kept;
      few = plain-begin w origin old.seen (goes.more ++ t) number most name here kept (subst (λ (g : List Entry). stray_begins w origin.bucket (state_after w (start_of origin) g) (goes.more ++ t) ≤ most) is goes.few);
    }

-- where it ended well, no entry came behind the last split
pub end-seen : (w : ℕ) (mid new : Known) (s : Settled) → mid.parts ≡ all_parts → SettleEnds w mid new (Ok s) → new.seen ≡ mid.seen
end-seen w mid new Small all (tells, same) = ap (λ (k : Known). k.seen) same
end-seen w mid new Room all (name, full, cells, events, begins) = ap (λ (k : Known). k.seen) begins.leaves ∙ begins.alone all

-- what a begin leaves behind it that isn't installed: nothing, a failed append, or its abandonment
abbrev Closing : ℕ → List Entry → Type 0
Closing number t = (t ≡ []) ⊎ (((cell : ℕ) × (lost : Lost) × (t ≡ Fail cell lost ∷ [])) ⊎ (t ≡ Abandon number ∷ []))

module _ (w : ℕ) (origin : Origin) (g : List Entry) where
  last-none : (most : ℕ) → IsLast w origin most g []
  last-none most = record { spares = λ n le. refl; few = omega arith }

  last-fail : (cell : ℕ) (lost : Lost) → IsLast w origin 1 g (Fail cell lost ∷ [])
  last-fail cell lost = record { spares = λ n le. refl; few = omega arith }

  one-stray : (b : Bool) → cond b 1 0 ≤ 1
  one-stray true = omega arith
  one-stray false = omega arith

  last-begun : (number : ℕ) (name : List Bool) (t : List Entry) → number ≡ (state_after w (start_of origin) g).begun + 1 → Closing number t → IsLast w origin 1 g (Begin number name ∷ t)
  last-begun number name t next (inl is) = subst (λ (l : List Entry). IsLast w origin 1 g (Begin number name ∷ l)) (sym is) record {
    spares = λ n le. refl;
    few = one-stray (is_stray w origin.bucket (state_after w (start_of origin) g) (Begin number name) []);
  }
  last-begun number name t next (inr (inl (cell, lost, is))) = subst (λ (l : List Entry). IsLast w origin 1 g (Begin number name ∷ l)) (sym is) record {
    spares = λ n le. refl;
    few = one-stray (is_stray w origin.bucket (state_after w (start_of origin) g) (Begin number name) (Fail cell lost ∷ []));
  }
  last-begun number name t next (inr (inr is)) = subst (λ (l : List Entry). IsLast w origin 1 g (Begin number name ∷ l)) (sym is) record {
    spares = λ n le. ap (λ (b : Bool). b || false) (ne_eqb number n (λ (e : number ≡ n). omega arith));
    few = one-stray (is_stray w origin.bucket (state_after w (start_of origin) g) (Begin number name) (Abandon number ∷ []));
  }

-- so a split ends that was begun and isn't installed
module _ (w number : ℕ) where
  left-closing : {A : Type 0} (entry : A → Entry) (loses : List Entry → Lost) (old : Known) (before : List Entry) (new : Known) (fault : BookFault) → before ≡ old.seen → Leaves entry loses old before new (Err fault)
      → (t : List Entry) × (new.seen ≡ old.seen ++ t) × Closing number t
  left-closing entry loses old before new fault same leaves = by_case (left-seen entry loses [] old before new fault leaves)
    where
      by_case : (new.seen ≡ before) ⊎ ((cell : ℕ) × (new.seen ≡ before ++ Fail cell (loses before) ∷ [])) → (t : List Entry) × (new.seen ≡ old.seen ++ t) × Closing number t
      by_case (inl is) = ([], is ∙ same ∙ sym (append-nil old.seen), inl refl)
      by_case (inr (cell, is)) = (Fail cell (loses before) ∷ [], is ∙ ap (λ (l : List Entry). l ++ Fail cell (loses before) ∷ []) same, inr (inl (cell, loses before, refl)))

  ran-seen : (mid seen : Known) → mid.parts ≡ all_parts → RanOut w number mid seen → (seen.seen ≡ mid.seen) × (seen.parts ≡ mid.parts)
  ran-seen mid seen all (inl same) = (ap (λ (k : Known). k.seen) same, ap (λ (k : Known). k.parts) same)
  ran-seen mid seen all (inr ends) = (ap (λ (k : Known). k.seen) ends.step.leaves ∙ ends.step.alone all, ap (λ (k : Known). k.parts) ends.step.leaves)

  gives-closing : (seen new : Known) (fault : BookFault) → seen.parts ≡ all_parts → GivesUp w number seen new fault → (t : List Entry) × (new.seen ≡ seen.seen ++ t) × Closing number t
  gives-closing seen new fault all (inl (memory, ends)) =
      let step = ends.step in
      (Abandon number ∷ [], seen-added seen new step.before (Abandon number) step.leaves ∙ ap (λ (l : List Entry). l ++ Abandon number ∷ []) (step.alone all), inr (inr refl))
  gives-closing seen new fault all (inr ends) = left-closing (λ (done : Unit {0}). Abandon number) (λ (h : List Entry). lost.Abandon number) seen ends.step.before new fault (ends.step.alone all) ends.step.leaves

  not-closing : (mid new : Known) (fault : BookFault) → mid.parts ≡ all_parts → NotInstalled w number mid new fault → (t : List Entry) × (new.seen ≡ mid.seen ++ t) × Closing number t
  not-closing mid new fault all (inl (lasting, ends)) = left-closing (λ (done : Unit {0}). Install number) (λ (h : List Entry). lost.Install number) mid ends.step.before new fault (ends.step.alone all) ends.step.leaves
  not-closing mid new fault all (inr (seen, ran, gives)) =
      let same = ran-seen mid seen all ran in
      let (t, is, closing) = gives-closing seen new fault (same.1 ∙ all) gives in
      (t, is ∙ ap (λ (l : List Entry). l ++ t) same.0, closing)

-- how many begins of the splits at the end may be stray
abbrev pub most_stray : Result Settled BookFault → ℕ
most_stray (Ok s) = 0
most_stray (Err fault) = 1

end-last : (w : ℕ) (origin : Origin) (mid new : Known) (result : Result Settled BookFault) → mid.origin ≡ origin → mid.parts ≡ all_parts → SettleEnds w mid new result
    → (t : List Entry) × (new.seen ≡ mid.seen ++ t) × IsLast w origin (most_stray result) mid.seen t
end-last w origin mid new (Ok s) from all ends = ([], end-seen w mid new s all ends ∙ sym (append-nil mid.seen), last-none w origin mid.seen 0)
end-last w origin mid new (Err fault) from all (inl (tells, same)) = ([], ap (λ (k : Known). k.seen) same ∙ sym (append-nil mid.seen), last-none w origin mid.seen 1)
end-last w origin mid new (Err fault) from all (inr (name, full, is, inl step)) =
    by_case (left-seen (λ (number : ℕ). Begin number name) (λ (h : List Entry). lost.Begin ((state_of w mid.origin h).begun + 1) name) [] mid step.before new fault step.leaves)
  where
    by_case : (new.seen ≡ step.before) ⊎ ((cell : ℕ) × (new.seen ≡ step.before ++ Fail cell (lost.Begin ((state_of w mid.origin step.before).begun + 1) name) ∷ []))
        → (t : List Entry) × (new.seen ≡ mid.seen ++ t) × IsLast w origin 1 mid.seen t
    by_case (inl is) = ([], is ∙ step.alone all ∙ sym (append-nil mid.seen), last-none w origin mid.seen 1)
    by_case (inr (cell, is)) =
        let left = lost.Begin ((state_of w mid.origin step.before).begun + 1) name in
        (Fail cell left ∷ [], is ∙ ap (λ (l : List Entry). l ++ Fail cell left ∷ []) (step.alone all), last-fail w origin mid.seen cell left)
end-last w origin mid new (Err fault) from all (inr (name, full, is, inr (number, begun, begins, not))) =
    let (t, seen, closing) = not-closing w number begun new fault (ap (λ (k : Known). k.parts) begins.leaves ∙ all) not in
    let first : begun.seen ≡ mid.seen ++ Begin number name ∷ [] = seen-added mid begun begins.before (Begin number name) begins.leaves ∙ ap (λ (l : List Entry). l ++ Begin number name ∷ []) (begins.alone all) in (
      Begin number name ∷ t,
      seen ∙ ap (λ (l : List Entry). l ++ t) first ∙ append_assoc mid.seen (Begin number name ∷ []) t,
      last-begun w origin mid.seen number name t (number-next w origin number name mid begun from all begins) closing,
    )

-- at most one begin of the splits at the end is stray, and none where it ended well
pub goes-stray : (w : ℕ) (origin : Origin) (old new : Known) (result : Result Settled BookFault) → old.origin ≡ origin → old.parts ≡ all_parts → Settles w old new result → GoesStray w origin (most_stray result) old new
goes-stray w origin old new result from all settles =
    let same = all-splits-same w old settles.numbers settles.mid settles.splits in
    let (t, seen, last) = end-last w origin settles.mid new result (ap (λ (k : Known). k.origin) same.1 ∙ from) (ap (λ (k : Known). k.parts) same.1 ∙ all) settles.ends in
    let goes = goes-all w origin (most_stray result) t old settles.numbers settles.mid from all settles.splits last in
    record { more = goes.more ++ t; seen = seen ∙ ap (λ (l : List Entry). l ++ t) goes.seen ∙ append_assoc old.seen goes.more t; few = goes.few }
