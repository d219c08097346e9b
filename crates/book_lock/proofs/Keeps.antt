-- Each step keeps the rule.
use Rattle.std.proofs.lemmas.Bool.Decides.{nat_tests}
use lib.Seq.{set-get_or}
use Rattle.std.proofs.Math.Nat.{mod-eq_of_lt}
use Rattle.std.proofs.Common.{◌≡◌, ◌≢◌, ℕ, zero, suc, ◌+◌, ◌-◌, ◌%◌, ◌^◌, ◌<◌, ◌≤◌, List, [], ◌∷◌, ◌++◌, length, set, Bool, true, false, cond, refl, sym, ap, ◌∙◌, subst, inl, inr, ⊎_elim, arith, eqb, length-append, length-set, get_or-set_other, get_or-set_same}
use Rattle.std.specs.Prelude.{Option, Some, slice_get, slice_index}
use mathlib.Core.Option.{some, none, some-injective, some-ne-none}
use mathlib.Core.Option as opt
use mathlib.Core.List.{IsPrefix}
use mathlib.Core.Logic.{dite}
use native.Mathlib.Decide.{ℕ_discrete}
use lib.ListN.{get_elem?}
use prog.Atomic.{either}
use Rattle.atomic_table.specs.Table.{State, Act, Valid, carried_after, step, keeps, takes, gives, stepped, opening, Allows, Splits, Joins, Final, Seen}
use Rattle.atomic_table.proofs.Lists.{at_set, at_snoc, set_here, set_else, set_again, at_longer, exchanged}
use Rattle.plain_list.specs.declared.entries.Entry.{Entry}
use Rattle.book_lock.specs.Origin.{Origin}
use Rattle.book_lock.specs.declared.view.View.{View}
use Rattle.book_lock.specs.Own.{times, once_below, Owns, IsBelow}
use Rattle.book_lock.specs.Ends.{IsEnd, EndsSplit, OwnsEnds, MayNote}
use Rattle.book_lock.specs.Rule.{seat_view, total, hold_of, parts_of, times_of, newcomer, Fits, HasEnder, LockRule, without_parts, parts_from, note_of, both, spent, untold}
use Rattle.book_lock.specs.Steps.{Sat, holder, taken, noted, released, compared}
use Rattle.book_lock.proofs.Positions.{once_below-one, once_below-in, once_below-suc, times-append, times-merge, Rises-snoc, IsBelow-snoc, Rises-merge, one_if, one_same}
use Rattle.book_lock.proofs.Histories.{prefix_refl, prefix_longer, prefix_length, prefix_whole, prefix_of_two, get_prefix, get_below, get_snoc, longer_begins, longer_length}
use Rattle.book_lock.proofs.Totals.{total_set, total_snoc, total_least, total_two, total_alone}

-- An owner stays one if its view owns no less.
pub ender_stays : (views : List View) (log : List Entry) (p n id : ℕ) (v w : View) → get_elem? views id ≡ some v → id < length views → ((k : ℕ) → Owns v.own k → Owns w.own k) → HasEnder views log p n → HasEnder (set views id w) log p n
ender_stays views log p n id v w at inside more (j, q, u, there, has_p, has_q, lt, begins) = dite (ℕ_discrete j id)
    (λ (e : j ≡ id).
    let same : u ≡ v = some-injective u v (sym there ∙ (ap (get_elem? views) e ∙ at)) in
    (id, q, w, set_here views id w inside, more p (subst (λ (x : View). Owns x.own p) same has_p), more q (subst (λ (x : View). Owns x.own q) same has_q), lt, begins))
    (λ (n : j ≢ id). (j, q, u, set_else views id j w n ∙ there, has_p, has_q, lt, begins))

pub inside_of : (views : List View) (id : ℕ) (v : View) → get_elem? views id ≡ some v → id < length views
inside_of [] id v e = absurd (some-ne-none v (sym e))
inside_of (x ∷ xs) zero v e = omega arith
inside_of (x ∷ xs) (suc id) v e = let h = inside_of xs id v e in omega arith

-- Each view fits, if the one that changed does.
pub fits_set : (log : List Entry) (start : Origin) (views : List View) (id : ℕ) (w : View) → Fits log start w → ((j : ℕ) (u : View) → j ≢ id → get_elem? views j ≡ some u → Fits log start u)
    → (j : ℕ) (u : View) → get_elem? (set views id w) j ≡ some u → Fits log start u
fits_set log start views id w mine others j u e = ⊎_elim
    (λ (t : (j ≡ id) × (w ≡ u)). subst (Fits log start) t.1 mine)
    (λ (t : (j ≢ id) × (get_elem? views j ≡ some u)). others j u t.0 t.1)
    (at_set views id j w u e)

-- A seat with a part was joined to no other, so it has the origin.
pub has_origin : (log : List Entry) (start : Origin) (v : View) → Fits log start v → 0 < v.parts → v.origin ≡ start
has_origin log start v f some_part = ⊎_elim (λ (is : v ≡ spent). let none : v.parts ≡ 0 = ap parts_of is in absurd (omega arith)) (λ (is : v.origin ≡ start). is) f.same

module _ {V : Type 0} (entries : V → List Entry) (origin : V → Origin) (start : Origin) where
  abbrev St : Type 0
  St = State (Option V) View

  abbrev Rule : St → Type 0
  Rule = LockRule entries origin start

  pub begins : (x : V) → entries x ≡ [] → origin x ≡ start → Rule (opening (0 ∷ 0 ∷ 0 ∷ []) (Some x ∷ []) (newcomer start))
  begins x empty is = record {
    log = [];
    wide = refl;
    counted = refl;
    holding = refl;
    single = omega arith;
    parts = refl;
    owned = λ p. grind (arith, nat_tests);
    each = one;
    home = λ _. (x, refl, empty, is);
    ended = λ p n h. absurd (cc (h.1));
  }
    where
      one : (j : ℕ) (v : View) → get_elem? (newcomer start ∷ []) j ≡ some v → Fits [] start v
      one zero v e = subst (Fits [] start) (some-injective (newcomer start) v e) record {
        seen = ([], refl);
        told = ([], refl);
        rises = tt;
        below = λ p h. absurd (omega arith);
        same = inr refl;
        whole = λ e. absurd (cc);
        idle = λ e. absurd (omega arith);
      }
      one (suc j) v e = absurd (some-ne-none v (sym e))

  -- The rule after a step of one seat, from what changes.
  renewed : (s : St) (k : Rule s) (id : ℕ) (v w : View) (words : List ℕ) (homes : List (opt.Option (Option V))) (log : List Entry)
      → get_elem? s.views id ≡ some v
      → length words ≡ 3
      → slice_index words 2 ≡ length log
      → total hold_of s.views + hold_of w ≡ slice_index words 1 + hold_of v
      → slice_index words 1 ≤ 1
      → w.parts ≡ v.parts
      → ((p : ℕ) → times p w.own + once_below p (length k.log) ≡ times p v.own + once_below p (length log))
      → Fits log start w
      → ((j : ℕ) (u : View) → j ≢ id → get_elem? s.views j ≡ some u → Fits log start u)
      → (slice_index words 1 ≡ 0 → (x : V) × (homes ≡ some (Some x) ∷ []) × (entries x ≡ log) × (origin x ≡ start))
      → ((p n : ℕ) → IsEnd log p n → HasEnder (set s.views id w) log p n)
      → Rule record { words = words; homes = homes; views = set s.views id w }
  renewed s k id v w words homes log at wide counted holding single parts owned mine others home ended = record {
    log = log;
    wide = wide;
    counted = counted;
    holding = let h = total_set hold_of s.views id v w at in omega arith;
    single = single;
    parts = let h = total_set parts_of s.views id v w at in let e = k.parts in omega arith;
    owned = λ p. let h = total_set (times_of p) s.views id v w at in let e = k.owned p in let o = owned p in omega arith;
    each = fits_set log start s.views id w mine others;
    home = home;
    ended = ended;
  }

  -- A pass that has seen the whole history, and owns the one begin of a number, owns its ends.
  owns_ends : (s : St) (k : Rule s) (id : ℕ) (v : View) → get_elem? s.views id ≡ some v → OwnsEnds k.log v.own
  owns_ends s k id v at n q begun only mine p end =
      let (j, r, u, there, has_p, has_r, lt, first) = k.ended p n end in
      let same : r ≡ q = only r first in
      dite (ℕ_discrete j id)
      (λ (e : j ≡ id). let is : u ≡ v = some-injective u v (sym there ∙ (ap (get_elem? s.views) e ∙ at)) in subst (λ (x : View). Owns x.own p) is has_p)
      (λ (n : j ≢ id).
      let two = total_two (times_of r) s.views id j v u n at there in
      let one = once_below-one r (length k.log) in
      let sum = k.owned r in
      let has : 1 ≤ times r v.own = subst (λ (x : ℕ). 1 ≤ times x v.own) (sym same) mine in
      absurd (omega arith))

  abbrev fresh : V → View → View
  fresh x v = holder v (entries x)

  -- A step that changes nothing.
  unmoved : (s : St) (k : Rule s) (i id : ℕ) (v : View) → get_elem? s.views id ≡ some v → Rule record { words = set s.words i (slice_index s.words i); homes = s.homes; views = set s.views id v }
  unmoved s k i id v at = subst (λ (z : List ℕ × List View). Rule record { words = z.0; homes = s.homes; views = z.1 })
      (λ j. (sym (set-get_or s.words i 0) j, sym (set_again s.views id v at) j)) k

  -- Every position up to the length of the history.
  reaches : (log : List Entry) (n m : ℕ) → length log ≡ n → ((p : ℕ) → p < length log → p < m) → length log ≤ m
  reaches log zero m e all_of = omega arith
  reaches log (suc n) m e all_of = let b = all_of n (omega arith) in omega arith

  -- If a seat has all parts, no other seat owns anything.
  others_idle : (s : St) (k : Rule s) (id : ℕ) (v : View) → get_elem? s.views id ≡ some v → v.parts ≡ 65536 → (j : ℕ) (u : View) → j ≢ id → get_elem? s.views j ≡ some u → (u.own ≡ []) × (u.holds ≡ false)
  others_idle s k id v at all j u apart there = let two = total_two parts_of s.views id j v u apart at there in let e = k.parts in (k.each j u there).idle (omega arith)

  -- Such a seat has seen the whole history.
  seen_whole : (s : St) (k : Rule s) (id : ℕ) (v : View) → get_elem? s.views id ≡ some v → v.parts ≡ 65536 → v.seen ≡ k.log
  seen_whole s k id v at all =
      let f = k.each id v at in
      let own : (p : ℕ) → times p v.own ≡ once_below p (length k.log) =
      (λ p. sym (total_alone (times_of p) s.views id v at (λ j u apart there. ap (times p) (others_idle s k id v at all j u apart there).0)) ∙ k.owned p) in
      let long : length k.log ≤ length v.seen = reaches k.log (length k.log) (length v.seen) refl (λ p b. let o = own p in let i = once_below-in p (length k.log) b in f.below p (omega arith)) in
      prefix_whole v.seen k.log f.seen long

  pub take_lock : (slots id : ℕ) (me : Sat V) → me.1 ≡ [] → me.0.holds ≡ false → 0 < me.0.parts
      → Allows Rule slots id me 1 (λ n. either (eqb n 0) 1 n) (taken entries origin (step slots 1 0 1 none) me)
  take_lock slots id me free off some_part s k wide at small =
      let v : View = me.0 in
      let word : ℕ = slice_index s.words 1 in
      exchanged word 0 1
      (λ (m : ℕ). (w : View) × (a : Act (Option V)) × Valid s.homes me.1 a × Rule (stepped s 1 m id me.1 w a) × taken entries origin (step slots 1 0 1 none) me word (w, carried_after me.1 a))
      (λ (hit : word ≡ 0).
      let h = k.home hit in
      let x : V = h.0 in
      let w : View = holder v (entries x) in
      let f = k.each id v at in
      let longer = prefix_length v.seen k.log f.seen in
      let size : length (entries x) ≡ length k.log = ap length h.2 in
      let below : IsBelow (length (entries x)) v.own = (λ p o. let b = f.below p o in omega arith) in
      let three = k.wide in
      let one : slice_index (set s.words 1 1) 1 ≡ 1 = get_or-set_same s.words 1 1 0 (omega arith) in
      let weight : hold_of v ≡ 0 = ap (λ (b : Bool). cond b 1 0) off in
      let holding = k.holding in (
        w,
        takes 0 (Some x),
        ap (λ (l : List (opt.Option (Option V))). get_elem? l 0) h.1,
        renewed s k id v w (set s.words 1 1) (set s.homes 0 none) k.log at
            (length-set s.words 1 1 ∙ k.wide)
            (get_or-set_other s.words 1 2 1 0 (λ e. omega arith) ∙ k.counted)
            (omega arith)
            (omega arith)
            refl
            (λ p. refl)
            record {
              seen = subst (λ (l : List Entry). IsPrefix l k.log) (sym h.2) (prefix_refl k.log);
              told = f.told;
              rises = f.rises;
              below = below;
              same = inr (has_origin k.log start v f some_part);
              whole = λ _. h.2;
              idle = λ e. absurd (omega arith);
            }
            (λ j u _ e. k.each j u e)
            (λ z. absurd (omega arith))
            (λ p n e. ender_stays s.views k.log p n id v w at (inside_of s.views id v at) (λ _ o. o) (k.ended p n e)),
        (
          (λ _. (
            x,
            (λ i. (w, (0, Some x) ∷ free i)),
            h.3 ∙ sym (has_origin k.log start v f some_part),
            subst (IsPrefix v.seen) (sym h.2) f.seen,
            subst (λ (l : List Entry). OwnsEnds l v.own) (sym h.2) (owns_ends s k id v at),
            f.rises,
            below,
            (λ all. h.2 ∙ sym (seen_whole s k id v at all)),
          )),
          (λ miss. absurd (miss hit)),
        ),
      ))
      (λ (miss : word ≢ 0). (v, keeps, tt, unmoved s k 1 id v at, ((λ hit. absurd (miss hit)), λ _. refl)))

  abbrev Row : Type 0
  Row = List (ℕ × Option V)

  -- A longer history, for a view of a seat that doesn't hold the lock.
  fits_longer : (log more : List Entry) (u : View) → u.holds ≡ false → Fits log start u → Fits (log ++ more) start u
  fits_longer log more u off f = record {
    seen = prefix_longer u.seen log more f.seen;
    told = prefix_longer u.told log more f.told;
    rises = f.rises;
    below = f.below;
    same = f.same;
    whole = λ on. let same : true ≡ false = sym on ∙ off in absurd (cc);
    idle = f.idle;
  }

  weighs : (v : View) → v.holds ≡ true → hold_of v ≡ 1
  weighs v on = ap (λ (b : Bool). cond b 1 0) on

  -- While one seat holds the lock, no other seat does.
  others_off : (s : St) (k : Rule s) (id j : ℕ) (v u : View) → j ≢ id → get_elem? s.views id ≡ some v → get_elem? s.views j ≡ some u → v.holds ≡ true → u.holds ≡ false
  others_off s k id j v u apart at there on = go u.holds refl
    where
      go : (b : Bool) → u.holds ≡ b → u.holds ≡ false
      go false e = e
      go true e =
          let two = total_two hold_of s.views id j v u apart at there in
          let one = weighs v on in
          let other = weighs u e in
          let holding = k.holding in
          let single = k.single in
          absurd (omega arith)

  taken_word : (s : St) (k : Rule s) (id : ℕ) (v : View) → get_elem? s.views id ≡ some v → v.holds ≡ true → slice_index s.words 1 ≡ 1
  taken_word s k id v at on =
      let least = total_least hold_of s.views id v at in
      let one = weighs v on in
      let holding = k.holding in
      let single = k.single in
      omega arith

  one_item : (A : Type 0) (l : List A) (x : A) → length l ≡ 1 → set l 0 x ≡ x ∷ []
  one_item A [] x e = absurd (cc)
  one_item A (y ∷ []) x e = refl
  one_item A (y ∷ z ∷ l) x e = absurd (omega arith)

  release : (slots id : ℕ) (v : View) (x : V) → v.holds ≡ true → 0 < v.parts → entries x ≡ v.seen → origin x ≡ v.origin → slots ≡ 1
      → Allows Rule slots id (v, (0, Some x) ∷ []) 1 (λ _. 0) (λ _. released (step slots 1 0 0 none) (v, (0, Some x) ∷ []) 0)
  release slots id v x on some_part is_seen is_origin single s k wide at small =
      let w : View = seat_view v.seen v.told v.own v.origin v.parts false in
      let f = k.each id v at in
      let whole = f.whole on in
      let three = k.wide in
      let zeroed : slice_index (set s.words 1 0) 1 ≡ 0 = get_or-set_same s.words 1 0 0 (omega arith) in
      let weight = weighs v on in
      let holding = k.holding in
      let word = taken_word s k id v at on in (
        w,
        gives,
        tt,
        renewed s k id v w (set s.words 1 0) (set s.homes 0 (some (Some x))) k.log at
            (length-set s.words 1 0 ∙ k.wide)
            (get_or-set_other s.words 1 2 0 0 (λ e. omega arith) ∙ k.counted)
            (omega arith)
            (omega arith)
            refl
            (λ p. refl)
            record {
              seen = f.seen;
              told = f.told;
              rises = f.rises;
              below = f.below;
              same = inr (has_origin k.log start v f some_part);
              whole = λ e. absurd (cc);
              idle = λ e. absurd (omega arith);
            }
            (λ j u _ e. k.each j u e)
            (λ _. (x, one_item _ s.homes (some (Some x)) (wide ∙ single), is_seen ∙ whole, is_origin ∙ has_origin k.log start v f some_part))
            (λ p n e. ender_stays s.views k.log p n id v w at (inside_of s.views id v at) (λ _ o. o) (k.ended p n e)),
        refl,
      )

  pub note_entry : (slots id : ℕ) (me : Sat V) (e : Entry) → me.0.holds ≡ true → 0 < me.0.parts → length me.0.seen + 1 < 2 ^ 64 → MayNote me.0.seen me.0.own e
      → Allows Rule slots id me 2 (λ n. (n + 1) % 2 ^ 64) (noted e (step slots 2 1 0 none) me)
  note_entry slots id me e on some_part room may s k wide at small =
      let v : View = me.0 in
      let n : ℕ = length v.seen in
      let w : View = seat_view (v.seen ++ e ∷ []) v.told (v.own ++ n ∷ []) v.origin v.parts v.holds in
      let f = k.each id v at in
      let whole : v.seen ≡ k.log = f.whole on in
      let log : List Entry = k.log ++ e ∷ [] in
      let size : n ≡ length k.log = ap length whole in
      let more : length log ≡ length k.log + 1 = length-append k.log (e ∷ []) in
      let three = k.wide in
      let counted = k.counted in
      let word : ℕ = (slice_index s.words 2 + 1) % 2 ^ 64 in
      let next : word ≡ length log = mod-eq_of_lt (omega arith) ∙ (ap (λ (m : ℕ). m + 1) counted ∙ sym more) in
      let here : slice_index (set s.words 2 word) 2 ≡ word = get_or-set_same s.words 2 word 0 (omega arith) in
      let else : slice_index (set s.words 2 word) 1 ≡ slice_index s.words 1 = get_or-set_other s.words 2 1 word 0 (λ z. omega arith) in
      let holding = k.holding in
      let single = k.single in
      let is_taken = taken_word s k id v at on in
      let inside = inside_of s.views id v at in
      let own_more : (q : ℕ) → Owns v.own q → Owns w.own q = (λ q o. let a = times-append q v.own (n ∷ []) in omega arith) in
      let one_more : length (v.seen ++ e ∷ []) ≡ n + 1 = length-append v.seen (e ∷ []) in (
        w,
        keeps,
        tt,
        renewed s k id v w (set s.words 2 word) s.homes log at
            (length-set s.words 2 word ∙ k.wide)
            (here ∙ next)
            (omega arith)
            (omega arith)
            refl
            (λ p. let a = times-append p v.own (n ∷ []) in let b = once_below-suc p (length k.log) in let c : once_below p (length log) ≡ once_below p (length k.log + 1) = ap (once_below p) more in let d : one_if n p ≡ one_if (length k.log) p = ap (λ (m : ℕ). one_if m p) size in omega arith)
            record {
              seen = subst (λ (l : List Entry). IsPrefix (l ++ e ∷ []) log) (sym whole) (prefix_refl log);
              told = prefix_longer v.told k.log (e ∷ []) f.told;
              rises = Rises-snoc v.own n f.rises f.below;
              below = subst (λ (m : ℕ). IsBelow m w.own) (sym one_more) (IsBelow-snoc v.own n f.below);
              same = inr (has_origin k.log start v f some_part);
              whole = λ _. ap (λ (l : List Entry). l ++ e ∷ []) whole;
              idle = λ z. absurd (omega arith);
            }
            (λ j u apart there. fits_longer k.log (e ∷ []) u (others_off s k id j v u apart at there on) (k.each j u there))
            (λ z. absurd (omega arith))
            (λ p m h. ⊎_elim
            (λ (old : slice_get k.log p ≡ Some h.0).
            let ender = k.ended p m (h.0, old, h.2) in
            ender_stays s.views log p m id v w at inside own_more
            (ender.0, ender.1, ender.2, ender.3, ender.4, ender.5, ender.6, (ender.7.0, get_prefix k.log log ender.1 _ (e ∷ [], refl) ender.7.1)))
            (λ (new : (p ≡ length k.log) × (e ≡ h.0)).
            let mine = may m (subst (λ (x : Entry). EndsSplit x m) (sym new.1) h.2) in
            let q : ℕ = mine.0 in
            let below = get_below v.seen q _ mine.2.1 in
            let a = times-append p v.own (n ∷ []) in
            let b : one_if n p ≡ 1 = one_same n p (size ∙ sym new.0) in (
              id,
              q,
              w,
              set_here s.views id w inside,
              omega arith,
              own_more q mine.1,
              omega arith,
              (mine.2.0, get_prefix v.seen log q _ (subst (λ (l : List Entry). IsPrefix v.seen (l ++ e ∷ [])) whole (e ∷ [], refl)) mine.2.1),
            ))
            (get_snoc k.log e p h.0 h.1)),
        refl,
      )

  pub release_lock : (slots id : ℕ) (me : Sat V) (v : View) (x : V) → me ≡ (v, (0, Some x) ∷ []) → v.holds ≡ true → 0 < v.parts → entries x ≡ v.seen → origin x ≡ v.origin → slots ≡ 1
      → Allows Rule slots id me 1 (λ _. 0) (λ _. released (step slots 1 0 0 none) me 0)
  release_lock slots id me v x is on some_part is_seen is_origin single =
      subst (λ (m : Sat V). Allows Rule slots id m 1 (λ _. 0) (λ _. released (step slots 1 0 0 none) m 0)) (sym is) (release slots id v x on some_part is_seen is_origin single)

  ender_appended : (views : List View) (log : List Entry) (p n : ℕ) (w : View) → HasEnder views log p n → HasEnder (views ++ w ∷ []) log p n
  ender_appended views log p n w (j, q, u, there, has_p, has_q, lt, first) = (j, q, u, at_longer views (w ∷ []) j u there, has_p, has_q, lt, first)

  pub split_seats : (id : ℕ) (v : View) (a b : ℕ) → a + b ≡ v.parts → 0 < a → Splits Rule id v (seat_view v.seen v.told v.own v.origin a v.holds) (seat_view v.seen [] [] v.origin b false)
  split_seats id v a b sum some_part s k at =
      let l : View = seat_view v.seen v.told v.own v.origin a v.holds in
      let r : View = seat_view v.seen [] [] v.origin b false in
      let f = k.each id v at in
      let mine : Fits k.log start l = record {
        seen = f.seen;
        told = f.told;
        rises = f.rises;
        below = f.below;
        same = inr (has_origin k.log start v f (omega arith));
        whole = f.whole;
        idle = λ e. absurd (omega arith);
      } in
      let new : Fits k.log start r = record {
        seen = f.seen;
        told = (k.log, refl);
        rises = tt;
        below = λ p h. absurd (omega arith);
        same = inr (has_origin k.log start v f (omega arith));
        whole = λ e. absurd (cc);
        idle = λ _. (refl, refl);
      } in
      record {
        log = k.log;
        wide = k.wide;
        counted = k.counted;
        holding = let x = total_snoc hold_of (set s.views id l) r in let y = total_set hold_of s.views id v l at in let z = k.holding in omega arith;
        single = k.single;
        parts = let x = total_snoc parts_of (set s.views id l) r in let y = total_set parts_of s.views id v l at in let z = k.parts in omega arith;
        owned = λ p. let x = total_snoc (times_of p) (set s.views id l) r in let y = total_set (times_of p) s.views id v l at in let z = k.owned p in omega arith;
        each = λ j u e. ⊎_elim (fits_set k.log start s.views id l mine (λ i x _ there. k.each i x there) j u) (λ (t : r ≡ u). subst (Fits k.log start) t new) (at_snoc (set s.views id l) r u j e);
        home = k.home;
        ended = λ p n e. ender_appended (set s.views id l) k.log p n r (ender_stays s.views k.log p n id v l at (inside_of s.views id v at) (λ _ o. o) (k.ended p n e));
      }

  pub cut_seat : (n id : ℕ) (v : View) → 1 ≤ n → n < v.parts → Splits Rule id v (without_parts n v) (parts_from n v)
  cut_seat n id v least less = split_seats id v (v.parts - n) n (omega arith) (omega arith)

  pub copy_seat : (id : ℕ) (v : View) → 0 < v.parts → Splits Rule id v v (note_of v)
  copy_seat id v some_part = split_seats id v v.parts 0 (omega arith) some_part

  fits_spent : (log : List Entry) → Fits log start spent
  fits_spent log = record {
    seen = (log, refl);
    told = (log, refl);
    rises = tt;
    below = λ p h. absurd (omega arith);
    same = inl refl;
    whole = λ e. absurd (cc);
    idle = λ _. (refl, refl);
  }

  pub join_seats : (id : ℕ) (v : View) (other : ℕ) (w : View) → v.holds ≡ false → w.holds ≡ false → 0 < v.parts → Joins Rule id v other w (both v w) spent
  join_seats id v other w off off' some_part s k at apart there =
      let b : View = both v w in
      let mid : List View = set s.views id b in
      let was : get_elem? s.views other ≡ some w = sym (set_else s.views id other b apart) ∙ there in
      let f = k.each id v at in
      let h = k.each other w was in
      let begin = longer_begins v.seen w.seen k.log f.seen h.seen in
      let long = longer_length v.seen w.seen in
      let once : (p : ℕ) → times p w.own + times p v.own ≤ 1 =
      (λ p. let t = total_two (times_of p) s.views id other v w apart at was in let e = k.owned p in let o = once_below-one p (length k.log) in omega arith) in
      let mine : Fits k.log start b = record {
        seen = begin.0;
        told = begin.1;
        rises = Rises-merge w.own v.own h.rises f.rises once;
        below = λ p o.
            let m = times-merge p w.own v.own in
            let n : ℕ = times p w.own in
            dite (ℕ_discrete n 0)
            (λ (z : n ≡ 0). let x = f.below p (omega arith) in omega arith)
            (λ (z : n ≢ 0). let x = h.below p (omega arith) in omega arith);
        same = inr (has_origin k.log start v f some_part);
        whole = λ on. let no : true ≡ false = sym on ∙ off in absurd (cc);
        idle = λ e. absurd (omega arith);
      } in
      let v0 : hold_of v ≡ 0 = ap (λ (x : Bool). cond x 1 0) off in
      let w0 : hold_of w ≡ 0 = ap (λ (x : Bool). cond x 1 0) off' in
      record {
        log = k.log;
        wide = k.wide;
        counted = k.counted;
        holding = let x = total_set hold_of mid other w spent there in let y = total_set hold_of s.views id v b at in let z = k.holding in omega arith;
        single = k.single;
        parts = let x = total_set parts_of mid other w spent there in let y = total_set parts_of s.views id v b at in let z = k.parts in omega arith;
        owned = λ p. let x = total_set (times_of p) mid other w spent there in let y = total_set (times_of p) s.views id v b at in let z = k.owned p in let m = times-merge p w.own v.own in omega arith;
        each = fits_set k.log start mid other spent (fits_spent k.log) (λ j u _ e. fits_set k.log start s.views id b mine (λ i x _ e'. k.each i x e') j u e);
        home = k.home;
        ended = λ p n e. joined p n (k.ended p n e);
      }
    where
      joined : (p n : ℕ) → HasEnder s.views k.log p n → HasEnder (set (set s.views id (both v w)) other spent) k.log p n
      joined p n (j, q, u, here, has_p, has_q, lt, first) =
          let b : View = both v w in
          let mid : List View = set s.views id b in
          let was : get_elem? s.views other ≡ some w = sym (set_else s.views id other b apart) ∙ there in
          let mp = times-merge p w.own v.own in
          let mq = times-merge q w.own v.own in
          let at_id : get_elem? (set mid other spent) id ≡ some b = set_else mid other id spent (λ e. apart (sym e)) ∙ set_here s.views id b (inside_of s.views id v at) in
          dite (ℕ_discrete j id)
          (λ (e : j ≡ id).
          let is : u ≡ v = some-injective u v (sym here ∙ (ap (get_elem? s.views) e ∙ at)) in
          let a : Owns v.own p = subst (λ (x : View). Owns x.own p) is has_p in
          let c : Owns v.own q = subst (λ (x : View). Owns x.own q) is has_q in
          (id, q, b, at_id, omega arith, omega arith, lt, first))
          (λ (no : j ≢ id). dite (ℕ_discrete j other)
          (λ (e : j ≡ other).
          let is : u ≡ w = some-injective u w (sym here ∙ (ap (get_elem? s.views) e ∙ was)) in
          let a : Owns w.own p = subst (λ (x : View). Owns x.own p) is has_p in
          let c : Owns w.own q = subst (λ (x : View). Owns x.own q) is has_q in
          (id, q, b, at_id, omega arith, omega arith, lt, first))
          (λ (other_too : j ≢ other). (j, q, u, set_else mid other j spent other_too ∙ (set_else s.views id j b no ∙ here), has_p, has_q, lt, first)))

  pub compare_lists : (slots id : ℕ) (me : Sat V) → Allows Rule slots id me 2 (λ n. n) (compared (step slots 2 0 0 none) me)
  compare_lists slots id me s k wide at small =
      let v : View = me.0 in
      let w : View = seat_view v.seen [] v.own v.origin v.parts v.holds in
      let f = k.each id v at in
      let words : List ℕ = set s.words 2 (slice_index s.words 2) in
      let same : words ≡ s.words = set-get_or s.words 2 0 in
      let one : slice_index words 1 ≡ slice_index s.words 1 = ap (λ (l : List ℕ). slice_index l 1) same in
      let holding = k.holding in
      let single = k.single in (
        w,
        keeps,
        tt,
        renewed s k id v w words s.homes k.log at
            (ap length same ∙ k.wide)
            (ap (λ (l : List ℕ). slice_index l 2) same ∙ k.counted)
            (omega arith)
            (omega arith)
            refl
            (λ p. refl)
            record {
              seen = f.seen;
              told = (k.log, refl);
              rises = f.rises;
              below = f.below;
              same = ⊎_elim (λ (is : v ≡ spent). inl (ap untold is)) (λ (is : v.origin ≡ start). inr is) f.same;
              whole = f.whole;
              idle = f.idle;
            }
            (λ j u _ e. k.each j u e)
            (λ z. k.home (sym one ∙ z))
            (λ p n e. ender_stays s.views k.log p n id v w at (inside_of s.views id v at) (λ _ o. o) (k.ended p n e)),
        (refl, λ le. prefix_of_two v.told v.seen k.log f.told f.seen le),
      )

  -- The rule at the end, when one seat has all parts.
  pub close_all : (id : ℕ) (v : View) (ws : List ℕ) (xs : List (Option V)) → v.parts ≡ 65536 → v.holds ≡ false → Final (Seen Rule id v) ws xs
      → (x : V) × (get_elem? xs 0 ≡ some (Some x)) × (entries x ≡ v.seen) × (origin x ≡ v.origin) × ((p : ℕ) → times p v.own ≡ once_below p (length v.seen))
  close_all id v ws xs all off (s, (k, at), words, count, values) =
      let f = k.each id v at in
      let idle = others_idle s k id v at all in
      let no_holder : total hold_of s.views ≡ 0 =
      total_alone hold_of s.views id v at (λ j u apart there. ap (λ (b : Bool). cond b 1 0) (idle j u apart there).1) ∙ ap (λ (b : Bool). cond b 1 0) off in
      let home = k.home (sym k.holding ∙ no_holder) in
      let x : V = home.0 in
      let own : (p : ℕ) → times p v.own ≡ once_below p (length k.log) =
      (λ p. sym (total_alone (times_of p) s.views id v at (λ j u apart there. ap (times p) (idle j u apart there).0)) ∙ k.owned p) in
      let whole : v.seen ≡ k.log = seen_whole s k id v at all in (
        x,
        values 0 (Some x) (ap (λ (l : List (opt.Option (Option V))). get_elem? l 0) home.1),
        home.2 ∙ sym whole,
        home.3 ∙ sym (has_origin k.log start v f (omega arith)),
        λ p. own p ∙ ap (once_below p) (ap length (sym whole)),
      )
