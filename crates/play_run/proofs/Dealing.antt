-- Lanes as they are dealt and run.
use Rattle.std.proofs.Common.{◌≡◌, ◌≢◌, ℕ, zero, suc, ◌+◌, ◌<◌, ◌≤◌, false, List, [], ◌∷◌, ◌++◌, length, length-append, Bool, true, cond, ◌==◌, refl, sym, ap, subst, ◌∙◌, arith}
use Rattle.std.specs.Prelude.{slice_index_or, ⊤}
use Rattle.std.specs.List.{AllByRecursion}
use Rattle.std.proofs.lemmas.Bool.{eqb-true}
use Rattle.std.proofs.lemmas.Bool.Decides.{nat_tests, Decides-eqb}
use Rattle.std.proofs.lemmas.List.{append-nil}
use Rattle.plain_list.specs.declared.ops.Op.{Op}
use Rattle.plain_list.specs.Answer.{IsValid}
use Rattle.csv_rows.specs.declared.rows.InRow.{InRow}
use Rattle.csv_rows.specs.InRows.{IsInRow, AreInRows}
use Rattle.atomic_table.specs.Seated.{TableId}
use Rattle.book_lock.specs.Pass.{Known}
use Rattle.book_lock.specs.Own.{times}
use Rattle.book_lock.specs.declared.origin.Origin.{Origin}
use Rattle.book_lock.proofs.Positions.{times-append}
use Rattle.sessions.specs.declared.store.lanes.Lane.{Lane}
use Rattle.sessions.specs.Lanes.{IsReadyLane, PlaysLane}
use Rattle.sessions.proofs.LanePasses.{plays-same}
use Rattle.lane_history.specs.SessionRows.{session_rows, session_rows_from}
use Rattle.lane_history.specs.Lanes.{HasPlayedLane, HaveAllPlayed, RiseFrom, AreSessions}
use Rattle.play_run.specs.inside.Dealt.{one_if, sessions_to, fresh_pass, IsDealt, AreDealt, AddsLane, HasDealt}
use Rattle.play_run.specs.inside.Joined.{IsIdle, AreIdle}

-- the rows of a session may be asked
valid-rows : (n s : ℕ) (rows : List InRow) → AllByRecursion IsInRow rows → (i : ℕ) (d : ℕ × Op) → i < length (session_rows_from n s rows) → IsValid (slice_index_or (session_rows_from n s rows) i d).1
valid-rows n s [] all i d within = absurd (omega (arith, within))
valid-rows n s (r ∷ rows) (first, all) i d within = by_test (valid-rows (n + 1) s rows all) (r.session == s) i within
  where
    by_test : ((j : ℕ) (e : ℕ × Op) → j < length (session_rows_from (n + 1) s rows) → IsValid (slice_index_or (session_rows_from (n + 1) s rows) j e).1)
        → (b : Bool) (j : ℕ) → j < length (cond b ((n, r.op) ∷ session_rows_from (n + 1) s rows) (session_rows_from (n + 1) s rows))
        → IsValid (slice_index_or (cond b ((n, r.op) ∷ session_rows_from (n + 1) s rows) (session_rows_from (n + 1) s rows)) j d).1
    by_test more true zero lt = first.valid
    by_test more true (suc j) lt = more j d (omega (arith, lt))
    by_test more false j lt = more j d lt

module _ {I D O P : Type 0} (lock : TableId) (origin : Origin) (rows : List InRow) where
  dealt-one : (sessions : List ℕ) (lanes : List (Lane I D O P)) (s : ℕ) (lane : Lane I D O P) → AreDealt lock origin rows sessions lanes → IsDealt lock origin s (session_rows rows s) lane
      → AreDealt lock origin rows (sessions ++ s ∷ []) (lanes ++ lane ∷ [])
  dealt-one [] [] s lane all one = (one, tt)
  dealt-one [] (x ∷ lanes) s lane all one = absurd all
  dealt-one (x ∷ sessions) [] s lane all one = absurd all
  dealt-one (x ∷ sessions) (y ∷ lanes) s lane (first, all) one = (first, dealt-one sessions lanes s lane all one)

  dealt-length : (sessions : List ℕ) (lanes : List (Lane I D O P)) → AreDealt lock origin rows sessions lanes → length lanes ≡ length sessions
  dealt-length [] [] all = refl
  dealt-length [] (x ∷ lanes) all = absurd all
  dealt-length (x ∷ sessions) [] all = absurd all
  dealt-length (x ∷ sessions) (y ∷ lanes) (first, all) = ap suc (dealt-length sessions lanes all)

  idle-dealt : (sessions : List ℕ) (lanes : List (Lane I D O P)) → AreDealt lock origin rows sessions lanes → AreIdle lock lanes
  idle-dealt [] [] all = tt
  idle-dealt [] (x ∷ lanes) all = absurd all
  idle-dealt (x ∷ sessions) [] all = absurd all
  idle-dealt (x ∷ sessions) (y ∷ lanes) (first, all) = (
    record { lock_is = ap (λ (k : Known). k.lock) first.pass_is; off = ap (λ (k : Known). k.holds) first.pass_is; parts = ap (λ (k : Known). k.parts) first.pass_is },
    idle-dealt sessions lanes all,
  )

  is-ready : (s : ℕ) (lane : Lane I D O P) → AreInRows rows → IsDealt lock origin s (session_rows rows s) lane → IsReadyLane lock lane
  is-ready s lane are dealt = record {
    lock_is = ap (λ (k : Known). k.lock) dealt.pass_is;
    off = ap (λ (k : Known). k.holds) dealt.pass_is;
    valid = subst (λ (l : List (ℕ × Op)). (i : ℕ) (d : ℕ × Op) → i < length l → IsValid (slice_index_or l i d).1) (sym dealt.rows_are) (valid-rows 1 s rows are.each);
    room = dealt.room;
    kept = dealt.kept;
    fault = dealt.fault;
  }

  ready-dealt : (sessions : List ℕ) (lanes : List (Lane I D O P)) → AreInRows rows → AreDealt lock origin rows sessions lanes → (i : ℕ) (d : Lane I D O P) → i < length lanes → IsReadyLane lock (slice_index_or lanes i d)
  ready-dealt [] [] are all i d lt = absurd (omega (arith, lt))
  ready-dealt [] (x ∷ lanes) are all i d lt = absurd all
  ready-dealt (x ∷ sessions) [] are all i d lt = absurd all
  ready-dealt (x ∷ sessions) (y ∷ lanes) are (first, all) zero d lt = is-ready x y are first
  ready-dealt (x ∷ sessions) (y ∷ lanes) are (first, all) (suc i) d lt = ready-dealt sessions lanes are all i d (omega (arith, lt))

  has-played : (w s : ℕ) (old new : Lane I D O P) → IsDealt lock origin s (session_rows rows s) old → PlaysLane w old new → HasPlayedLane w origin s (session_rows rows s) new
  has-played w s old new dealt plays = record {
    old = old;
    session_is = dealt.session_is;
    rows_are = dealt.rows_are;
    seen = ap (λ (k : Known). k.seen) dealt.pass_is;
    own = ap (λ (k : Known). k.own) dealt.pass_is;
    begins = ap (λ (k : Known). k.origin) dealt.pass_is;
    plays = plays;
  }

  idle-played : (w s : ℕ) (old new : Lane I D O P) → IsDealt lock origin s (session_rows rows s) old → PlaysLane w old new → IsIdle lock new
  idle-played w s old new dealt plays =
      let same = (plays-same w old new plays).1 in
      record {
        lock_is = ap (λ (k : Known). k.lock) same ∙ ap (λ (k : Known). k.lock) dealt.pass_is;
        off = ap (λ (k : Known). k.holds) same ∙ ap (λ (k : Known). k.holds) dealt.pass_is;
        parts = ap (λ (k : Known). k.parts) same ∙ ap (λ (k : Known). k.parts) dealt.pass_is;
      }

  pub all-played : (w : ℕ) (sessions : List ℕ) (old new : List (Lane I D O P)) → AreDealt lock origin rows sessions old → length new ≡ length old
      → ((i : ℕ) (d : Lane I D O P) → i < length old → PlaysLane w (slice_index_or old i d) (slice_index_or new i d)) → HaveAllPlayed w origin rows sessions new × AreIdle lock new
  all-played w [] [] [] all same plays = (tt, tt)
  all-played w [] [] (y ∷ new) all same plays = absurd (omega (arith, same))
  all-played w [] (x ∷ old) new all same plays = absurd all
  all-played w (s ∷ sessions) [] new all same plays = absurd all
  all-played w (s ∷ sessions) (x ∷ old) [] all same plays = absurd (omega (arith, same))
  all-played w (s ∷ sessions) (x ∷ old) (y ∷ new) (first, all) same plays =
      let one : PlaysLane w x y = plays zero x (omega arith) in
      let rest = all-played w sessions old new all (omega (arith, same)) (λ i d lt. plays (suc i) d (omega (arith, lt))) in
      ((has-played w s x y first one, rest.0), (idle-played w s x y first one, rest.1))

one-few : (s : ℕ) (own : List (ℕ × Op)) → length (one_if s own) ≤ 1
one-few s [] = omega arith
one-few s (r ∷ own) = omega arith

sessions-few : (rows : List InRow) (n : ℕ) → length (sessions_to n rows) ≤ n
sessions-few rows zero = omega arith
sessions-few rows (suc n) =
    let last : List ℕ = one_if (suc n) (session_rows rows (suc n)) in
    let count : length (sessions_to n rows ++ last) ≡ length (sessions_to n rows) + length last = length-append (sessions_to n rows) last in
    let one : length last ≤ 1 = one-few (suc n) (session_rows rows (suc n)) in
    let few : length (sessions_to n rows) ≤ n = sessions-few rows n in
    omega (arith, count, one, few)

true-false : true ≡ false → ⊥
true-false e = cc e

module _ {I D O P : Type 0} (lock : TableId) (rows : List InRow) where
  -- how many lanes there are
  pub lanes-few : (n : ℕ) (lanes : List (Lane I D O P)) (pass : Known) → HasDealt lock rows n lanes pass → length lanes ≤ n
  lanes-few n lanes pass has = omega (arith, dealt-length lock pass.origin rows (sessions_to n rows) lanes has.dealt, sessions-few rows n)

  pub lanes-idle : (n : ℕ) (lanes : List (Lane I D O P)) (pass : Known) → HasDealt lock rows n lanes pass → AreIdle lock lanes
  lanes-idle n lanes pass has = idle-dealt lock pass.origin rows (sessions_to n rows) lanes has.dealt

  pub lanes-ready : (n : ℕ) (lanes : List (Lane I D O P)) (pass : Known) → AreInRows rows → HasDealt lock rows n lanes pass → (i : ℕ) (d : Lane I D O P) → i < length lanes → IsReadyLane lock (slice_index_or lanes i d)
  lanes-ready n lanes pass are has = ready-dealt lock pass.origin rows (sessions_to n rows) lanes are has.dealt

  -- a session without rows has no lane
  pub deal-none : (n : ℕ) (lanes : List (Lane I D O P)) (pass : Known) (own : List (ℕ × Op)) → own ≡ session_rows rows (suc n) → length own ≡ 0 → HasDealt lock rows n lanes pass → HasDealt lock rows (suc n) lanes pass
  deal-none n lanes pass [] is none has = record {
    dealt = subst (λ (l : List ℕ). AreDealt lock pass.origin rows l lanes) (sym (append-nil (sessions_to n rows)) ∙ ap (λ (o : List (ℕ × Op)). sessions_to n rows ++ one_if (suc n) o) is) has.dealt;
    pass_is = has.pass_is;
    whole = has.whole;
  }
  deal-none n lanes pass (r ∷ own) is none has = absurd (omega (arith, none))

  -- a session with rows has one
  pub deal-more : (n : ℕ) (before after : List (Lane I D O P)) (old new : Known) (own : List (ℕ × Op)) (len : ℕ) → own ≡ session_rows rows (suc n) → len ≡ length own → (len == 0) ≡ false → HasDealt lock rows n before old
      → AddsLane (suc n) own old new before after → HasDealt lock rows (suc n) after new
  deal-more n before after old new [] len is count some has adds = absurd (true-false (subst (λ (m : ℕ). (m == 0) ≡ false) count some))
  deal-more n before after old new (r ∷ own) len is count some has adds = record {
    dealt = subst (λ (o : Origin). AreDealt lock o rows (sessions_to (suc n) rows) after) (sym origin_is)
        (subst (λ (l : List (Lane I D O P)). AreDealt lock old.origin rows (sessions_to (suc n) rows) l) (sym adds.lanes)
        (subst (λ (o : List (ℕ × Op)). AreDealt lock old.origin rows (sessions_to n rows ++ one_if (suc n) o) (before ++ adds.lane ∷ [])) is
        (dealt-one lock old.origin rows (sessions_to n rows) before (suc n) adds.lane has.dealt one)));
    pass_is = adds.pass ∙ ap (λ (k : Known). record k { parts = new.parts }) has.pass_is ∙ ap (λ (o : Origin). fresh_pass lock o new.parts) (sym origin_is);
    whole = omega (arith, ap length adds.lanes, length-append before (adds.lane ∷ []), adds.parts, has.whole);
  }
    where
      lock_is : old.lock ≡ lock
      lock_is = ap (λ (k : Known). k.lock) has.pass_is

      origin_is : new.origin ≡ old.origin
      origin_is = ap (λ (k : Known). k.origin) adds.pass

      one : IsDealt lock old.origin (suc n) (session_rows rows (suc n)) adds.lane
      one = subst (λ (o : List (ℕ × Op)). IsDealt lock old.origin (suc n) o adds.lane) is (subst (λ (l : TableId). IsDealt l old.origin (suc n) (r ∷ own) adds.lane) lock_is adds.dealt)

-- the same lanes, pass and number
pub dealt-same : {I D O P : Type 0} (lock : TableId) (rows : List InRow) (n m : ℕ) (lanes other : List (Lane I D O P)) (pass later : Known) → n ≡ m → other ≡ lanes → later ≡ pass → HasDealt lock rows m lanes pass
    → HasDealt lock rows n other later
dealt-same lock rows n m lanes other pass later number same is has =
    subst (λ (k : ℕ). HasDealt lock rows k other later) (sym number) (subst (λ l. HasDealt lock rows m l later) (sym same) (subst (λ (k : Known). HasDealt lock rows m lanes k) (sym is) has))

-- numbers up to this one
abbrev UpTo : ℕ → List ℕ → Type 0
UpTo n [] = ⊤
UpTo n (x ∷ xs) = (x ≤ n) × UpTo n xs

up-later : (n : ℕ) (xs : List ℕ) → UpTo n xs → UpTo (suc n) xs
up-later n [] up = tt
up-later n (x ∷ xs) (first, up) = (omega (arith, first), up-later n xs up)

up-more : (n : ℕ) (xs : List ℕ) → UpTo n xs → UpTo (suc n) (xs ++ suc n ∷ [])
up-more n [] up = (omega arith, tt)
up-more n (x ∷ xs) (first, up) = (omega (arith, first), up-more n xs up)

rise-more : (least n : ℕ) (xs : List ℕ) → least ≤ n → UpTo n xs → RiseFrom least xs → RiseFrom least (xs ++ suc n ∷ [])
rise-more least n [] le up rise = (omega (arith, le), tt)
rise-more least n (x ∷ xs) le (first, up) (above, rise) = (above, rise-more x n xs first up rise)

module _ (rows : List InRow) where
  up-to : (n : ℕ) → UpTo n (sessions_to n rows)
  up-to zero = tt
  up-to (suc n) = by_rows (up-to n) (session_rows rows (suc n))
    where
      by_rows : UpTo n (sessions_to n rows) → (own : List (ℕ × Op)) → UpTo (suc n) (sessions_to n rows ++ one_if (suc n) own)
      by_rows up [] = subst (λ (l : List ℕ). UpTo (suc n) l) (sym (append-nil (sessions_to n rows))) (up-later n (sessions_to n rows) up)
      by_rows up (r ∷ own) = up-more n (sessions_to n rows) up

  rise : (n : ℕ) → RiseFrom 0 (sessions_to n rows)
  rise zero = tt
  rise (suc n) = by_rows (rise n) (session_rows rows (suc n))
    where
      by_rows : RiseFrom 0 (sessions_to n rows) → (own : List (ℕ × Op)) → RiseFrom 0 (sessions_to n rows ++ one_if (suc n) own)
      by_rows up [] = subst (λ (l : List ℕ). RiseFrom 0 l) (sym (append-nil (sessions_to n rows))) up
      by_rows up (r ∷ own) = rise-more 0 n (sessions_to n rows) (omega arith) (up-to n) up

times-self : (s : ℕ) (own : List (ℕ × Op)) → own ≢ [] → 0 < times s (one_if s own)
times-self s [] some = absurd (some refl)
times-self s (r ∷ own) some = omega (arith, ap {B = ℕ} (λ (b : Bool). cond b 1 0) ((Decides-eqb s s).1 refl))

below-of : (n s : ℕ) → (suc n == s) ≡ false → s ≤ suc n → s ≤ n
below-of n s e le = grind (arith, nat_tests)

-- a session that has rows is one of 1 to 16
in-range : (k s : ℕ) (rows : List InRow) → AllByRecursion IsInRow rows → session_rows_from k s rows ≢ [] → (1 ≤ s) × (s ≤ 16)
in-range k s [] all some = absurd (some refl)
in-range k s (r ∷ rows) (first, all) some = by_test (in-range (k + 1) s rows all) (r.session == s) refl some
  where
    by_test : (session_rows_from (k + 1) s rows ≢ [] → (1 ≤ s) × (s ≤ 16)) → (b : Bool) → (r.session == s) ≡ b
        → cond b ((k, r.op) ∷ session_rows_from (k + 1) s rows) (session_rows_from (k + 1) s rows) ≢ [] → (1 ≤ s) × (s ≤ 16)
    by_test more true e there = (omega (arith, eqb-true r.session s e, first.first), omega (arith, eqb-true r.session s e, first.last))
    by_test more false e there = more there

stands-in : (rows : List InRow) (n s : ℕ) → 1 ≤ s → s ≤ n → session_rows rows s ≢ [] → 0 < times s (sessions_to n rows)
stands-in rows zero s least most some = absurd (omega (arith, least, most))
stands-in rows (suc n) s least most some = by_test (stands-in rows n s least) (suc n == s) refl
  where
    last : List ℕ
    last = one_if (suc n) (session_rows rows (suc n))

    by_test : (s ≤ n → session_rows rows s ≢ [] → 0 < times s (sessions_to n rows)) → (b : Bool) → (suc n == s) ≡ b → 0 < times s (sessions_to n rows ++ last)
    by_test more true e =
        let here : 0 < times s last = subst (λ (k : ℕ). 0 < times s (one_if k (session_rows rows k))) (sym (eqb-true (suc n) s e)) (times-self s (session_rows rows s) some) in
        omega (arith, times-append s (sessions_to n rows) last, here)
    by_test more false e = omega (arith, times-append s (sessions_to n rows) last, more (below-of n s e most) some)

-- these are the sessions of the rows
pub sessions-are : (rows : List InRow) → AreInRows rows → AreSessions rows (sessions_to 16 rows)
sessions-are rows are = record {
  rise = rise rows 16;
  all = λ s some. let range = in-range 1 s rows are.each some in stands-in rows 16 s range.0 range.1 some;
}
