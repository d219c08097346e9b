-- Rounds of a lane, each a call and maybe a split, and the splits at the end.
use Rattle.std.proofs.Common.{◌≡◌, ◌⊎◌, ℕ, zero, suc, ◌+◌, ◌*◌, ◌<◌, ◌≤◌, List, length, refl, ap, ◌∙◌, inl, inr, ⊎_elim, arith}
use Rattle.std.specs.Prelude.{Bool}
use Rattle.plain_list.specs.declared.ops.Op.{Op}
use Rattle.plain_list.specs.declared.entries.Entry.{Entry}
use Rattle.plain_list.specs.declared.entries.Entry.TheVariants.{Fail, Call, Begin}
use Rattle.lane_history.proofs.Weights.{weight, counted, counted-below, counted-past, counted-later, at}
use Rattle.lane_history.proofs.Entries.{begins, calls, ends, one-kind}
use Rattle.lane_history.proofs.Gains.{Puts, Idles, Closes, Begun, HasTried, HasCalled, crowd, puts-none, puts-past, puts-whole, puts-room, Gains, gains-later, gains-idle, gains-call}

-- what adds no begin and no call
pub record Quiet (h : List Entry) (bad : ℕ → ℕ) (own new : List ℕ) : Type 0 where
  pub begun : (n : ℕ) → weight (at begins h) new n ≡ weight (at begins h) own n
  pub called : (n : ℕ) → weight (at calls h) new n ≡ weight (at calls h) own n
  pub room : (n : ℕ) → weight (crowd h bad) new n ≡ weight (crowd h bad) own n
  pub ended : (n : ℕ) → weight (at ends h) own n ≤ weight (at ends h) new n

module _ (h : List Entry) (bad : ℕ → ℕ) where
  quiet-none : (own new : List ℕ) → new ≡ own → Quiet h bad own new
  quiet-none own new same = record {
    begun = λ n. ap (λ (l : List ℕ). weight (at begins h) l n) same;
    called = λ n. ap (λ (l : List ℕ). weight (at calls h) l n) same;
    room = λ n. ap (λ (l : List ℕ). weight (crowd h bad) l n) same;
    ended = λ n. let e : weight (at ends h) new n ≡ weight (at ends h) own n = ap (λ (l : List ℕ). weight (at ends h) l n) same in omega arith;
  }

  quiet-puts : (own new : List ℕ) (p : ℕ) (e : Entry) → begins e ≡ 0 → calls e ≡ 0 → ends e ≤ 1 → Puts h own new p e → Quiet h bad own new
  quiet-puts own new p e no_begin no_call few puts = record {
    begun = puts-none begins h own new p e puts no_begin;
    called = puts-none calls h own new p e puts no_call;
    room = puts-room h bad own new p e puts (let z : begins e * bad p ≡ 0 * bad p = ap (λ (k : ℕ). k * bad p) no_begin in omega arith);
    ended = by_end (ends e) few refl;
  }
    where
      by_end : (k : ℕ) → k ≤ 1 → ends e ≡ k → (n : ℕ) → weight (at ends h) own n ≤ weight (at ends h) new n
      by_end zero le is n = let z = puts-none ends h own new p e puts is n in omega arith
      by_end (suc zero) le is n = let z = puts-past ends h own new p e puts is n in omega arith
      by_end (suc (suc k)) le is n = absurd (omega arith)

  pub quiet-idle : (own new : List ℕ) → Idles h own new → Quiet h bad own new
  quiet-idle own new (inl same) = quiet-none own new same
  quiet-idle own new (inr (p, cell, lost, puts)) = quiet-puts own new p (Fail cell lost) refl refl (omega arith) puts

  pub quiet-closes : (Calm : Type 0) (least : ℕ) (own new : List ℕ) → Closes h Calm least own new → Quiet h bad own new
  quiet-closes Calm least own new (inl (p, e, is, later, puts)) =
      let kind = one-kind e in
      quiet-puts own new p e (omega arith) (omega arith) (omega arith) puts
  quiet-closes Calm least own new (inr (idle, not)) = quiet-idle own new idle

  -- where the history is calm, the end of a split weighs 1
  pub closes-whole : (Calm : Type 0) (least : ℕ) (own new : List ℕ) → Closes h Calm least own new → Calm → weight (at ends h) new (length h) ≡ weight (at ends h) own (length h) + 1
  closes-whole Calm least own new (inl (p, e, is, later, puts)) calm = puts-whole ends h own new p e puts is
  closes-whole Calm least own new (inr (idle, not)) calm = absurd (not calm)

  -- the begin of a split where there is room
  pub begun-room : (own mid : List ℕ) (place number : ℕ) (name : List Bool) → Puts h own mid place (Begin number name) → bad place ≡ 0 → (n : ℕ) → weight (crowd h bad) mid n ≡ weight (crowd h bad) own n
  begun-room own mid place number name puts room = puts-room h bad own mid place (Begin number name) puts (omega arith)

  -- a call and a split
  gains-begun : (Calm : Type 0) (own mid new : List ℕ) (place session row : ℕ) (op : Op) → Puts h own mid place (Call session row op) → Begun h bad Calm (place + 1) mid new → Gains h bad Calm own new 1
  gains-begun Calm own mid new place session row op puts begun =
      let call = gains-call h bad Calm own mid place session row op puts in
      let b0 = puts-none begins h own mid place (Call session row op) puts refl in
      let c0 = puts-past calls h own mid place (Call session row op) puts refl in
      let b1 = puts-past begins h mid begun.mid begun.place (Begin begun.number begun.name) begun.puts refl in
      let c1 = puts-none calls h mid begun.mid begun.place (Begin begun.number begun.name) begun.puts refl in
      let e1 = puts-none ends h mid begun.mid begun.place (Begin begun.number begun.name) begun.puts refl in
      let r1 = begun-room mid begun.mid begun.place begun.number begun.name begun.puts begun.room in
      let whole = puts-whole begins h mid begun.mid begun.place (Begin begun.number begun.name) begun.puts refl in
      let quiet = quiet-closes Calm (begun.place + 1) begun.mid new begun.closes in
      let later = begun.later in
      record {
        fair = λ n.
            let w = b0 n in let x = c0 n in let y = b1 n in let z = c1 n in
            let s = quiet.begun n in let t = quiet.called n in
            let u = counted-later place begun.place n 1 (omega arith) in
            omega arith;
        room = λ n. quiet.room n ∙ (r1 n ∙ call.room n);
        few = let x = call.few in let z = c1 (length h) in let t = quiet.called (length h) in omega arith;
        even = λ calm.
            let x = call.even calm in
            let y = e1 (length h) in
            let s = quiet.begun (length h) in
            let t = closes-whole Calm (begun.place + 1) begun.mid new begun.closes calm in
            omega arith;
      }

  pub gains-called : (Calm : Type 0) (own new : List ℕ) → HasCalled h bad Calm own new → Gains h bad Calm own new 1
  gains-called Calm own new called = by_try called.tried
    where
      by_try : HasTried h bad Calm (called.place + 1) called.mid new → Gains h bad Calm own new 1
      by_try (inl idle) =
          gains-later h bad Calm own called.mid new 1 0 (gains-call h bad Calm own called.mid called.place called.session called.row called.op called.puts) (gains-idle h bad Calm called.mid new idle)
      by_try (inr begun) = gains-begun Calm own called.mid new called.place called.session called.row called.op called.puts begun

-- Splits one after another, at positions from the one bound on and below the other: at most one of them is open at a time, and none behind
-- the last where all ended.
pub record Pairs (h : List Entry) (bad : ℕ → ℕ) (All : Type 0) (own new : List ℕ) (from to : ℕ) : Type 0 where
  pub rise : from ≤ to
  pub early : (n : ℕ) → n ≤ from → weight (at begins h) new n ≡ weight (at begins h) own n
  pub ended : (n : ℕ) → weight (at ends h) own n ≤ weight (at ends h) new n
  pub one : (n : ℕ) → weight (at begins h) new n + weight (at ends h) own n ≤ weight (at begins h) own n + weight (at ends h) new n + 1
  pub past : All → (n : ℕ) → to ≤ n → weight (at begins h) new n + weight (at ends h) own n ≤ weight (at begins h) own n + weight (at ends h) new n
  pub calls_are : (n : ℕ) → weight (at calls h) new n ≡ weight (at calls h) own n
  pub room : (n : ℕ) → weight (crowd h bad) new n ≡ weight (crowd h bad) own n

module _ (h : List Entry) (bad : ℕ → ℕ) where
  pub pairs-idle : (All : Type 0) (own new : List ℕ) (from to : ℕ) → from ≤ to → Idles h own new → Pairs h bad All own new from to
  pairs-idle All own new from to rise idle =
      let quiet = quiet-idle h bad own new idle in
      record {
        rise = rise;
        early = λ n le. quiet.begun n;
        ended = quiet.ended;
        one = λ n. let b = quiet.begun n in let e = quiet.ended n in omega arith;
        past = λ all n le. let b = quiet.begun n in let e = quiet.ended n in omega arith;
        calls_are = quiet.called;
        room = quiet.room;
      }

  -- a split that ended, at positions below the bound
  pub pairs-end : (own mid new : List ℕ) (from to p q number : ℕ) (name : List Bool) (e : Entry) → from ≤ p → p < q → q < to → Puts h own mid p (Begin number name) → bad p ≡ 0 → ends e ≡ 1 → Puts h mid new q e
      → Pairs h bad (Unit {0}) own new from to
  pairs-end own mid new from to p q number name e least later below begun room is puts =
      let kind = one-kind e in
      let b0 = puts-past begins h own mid p (Begin number name) begun refl in
      let c0 = puts-none calls h own mid p (Begin number name) begun refl in
      let e0 = puts-none ends h own mid p (Begin number name) begun refl in
      let r0 = begun-room h bad own mid p number name begun room in
      let b1 = puts-none begins h mid new q e puts (omega arith) in
      let c1 = puts-none calls h mid new q e puts (omega arith) in
      let e1 = puts-past ends h mid new q e puts is in
      let r1 = puts-room h bad mid new q e puts (let none : begins e ≡ 0 = omega arith in let z : begins e * bad q ≡ 0 * bad q = ap (λ (k : ℕ). k * bad q) none in omega arith) in
      record {
        rise = omega arith;
        early = λ n le. let b = b0 n in let c = b1 n in let none = counted-past p n 1 (omega arith) in omega arith;
        ended = λ n. let x = e0 n in let y = e1 n in omega arith;
        one = λ n. let b = b0 n in let c = b1 n in let x = e0 n in let y = e1 n in let most = counted-most p n in omega arith;
        past = λ all n le. let b = b0 n in let c = b1 n in let x = e0 n in let y = e1 n in let most = counted-most p n in let full = counted-below q n 1 (omega arith) in omega arith;
        calls_are = λ n. c1 n ∙ c0 n;
        room = λ n. r1 n ∙ r0 n;
      }
    where
      counted-most : (p n : ℕ) → counted p n 1 ≤ 1
      counted-most p n = ⊎_elim (λ (lt : p < n). let is = counted-below p n 1 lt in omega arith) (λ (le : n ≤ p). let is = counted-past p n 1 le in omega arith) (either p n)
        where
          either : (p n : ℕ) → (p < n) ⊎ (n ≤ p)
          either p zero = inr (omega arith)
          either zero (suc n) = inl (omega arith)
          either (suc p) (suc n) = ⊎_elim (λ (lt : p < n). inl (omega arith)) (λ (le : n ≤ p). inr (omega arith)) (either p n)

  -- a split that was begun, which may have been left open
  pub pairs-begun : (Calm : Type 0) (own new : List ℕ) (from to : ℕ) → from ≤ to → Begun h bad Calm from own new → Pairs h bad ⊥ own new from to
  pairs-begun Calm own new from to rise begun =
      let b0 = puts-past begins h own begun.mid begun.place (Begin begun.number begun.name) begun.puts refl in
      let c0 = puts-none calls h own begun.mid begun.place (Begin begun.number begun.name) begun.puts refl in
      let e0 = puts-none ends h own begun.mid begun.place (Begin begun.number begun.name) begun.puts refl in
      let r0 = begun-room h bad own begun.mid begun.place begun.number begun.name begun.puts begun.room in
      let quiet = quiet-closes h bad Calm (begun.place + 1) begun.mid new begun.closes in
      let least = begun.later in
      record {
        rise = rise;
        early = λ n le. let b = b0 n in let c = quiet.begun n in let none = counted-past begun.place n 1 (omega arith) in omega arith;
        ended = λ n. let x = e0 n in let y = quiet.ended n in omega arith;
        one = λ n. let b = b0 n in let c = quiet.begun n in let x = e0 n in let y = quiet.ended n in let most = counted-later 0 begun.place n 1 (omega arith) in let less = counted-first n in omega arith;
        past = λ none. absurd none;
        calls_are = λ n. quiet.called n ∙ c0 n;
        room = λ n. quiet.room n ∙ r0 n;
      }
    where
      counted-first : (n : ℕ) → counted 0 n 1 ≤ 1
      counted-first zero = omega arith
      counted-first (suc n) = let is = counted-below 0 (suc n) 1 (omega arith) in omega arith

  pub pairs-later : (All : Type 0) (own mid new : List ℕ) (from less more to : ℕ) → less ≤ more → Pairs h bad (Unit {0}) own mid from less → Pairs h bad All mid new more to → Pairs h bad All own new from to
  pairs-later All own mid new from less more to le first second =
      let rise = first.rise in
      let rises = second.rise in
      record {
        rise = omega arith;
        early = λ n early. second.early n (omega arith) ∙ first.early n early;
        ended = λ n. let x = first.ended n in let y = second.ended n in omega arith;
        one = λ n. ⊎_elim
            (λ (early : n ≤ more). let same = second.early n early in let x = first.one n in let y = second.ended n in omega arith)
            (λ (past : more < n). let x = first.past tt n (omega arith) in let y = second.one n in omega arith)
            (order n more);
        past = λ all n far. let x = first.past tt n (omega arith) in let y = second.past all n far in omega arith;
        calls_are = λ n. second.calls_are n ∙ first.calls_are n;
        room = λ n. second.room n ∙ first.room n;
      }
    where
      order : (a b : ℕ) → (a ≤ b) ⊎ (b < a)
      order zero b = inl (omega arith)
      order (suc a) zero = inr (omega arith)
      order (suc a) (suc b) = ⊎_elim (λ (le : a ≤ b). inl (omega arith)) (λ (lt : b < a). inr (omega arith)) (order a b)

  -- where that isn't asked
  pub pairs-weak : (own new : List ℕ) (from to : ℕ) → Pairs h bad (Unit {0}) own new from to → Pairs h bad ⊥ own new from to
  pairs-weak own new from to pairs = record {
    rise = pairs.rise;
    early = pairs.early;
    ended = pairs.ended;
    one = pairs.one;
    past = λ none. absurd none;
    calls_are = pairs.calls_are;
    room = pairs.room;
  }
