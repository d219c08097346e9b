-- What one stretch of a pass adds to its own positions, and what these weigh.
use Rattle.std.proofs.Common.{◌≡◌, ◌⊎◌, ℕ, ◌+◌, ◌*◌, ◌≤◌, List, [], ◌∷◌, ◌++◌, length, refl, ap, ◌∙◌, inl, inr, arith}
use Rattle.std.specs.Prelude.{Some, slice_get, Bool}
use Rattle.plain_list.specs.declared.ops.Op.{Op}
use Rattle.plain_list.specs.declared.entries.Entry.{Entry}
use Rattle.plain_list.specs.declared.entries.Entry.TheVariants.{Fail, Call, Begin}
use Rattle.plain_list.specs.declared.entries.Lost.{Lost}
use Rattle.book_lock.proofs.Histories.{get_below}
use Rattle.lane_history.proofs.Weights.{weight, weight-snoc, counted, counted-none, counted-below, at, at-is}
use Rattle.lane_history.proofs.Entries.{begins, calls, ends}

-- this position, at which this entry stands, is own now
pub record Puts (h : List Entry) (own new : List ℕ) (p : ℕ) (e : Entry) : Type 0 where
  pub own_is : new ≡ own ++ p ∷ []
  pub entry_is : slice_get h p ≡ Some e

-- nothing more is own, or a failed append
abbrev pub Idles : List Entry → List ℕ → List ℕ → Type 0
Idles h own new = (new ≡ own) ⊎ ((p : ℕ) × (cell : ℕ) × (lost : Lost) × Puts h own new p (Fail cell lost))

-- an end of a split is own, or the history isn't calm
abbrev pub Closes : List Entry → Type 0 → ℕ → List ℕ → List ℕ → Type 0
Closes h Calm least own new = ((p : ℕ) × (e : Entry) × (ends e ≡ 1) × (least ≤ p) × Puts h own new p e) ⊎ (Idles h own new × (Calm → ⊥))

-- a split was begun where there was room
pub record Begun (h : List Entry) (bad : ℕ → ℕ) (Calm : Type 0) (least : ℕ) (own new : List ℕ) : Type 0 where
  pub place : ℕ
  pub number : ℕ
  pub name : List Bool
  pub mid : List ℕ
  pub later : least ≤ place
  pub puts : Puts h own mid place (Begin number name)
  pub room : bad place ≡ 0
  pub closes : Closes h Calm (place + 1) mid new

-- a split was tried, or none
abbrev pub HasTried : List Entry → (ℕ → ℕ) → Type 0 → ℕ → List ℕ → List ℕ → Type 0
HasTried h bad Calm least own new = Idles h own new ⊎ Begun h bad Calm least own new

-- a row was called, and then a split tried, or none
pub record HasCalled (h : List Entry) (bad : ℕ → ℕ) (Calm : Type 0) (own new : List ℕ) : Type 0 where
  pub place : ℕ
  pub session : ℕ
  pub row : ℕ
  pub op : Op
  pub mid : List ℕ
  pub puts : Puts h own mid place (Call session row op)
  pub tried : HasTried h bad Calm (place + 1) mid new

-- begins without room
abbrev pub crowd : List Entry → (ℕ → ℕ) → ℕ → ℕ
crowd h bad p = at begins h p * bad p

pub puts-weight : (f : Entry → ℕ) (h : List Entry) (own new : List ℕ) (p : ℕ) (e : Entry) → Puts h own new p e → (n : ℕ) → weight (at f h) new n ≡ weight (at f h) own n + counted p n (f e)
puts-weight f h own new p e puts n =
    ap (λ (l : List ℕ). weight (at f h) l n) puts.own_is ∙ weight-snoc (at f h) own p n ∙ ap (λ (x : ℕ). weight (at f h) own n + counted p n x) (at-is f h p e puts.entry_is)

-- an entry that isn't of a kind weighs nothing
pub puts-none : (f : Entry → ℕ) (h : List Entry) (own new : List ℕ) (p : ℕ) (e : Entry) → Puts h own new p e → f e ≡ 0 → (n : ℕ) → weight (at f h) new n ≡ weight (at f h) own n
puts-none f h own new p e puts none n =
    let is = puts-weight f h own new p e puts n in
    let zero_is : counted p n (f e) ≡ 0 = ap (counted p n) none ∙ counted-none p n in
    omega arith

-- an entry that is of a kind weighs 1 behind its position
pub puts-past : (f : Entry → ℕ) (h : List Entry) (own new : List ℕ) (p : ℕ) (e : Entry) → Puts h own new p e → f e ≡ 1 → (n : ℕ) → weight (at f h) new n ≡ weight (at f h) own n + counted p n 1
puts-past f h own new p e puts one n = puts-weight f h own new p e puts n ∙ ap (λ (x : ℕ). weight (at f h) own n + counted p n x) one

pub puts-whole : (f : Entry → ℕ) (h : List Entry) (own new : List ℕ) (p : ℕ) (e : Entry) → Puts h own new p e → f e ≡ 1 → weight (at f h) new (length h) ≡ weight (at f h) own (length h) + 1
puts-whole f h own new p e puts one =
    let is = puts-past f h own new p e puts one (length h) in
    let here = counted-below p (length h) 1 (get_below h p e puts.entry_is) in
    omega arith

pub puts-room : (h : List Entry) (bad : ℕ → ℕ) (own new : List ℕ) (p : ℕ) (e : Entry) → Puts h own new p e → begins e * bad p ≡ 0 → (n : ℕ) → weight (crowd h bad) new n ≡ weight (crowd h bad) own n
puts-room h bad own new p e puts none n =
    let is : weight (crowd h bad) new n ≡ weight (crowd h bad) own n + counted p n (crowd h bad p) = ap (λ (l : List ℕ). weight (crowd h bad) l n) puts.own_is ∙ weight-snoc (crowd h bad) own p n in
    let weighs : crowd h bad p ≡ 0 = ap (λ (k : ℕ). k * bad p) (at-is begins h p e puts.entry_is) ∙ none in
    let zero_is : counted p n (crowd h bad p) ≡ 0 = ap (counted p n) weighs ∙ counted-none p n in
    omega arith

-- Begins are no more than calls, none is without room, calls are at most so many, and where the history is calm no split stays open.
pub record Gains (h : List Entry) (bad : ℕ → ℕ) (Calm : Type 0) (own new : List ℕ) (most : ℕ) : Type 0 where
  pub fair : (n : ℕ) → weight (at begins h) new n + weight (at calls h) own n ≤ weight (at begins h) own n + weight (at calls h) new n
  pub room : (n : ℕ) → weight (crowd h bad) new n ≡ weight (crowd h bad) own n
  pub few : weight (at calls h) new (length h) ≤ weight (at calls h) own (length h) + most
  pub even : Calm → weight (at begins h) new (length h) + weight (at ends h) own (length h) ≤ weight (at begins h) own (length h) + weight (at ends h) new (length h)

module _ (h : List Entry) (bad : ℕ → ℕ) (Calm : Type 0) where
  pub gains-none : (own new : List ℕ) → new ≡ own → Gains h bad Calm own new 0
  gains-none own new same =
      let b : (n : ℕ) → weight (at begins h) new n ≡ weight (at begins h) own n = (λ n. ap (λ (l : List ℕ). weight (at begins h) l n) same) in
      let c : (n : ℕ) → weight (at calls h) new n ≡ weight (at calls h) own n = (λ n. ap (λ (l : List ℕ). weight (at calls h) l n) same) in
      let e : (n : ℕ) → weight (at ends h) new n ≡ weight (at ends h) own n = (λ n. ap (λ (l : List ℕ). weight (at ends h) l n) same) in
      record {
        fair = λ n. let x = b n in let y = c n in omega arith;
        room = λ n. ap (λ (l : List ℕ). weight (crowd h bad) l n) same;
        few = let y = c (length h) in omega arith;
        even = λ calm. let x = b (length h) in let z = e (length h) in omega arith;
      }

  pub gains-later : (own mid new : List ℕ) (a b : ℕ) → Gains h bad Calm own mid a → Gains h bad Calm mid new b → Gains h bad Calm own new (a + b)
  gains-later own mid new a b first second = record {
    fair = λ n. let x = first.fair n in let y = second.fair n in omega arith;
    room = λ n. second.room n ∙ first.room n;
    few = let x = first.few in let y = second.few in omega arith;
    even = λ calm. let x = first.even calm in let y = second.even calm in omega arith;
  }

  pub gains-fail : (own new : List ℕ) (p cell : ℕ) (lost : Lost) → Puts h own new p (Fail cell lost) → Gains h bad Calm own new 0
  gains-fail own new p cell lost puts =
      let b = puts-none begins h own new p (Fail cell lost) puts refl in
      let c = puts-none calls h own new p (Fail cell lost) puts refl in
      let e = puts-none ends h own new p (Fail cell lost) puts refl in
      record {
        fair = λ n. let x = b n in let y = c n in omega arith;
        room = puts-room h bad own new p (Fail cell lost) puts (omega arith);
        few = let y = c (length h) in omega arith;
        even = λ calm. let x = b (length h) in let z = e (length h) in omega arith;
      }

  pub gains-idle : (own new : List ℕ) → Idles h own new → Gains h bad Calm own new 0
  gains-idle own new (inl same) = gains-none own new same
  gains-idle own new (inr (p, cell, lost, puts)) = gains-fail own new p cell lost puts

  pub gains-call : (own new : List ℕ) (p session row : ℕ) (op : Op) → Puts h own new p (Call session row op) → Gains h bad Calm own new 1
  gains-call own new p session row op puts =
      let b = puts-none begins h own new p (Call session row op) puts refl in
      let c = puts-past calls h own new p (Call session row op) puts refl in
      let whole = puts-whole calls h own new p (Call session row op) puts refl in
      let e = puts-none ends h own new p (Call session row op) puts refl in
      record {
        fair = λ n. let x = b n in let y = c n in omega arith;
        room = puts-room h bad own new p (Call session row op) puts (omega arith);
        few = omega arith;
        even = λ calm. let x = b (length h) in let z = e (length h) in omega arith;
      }
