use Rattle.std.proofs.Common.{◌≡◌, ◌∙◌, ℕ, ◌+◌, ◌-◌, ◌≤◌, ◌<◌, ◌∷◌, ◌++◌, [], Bool, true, false, true≢false, List, sym, ap, arith, length-append}
use Rattle.std.specs.Prelude.{vec_capacity}
use Rattle.plain_list.specs.declared.entries.Entry.{Entry}
use Rattle.plain_list.proofs.Histories.{call_count-le}
use Rattle.commit_book.specs.BookView.{list_in}
use Rattle.commit_book.specs.History.{IsHistory}
use Rattle.commit_book.specs.declared.history.History.TheInside.{Inside}
use Rattle.commit_book.proofs.LastChanges.{Counts, counts-still, counts-moved}
use Rattle.commit_book.proofs.history.History.push.Goals.{then-not-is_still, else-not-is_still}
use Rattle.commit_book.proofs.history.History.push.Goals as goal

pub overflow_add-self-2 : goal.overflow_add-self-2
overflow_add-self-2 c =
    let inv = c.self.invariant in
    omega (arith, inv.calls, inv.len, inv.room, call_count-le c.self.inside.past.entries, c.calls_in.ensures, call_count-le (c.args.entry ∷ []))

counts_of : (h : Inside) → IsHistory h → Counts h.past.entries h.len h.calls h.room h.changed
counts_of h is = record { len_is = is.len; calls_are = is.calls; room_is = is.room; within = is.changed; last = record { still = is.still; moves = is.moves } }

-- a history whose counts have one more entry
record HasCounted (old new : Inside) (e : Entry) : Type 0 where
  list : new.list ≡ old.list
  kind : new.kept ≡ old.kept
  past : new.past.entries ≡ old.past.entries
  room : new.room ≡ old.room - 1
  counts : Counts (old.past.entries ++ e ∷ []) new.len new.calls new.room new.changed

counted : (old new : Inside) (e : Entry) (more changed : ℕ) → new ≡ record old { len = old.len + 1; calls = old.calls + more; changed = changed; room = old.room - 1 }
    → Counts (old.past.entries ++ e ∷ []) (old.len + 1) (old.calls + more) (old.room - 1) changed → HasCounted old new e
counted old new e more changed same counts = record {
  list = ap (λ (s : Inside). s.list) same;
  kind = ap (λ (s : Inside). s.kept) same;
  past = ap (λ (s : Inside). s.past.entries) same;
  room = ap (λ (s : Inside). s.room) same;
  counts = rw same counts;
}

pub invariant_of-self : goal.invariant_of-self
invariant_of-self c =
    let old = c.self.inside in
    let new = c.if-not-is_still.self-inside in
    let inv = c.self.invariant in
    let h = old.past.entries in
    let e = c.args.entry in
    let more = c.calls_in.result in
    let some : 0 < old.room = rw (← c.self.view_is) at c.requires.room in
    let it : HasCounted old new e = elim c.if-not-is_still.branch [
      | then-not-is_still w ↦
          counted old new e more (old.len + 1) w.self-inside-is (counts-moved h e old.len old.calls old.room old.changed (counts_of old inv) some more c.calls_in.ensures (sym c.is_still.ensures ∙ w.if-not-is_still.true))
      | else-not-is_still w ↦
          counted old new e more old.changed w.self-inside-is (counts-still h e old.len old.calls old.room old.changed (counts_of old inv) some more c.calls_in.ensures (sym c.is_still.ensures ∙ w.if-not-is_still.false))
    ] in
    let kept : old.kept ≡ true = sym it.kind ∙ c.if-self.true in
    let whole : old.list.items ≡ h = inv.list ∙ ap (λ (k : Bool). list_in k h) kept in
    let larger : vec_capacity old.list ≤ vec_capacity c.push_within.new.entries = rw it.list at c.push_within.ensures.capacity in
    rw (c.with-self-inside.ensures ∙ ap (λ (l : List Entry). l ++ e ∷ []) it.past) (record {
      list = c.push_within.ensures.items ∙ ap (λ (l : List Entry). l ++ e ∷ []) (ap (λ v. v.items) it.list ∙ whole) ∙ sym (ap (λ (k : Bool). list_in k (h ++ e ∷ [])) c.if-self.true);
      capacity = λ _. omega (arith, length-append h (e ∷ []), some, it.room, inv.capacity kept, larger);
      len = it.counts.len_is;
      calls = it.counts.calls_are;
      room = it.counts.room_is;
      changed = it.counts.within;
      still = it.counts.last.still;
      moves = it.counts.last.moves;
    })

pub invariant_of-self-else-self : goal.invariant_of-self-else-self
invariant_of-self-else-self c =
    let old = c.self.inside in
    let new = c.if-not-is_still.self-inside in
    let inv = c.self.invariant in
    let h = old.past.entries in
    let e = c.args.entry in
    let more = c.calls_in.result in
    let some : 0 < old.room = rw (← c.self.view_is) at c.requires.room in
    let it : HasCounted old new e = elim c.if-not-is_still.branch [
      | then-not-is_still w ↦
          counted old new e more (old.len + 1) w.self-inside-is (counts-moved h e old.len old.calls old.room old.changed (counts_of old inv) some more c.calls_in.ensures (sym c.is_still.ensures ∙ w.if-not-is_still.true))
      | else-not-is_still w ↦
          counted old new e more old.changed w.self-inside-is (counts-still h e old.len old.calls old.room old.changed (counts_of old inv) some more c.calls_in.ensures (sym c.is_still.ensures ∙ w.if-not-is_still.false))
    ] in
    let none : old.kept ≡ false = sym it.kind ∙ c.if-self.false in
    rw (c.with-self-inside.ensures ∙ ap (λ (l : List Entry). l ++ e ∷ []) it.past) (record {
      list = ap (λ v. v.items) it.list ∙ inv.list ∙ ap (λ (k : Bool). list_in k h) none ∙ sym (ap (λ (k : Bool). list_in k (h ++ e ∷ [])) c.if-self.false);
      capacity = λ kept. absurd (true≢false (sym kept ∙ c.if-self.false));
      len = it.counts.len_is;
      calls = it.counts.calls_are;
      room = it.counts.room_is;
      changed = it.counts.within;
      still = it.counts.last.still;
      moves = it.counts.last.moves;
    })
