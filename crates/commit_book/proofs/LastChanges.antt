-- The last entry of a history that may have changed the world.
use Rattle.std.proofs.Common.{◌≡◌, ℕ, ◌+◌, ◌-◌, ◌<◌, ◌≤◌, ◌^◌, true, false, List, [], ◌∷◌, ◌++◌, length, drop, refl, sym, ap, ◌∙◌, arith, length-append, inl, inr, true≢false}
use Rattle.std.specs.Prelude.{◌&&◌}
use Rattle.std.specs.List.{list_all}
use Rattle.std.proofs.lemmas.Bool.{cases_lt, and_parts, and_from}
use Rattle.std.proofs.lemmas.List.{drop-append-le}
use Rattle.std.proofs.lemmas.List.Folds.{list_all-append}
use Rattle.std.proofs.Math.ListN.{drop_of_length-le}
use Rattle.plain_list.specs.declared.entries.Entry.{Entry}
use Rattle.plain_list.specs.History.{call_count}
use Rattle.plain_list.proofs.Histories.{call_count-append}
use Rattle.commit_book.specs.Answers.{is_still, is_still_since}

-- no entry follows the last one
still_since-past : (n : ℕ) (h : List Entry) → length h ≤ n → is_still_since n h ≡ true
still_since-past n h past = ap (list_all is_still) (drop_of_length-le h past)

still_since-append : (n : ℕ) (h : List Entry) (e : Entry) → n ≤ length h → is_still_since n (h ++ e ∷ []) ≡ (is_still_since n h && (is_still e && true))
still_since-append n h e within = ap (list_all is_still) (drop-append-le n h (e ∷ []) within) ∙ list_all-append is_still (drop n h) (e ∷ [])

-- no entry after the first `changed` may have changed the world, and no smaller number has this property
pub record IsLast (changed : ℕ) (h : List Entry) : Type 0 where
  pub still : (n : ℕ) → changed ≤ n → is_still_since n h ≡ true
  pub moves : (n : ℕ) → is_still_since n h ≡ true → changed ≤ n

pub last-still : (changed : ℕ) (h : List Entry) (e : Entry) → IsLast changed h → changed ≤ length h → is_still e ≡ true → IsLast changed (h ++ e ∷ [])
last-still changed h e last within is = record {
  still = λ n le. elim (cases_lt (length h) n) [
    | inl past ↦ still_since-past n (h ++ e ∷ []) (omega (arith, length-append h (e ∷ []), past))
    | inr inside ↦ still_since-append n h e inside ∙ and_from (is_still_since n h) (is_still e && true) (last.still n le) (and_from (is_still e) true is refl)
  ];
  moves = λ n all. elim (cases_lt (length h) n) [
    | inl past ↦ omega (arith, past, within)
    | inr inside ↦ last.moves n (and_parts (is_still_since n h) (is_still e && true) (sym (still_since-append n h e inside) ∙ all)).0
  ];
}

pub last-moved : (h : List Entry) (e : Entry) → is_still e ≡ false → IsLast (length h + 1) (h ++ e ∷ [])
last-moved h e moves = record {
  still = λ n le. still_since-past n (h ++ e ∷ []) (omega (arith, length-append h (e ∷ []), le));
  moves = λ n all. elim (cases_lt (length h) n) [
    | inl past ↦ omega (arith, past)
    | inr inside ↦ absurd (true≢false (sym (and_parts (is_still e) true (and_parts (is_still_since n h) (is_still e && true) (sym (still_since-append n h e inside) ∙ all)).1).0 ∙ moves))
  ];
}

-- The counts of a history: how many entries and how many calls there are, how many more entries there is room for, and the
-- number of the last entry that may have changed the world.
pub record Counts (h : List Entry) (len calls room changed : ℕ) : Type 0 where
  pub len_is : len ≡ length h
  pub calls_are : calls ≡ call_count h
  pub room_is : len + room < 2 ^ 63
  pub within : changed ≤ len
  pub last : IsLast changed h

module _ (h : List Entry) (e : Entry) (len calls room changed : ℕ) (was : Counts h len calls room changed) (some : 0 < room) where
  -- with an entry that leaves every world unchanged
  pub counts-still : (more : ℕ) → more ≡ call_count (e ∷ []) → is_still e ≡ true → Counts (h ++ e ∷ []) (len + 1) (calls + more) (room - 1) changed
  counts-still more one still = record {
    len_is = omega (arith, was.len_is, length-append h (e ∷ []));
    calls_are = omega (arith, was.calls_are, one, call_count-append h (e ∷ []));
    room_is = omega (arith, was.room_is, some);
    within = omega (arith, was.within);
    last = last-still changed h e was.last (omega (arith, was.within, was.len_is)) still;
  }

  -- with one that may change it
  pub counts-moved : (more : ℕ) → more ≡ call_count (e ∷ []) → is_still e ≡ false → Counts (h ++ e ∷ []) (len + 1) (calls + more) (room - 1) (len + 1)
  counts-moved more one moves = record {
    len_is = omega (arith, was.len_is, length-append h (e ∷ []));
    calls_are = omega (arith, was.calls_are, one, call_count-append h (e ∷ []));
    room_is = omega (arith, was.room_is, some);
    within = omega arith;
    last = rw was.len_is (last-moved h e moves);
  }
