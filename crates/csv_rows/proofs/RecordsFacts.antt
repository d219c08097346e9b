-- The records that a loop has reached are the first of all records of the text.
use Rattle.std.proofs.Common.{◌≡◌, ◌⊎◌, inl, inr, ℕ, zero, suc, ◌+◌, ◌<◌, ◌≤◌, Bool, true, false, List, [], ◌∷◌, ◌++◌, length, Some, None, refl, sym, ◌∙◌, ap, subst, arith, cond, ◌==◌, ◌&&◌}
use mathlib.Core.Bool.{true≢false}
use Rattle.std.proofs.lemmas.List.{append-nil}
use Rattle.csv.specs.Machine.{Read, step, is_end, ends_at_end, next_record, fields_after, field_after, after_end, ends_with, is_byte, in_field, start_field, start_record}
use Rattle.std.specs.Bool.{MatchBool}
use Rattle.std.specs.Borrow.{Bor}
use Rattle.csv.proofs.ReadFacts.{rows-end, rows-more}
use Rattle.csv.specs.Reading.{records, records_from, records_next, Reached, AreRecords, ReadRecord, took_first, is_flexible, default_config, strip_bom}
use Rattle.csv.specs.declared.reader.Reader.{Reader}
use Rattle.csv_rows.specs.Records.{StandsBehind, slice_left}
use Rattle.csv.specs.declared.parser.Config.{Config}
use Rattle.csv.specs.declared.parser.State.{State}
use Rattle.csv.specs.declared.parser.State.TheVariants as st
use Rattle.csv.specs.declared.parser.Terminator.{Terminator}
use Rattle.csv.specs.declared.parser.Terminator.TheVariants as term
use Rattle.csv.specs.declared.parser.Action.{Action}
use Rattle.csv.specs.declared.parser.Action.TheVariants as act

-- a choice, seen from what it gives
chosen : {A : Type 0} (b : Bool) (x y z : A) → cond b x y ≡ z → ((b ≡ true) × (x ≡ z)) ⊎ ((b ≡ false) × (y ≡ z))
chosen true x y z e = inl (refl, e)
chosen false x y z e = inr (refl, e)

-- a step that ends a record leads to a state at which the text may end
abbrev Settles : State × Action → Type 0
Settles p = is_end p.1 ≡ true → ends_at_end p.0 ≡ false

settles_if : (b : Bool) (x y : State × Action) → Settles x → Settles y → Settles (cond b x y)
settles_if true x y hx hy = hx
settles_if false x y hx hy = hy

after_end-settles : (t : Terminator) (c : ℕ) → ends_at_end (after_end t c) ≡ false
after_end-settles term.CRLF c = by_byte (c == 13)
  where
    by_byte : (b : Bool) → ends_at_end (cond b st.AfterCr st.StartRecord) ≡ false
    by_byte true = refl
    by_byte false = refl
after_end-settles (term.Any t) c = refl

in_field-settles : (cfg : Config) (c : ℕ) → Settles (in_field cfg c)
in_field-settles cfg c =
    settles_if (c == cfg.delimiter) _ _ (λ h. absurd (true≢false (sym h)))
    (settles_if (ends_with cfg.terminator c) _ _ (λ h. after_end-settles cfg.terminator c) (λ h. absurd (true≢false (sym h))))

skips : (s : State) → Settles (s, act.Skip)
skips s h = absurd (true≢false (sym h))

copies : (s : State) → Settles (s, act.Copy)
copies s h = absurd (true≢false (sym h))

start_field-settles : (cfg : Config) (c : ℕ) → Settles (start_field cfg c)
start_field-settles cfg c = settles_if (cfg.quoting && (c == cfg.quote)) (st.InQuoted, act.Skip) (in_field cfg c) (skips st.InQuoted) (in_field-settles cfg c)

start_record-settles : (cfg : Config) (c : ℕ) → Settles (start_record cfg c)
start_record-settles cfg c =
    settles_if (ends_with cfg.terminator c) (st.StartRecord, act.Skip) (cond (is_byte cfg.comment c) (st.InComment, act.Skip) (start_field cfg c)) (skips st.StartRecord)
    (settles_if (is_byte cfg.comment c) (st.InComment, act.Skip) (start_field cfg c) (skips st.InComment) (start_field-settles cfg c))

in_quoted-settles : (cfg : Config) (c : ℕ) → Settles (step cfg st.InQuoted c)
in_quoted-settles cfg c =
    settles_if (cfg.quoting && (c == cfg.quote)) (st.AfterQuote, act.Skip) (cond (cfg.quoting && is_byte cfg.escape c) (st.InEscape, act.Skip) (st.InQuoted, act.Copy)) (skips st.AfterQuote)
    (settles_if (cfg.quoting && is_byte cfg.escape c) (st.InEscape, act.Skip) (st.InQuoted, act.Copy) (skips st.InEscape) (copies st.InQuoted))

step-settles : (cfg : Config) (s : State) (c : ℕ) → Settles (step cfg s c)
step-settles cfg st.StartRecord c = start_record-settles cfg c
step-settles cfg st.StartField c = start_field-settles cfg c
step-settles cfg st.InField c = in_field-settles cfg c
step-settles cfg st.InQuoted c = in_quoted-settles cfg c
step-settles cfg st.InEscape c = copies st.InQuoted
step-settles cfg st.AfterQuote c = settles_if (cfg.quoting && cfg.double_quote && (c == cfg.quote)) (st.InQuoted, act.Copy) (in_field cfg c) (copies st.InQuoted) (in_field-settles cfg c)
step-settles cfg st.InComment c = settles_if (c == 10) (st.StartRecord, act.Skip) (st.InComment, act.Skip) (skips st.StartRecord) (skips st.InComment)
step-settles cfg st.AfterCr c = settles_if (c == 10) (st.StartRecord, act.Skip) (start_record cfg c) (skips st.StartRecord) (start_record-settles cfg c)

abbrev pub one_if : Bool → ℕ
one_if true = 1
one_if false = 0

-- how much a text has yet to give: its bytes, and one record more where its end ends one
abbrev pub left_in : State → List ℕ → ℕ
left_in s xs = length xs + one_if (ends_at_end s)

some-is : {A : Type 0} (x y : A) → Some x ≡ Some y → x ≡ y
some-is x y e = cc e

none-some : {A : Type 0} (x : A) → None ≡ Some x → ⊥
none-some x e = cc e

at_most_one : (b : Bool) → one_if b ≤ 1
at_most_one true = omega arith
at_most_one false = omega arith

-- a record takes something of the text, and leads to a state at which the text may end
takes : (cfg : Config) (s : State) (fields : List (List ℕ)) (field xs : List ℕ) (p : Read) → next_record cfg s fields field xs ≡ Some p
    → (ends_at_end p.1 ≡ false) × (length p.2 < left_in s xs)
unfolding next_record
takes cfg s fields field [] p e = elim (chosen (ends_at_end s) (Some (fields ++ (field ∷ []), st.StartRecord, [])) None (Some p) e) [
  | inl now ↦
      let same : (fields ++ (field ∷ []), st.StartRecord, []) ≡ p = some-is _ _ now.1 in
      let more : one_if (ends_at_end s) ≡ 1 = ap one_if now.0 in
      (ap (λ (q : Read). ends_at_end q.1) (sym same), omega (arith, ap (λ (q : Read). length q.2) (sym same), more))
  | inr gone ↦ absurd (none-some p gone.1)
]
takes cfg s fields field (c ∷ rest) p e = elim (chosen (is_end (step cfg s c).1) (Some (fields_after (step cfg s c).1 fields field, (step cfg s c).0, rest)) (next_record cfg (step cfg s c).0 (fields_after (step cfg s c).1 fields field) (field_after (step cfg s c).1 c field) rest) (Some p) e) [
  | inl now ↦
      let same : (fields_after (step cfg s c).1 fields field, (step cfg s c).0, rest) ≡ p = some-is _ _ now.1 in
      (ap (λ (q : Read). ends_at_end q.1) (sym same) ∙ step-settles cfg s c now.0, omega (arith, ap (λ (q : Read). length q.2) (sym same)))
  | inr on ↦
      let more = takes cfg (step cfg s c).0 (fields_after (step cfg s c).1 fields field) (field_after (step cfg s c).1 c field) rest p on.1 in
      (more.0, omega (arith, more.1, at_most_one (ends_at_end (step cfg s c).0)))
]

-- with as many turns as a text has to give, all records begin with those that were reached
pub reached-records : (cfg : Config) (n : ℕ) (s s2 : State) (xs ys : List ℕ) (rs : List (List (List ℕ))) → left_in s xs < n → Reached cfg s xs rs s2 ys
    → (m : ℕ) × (left_in s2 ys < m) × (records_from cfg n s xs ≡ rs ++ records_from cfg m s2 ys)
unfolding Reached records_from
reached-records cfg n s s2 xs ys [] h r =
    (n, subst (λ (q : State × List ℕ). left_in q.0 q.1 < n) (λ i. (r.0 i, r.1 i)) h, λ i. records_from cfg n (r.0 i) (r.1 i))
reached-records cfg zero s s2 xs ys (f ∷ rs) h r = absurd (omega arith)
reached-records cfg (suc n) s s2 xs ys (f ∷ rs) h r =
    let (p, next, head, rest) = r in
    let took : (ends_at_end p.1 ≡ false) × (length p.2 < left_in s xs) = takes cfg s [] [] xs p next in
    let none_more : one_if (ends_at_end p.1) ≡ 0 = ap one_if took.0 in
    let fewer : left_in p.1 p.2 < n = omega (arith, h, took.1, none_more) in
    let (m, fits, same) = reached-records cfg n p.1 s2 p.2 ys rs fewer rest in
    (m, fits, ap (records_next (records_from cfg n)) next ∙ (λ i. sym head i ∷ same i))

-- the records of a text that were reached are its first
pub first_records : (cfg : Config) (s2 : State) (xs ys : List ℕ) (rs : List (List (List ℕ))) → Reached cfg st.StartRecord xs rs s2 ys
    → (more : List (List (List ℕ))) × (records cfg xs ≡ rs ++ more)
first_records cfg s2 xs ys rs r =
    let fits : left_in st.StartRecord xs < length xs + 1 = omega arith in
    let (m, less, same) = reached-records cfg (length xs + 1) st.StartRecord s2 xs ys rs fits r in
    (records_from cfg m s2 ys, same)

ended : (cfg : Config) (m : ℕ) (s : State) (ys : List ℕ) → next_record cfg s [] [] ys ≡ None → records_from cfg m s ys ≡ []
unfolding records_from
ended cfg zero s ys e = refl
ended cfg (suc m) s ys e = ap (records_next (records_from cfg m)) e

-- and where no more come, they are all
pub all_records : (cfg : Config) (xs : List ℕ) (rs : List (List (List ℕ))) → AreRecords cfg st.StartRecord xs rs → records cfg xs ≡ rs
all_records cfg xs rs r =
    let (s2, ys, reached, none) = r in
    let fits : left_in st.StartRecord xs < length xs + 1 = omega arith in
    let (m, less, same) = reached-records cfg (length xs + 1) st.StartRecord s2 xs ys rs fits reached in
    same ∙ ap (λ (l : List (List (List ℕ))). rs ++ l) (ended cfg m s2 ys none) ∙ append-nil rs

-- a record more, of a reader that stands among the records of a text
pub goes_on : (text : List ℕ) (so_far : List (List (List ℕ))) (old new : Reader (Bor (List ℕ))) (fields : List (List ℕ)) → StandsBehind text so_far old
    → ReadRecord slice_left old new true fields → took_first new ≡ true → is_flexible new ≡ is_flexible old → StandsBehind text (so_far ++ fields ∷ []) new
goes_on text so_far old new fields h r first flexible =
    let m = rows-more slice_left old new fields default_config st.StartRecord (strip_bom text) h.left so_far h.config h.source h.reached r in
    record {
      trim = r.3 ∙ h.trim;
      ready = inl first;
      flexible = flexible ∙ h.flexible;
      config = r.2 ∙ h.config;
      left = m.0;
      source = m.1;
      reached = m.2;
    }

-- no further record: those were all
pub is_last : (text : List ℕ) (so_far : List (List (List ℕ))) (old new : Reader (Bor (List ℕ))) (fields : List (List ℕ)) → StandsBehind text so_far old
    → ReadRecord slice_left old new false fields → records default_config (strip_bom text) ≡ so_far
is_last text so_far old new fields h r =
    let none = rows-end slice_left old new fields default_config h.left h.config h.source r in
    all_records default_config (strip_bom text) so_far (old.state, h.left, h.reached, none)

-- the records so far are the first of the text
pub so_far_first : (text : List ℕ) (so_far : List (List (List ℕ))) (reader : Reader (Bor (List ℕ))) → StandsBehind text so_far reader
    → (more : List (List (List ℕ))) × (records default_config (strip_bom text) ≡ so_far ++ more)
so_far_first text so_far reader h = first_records default_config reader.state (strip_bom text) h.left so_far h.reached

-- what a read does to a reader that stands among the records of a text
pub taken : (text : List ℕ) (so_far : List (List (List ℕ))) (old new : Reader (Bor (List ℕ))) (found : Bool) (fields : List (List ℕ)) → StandsBehind text so_far old
    → ReadRecord slice_left old new found fields → took_first new ≡ true → is_flexible new ≡ is_flexible old
    → MatchBool found (StandsBehind text (so_far ++ fields ∷ []) new) (records default_config (strip_bom text) ≡ so_far)
taken text so_far old new true fields h r first flexible = goes_on text so_far old new fields h r first flexible
taken text so_far old new false fields h r first flexible = is_last text so_far old new fields h r
