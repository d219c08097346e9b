-- What 32 bytes read as, and when they read as nothing.
use Rattle.std.proofs.Common.{◌≡◌, ◌⊎◌, take, ℕ, zero, suc, ◌-◌, ◌^◌, ◌%◌, ◌<◌, ◌≤◌, nat_le, Bool, true, false, not, ◌&&◌, ◌==◌, List, [], ◌∷◌, ◌++◌, length, drop, replicate, slice_index, if◌then◌else◌, Result, Ok, Err, refl, sym, ◌∙◌, ap, subst, arith}
use Rattle.std.specs.List.{list_all}
use Rattle.std.specs.Cmp.{first_so, second_so}
use Rattle.std.specs.Cmp.Derive.{both_true}
use Rattle.std.specs.Int.{from_be_bytes, to_be_bytes, w32, w64}
use Rattle.std.proofs.lemmas.Bool.{le-leb, leb-true, eqb-true, eq-eqb, true≢false, not-true}
use Rattle.zorder.specs.Name.{first_key, high_number-name, length-name}
use Rattle.zorder.specs.Key.{key_bits, IsPoint}
use Rattle.std.proofs.Math.Seq.{drop-cons}
use Rattle.cell_format.specs.declared.cell.Cell.{Cell}
use Rattle.cell_format.specs.declared.cell.CellFault.{CellFault}
use Rattle.cell_format.specs.declared.cell.CellFault.TheVariants.{Kind, Reserved, BadName}
use Rattle.cell_format.specs.Spelling.{Spells, body_of, body, position_bytes, name_bytes, IsVersion}
use Rattle.cell_format.specs.Decoding.{decoded, cell_or_name_fault, cell_of_kind, long_at, short_at, point_at, name_at, zeros_from, is_kind, has_zeros, is_name}
use Rattle.cell_format.specs.Faults.{HasKind, HasZeros, HasNoKind, HasReserved, HasBadName}
use Rattle.cell_format.specs.Decodes.{Decodes}
use Rattle.cell_format.proofs.Decoded.{decoded-spelling}
use Rattle.zorder.specs.Name.{IsNoName}
use Rattle.cell_format.proofs.Names.{no_name, is_no_name}
use Rattle.cell_format.proofs.Fields.{AreBytes, long_at-fits, short_at-fits, drop-long_at, drop-short_at, drop-zeros, set_behind, none_behind, zero_behind, head_two}

not_false : (b : Bool) → not b ≡ false → b ≡ true
not_false true h = refl
not_false false h = absurd (true≢false h)

-- the three tests of a reading, by what they tell
abbrev by_tests : Bool → Bool → Result Cell CellFault → Result Cell CellFault
by_tests kind zeros rest = if not kind then Err Kind else if not zeros then Err Reserved else rest

abbrev by_name_test : Bool → Cell → Result Cell CellFault
by_name_test bad cell = if bad then Err BadName else Ok cell

abbrev is_bad_name : List ℕ → Bool
is_bad_name bytes = (slice_index bytes 1 == 4) && not (is_name (long_at 10 bytes) (slice_index bytes 18))

pub decoded-no_kind : (v : ℕ) (bytes : List ℕ) → is_kind (slice_index bytes 1) ≡ false → decoded v bytes ≡ Err Kind
decoded-no_kind v bytes none = ap (λ t. by_tests t (has_zeros v (slice_index bytes 1) bytes) (cell_or_name_fault (slice_index bytes 1) bytes)) none

pub decoded-reserved : (v : ℕ) (bytes : List ℕ) → is_kind (slice_index bytes 1) ≡ true → has_zeros v (slice_index bytes 1) bytes ≡ false → decoded v bytes ≡ Err Reserved
decoded-reserved v bytes kind set = λ i. by_tests (kind i) (set i) (cell_or_name_fault (slice_index bytes 1) bytes)

pub decoded-rest : (v : ℕ) (bytes : List ℕ) → is_kind (slice_index bytes 1) ≡ true → has_zeros v (slice_index bytes 1) bytes ≡ true → decoded v bytes ≡ cell_or_name_fault (slice_index bytes 1) bytes
decoded-rest v bytes kind zeros = λ i. by_tests (kind i) (zeros i) (cell_or_name_fault (slice_index bytes 1) bytes)

pub decoded-spelled : (v : ℕ) → IsVersion v → (bytes : List ℕ) (cell : Cell) → Spells v cell bytes → decoded v bytes ≡ Ok cell
decoded-spelled v known bytes cell s = ap (decoded v) s.spelled ∙ decoded-spelling v known cell s.fits

no_fault : (v : ℕ) → IsVersion v → (bytes : List ℕ) (f : CellFault) → decoded v bytes ≡ Err f → (cell : Cell) → Spells v cell bytes → ◌≡◌ {A = Result Cell CellFault} (Err f) (Ok cell)
no_fault v known bytes f fault cell s = sym fault ∙ decoded-spelled v known bytes cell s

has_kind : (kind : ℕ) → is_kind kind ≡ true → (1 ≤ kind) × (kind ≤ 6)
has_kind kind is = (leb-true 1 kind (first_so (nat_le 1 kind) (nat_le kind 6) is), leb-true kind 6 (second_so (nat_le 1 kind) (nat_le kind 6) is))

no_kind : (bytes : List ℕ) → is_kind (slice_index bytes 1) ≡ false → HasNoKind bytes
no_kind bytes none has = true≢false (sym (both_true (le-leb 1 (slice_index bytes 1) has.first) (le-leb (slice_index bytes 1) 6 has.last)) ∙ none)

begins : (bytes : List ℕ) → slice_index bytes 1 ≡ 4 → HasKind bytes
begins bytes is = record { first = omega arith; last = omega arith }

a_kind_is : (bytes : List ℕ) → HasKind bytes → is_kind (slice_index bytes 1) ≡ true
a_kind_is bytes has = both_true (le-leb 1 (slice_index bytes 1) has.first) (le-leb (slice_index bytes 1) 6 has.last)

-- each fault is what the bytes read as
pub decoded-HasNoKind : (v : ℕ) (bytes : List ℕ) → HasNoKind bytes → decoded v bytes ≡ Err Kind
decoded-HasNoKind v bytes none = by_kind (is_kind (slice_index bytes 1)) refl
  where
    by_kind : (b : Bool) → is_kind (slice_index bytes 1) ≡ b → decoded v bytes ≡ Err Kind
    by_kind true is = let (first, last) = has_kind (slice_index bytes 1) is in absurd (none (record { first = first; last = last }))
    by_kind false is = decoded-no_kind v bytes is

pub decoded-HasReserved : (v : ℕ) (bytes : List ℕ) → HasReserved v bytes → decoded v bytes ≡ Err Reserved
decoded-HasReserved v bytes has = by_zeros (has_zeros v (slice_index bytes 1) bytes) refl
  where
    by_zeros : (b : Bool) → has_zeros v (slice_index bytes 1) bytes ≡ b → decoded v bytes ≡ Err Reserved
    by_zeros true none = absurd (has.set (zero_behind bytes (zeros_from v (slice_index bytes 1)) none has.at has.from))
    by_zeros false some = decoded-reserved v bytes (a_kind_is bytes has.kind) some

pub decoded-HasBadName : (v : ℕ) (bytes : List ℕ) → length bytes ≡ 32 → HasBadName v bytes → decoded v bytes ≡ Err BadName
decoded-HasBadName v bytes long has =
    let kind = a_kind_is bytes (begins bytes has.begin) in
    let zeros : has_zeros v (slice_index bytes 1) bytes ≡ true = none_behind bytes (zeros_from v (slice_index bytes 1)) (λ i from within. has.zeros i from (subst (λ n. i < n) long within)) in
    let bad : is_bad_name bytes ≡ true = both_true (eq-eqb (slice_index bytes 1) 4 has.begin) (ap not (no_name (long_at 10 bytes) (slice_index bytes 18) has.bad)) in
    decoded-rest v bytes kind zeros ∙ ap (λ t. by_name_test t (cell_of_kind (slice_index bytes 1) bytes)) bad

pub decodes-no_kind : (v : ℕ) → IsVersion v → (bytes : List ℕ) → is_kind (slice_index bytes 1) ≡ false → Decodes v bytes (Err Kind)
decodes-no_kind v known bytes none = record {
  spelled = tt;
  found = no_fault v known bytes Kind (decoded-no_kind v bytes none);
  kind = (λ _. no_kind bytes none, λ _. refl);
  reserved = (λ e. (cc), λ r. absurd (no_kind bytes none r.kind));
  bad_name = (λ e. (cc), λ b. absurd (no_kind bytes none (begins bytes b.begin)));
}

module _ (v : ℕ) (known : IsVersion v) (bytes : List ℕ) (long : length bytes ≡ 32) (small : AreBytes bytes) (set : slice_index bytes 0 ≡ 1) where
  -- up to the number
  numbered : (kind : ℕ) → slice_index bytes 1 ≡ kind → bytes ≡ 1 ∷ kind ∷ (to_be_bytes w64 (long_at 2 bytes) ++ drop 10 bytes)
  numbered kind is = head_two bytes (omega arith) ∙ (λ i. set i ∷ is i ∷ drop-long_at bytes 2 (omega arith) small i)

  by_number : (kind : ℕ) → slice_index bytes 1 ≡ kind → list_all (λ b. b == 0) (drop 10 bytes) ≡ true → bytes ≡ 1 ∷ body kind (long_at 2 bytes) [] 22
  by_number kind is none =
      let rest : drop 10 bytes ≡ replicate 22 0 = drop-zeros bytes 10 none ∙ ap (λ n. replicate (n - 10) 0) long in
      numbered kind is ∙ ap (λ (l : List ℕ). 1 ∷ kind ∷ (to_be_bytes w64 (long_at 2 bytes) ++ l)) rest

  -- where all is 0 behind the point, all is 0 behind the moment
  behind_moment : list_all (λ b. b == 0) (drop 18 bytes) ≡ true → list_all (λ b. b == 0) (drop 26 bytes) ≡ true
  behind_moment none = none_behind bytes 26 (λ i from within. zero_behind bytes 18 none i (omega (arith, from)))

  -- and the moment is 0
  no_moment : list_all (λ b. b == 0) (drop 18 bytes) ≡ true → long_at 18 bytes ≡ 0
  no_moment none = ap (λ (l : List ℕ). from_be_bytes w64 (take 8 l)) (drop-zeros bytes 18 none ∙ ap (λ n. replicate (n - 18) 0) long)

  -- up to the moment
  by_stamp : (kind : ℕ) → slice_index bytes 1 ≡ kind → list_all (λ b. b == 0) (drop 26 bytes) ≡ true
      → bytes ≡ 1 ∷ body kind (long_at 2 bytes) (position_bytes (point_at bytes) (long_at 18 bytes)) 6
  by_stamp kind is none =
      let rest : drop 26 bytes ≡ replicate 6 0 = drop-zeros bytes 26 none ∙ ap (λ n. replicate (n - 26) 0) long in
      let moment : drop 18 bytes ≡ to_be_bytes w64 (long_at 18 bytes) ++ replicate 6 0 = drop-long_at bytes 18 (omega arith) small ∙ ap (λ (l : List ℕ). to_be_bytes w64 (long_at 18 bytes) ++ l) rest in
      let y : drop 14 bytes ≡ to_be_bytes w32 (short_at 14 bytes) ++ (to_be_bytes w64 (long_at 18 bytes) ++ replicate 6 0) =
      drop-short_at bytes 14 (omega arith) small ∙ ap (λ (l : List ℕ). to_be_bytes w32 (short_at 14 bytes) ++ l) moment in
      let x : drop 10 bytes ≡ to_be_bytes w32 (short_at 10 bytes) ++ (to_be_bytes w32 (short_at 14 bytes) ++ (to_be_bytes w64 (long_at 18 bytes) ++ replicate 6 0)) =
      drop-short_at bytes 10 (omega arith) small ∙ ap (λ (l : List ℕ). to_be_bytes w32 (short_at 10 bytes) ++ l) y in
      numbered kind is ∙ ap (λ (l : List ℕ). 1 ∷ kind ∷ (to_be_bytes w64 (long_at 2 bytes) ++ l)) x

  -- what the zeros of a put or a move tell in this version: those of the newest, and a moment that the version has
  stamped : (test : Bool) → list_all (λ b. b == 0) (drop (if test then 18 else 26) bytes) ≡ true
      → (list_all (λ b. b == 0) (drop 26 bytes) ≡ true) × (long_at 18 bytes < (if test then 1 else 2 ^ 64))
  stamped true none = (behind_moment none, omega (arith, no_moment none))
  stamped false none = (none, long_at-fits bytes 18 small)

  name_again : is_name (long_at 10 bytes) (slice_index bytes 18) ≡ true → name_bytes (name_at bytes) ≡ to_be_bytes w64 (long_at 10 bytes) ++ slice_index bytes 18 ∷ []
  unfolding first_key key_bits
  name_again is =
      let len : slice_index bytes 18 ≤ 64 = leb-true (slice_index bytes 18) 64 (first_so (nat_le (slice_index bytes 18) 64) (long_at 10 bytes % 2 ^ (64 - slice_index bytes 18) == 0) is) in
      let unused : long_at 10 bytes % 2 ^ (64 - slice_index bytes 18) ≡ 0 =
      eqb-true (long_at 10 bytes % 2 ^ (64 - slice_index bytes 18)) 0 (second_so (nat_le (slice_index bytes 18) 64) (long_at 10 bytes % 2 ^ (64 - slice_index bytes 18) == 0) is) in
      let key = high_number-name 64 (slice_index bytes 18) (long_at 10 bytes) len (long_at-fits bytes 10 small) unused in
      λ i. to_be_bytes w64 (key i) ++ length-name 64 (slice_index bytes 18) (long_at 10 bytes) len i ∷ []

  by_name : slice_index bytes 1 ≡ 4 → list_all (λ b. b == 0) (drop 19 bytes) ≡ true → is_name (long_at 10 bytes) (slice_index bytes 18) ≡ true
      → bytes ≡ 1 ∷ body 4 (long_at 2 bytes) (name_bytes (name_at bytes)) 13
  by_name is none named =
      let rest : drop 19 bytes ≡ replicate 13 0 = drop-zeros bytes 19 none ∙ ap (λ n. replicate (n - 19) 0) long in
      let len : drop 18 bytes ≡ slice_index bytes 18 ∷ replicate 13 0 = drop-cons bytes 18 0 (omega arith) ∙ ap (λ (l : List ℕ). slice_index bytes 18 ∷ l) rest in
      let name : drop 10 bytes ≡ to_be_bytes w64 (long_at 10 bytes) ++ slice_index bytes 18 ∷ replicate 13 0 =
      drop-long_at bytes 10 (omega arith) small ∙ ap (λ (l : List ℕ). to_be_bytes w64 (long_at 10 bytes) ++ l) len in
      numbered 4 is ∙ ap (λ (l : List ℕ). 1 ∷ 4 ∷ (to_be_bytes w64 (long_at 2 bytes) ++ l)) name
      ∙ ap (λ (l : List ℕ). 1 ∷ 4 ∷ (to_be_bytes w64 (long_at 2 bytes) ++ l ++ replicate 13 0)) (sym (name_again named))

  name-short : is_name (long_at 10 bytes) (slice_index bytes 18) ≡ true → length (name_at bytes) ≤ 64
  unfolding key_bits
  name-short named =
      let len : slice_index bytes 18 ≤ 64 = leb-true (slice_index bytes 18) 64 (first_so (nat_le (slice_index bytes 18) 64) (long_at 10 bytes % 2 ^ (64 - slice_index bytes 18) == 0) named) in
      omega (arith, length-name 64 (slice_index bytes 18) (long_at 10 bytes) len)

  point-fits : IsPoint (point_at bytes)
  point-fits = record { x = short_at-fits bytes 10 small; y = short_at-fits bytes 14 small }

  -- the cell of a kind is spelled by the bytes, where nothing is at fault
  spelled_kind : (kind : ℕ) → slice_index bytes 1 ≡ kind → 1 ≤ kind → kind ≤ 6 → has_zeros v kind bytes ≡ true
      → ((kind == 4) && not (is_name (long_at 10 bytes) (slice_index bytes 18))) ≡ false → Spells v (cell_of_kind kind bytes) bytes
  unfolding body_of
  spelled_kind zero is least most none named = absurd (omega arith)
  spelled_kind (suc zero) is least most none named =
      let (zeros, fits) = stamped (v == 1) none in
      record { fits = (long_at-fits bytes 2 small, point-fits, fits); spelled = by_stamp 1 is zeros }
  spelled_kind (suc (suc zero)) is least most none named =
      let (zeros, fits) = stamped (v == 1) none in
      record { fits = (long_at-fits bytes 2 small, point-fits, fits); spelled = by_stamp 2 is zeros }
  spelled_kind (suc (suc (suc zero))) is least most none named = record { fits = long_at-fits bytes 2 small; spelled = by_number 3 is none }
  spelled_kind (suc (suc (suc (suc zero)))) is least most none named =
      let name = not_false (is_name (long_at 10 bytes) (slice_index bytes 18)) named in
      record { fits = (long_at-fits bytes 2 small, name-short name); spelled = by_name is none name }
  spelled_kind (suc (suc (suc (suc (suc zero))))) is least most none named = record { fits = long_at-fits bytes 2 small; spelled = by_number 5 is none }
  spelled_kind (suc (suc (suc (suc (suc (suc zero)))))) is least most none named = record { fits = long_at-fits bytes 2 small; spelled = by_number 6 is none }
  spelled_kind (suc (suc (suc (suc (suc (suc (suc kind))))))) is least most none named = absurd (omega arith)

  a_kind : is_kind (slice_index bytes 1) ≡ true → HasKind bytes
  a_kind is = let (first, last) = has_kind (slice_index bytes 1) is in record { first = first; last = last }

  no_zeros : has_zeros v (slice_index bytes 1) bytes ≡ false → HasZeros v bytes → ⊥
  no_zeros some none =
      true≢false (sym (none_behind bytes (zeros_from v (slice_index bytes 1)) (λ i from within. none i from (subst (λ n. i < n) long within))) ∙ some)

  pub decodes-reserved : is_kind (slice_index bytes 1) ≡ true → has_zeros v (slice_index bytes 1) bytes ≡ false → Decodes v bytes (Err Reserved)
  decodes-reserved is some =
      let (at, from, within, is_set) = set_behind bytes (zeros_from v (slice_index bytes 1)) some in
      record {
        spelled = tt;
        found = no_fault v known bytes Reserved (decoded-reserved v bytes is some);
        kind = (λ e. (cc), λ no. absurd (no (a_kind is)));
        reserved = (λ _. record { kind = a_kind is; at = at; from = from; within = subst (λ n. at < n) long within; set = is_set }, λ _. refl);
        bad_name = (λ e. (cc), λ b. absurd (no_zeros some b.zeros));
      }

  only_zeros : has_zeros v (slice_index bytes 1) bytes ≡ true → HasReserved v bytes → ⊥
  only_zeros none r = r.set (zero_behind bytes (zeros_from v (slice_index bytes 1)) none r.at r.from)

  decodes-bad_name : is_kind (slice_index bytes 1) ≡ true → has_zeros v (slice_index bytes 1) bytes ≡ true → is_bad_name bytes ≡ true → Decodes v bytes (Err BadName)
  decodes-bad_name is none bad =
      let begin : slice_index bytes 1 ≡ 4 = eqb-true (slice_index bytes 1) 4 (first_so (slice_index bytes 1 == 4) (not (is_name (long_at 10 bytes) (slice_index bytes 18))) bad) in
      let no_name : IsNoName (long_at 10 bytes) (slice_index bytes 18) =
      is_no_name (long_at 10 bytes) (slice_index bytes 18) (not-true _ (second_so (slice_index bytes 1 == 4) (not (is_name (long_at 10 bytes) (slice_index bytes 18))) bad)) in
      let fault : decoded v bytes ≡ Err BadName = decoded-rest v bytes is none ∙ ap (λ t. by_name_test t (cell_of_kind (slice_index bytes 1) bytes)) bad in
      record {
        spelled = tt;
        found = no_fault v known bytes BadName fault;
        kind = (λ e. (cc), λ no. absurd (no (a_kind is)));
        reserved = (λ e. (cc), λ r. absurd (only_zeros none r));
        bad_name = (λ _. record { begin = begin; zeros = λ i from within. zero_behind bytes (zeros_from v (slice_index bytes 1)) none i from; bad = no_name }, λ _. refl);
      }

  is_named : slice_index bytes 1 ≡ 4 → is_bad_name bytes ≡ false → is_name (long_at 10 bytes) (slice_index bytes 18) ≡ true
  is_named begin good = not_false _ (sym (ap (λ t. t && not (is_name (long_at 10 bytes) (slice_index bytes 18))) (eq-eqb (slice_index bytes 1) 4 begin)) ∙ good)

  decodes-cell : is_kind (slice_index bytes 1) ≡ true → has_zeros v (slice_index bytes 1) bytes ≡ true → is_bad_name bytes ≡ false → Decodes v bytes (Ok (cell_of_kind (slice_index bytes 1) bytes))
  decodes-cell is none good =
      let cell = cell_of_kind (slice_index bytes 1) bytes in
      let (first, last) = has_kind (slice_index bytes 1) is in
      let fine : decoded v bytes ≡ Ok cell = decoded-rest v bytes is none ∙ ap (λ t. by_name_test t cell) good in
      record {
        spelled = spelled_kind (slice_index bytes 1) refl first last none good;
        found = λ other s. sym fine ∙ decoded-spelled v known bytes other s;
        kind = (λ e. (cc), λ no. absurd (no (a_kind is)));
        reserved = (λ e. (cc), λ r. absurd (only_zeros none r));
        bad_name = (λ e. (cc), λ b. absurd (true≢false (sym (is_named b.begin good) ∙ no_name (long_at 10 bytes) (slice_index bytes 18) b.bad)));
      }

  pub decodes-rest : is_kind (slice_index bytes 1) ≡ true → has_zeros v (slice_index bytes 1) bytes ≡ true → Decodes v bytes (cell_or_name_fault (slice_index bytes 1) bytes)
  decodes-rest is none = by_name_cases (is_bad_name bytes) refl
    where
      by_name_cases : (bad : Bool) → is_bad_name bytes ≡ bad → Decodes v bytes (cell_or_name_fault (slice_index bytes 1) bytes)
      by_name_cases true bad = subst (λ t. Decodes v bytes (by_name_test t (cell_of_kind (slice_index bytes 1) bytes))) (sym bad) (decodes-bad_name is none bad)
      by_name_cases false good = subst (λ t. Decodes v bytes (by_name_test t (cell_of_kind (slice_index bytes 1) bytes))) (sym good) (decodes-cell is none good)
