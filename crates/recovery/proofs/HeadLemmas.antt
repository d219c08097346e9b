-- The head of a file, and the header of a log.
use Rattle.std.proofs.Common.{◌≡◌, ◌≢◌, ℕ, ◌≤◌, true, false, inl, inr, ⊎_elim, List, [], ◌∷◌, ◌++◌, length, get_or, take, drop, replicate, refl, sym, ◌∙◌, ap, arith, length-drop, length-take, append_assoc}
use Rattle.std.specs.Prelude.{slice_index, ◌==◌}
use Rattle.std.specs.Cmp.{unsigned_Decides}
use Rattle.std.specs.Cmp.Lexicographic.{pointwise, pointwise_decides}
use Rattle.std.proofs.lemmas.Bool.{true≢false}
use Rattle.std.proofs.lemmas.List.{append-nil, take-append-drop, take-append-le, take_all, drop-take, drop_more}
use Rattle.cell_format.specs.Spelling.{newest, spelling, header_text}
use Rattle.std.specs.List.{flat_map}
use Rattle.cell_format.specs.declared.cell.Cell.{Cell}
use Rattle.split_log.specs.LogText.{front_of, HoldsCells}
use Rattle.recovery.specs.Faults.{HasOtherHead, IsNotLog, BeginsWith}
use Rattle.recovery.specs.Headers.{HasHeader}

pub bytes_like : (xs ys : List ℕ) → pointwise (λ x y. x == y) xs ys ≡ true → xs ≡ ys
bytes_like xs ys test = (pointwise_decides unsigned_Decides xs ys).0 test

pub bytes_unlike : (xs ys : List ℕ) → pointwise (λ x y. x == y) xs ys ≡ false → xs ≢ ys
bytes_unlike xs ys test same = true≢false (sym ((pointwise_decides unsigned_Decides xs ys).1 same) ∙ test)

header_parts : (v w : ℕ) → header_text v w ≡ take 8 (header_text newest 1) ++ v ∷ w ∷ replicate 6 0
unfolding header_text
header_parts v w = refl

-- The last bytes of a header.
pub last_zeros : (v w : ℕ) → take 6 (drop 10 (header_text v w)) ≡ replicate 6 0
unfolding header_text
last_zeros v w = refl

-- A header names its version and its width.
pub header_bytes : (v w : ℕ) (rest : List ℕ) → (slice_index (header_text v w ++ rest) 8 ≡ v) × (slice_index (header_text v w ++ rest) 9 ≡ w)
unfolding header_text
header_bytes v w rest = (refl, refl)

-- A log begins with a header.
log_parts : (v w : ℕ) (cells : List Cell) (bytes : List ℕ) (holds : HoldsCells v w cells bytes) → bytes ≡ header_text v w ++ (flat_map spelling cells ++ holds.text.commit_byte ∷ holds.rest)
log_parts v w cells bytes holds =
    holds.parts ∙ ap (λ (l : List ℕ). l ++ holds.rest) holds.text.text ∙ append_assoc (front_of v w cells) (holds.text.commit_byte ∷ []) holds.rest
    ∙ append_assoc (header_text v w) (flat_map spelling cells) (holds.text.commit_byte ∷ holds.rest)

pub index_version : (v w : ℕ) (cells : List Cell) (bytes : List ℕ) → HoldsCells v w cells bytes → slice_index bytes 8 ≡ v
index_version v w cells bytes holds = ap (λ (l : List ℕ). slice_index l 8) (log_parts v w cells bytes holds) ∙ (header_bytes v w (flat_map spelling cells ++ holds.text.commit_byte ∷ holds.rest)).0

pub index_width : (v w : ℕ) (cells : List Cell) (bytes : List ℕ) → HoldsCells v w cells bytes → slice_index bytes 9 ≡ w
index_width v w cells bytes holds = ap (λ (l : List ℕ). slice_index l 9) (log_parts v w cells bytes holds) ∙ (header_bytes v w (flat_map spelling cells ++ holds.text.commit_byte ∷ holds.rest)).1

-- 16 bytes with the letters and the zeros of a header name a version and a width.
pub is_header : (head : List ℕ) → length head ≡ 16 → take 8 head ≡ take 8 (header_text newest 1) → take 6 (drop 10 head) ≡ replicate 6 0 → head ≡ header_text (get_or head 8 0) (get_or head 9 0)
is_header head long word zeros =
    let v : ℕ = get_or head 8 0 in
    let w : ℕ = get_or head 9 0 in
    let rest : drop 10 head ≡ take 6 (drop 10 head) = sym (take_all 6 (drop 10 head) (omega (arith, long, length-drop 10 head))) in
    let middle : drop 8 head ≡ v ∷ w ∷ drop 10 head = drop_more head 8 0 (omega (arith, long)) ∙ ap (λ (l : List ℕ). v ∷ l) (drop_more head 9 0 (omega (arith, long))) in
    sym (take-append-drop 8 head) ∙ (λ i. word i ++ middle i) ∙ (λ i. take 8 (header_text newest 1) ++ v ∷ w ∷ (rest ∙ zeros) i) ∙ sym (header_parts v w)

take_front : (n m : ℕ) (xs : List ℕ) → n ≤ m → m ≤ length xs → take n (take m xs) ≡ take n xs
take_front n m xs le long = sym (take-append-le n (take m xs) (drop m xs) (omega (arith, le, long, length-take m xs))) ∙ ap (take n) (take-append-drop m xs)

module _ (xs : List ℕ) (long : 17 ≤ length xs) where
  -- Another head at the front of a file.
  pub head_other : HasOtherHead (take 16 xs) → HasOtherHead xs
  head_other other = ⊎_elim
      (λ word. inl (λ e. word (take_front 8 16 xs (omega arith) (omega (arith, long)) ∙ e)))
      (λ zeros. inr (λ e. zeros (ap (take 6) (drop-take 10 6 xs) ∙ take_front 6 6 (drop 10 xs) (omega arith) (omega (arith, long, length-drop 10 xs)) ∙ e))) other

  pub head_stands : (v w : ℕ) → take 16 xs ≡ header_text v w → HasHeader v w xs
  head_stands v w head = record { rest = drop 16 xs; parts = sym (take-append-drop 16 xs) ∙ ap (λ (l : List ℕ). l ++ drop 16 xs) head; long = long }

header_word : (v w : ℕ) (rest : List ℕ) → take 8 (header_text v w ++ rest) ≡ take 8 (header_text newest 1)
unfolding header_text
header_word v w rest = refl

header_zeros : (v w : ℕ) (rest : List ℕ) → take 6 (drop 10 (header_text v w ++ rest)) ≡ replicate 6 0
unfolding header_text
header_zeros v w rest = refl

-- A file with a header is a log.
pub header_is_log : (v w : ℕ) (bytes : List ℕ) → HasHeader v w bytes → IsNotLog bytes → ⊥
header_is_log v w bytes has not_log = ⊎_elim (λ short. omega (arith, short, has.long)) (λ other. ⊎_elim
    (λ word. word (ap (take 8) has.parts ∙ header_word v w has.rest))
    (λ zeros. zeros (ap (λ (l : List ℕ). take 6 (drop 10 l)) has.parts ∙ header_zeros v w has.rest)) other) not_log

-- A header, and no cell yet.
pub begins_first : (v w : ℕ) (xs : List ℕ) (has : HasHeader v w xs) → BeginsWith v w [] has.rest xs
begins_first v w xs has = record { cells_fit = tt; legal = refl; parts = has.parts ∙ ap (λ (l : List ℕ). l ++ has.rest) (sym (append-nil (header_text v w))) }

-- A read of 16 bytes at the front.
pub read_head : (got : ℕ) (into xs : List ℕ) → length into ≡ 16 → got ≤ 16 → 16 ≤ got → take got into ≡ take got xs → into ≡ take 16 xs
read_head got into xs long le ge read =
    let all : got ≡ 16 = omega (arith, le, ge) in
    sym (take_all got into (omega (arith, long, ge))) ∙ read ∙ ap (λ n. take n xs) all
