-- What the bits of words say about marks, and about turns.
use Rattle.std.proofs.Common.{◌≡◌, ℕ, zero, suc, ◌≤◌, ◌<◌, ◌+◌, ◌*◌, ◌/◌, ◌%◌, ◌^◌, ◌==◌, ◌&&◌, Bool, true, false, List, [], ◌∷◌, ◌++◌, length, map, take, drop, get_or, Option, Some, None, cond, refl, sym, ◌∙◌, ap, arith, append-nil}
use Rattle.std.specs.Prelude.{bit_and, bit_xor}
use Rattle.std.specs.Int.RustNames.{count_ones}
use Rattle.std.specs.Simd.Lanes.{mask_l}
use Rattle.std.proofs.lemmas.List.{length-map}
use Rattle.std.proofs.Math.Nat.{pow-le-pow_right}
use Rattle.std.proofs.lemmas.Simd.{mask_l-lt}
use Rattle.std.proofs.lemmas.Nat.{and_shr, and_mod, xor_shr, xor_mod, ones_cat}
use Rattle.fence_watch.specs.declared.fences.Fence.{Fence}
use Rattle.fence_watch.specs.declared.fences.Crossing.{Crossing}
use Rattle.fence_watch.specs.declared.passages.Pair.{Pair}
use Rattle.fence_watch.specs.declared.slabs.Span.{Span}
use Rattle.fence_watch.specs.Marks.{marks_in, word_marks, marks_of, filled, all_marks}
use Rattle.fence_watch.specs.Slabs.{spans, row_at}
use Rattle.fence_watch.specs.Passages.{turn, both, turns, turns_in, word_turns, turns_of, count_turns, all_turns}

pub length-marks : (n w : ℕ) → length (marks_in n w) ≡ n
length-marks zero w = refl
length-marks (suc n) w = ap suc (length-marks n (w / 2))

-- The bits that both words have.
both-bit : (x y : ℕ) → x < 2 → y < 2 → (bit_and x y == 1) ≡ ((x == 1) && (y == 1))
both-bit zero zero a b = refl
both-bit zero (suc zero) a b = refl
both-bit (suc zero) zero a b = refl
both-bit (suc zero) (suc zero) a b = refl
both-bit x (suc (suc y)) a b = absurd (omega (arith, b))
both-bit (suc (suc x)) y a b = absurd (omega (arith, a))

marks-and : (n a b : ℕ) → marks_in n (bit_and a b) ≡ both (marks_in n a) (marks_in n b)
marks-and zero a b = refl
marks-and (suc n) a b = λ i.
    (ap (λ k. k == 1) (and_mod a b 1) ∙ both-bit (a % 2) (b % 2) (omega arith) (omega arith)) i
    ∷ (ap (marks_in n) (and_shr a b 1) ∙ marks-and n (a / 2) (b / 2)) i

both-append : (xs ys before after : List Bool) → length xs ≡ length ys → both (xs ++ before) (ys ++ after) ≡ both xs ys ++ both before after
both-append [] [] before after e = refl
both-append [] (y ∷ ys) before after e = absurd (cc e)
both-append (x ∷ xs) [] before after e = absurd (cc e)
both-append (x ∷ xs) (y ∷ ys) before after e = ap (λ (l : List Bool). (x && y) ∷ l) (both-append xs ys before after (cc e))

word-and : (a b : ℕ) → word_marks (bit_and a b) ≡ both (word_marks a) (word_marks b)
unfolding word_marks
word-and a b = marks-and 64 a b

word-length : (a b : ℕ) → length (word_marks a) ≡ length (word_marks b)
unfolding word_marks
word-length a b = length-marks 64 a ∙ sym (length-marks 64 b)

-- The bits of two words, and of the words after them.
both-word : (a b : ℕ) (before after : List ℕ) (rest : List Bool) → rest ≡ both (marks_of before) (marks_of after) → word_marks (bit_and a b) ++ rest ≡ both (marks_of (a ∷ before)) (marks_of (b ∷ after))
both-word a b before after rest e =
    (λ i. word-and a b i ++ e i) ∙ sym (both-append (word_marks a) (word_marks b) (marks_of before) (marks_of after) (word-length a b))

-- An array of four.

pub four : {X : Type 0} (xs : List X) (o : X) → length xs ≡ 4 → xs ≡ get_or xs 0 o ∷ get_or xs 1 o ∷ get_or xs 2 o ∷ get_or xs 3 o ∷ []
four [] o e = absurd (omega (arith, e))
four (a ∷ []) o e = absurd (omega (arith, e))
four (a ∷ b ∷ []) o e = absurd (omega (arith, e))
four (a ∷ b ∷ c ∷ []) o e = absurd (omega (arith, e))
four (a ∷ b ∷ c ∷ d ∷ []) o e = refl
four (a ∷ b ∷ c ∷ d ∷ x ∷ rest) o e = absurd (omega (arith, e))

pub both-words : (a b c d e f g h : ℕ) → marks_of (bit_and a e ∷ bit_and b f ∷ bit_and c g ∷ bit_and d h ∷ []) ≡ both (marks_of (a ∷ b ∷ c ∷ d ∷ [])) (marks_of (e ∷ f ∷ g ∷ h ∷ []))
both-words a b c d e f g h =
    both-word a e (b ∷ c ∷ d ∷ []) (f ∷ g ∷ h ∷ []) (marks_of (bit_and b f ∷ bit_and c g ∷ bit_and d h ∷ []))
    (both-word b f (c ∷ d ∷ []) (g ∷ h ∷ []) (marks_of (bit_and c g ∷ bit_and d h ∷ [])) (both-word c g (d ∷ []) (h ∷ []) (marks_of (bit_and d h ∷ [])) (both-word d h [] [] [] refl)))

-- The turns of words, in the same way.
turns-append : (xs ys before after : List Bool) → length xs ≡ length ys → turns (xs ++ before) (ys ++ after) ≡ turns xs ys ++ turns before after
turns-append [] [] before after e = refl
turns-append [] (y ∷ ys) before after e = absurd (cc e)
turns-append (x ∷ xs) [] before after e = absurd (cc e)
turns-append (x ∷ xs) (y ∷ ys) before after e = ap (λ (l : List (Option Crossing)). turn x y ∷ l) (turns-append xs ys before after (cc e))

word-turns : (p : Pair) → word_turns p ≡ turns (word_marks p.was) (word_marks p.is)
unfolding word_marks word_turns
word-turns p = refl

turns-word : (p : Pair) (before after : List ℕ) (rest : List (Option Crossing)) → rest ≡ turns (marks_of before) (marks_of after) → word_turns p ++ rest ≡ turns (marks_of (p.was ∷ before)) (marks_of (p.is ∷ after))
turns-word p before after rest e =
    (λ i. word-turns p i ++ e i) ∙ sym (turns-append (word_marks p.was) (word_marks p.is) (marks_of before) (marks_of after) (word-length p.was p.is))

pub turns-words : (p q r s : Pair) → turns_of (p ∷ q ∷ r ∷ s ∷ []) ≡ turns (marks_of (p.was ∷ q.was ∷ r.was ∷ s.was ∷ [])) (marks_of (p.is ∷ q.is ∷ r.is ∷ s.is ∷ []))
turns-words p q r s =
    turns-word p (q.was ∷ r.was ∷ s.was ∷ []) (q.is ∷ r.is ∷ s.is ∷ []) (turns_of (q ∷ r ∷ s ∷ []))
    (turns-word q (r.was ∷ s.was ∷ []) (r.is ∷ s.is ∷ []) (turns_of (r ∷ s ∷ [])) (turns-word r (s.was ∷ []) (s.is ∷ []) (turns_of (s ∷ [])) (turns-word s [] [] [] refl)))

-- How many bits differ.
none-differ : count_ones (bit_xor 0 0) ≡ 0
unfolding count_ones
none-differ = refl

both-set : count_ones (bit_xor 1 1) ≡ 0
unfolding count_ones
both-set = refl

first-set : count_ones (bit_xor 1 0) ≡ 1
unfolding count_ones
first-set = refl

second-set : count_ones (bit_xor 0 1) ≡ 1
unfolding count_ones
second-set = refl

one-turn : (x y : ℕ) (ts : List (Option Crossing)) → x < 2 → y < 2 → count_ones (bit_xor x y) + count_turns ts ≡ count_turns (turn (x == 1) (y == 1) ∷ ts)
one-turn zero zero ts a b = omega (arith, none-differ)
one-turn zero (suc zero) ts a b = omega (arith, second-set)
one-turn (suc zero) zero ts a b = omega (arith, first-set)
one-turn (suc zero) (suc zero) ts a b = omega (arith, both-set)
one-turn x (suc (suc y)) ts a b = absurd (omega (arith, b))
one-turn (suc (suc x)) y ts a b = absurd (omega (arith, a))

ones-step : (n : ℕ) → count_ones n ≡ count_ones (n % 2) + count_ones (n / 2)
ones-step n =
    let whole : n ≡ n / 2 * 2 ^ 1 + n % 2 = omega arith in
    let cut = ap count_ones whole ∙ ones_cat 1 (n / 2) (n % 2) (omega arith) in
    omega (arith, cut)

count-xor : (n a b : ℕ) → a < 2 ^ n → b < 2 ^ n → count_ones (bit_xor a b) ≡ count_turns (turns (marks_in n a) (marks_in n b))
count-xor zero a b la lb =
    let za : a ≡ 0 = omega (arith, la) in
    let zb : b ≡ 0 = omega (arith, lb) in
    (λ i. count_ones (bit_xor (za i) (zb i))) ∙ none-differ
count-xor (suc n) a b la lb =
    let rest : count_ones (bit_xor (a / 2) (b / 2)) ≡ count_turns (turns (marks_in n (a / 2)) (marks_in n (b / 2))) = count-xor n (a / 2) (b / 2) (omega (arith, la)) (omega (arith, lb)) in
    let low : count_ones (bit_xor a b % 2) ≡ count_ones (bit_xor (a % 2) (b % 2)) = ap count_ones (xor_mod a b 1) in
    let high : count_ones (bit_xor a b / 2) ≡ count_ones (bit_xor (a / 2) (b / 2)) = ap count_ones (xor_shr a b 1) in
    let all : count_ones (bit_xor a b) ≡ count_ones (bit_xor (a % 2) (b % 2)) + count_turns (turns (marks_in n (a / 2)) (marks_in n (b / 2))) = omega (arith, ones-step (bit_xor a b), low, high, rest) in
    all ∙ one-turn (a % 2) (b % 2) (turns (marks_in n (a / 2)) (marks_in n (b / 2))) (omega arith) (omega arith)

pub count-word : (was is : ℕ) → was < 2 ^ 64 → is < 2 ^ 64 → count_ones (bit_xor was is) ≡ count_turns (word_turns (record { was = was; is = is }))
unfolding word_turns
count-word was is low high = count-xor 64 was is low high

pub count-append : (xs ys : List (Option Crossing)) → count_turns (xs ++ ys) ≡ count_turns xs + count_turns ys
count-append [] ys = omega arith
count-append (None ∷ xs) ys = count-append xs ys
count-append (Some c ∷ xs) ys = omega (arith, count-append xs ys)

pub count-words : (p q r s : Pair) → count_turns (turns_of (p ∷ q ∷ r ∷ s ∷ [])) ≡ count_turns (word_turns p) + count_turns (word_turns q) + count_turns (word_turns r) + count_turns (word_turns s)
count-words p q r s =
    omega (arith, count-append (word_turns p) (turns_of (q ∷ r ∷ s ∷ [])), count-append (word_turns q) (turns_of (r ∷ s ∷ [])), count-append (word_turns r) (turns_of (s ∷ [])), count-append (word_turns s) [])

count-le : (ts : List (Option Crossing)) → count_turns ts ≤ length ts
count-le [] = omega arith
count-le (None ∷ ts) = omega (arith, count-le ts)
count-le (Some c ∷ ts) = omega (arith, count-le ts)

pub length-turns : (n a b : ℕ) → length (turns (marks_in n a) (marks_in n b)) ≡ n
length-turns zero a b = refl
length-turns (suc n) a b = ap suc (length-turns n (a / 2) (b / 2))

pub length-word : (p : Pair) → length (word_turns p) ≡ 64
unfolding word_turns
length-word p = length-turns 64 p.was p.is

pub few-turns : (p : Pair) → count_turns (word_turns p) ≤ 64
few-turns p = omega (arith, count-le (word_turns p), length-word p)

-- No fence is crossed if both words are the same.
turn-same : (b : Bool) (ts : List (Option Crossing)) → count_turns (turn b b ∷ ts) ≡ count_turns ts
turn-same true ts = refl
turn-same false ts = refl

quiet : (xs : List Bool) → count_turns (turns xs xs) ≡ 0
quiet [] = refl
quiet (x ∷ xs) = turn-same x (turns xs xs) ∙ quiet xs

pub quiet-pair : (n : ℕ) (p : Pair) → p.was ≡ p.is → count_turns (turns_in n p) ≡ 0
quiet-pair n p same = ap (λ w. count_turns (turns (marks_in n p.was) (marks_in n w))) (sym same) ∙ quiet (marks_in n p.was)

-- The marks of a mask, and the bound on a mask of few spans.
low-bit : (m : Bool) (k : ℕ) → ((cond m 1 0 + 2 * k) % 2 == 1) ≡ m
low-bit true k = let e : (1 + 2 * k) % 2 ≡ 1 = omega arith in ap (λ n. n == 1) e
low-bit false k = let e : (0 + 2 * k) % 2 ≡ 0 = omega arith in ap (λ n. n == 1) e

high-bits : (m : Bool) (k : ℕ) → (cond m 1 0 + 2 * k) / 2 ≡ k
high-bits true k = omega arith
high-bits false k = omega arith

marks-mask : (n : ℕ) (ms : List Bool) → marks_in n (mask_l ms) ≡ filled false n ms
marks-mask zero ms = refl
marks-mask (suc n) [] = ap (λ (l : List Bool). false ∷ l) (marks-mask n [])
marks-mask (suc n) (m ∷ ms) = λ i. low-bit m (mask_l ms) i ∷ (ap (marks_in n) (high-bits m (mask_l ms)) ∙ marks-mask n ms) i

pub word-fits : (at word : ℕ) (list : List Span) → word ≡ mask_l (row_at at list) → length list < 64 → word < 2 ^ 63
word-fits at word list is few =
    let below = mask_l-lt (row_at at list) in
    let len : length (row_at at list) ≡ length list = length-map list (spans at) in
    let most : 2 ^ length (row_at at list) ≤ 2 ^ 63 = pow-le-pow_right {n = 2} (omega arith) {i = length (row_at at list)} {j = 63} (omega (arith, len, few)) in
    omega (arith, is, below, most)

-- A list that is filled up, in two parts.
drop-none : (n : ℕ) → drop {A = Span} n [] ≡ []
drop-none zero = refl
drop-none (suc n) = refl

filled-parts : (at a b n : ℕ) (list : List Span) → n ≡ a + b
    → filled false a (row_at at (take a list)) ++ filled false b (row_at at (drop a list)) ≡ filled false n (row_at at list)
filled-parts at zero b n list e = let same : b ≡ n = omega (arith, e) in ap (λ k. filled false k (row_at at list)) same
filled-parts at (suc a) b zero list e = absurd (omega (arith, e))
filled-parts at (suc a) b (suc n) [] e =
    let rest = filled-parts at a b n [] (omega (arith, e)) in
    ap (λ (l : List Bool). false ∷ l) ((λ i. filled false a (row_at at (sym (take-none a) i)) ++ filled false b (row_at at (sym (drop-none a) i))) ∙ rest)
  where
    take-none : (k : ℕ) → take {A = Span} k [] ≡ []
    take-none zero = refl
    take-none (suc k) = refl
filled-parts at (suc a) b (suc n) (s ∷ list) e = ap (λ (l : List Bool). spans at s ∷ l) (filled-parts at a b n list (omega (arith, e)))

-- The words of a row of marks.
pub word-row : (at word : ℕ) (list : List Span) → word ≡ mask_l (row_at at list) → word_marks word ≡ filled false 64 (row_at at list)
unfolding word_marks
word-row at word list e = ap (marks_in 64) e ∙ marks-mask 64 (row_at at list)

pub row-words : (at a b c d : ℕ) (list : List Span) → a ≡ mask_l (row_at at (take 64 list)) → b ≡ mask_l (row_at at (take 64 (drop 64 list))) → c ≡ mask_l (row_at at (take 64 (drop 64 (drop 64 list))))
    → d ≡ mask_l (row_at at (take 64 (drop 64 (drop 64 (drop 64 list))))) → marks_of (a ∷ b ∷ c ∷ d ∷ []) ≡ all_marks (row_at at list)
unfolding all_marks
row-words at a b c d list ea eb ec ed =
    let last : List Span = drop 64 (drop 64 (drop 64 list)) in
    let end : word_marks d ++ [] ≡ filled false 64 (row_at at last) = append-nil (word_marks d) ∙ word-row at d (take 64 last) ed ∙ cut-last last in
    (λ i. word-row at a (take 64 list) ea i ++ (word-row at b (take 64 (drop 64 list)) eb i ++ (word-row at c (take 64 (drop 64 (drop 64 list))) ec i ++ end i)))
    ∙ ap (λ (l : List Bool). filled false 64 (row_at at (take 64 list)) ++ (filled false 64 (row_at at (take 64 (drop 64 list))) ++ l)) (filled-parts at 64 64 128 (drop 64 (drop 64 list)) refl)
    ∙ ap (λ (l : List Bool). filled false 64 (row_at at (take 64 list)) ++ l) (filled-parts at 64 128 192 (drop 64 list) refl)
    ∙ filled-parts at 64 192 256 list refl
  where
    cut-last : (l : List Span) → filled false 64 (row_at at (take 64 l)) ≡ filled false 64 (row_at at l)
    cut-last l = sym (append-nil (filled false 64 (row_at at (take 64 l)))) ∙ filled-parts at 64 0 64 l refl

-- The marks of both coordinates, filled up.
no-marks : (l : List Bool) → both l [] ≡ []
no-marks [] = refl
no-marks (x ∷ l) = refl

and-false : (x : Bool) → (x && false) ≡ false
and-false true = refl
and-false false = refl

both-filled : (n : ℕ) (xs ys : List Bool) → both (filled false n xs) (filled false n ys) ≡ filled false n (both xs ys)
both-filled zero xs ys = refl
both-filled (suc n) [] [] = ap (λ (l : List Bool). false ∷ l) (both-filled n [] [])
both-filled (suc n) [] (y ∷ ys) = ap (λ (l : List Bool). false ∷ l) (both-filled n [] ys)
both-filled (suc n) (x ∷ xs) [] = λ i. and-false x i ∷ (both-filled n xs [] ∙ ap (filled false n) (no-marks xs)) i
both-filled (suc n) (x ∷ xs) (y ∷ ys) = ap (λ (l : List Bool). (x && y) ∷ l) (both-filled n xs ys)

pub both-all : (xs ys : List Bool) → both (all_marks xs) (all_marks ys) ≡ all_marks (both xs ys)
unfolding all_marks
both-all xs ys = both-filled 256 xs ys

none-filled : (n : ℕ) (fences : List Fence) → filled false n [] ≡ filled false n (map (λ (f : Fence). false) fences)
none-filled zero fences = refl
none-filled (suc n) [] = refl
none-filled (suc n) (f ∷ fences) = ap (λ (l : List Bool). false ∷ l) (none-filled n fences)

none-all : (fences : List Fence) → all_marks [] ≡ all_marks (map (λ (f : Fence). false) fences)
unfolding all_marks
none-all fences = none-filled 256 fences

pub nowhere : (fences : List Fence) → marks_of (0 ∷ 0 ∷ 0 ∷ 0 ∷ []) ≡ all_marks (map (λ (f : Fence). false) fences)
nowhere fences = row-words 0 0 0 0 0 [] refl refl refl refl ∙ none-all fences

-- Turns of marks that are filled up.
turns-filled : (n : ℕ) (p q : Fence → Bool) (fences : List Fence) → turns (filled false n (map p fences)) (filled false n (map q fences)) ≡ filled None n (map (λ (f : Fence). turn (p f) (q f)) fences)
turns-filled zero p q fences = refl
turns-filled (suc n) p q [] = ap (λ (l : List (Option Crossing)). None ∷ l) (turns-filled n p q [])
turns-filled (suc n) p q (f ∷ fences) = ap (λ (l : List (Option Crossing)). turn (p f) (q f) ∷ l) (turns-filled n p q fences)

pub turns-all : (p q : Fence → Bool) (fences : List Fence) → turns (all_marks (map p fences)) (all_marks (map q fences)) ≡ all_turns (map (λ (f : Fence). turn (p f) (q f)) fences)
unfolding all_marks all_turns
turns-all p q fences = turns-filled 256 p q fences
