-- Fences in two parts: the first few, and the others.
use Rattle.std.proofs.Common.{◌≡◌, ℕ, zero, suc, ◌≤◌, ◌+◌, ◌/◌, ◌%◌, ◌==◌, List, [], ◌∷◌, ◌++◌, length, take, drop, Option, Some, None, refl, sym, ◌∙◌, ap, arith, append_assoc, length-append}
use Rattle.std.proofs.Math.Seq.{take-append_seam, drop-append_seam}
use Rattle.fence_watch.specs.declared.fences.Event.{Event}
use Rattle.fence_watch.specs.declared.fences.Crossing.{Crossing}
use Rattle.fence_watch.specs.declared.counts.FenceCount.{FenceCount}
use Rattle.fence_watch.specs.declared.counts.Step.{Step}
use Rattle.fence_watch.specs.declared.passages.Pair.{Pair}
use Rattle.fence_watch.specs.Marks.{marks_in}
use Rattle.fence_watch.specs.Passages.{along, turn, turns, turns_in, word_turns, turns_of, count_turns, event_by, events_along}
use Rattle.fence_watch.proofs.MarkLemmas.{length-word}
use Rattle.fence_watch.specs.Counts.{fences_counted, count_by, counted_by, counted_in, said_by, said_in}

-- How the fences of each part are crossed.
pub near-turns : (n : ℕ) (p : Pair) (passage whole : List Pair) → whole ≡ p ∷ passage → n ≡ 64 → turns_in n p ≡ take 64 (turns_of whole)
unfolding word_turns
near-turns n p passage whole is len =
    ap (λ k. turns_in k p) len ∙ sym (take-append_seam (word_turns p) (turns_of passage)) ∙ ap (λ k. take k (word_turns p ++ turns_of passage)) (length-word p)
    ∙ ap (λ (l : List Pair). take 64 (turns_of l)) (sym is)

pub far-turns : (p : Pair) (passage whole : List Pair) → whole ≡ p ∷ passage → turns_of passage ≡ drop 64 (turns_of whole)
far-turns p passage whole is =
    sym (drop-append_seam (word_turns p) (turns_of passage)) ∙ ap (λ k. drop k (word_turns p ++ turns_of passage)) (length-word p) ∙ ap (λ (l : List Pair). drop 64 (turns_of l)) (sym is)

-- Along no passage.
pub no-items : {X : Type 0} (xs : List X) → length xs ≡ 0 → xs ≡ []
no-items [] e = refl
no-items (x ∷ xs) e = absurd (omega (arith, e))

-- The first of the parts that make up the whole.
pub front-of : {X : Type 0} (n : ℕ) (all xs ys : List X) → all ≡ xs ++ ys → length xs ≡ n → take n all ≡ xs
front-of n all xs ys is len = ap (take n) is ∙ ap (λ k. take k (xs ++ ys)) (sym len) ∙ take-append_seam xs ys

pub back-of : {X : Type 0} (n : ℕ) (all xs ys : List X) → all ≡ xs ++ ys → length xs ≡ n → drop n all ≡ ys
back-of n all xs ys is len = ap (drop n) is ∙ ap (λ k. drop k (xs ++ ys)) (sym len) ∙ drop-append_seam xs ys

module _ {X : Type 0} (behind : X → Option Crossing → X) where
  -- If there are at most as many elements as a word has bits, the lowest bits decide them all.
  pub along-in : (n k : ℕ) (xs : List X) (a b : ℕ) (rest : List (Option Crossing)) → length xs ≡ k → k ≤ n
      → along behind xs (turns (marks_in k a) (marks_in k b)) ≡ along behind xs (turns (marks_in n a) (marks_in n b) ++ rest)
  along-in n k [] a b rest len few = refl
  along-in n zero (x ∷ xs) a b rest len few = absurd (omega (arith, len))
  along-in zero (suc k) (x ∷ xs) a b rest len few = absurd (omega (arith, few))
  along-in (suc n) (suc k) (x ∷ xs) a b rest len few =
      ap (λ (l : List X). behind x (turn (a % 2 == 1) (b % 2 == 1)) ∷ l) (along-in n k xs (a / 2) (b / 2) rest (omega (arith, len)) (omega (arith, few)))

  pub along-nil : (xs : List X) → along behind xs [] ≡ xs
  along-nil [] = refl
  along-nil (x ∷ xs) = refl

  -- Without a crossing nothing changes.
  pub along-none : ((x : X) → behind x None ≡ x) → (xs : List X) (ts : List (Option Crossing)) → count_turns ts ≡ 0 → along behind xs ts ≡ xs
  along-none same [] ts e = refl
  along-none same (x ∷ xs) [] e = refl
  along-none same (x ∷ xs) (None ∷ ts) e = λ i. same x i ∷ along-none same xs ts e i
  along-none same (x ∷ xs) (Some c ∷ ts) e = absurd (omega (arith, e))

  halves : (n : ℕ) (xs : List X) → xs ≡ take n xs ++ drop n xs
  halves zero xs = refl
  halves (suc n) [] = refl
  halves (suc n) (x ∷ xs) = ap (λ (l : List X). x ∷ l) (halves n xs)

  along-parts : (n : ℕ) (xs : List X) (ts : List (Option Crossing)) → along behind xs ts ≡ along behind (take n xs) (take n ts) ++ along behind (drop n xs) (drop n ts)
  along-parts zero xs ts = refl
  along-parts (suc n) [] ts = refl
  along-parts (suc n) (x ∷ xs) [] = ap (λ (l : List X). x ∷ l) (halves n xs ∙ ap (λ (l : List X). take n xs ++ l) (sym (along-nil (drop n xs))))
  along-parts (suc n) (x ∷ xs) (t ∷ ts) = ap (λ (l : List X). behind x t ∷ l) (along-parts n xs ts)

  -- The result for both parts.
  pub along-both : (n : ℕ) (all xs ys : List X) (ts near far : List (Option Crossing)) → all ≡ xs ++ ys → length xs ≡ n → near ≡ take n ts → far ≡ drop n ts
      → along behind xs near ++ along behind ys far ≡ along behind all ts
  along-both n all xs ys ts near far is len is_near is_far =
      (λ i. along behind (sym (front-of n all xs ys is len) i) (is_near i) ++ along behind (sym (back-of n all xs ys is len) i) (is_far i)) ∙ sym (along-parts n all ts)

told-in : (at id n k : ℕ) (counts : List FenceCount) (a b : ℕ) (rest : List (Option Crossing)) → length counts ≡ k → k ≤ n
    → events_along at id (fences_counted counts) (turns (marks_in k a) (marks_in k b)) ≡ events_along at id (fences_counted counts) (turns (marks_in n a) (marks_in n b) ++ rest)
told-in at id n k [] a b rest len few = refl
told-in at id n zero (c ∷ counts) a b rest len few = absurd (omega (arith, len))
told-in at id zero (suc k) (c ∷ counts) a b rest len few = absurd (omega (arith, few))
told-in at id (suc n) (suc k) (c ∷ counts) a b rest len few =
    ap (λ (l : List Event). event_by at id c.fence (turn (a % 2 == 1) (b % 2 == 1)) ++ l) (told-in at id n k counts (a / 2) (b / 2) rest (omega (arith, len)) (omega (arith, few)))

pub counted-word : (counts : List FenceCount) (p : Pair) (passage whole : List Pair) → whole ≡ p ∷ passage → length counts ≤ 64 → counted_in counts p ≡ counted_by counts whole
unfolding word_turns
counted-word counts p passage whole is few = along-in count_by 64 (length counts) counts p.was p.is (turns_of passage) refl few ∙ ap (counted_by counts) (sym is)

pub said-word : (step : Step) (counts : List FenceCount) (p : Pair) (passage whole : List Pair) → whole ≡ p ∷ passage → length counts ≤ 64 → said_in step counts p ≡ said_by step counts whole
unfolding word_turns
said-word step counts p passage whole is few = told-in step.at step.id 64 (length counts) counts p.was p.is (turns_of passage) refl few ∙ ap (said_by step counts) (sym is)

pub none-said : (at id : ℕ) (counts : List FenceCount) → events_along at id (fences_counted counts) [] ≡ []
none-said at id [] = refl
none-said at id (c ∷ counts) = refl

said-parts : (at id n : ℕ) (counts : List FenceCount) (ts : List (Option Crossing)) → events_along at id (fences_counted counts) ts
    ≡ events_along at id (fences_counted (take n counts)) (take n ts) ++ events_along at id (fences_counted (drop n counts)) (drop n ts)
said-parts at id zero counts ts = refl
said-parts at id (suc n) [] ts = refl
said-parts at id (suc n) (c ∷ counts) [] = sym (none-said at id (drop n counts))
said-parts at id (suc n) (c ∷ counts) (t ∷ ts) =
    ap (λ (l : List Event). event_by at id c.fence t ++ l) (said-parts at id n counts ts)
    ∙ sym (append_assoc (event_by at id c.fence t) (events_along at id (fences_counted (take n counts)) (take n ts)) (events_along at id (fences_counted (drop n counts)) (drop n ts)))

-- Without a crossing there is no event.
pub said-none : (at id : ℕ) (counts : List FenceCount) (ts : List (Option Crossing)) → count_turns ts ≡ 0 → events_along at id (fences_counted counts) ts ≡ []
said-none at id [] ts e = refl
said-none at id (c ∷ counts) [] e = refl
said-none at id (c ∷ counts) (None ∷ ts) e = said-none at id counts ts e
said-none at id (c ∷ counts) (Some x ∷ ts) e = absurd (omega (arith, e))

-- The events of both parts.
pub said-both : (at id n : ℕ) (counts xs ys : List FenceCount) (ts near far : List (Option Crossing)) → counts ≡ xs ++ ys → length xs ≡ n → near ≡ take n ts → far ≡ drop n ts
    → events_along at id (fences_counted xs) near ++ events_along at id (fences_counted ys) far ≡ events_along at id (fences_counted counts) ts
said-both at id n counts xs ys ts near far is len is_near is_far =
    (λ i. events_along at id (fences_counted (sym (front-of n counts xs ys is len) i)) (is_near i) ++ events_along at id (fences_counted (sym (back-of n counts xs ys is len) i)) (is_far i))
    ∙ sym (said-parts at id n counts ts)

pub length-both : (at id n : ℕ) (counts xs ys : List FenceCount) (ts near far : List (Option Crossing)) → counts ≡ xs ++ ys → length xs ≡ n → near ≡ take n ts → far ≡ drop n ts
    → length (events_along at id (fences_counted xs) near) + length (events_along at id (fences_counted ys) far) ≡ length (events_along at id (fences_counted counts) ts)
length-both at id n counts xs ys ts near far is len is_near is_far =
    sym (length-append (events_along at id (fences_counted xs) near) (events_along at id (fences_counted ys) far)) ∙ ap length (said-both at id n counts xs ys ts near far is len is_near is_far)
