-- Guards in two parts: the first few, and the others.
use Rattle.std.proofs.Common.{◌≡◌, ℕ, zero, suc, ◌≤◌, ◌/◌, List, [], ◌∷◌, ◌++◌, length, take, drop, Option, Some, None, Result, Ok, Err, OnOk, sym, ◌∙◌, ap, subst, arith}
use Rattle.std.proofs.lemmas.List.{map-append, length-map}
use Rattle.fence_watch.specs.declared.fences.Crossing.{Crossing}
use Rattle.fence_watch.specs.declared.guards.Guarded.{Guarded}
use Rattle.fence_watch.specs.declared.passages.Pair.{Pair}
use Rattle.fence_watch.specs.Marks.{marks_in}
use Rattle.fence_watch.specs.Passages.{turns, turns_in, word_turns, turns_of, count_turns}
use Rattle.fence_watch.specs.Guards.{AllRising, guard_of, guards_of, behind_by, guards_along, HaveRoom, crossed_by, crossed_in}
use Rattle.fence_watch.proofs.AlongParts.{front-of, back-of, along-in, along-both}

-- If there are at most as many guards as a word has bits, the lowest bits decide them all.
room-in : (n : ℕ) (guards : List Guarded) (a b : ℕ) (rest : List (Option Crossing)) → length guards ≤ n
    → HaveRoom guards (turns (marks_in (length guards) a) (marks_in (length guards) b)) → HaveRoom guards (turns (marks_in n a) (marks_in n b) ++ rest)
room-in n [] a b rest few room = tt
room-in zero (g ∷ guards) a b rest few room = absurd (omega (arith, few))
room-in (suc n) (g ∷ guards) a b rest few room = (room.0, room-in n guards (a / 2) (b / 2) rest (omega (arith, few)) room.1)

room-out : (n : ℕ) (guards : List Guarded) (a b : ℕ) (rest : List (Option Crossing)) → length guards ≤ n
    → HaveRoom guards (turns (marks_in n a) (marks_in n b) ++ rest) → HaveRoom guards (turns (marks_in (length guards) a) (marks_in (length guards) b))
room-out n [] a b rest few room = tt
room-out zero (g ∷ guards) a b rest few room = absurd (omega (arith, few))
room-out (suc n) (g ∷ guards) a b rest few room = (room.0, room-out n guards (a / 2) (b / 2) rest (omega (arith, few)) room.1)

pub along-word : (id : ℕ) (guards : List Guarded) (p : Pair) (passage whole : List Pair) → whole ≡ p ∷ passage → length guards ≤ 64 → crossed_in id guards p ≡ crossed_by id guards whole
unfolding word_turns
along-word id guards p passage whole is few =
    along-in (behind_by id) 64 (length guards) (guards_of guards) p.was p.is (turns_of passage) (length-map guards guard_of) few ∙ ap (crossed_by id guards) (sym is)

pub room-word : {E : Type 0} (r : Result (Unit {0}) E) (n : ℕ) (guards : List Guarded) (p : Pair) (passage whole : List Pair) → whole ≡ p ∷ passage → length guards ≡ n → n ≤ 64
    → OnOk r (HaveRoom guards (turns_in n p)) → OnOk r (HaveRoom guards (turns_of whole))
unfolding word_turns
room-word (Ok x) n guards p passage whole is len few room =
    subst (λ (l : List Pair). HaveRoom guards (turns_of l)) (sym is)
    (room-in 64 guards p.was p.is (turns_of passage) (omega (arith, len, few)) (subst (λ k. HaveRoom guards (turns_in k p)) (sym len) room))
room-word (Err e) n guards p passage whole is len few room = tt

pub room-of_word : (guards : List Guarded) (p : Pair) (passage whole : List Pair) → whole ≡ p ∷ passage → length guards ≤ 64 → HaveRoom guards (turns_of whole) → HaveRoom guards (turns_in (length guards) p)
unfolding word_turns
room-of_word guards p passage whole is few room = room-out 64 guards p.was p.is (turns_of passage) few (subst (λ (l : List Pair). HaveRoom guards (turns_of l)) is room)

pub no-room : (guards : List Guarded) → HaveRoom guards []
no-room [] = tt
no-room (g ∷ guards) = tt

-- The ids rise, and there is room, in both parts as in the whole.
pub rising-take : (n : ℕ) (guards : List Guarded) → AllRising (guards_of guards) → AllRising (guards_of (take n guards))
rising-take zero guards rising = tt
rising-take (suc n) [] rising = tt
rising-take (suc n) (g ∷ guards) rising = (rising.0, rising-take n guards rising.1)

pub rising-drop : (n : ℕ) (guards : List Guarded) → AllRising (guards_of guards) → AllRising (guards_of (drop n guards))
rising-drop zero guards rising = rising
rising-drop (suc n) [] rising = tt
rising-drop (suc n) (g ∷ guards) rising = rising-drop n guards rising.1

pub room-take : (n : ℕ) (guards : List Guarded) (ts : List (Option Crossing)) → HaveRoom guards ts → HaveRoom (take n guards) (take n ts)
room-take zero guards ts room = tt
room-take (suc n) [] ts room = tt
room-take (suc n) (g ∷ guards) [] room = tt
room-take (suc n) (g ∷ guards) (t ∷ ts) room = (room.0, room-take n guards ts room.1)

pub room-drop : (n : ℕ) (guards : List Guarded) (ts : List (Option Crossing)) → HaveRoom guards ts → HaveRoom (drop n guards) (drop n ts)
room-drop zero guards ts room = room
room-drop (suc n) [] ts room = tt
room-drop (suc n) (g ∷ guards) [] room = no-room (drop n guards)
room-drop (suc n) (g ∷ guards) (t ∷ ts) room = room-drop n guards ts room.1

pub room-append : (n : ℕ) (xs ys : List Guarded) (ts : List (Option Crossing)) → length xs ≡ n → HaveRoom xs (take n ts) → HaveRoom ys (drop n ts) → HaveRoom (xs ++ ys) ts
room-append zero [] ys ts e near far = far
room-append (suc n) [] ys ts e near far = absurd (omega (arith, e))
room-append zero (x ∷ xs) ys ts e near far = absurd (omega (arith, e))
room-append (suc n) (x ∷ xs) ys [] e near far = tt
room-append (suc n) (x ∷ xs) ys (t ∷ ts) e near far = (near.0, room-append n xs ys ts (omega (arith, e)) near.1 far)

-- Without a crossing there is room.
pub room-none : (guards : List Guarded) (ts : List (Option Crossing)) → count_turns ts ≡ 0 → HaveRoom guards ts
room-none [] ts e = tt
room-none (g ∷ guards) [] e = tt
room-none (g ∷ guards) (None ∷ ts) e = (tt, room-none guards ts e)
room-none (g ∷ guards) (Some c ∷ ts) e = absurd (omega (arith, e))

pub room-both : {E : Type 0} (r : Result (Unit {0}) E) (n : ℕ) (these others : List Guarded) (ts near far : List (Option Crossing)) → near ≡ take n ts → far ≡ drop n ts → length these ≡ n → HaveRoom these near → OnOk r (HaveRoom others far) → OnOk r (HaveRoom (these ++ others) ts)
room-both (Ok x) n these others ts near far is_near is_far len front back = room-append n these others ts len (subst (HaveRoom these) is_near front) (subst (HaveRoom others) is_far back)
room-both (Err e) n these others ts near far is_near is_far len front back = tt

pub rising-front : (n : ℕ) (guards xs ys : List Guarded) → guards ≡ xs ++ ys → length xs ≡ n → AllRising (guards_of guards) → AllRising (guards_of xs)
rising-front n guards xs ys is len rising = subst (λ (l : List Guarded). AllRising (guards_of l)) (front-of n guards xs ys is len) (rising-take n guards rising)

pub rising-back : (n : ℕ) (guards xs ys : List Guarded) → guards ≡ xs ++ ys → length xs ≡ n → AllRising (guards_of guards) → AllRising (guards_of ys)
rising-back n guards xs ys is len rising = subst (λ (l : List Guarded). AllRising (guards_of l)) (back-of n guards xs ys is len) (rising-drop n guards rising)

pub room-front : (n : ℕ) (guards xs ys : List Guarded) (ts near : List (Option Crossing)) → guards ≡ xs ++ ys → length xs ≡ n → near ≡ take n ts → HaveRoom guards ts → HaveRoom xs near
room-front n guards xs ys ts near is len is_near room =
    subst (λ (l : List Guarded). HaveRoom l near) (front-of n guards xs ys is len) (subst (HaveRoom (take n guards)) (sym is_near) (room-take n guards ts room))

pub room-back : (n : ℕ) (guards xs ys : List Guarded) (ts far : List (Option Crossing)) → guards ≡ xs ++ ys → length xs ≡ n → far ≡ drop n ts → HaveRoom guards ts → HaveRoom ys far
room-back n guards xs ys ts far is len is_far room =
    subst (λ (l : List Guarded). HaveRoom l far) (back-of n guards xs ys is len) (subst (HaveRoom (drop n guards)) (sym is_far) (room-drop n guards ts room))

-- The result for both parts.
pub crossed-of : (id n : ℕ) (guards xs ys these others : List Guarded) (ts near far : List (Option Crossing)) → guards ≡ xs ++ ys → length xs ≡ n → near ≡ take n ts → far ≡ drop n ts
    → guards_of these ≡ guards_along id (guards_of xs) near → guards_of others ≡ guards_along id (guards_of ys) far → guards_of (these ++ others) ≡ guards_along id (guards_of guards) ts
crossed-of id n guards xs ys these others ts near far is len is_near is_far front back =
    map-append guard_of these others
    ∙ (λ i. front i ++ back i)
    ∙ along-both (behind_by id) n (guards_of guards) (guards_of xs) (guards_of ys) ts near far (ap guards_of is ∙ map-append guard_of xs ys) (length-map xs guard_of ∙ len) is_near is_far
