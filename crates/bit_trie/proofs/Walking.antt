-- Where walks down a trie may begin, and what they may pass by.
use Rattle.std.proofs.Common.{◌≡◌, ◌-◌, ◌==◌, ℕ, suc, Bool, true, false, cond, List, [], ◌∷◌, ◌++◌, length, take, Some, refl, sym, ◌∙◌, ap, arith, subst, append_assoc, append-nil, length-append}
use Rattle.std.specs.Int.{bit_at}
use Rattle.std.specs.List.{starts_with, AllByRecursion}
use Rattle.std.proofs.lemmas.Bool.{eqb-true}
use Rattle.std.proofs.lemmas.List.{nil_from_length}
use Rattle.std.proofs.lemmas.Option.{same_Some}
use mathlib.Core.Bool.{beq, true≢false}
use Rattle.zorder.specs.Bits.{low_bits}
use Rattle.zorder.specs.Key.{is_under, key_bits}
use Rattle.zorder.specs.Name.{length-low_bits}
use Rattle.index_layer.specs.Leaves.{Leaf}
use Rattle.index_layer.specs.Below.{begins_some}
use Rattle.index_layer.specs.Narrowed.{PassesBare}
use Rattle.index_layer.proofs.LeafNames.{IsFront, front-test, front-from_test, front-trans, among-any}
use Rattle.bit_trie.specs.Tries.{Trie, tip, fork, halves, leaves_under, reach, is_bare}
use Rattle.bit_trie.specs.Walks.{Agrees, AreBareBeside, Narrows}
use Rattle.bit_trie.proofs.Reaching.{reached, first, reach-halves}

-- one path after the other
pub reach-on : (name path : List Bool) (w t u : Trie) → reach name w ≡ Some t → reach path t ≡ Some u → reach (name ++ path) w ≡ Some u
reach-on [] path w t u e f = ap (reach path) (same_Some w t e) ∙ f
reach-on (x ∷ name) path (tip b) t u e f = absurd (cc e)
reach-on (true ∷ name) path (fork z o) t u e f = reach-on name path o t u e f
reach-on (false ∷ name) path (fork z o) t u e f = reach-on name path z t u e f

-- two keys that go on together
pub agrees-half : (from to n rest : ℕ) (b : Bool) (z o u : Trie) → (bit_at from n == 1) ≡ b → (bit_at to n == 1) ≡ b → Agrees from to n rest (cond b o z) u → Agrees from to (suc n) rest (fork z o) u
agrees-half from to n rest true z o u e f a = record { path = true ∷ a.path; from_is = λ i. e i ∷ a.from_is i; to_is = λ i. f i ∷ a.to_is i; at = a.at }
agrees-half from to n rest false z o u e f a = record { path = false ∷ a.path; from_is = λ i. e i ∷ a.from_is i; to_is = λ i. f i ∷ a.to_is i; at = a.at }

take-front : (n : ℕ) (front rest : List Bool) → n ≡ length front → take n (front ++ rest) ≡ front
take-front n front rest e = ap (λ m. take m (front ++ rest)) e ∙ by_front front
  where
    by_front : (f : List Bool) → take (length f) (f ++ rest) ≡ f
    by_front [] = refl
    by_front (b ∷ f) = ap (λ (l : List Bool). b ∷ l) (by_front f)

module _ (from to rest : ℕ) (t u : Trie) (a : Agrees from to 64 rest t u) where
  -- the path is the first bits of the keys
  pub path-is : take (64 - rest) (key_bits from) ≡ a.path
  unfolding key_bits
  path-is =
      let long : 64 - rest ≡ length a.path = omega (arith, ap length a.from_is, length-append a.path (low_bits rest from), length-low_bits 64 from, length-low_bits rest from) in
      ap (take (64 - rest)) a.from_is ∙ take-front (64 - rest) a.path (low_bits rest from) long

  pub over-from : is_under a.path from ≡ true
  unfolding key_bits
  over-from = front-test a.path (low_bits 64 from) (low_bits rest from, a.from_is)

  pub over-to : is_under a.path to ≡ true
  unfolding key_bits
  over-to = front-test a.path (low_bits 64 to) (low_bits rest to, a.to_is)

-- some leaf's name begins with what a path leads to
pub begun : (name : List Bool) (w u : Trie) → reach name w ≡ Some u → begins_some name (leaves_under [] w) ≡ true
begun name w u e =
    let r = reached [] name w u e in
    let f = first name u in
    among-any (λ (n : Leaf). starts_with beq n.name name) (leaves_under [] w) f.leaf (r.front, f.rest ++ r.back, r.is ∙ ap (λ (l : List Leaf). r.front ++ (l ++ r.back)) f.is) (front-test name f.leaf.name f.front)

-- lists of leaves of which each is so
all-both : (P : Leaf → Type 0) (xs ys : List Leaf) → AllByRecursion P xs → AllByRecursion P ys → AllByRecursion P (xs ++ ys)
all-both P [] ys a b = b
all-both P (x ∷ xs) ys a b = (a.0, all-both P xs ys a.1 b)

all-from : (P Q : Leaf → Type 0) → ((l : Leaf) → P l → Q l) → (ls : List Leaf) → AllByRecursion P ls → AllByRecursion Q ls
all-from P Q f [] a = tt
all-from P Q f (l ∷ ls) a = (f l a.0, all-from P Q f ls a.1)

-- the names of the leaves of a trie begin with its name
pub fronts : (name : List Bool) (t : Trie) → AllByRecursion (λ (l : Leaf). IsFront name l.name) (leaves_under name t)
fronts name (tip b) = (([], sym (append-nil name)), tt)
fronts name (fork z o) =
    all-both (λ (l : Leaf). IsFront name l.name) (leaves_under (name ++ false ∷ []) z) (leaves_under (name ++ true ∷ []) o) (half false z (fronts (name ++ false ∷ []) z)) (half true o (fronts (name ++ true ∷ []) o))
  where
    half : (b : Bool) (u : Trie) → AllByRecursion (λ (l : Leaf). IsFront (name ++ b ∷ []) l.name) (leaves_under (name ++ b ∷ []) u) → AllByRecursion (λ (l : Leaf). IsFront name l.name) (leaves_under (name ++ b ∷ []) u)
    half b u all = all-from (λ (l : Leaf). IsFront (name ++ b ∷ []) l.name) (λ (l : Leaf). IsFront name l.name) (λ l f. front-trans name (name ++ b ∷ []) l.name (b ∷ [], refl) f) (leaves_under (name ++ b ∷ []) u) all

-- beside the whole of a trie there is nothing
pub none-beside : (name : List Bool) (t : Trie) → AreBareBeside name (leaves_under name t)
none-beside name t =
    all-from (λ (l : Leaf). IsFront name l.name) (λ (l : Leaf). starts_with beq l.name name ≡ false → l.bucket.rows ≡ []) (λ l f out. absurd (true≢false (sym (front-test name l.name f) ∙ out))) (leaves_under name t) (fronts name t)

rows-bare : (a : Trie) → is_bare a ≡ true → (name below : List Bool) → AreBareBeside below (leaves_under name a)
rows-bare (tip b) e name below = (λ _. nil_from_length b.rows (eqb-true (length b.rows) 0 e), tt)
rows-bare (fork z o) e name below = absurd (true≢false (sym e))

half-bare : (name below : List Bool) (b : Bool) (a on : Trie) → is_bare a ≡ true → AreBareBeside below (leaves_under (name ++ b ∷ []) on) → AreBareBeside below (leaves_under name (halves b a on))
half-bare name below true a on e rest =
    all-both (λ (l : Leaf). starts_with beq l.name below ≡ false → l.bucket.rows ≡ []) (leaves_under (name ++ false ∷ []) a) (leaves_under (name ++ true ∷ []) on) (rows-bare a e (name ++ false ∷ []) below) rest
half-bare name below false a on e rest =
    all-both (λ (l : Leaf). starts_with beq l.name below ≡ false → l.bucket.rows ≡ []) (leaves_under (name ++ false ∷ []) on) (leaves_under (name ++ true ∷ []) a) rest (rows-bare a e (name ++ true ∷ []) below)

pub narrows-here : (name : List Bool) (t : Trie) → Narrows name name t t
narrows-here name t = record { path = []; named = sym (append-nil name); at = refl; bare = none-beside name t }

pub narrows-half : (name below : List Bool) (b : Bool) (a on t u : Trie) → t ≡ halves b a on → is_bare a ≡ true → Narrows (name ++ b ∷ []) below on u → Narrows name below t u
narrows-half name below b a on t u is e n = record {
  path = b ∷ n.path;
  named = n.named ∙ append_assoc name (b ∷ []) n.path;
  at = ap (reach (b ∷ n.path)) is ∙ reach-halves b n.path a on ∙ n.at;
  bare = subst (λ (v : Trie). AreBareBeside below (leaves_under name v)) (sym is) (half-bare name below b a on e n.bare);
}

pub heads : (a b : Bool) (xs ys : List Bool) → a ∷ xs ≡ b ∷ ys → (a ≡ b) × (xs ≡ ys)
heads a b xs ys e = (cc e, cc e)

-- leaves beside what a path leads to, by the name there
pub same_bit : (name a b : List Bool) (x y : Bool) → (name ++ x ∷ []) ++ a ≡ (name ++ y ∷ []) ++ b → x ≡ y
same_bit [] a b x y e = cc e
same_bit (n ∷ name) a b x y e = same_bit name a b x y ((heads n n ((name ++ x ∷ []) ++ a) ((name ++ y ∷ []) ++ b) e).1)

module _ (below : List Bool) where
  abbrev IsPassed : List Bool → Leaf → Type 0
  IsPassed name l = starts_with beq l.name name ≡ true → starts_with beq l.name below ≡ false → l.bucket.rows ≡ []

  apart : (pre path : List Bool) (x y : Bool) (l : Leaf) → (x ≡ y → ⊥) → IsFront (pre ++ x ∷ []) l.name → IsPassed (pre ++ y ∷ path) l
  apart pre path x y l differ f here out =
      let g = front-from_test (pre ++ y ∷ path) l.name here in
      absurd (differ (same_bit pre f.0 (path ++ g.0) x y (sym f.1 ∙ g.1 ∙ append_assoc pre (y ∷ path) g.0 ∙ sym (append_assoc pre (y ∷ []) (path ++ g.0)))))

  passed-on : (pre path : List Bool) (w t : Trie) → reach path w ≡ Some t → AreBareBeside below (leaves_under (pre ++ path) t) → AllByRecursion (IsPassed (pre ++ path)) (leaves_under pre w)
  passed-on pre [] w t e bare =
      all-from (λ (l : Leaf). starts_with beq l.name below ≡ false → l.bucket.rows ≡ []) (IsPassed (pre ++ [])) (λ l b here out. b out) (leaves_under pre w)
      (subst (λ (v : Trie). AreBareBeside below (leaves_under pre v)) (sym (same_Some w t e)) (subst (λ (m : List Bool). AreBareBeside below (leaves_under m t)) (append-nil pre) bare))
  passed-on pre (x ∷ path) (tip b) t e bare = absurd (cc e)
  passed-on pre (true ∷ path) (fork z o) t e bare =
      all-both (IsPassed (pre ++ true ∷ path)) (leaves_under (pre ++ false ∷ []) z) (leaves_under (pre ++ true ∷ []) o)
      (all-from (λ (l : Leaf). IsFront (pre ++ false ∷ []) l.name) (IsPassed (pre ++ true ∷ path)) (λ l f. apart pre path false true l (λ s. true≢false (sym s)) f) (leaves_under (pre ++ false ∷ []) z) (fronts (pre ++ false ∷ []) z))
      (subst (λ (m : List Bool). AllByRecursion (IsPassed m) (leaves_under (pre ++ true ∷ []) o)) (append_assoc pre (true ∷ []) path)
      (passed-on (pre ++ true ∷ []) path o t e (subst (λ (m : List Bool). AreBareBeside below (leaves_under m t)) (sym (append_assoc pre (true ∷ []) path)) bare)))
  passed-on pre (false ∷ path) (fork z o) t e bare =
      all-both (IsPassed (pre ++ false ∷ path)) (leaves_under (pre ++ false ∷ []) z) (leaves_under (pre ++ true ∷ []) o)
      (subst (λ (m : List Bool). AllByRecursion (IsPassed m) (leaves_under (pre ++ false ∷ []) z)) (append_assoc pre (false ∷ []) path)
      (passed-on (pre ++ false ∷ []) path z t e (subst (λ (m : List Bool). AreBareBeside below (leaves_under m t)) (sym (append_assoc pre (false ∷ []) path)) bare)))
      (all-from (λ (l : Leaf). IsFront (pre ++ true ∷ []) l.name) (IsPassed (pre ++ false ∷ path)) (λ l f. apart pre path true false l true≢false f) (leaves_under (pre ++ true ∷ []) o) (fronts (pre ++ true ∷ []) o))

-- a place that is narrowed
pub record Narrowed (name below : List Bool) (w u : Trie) : Type 0 where
  pub at : reach below w ≡ Some u
  pub passed : PassesBare name below (leaves_under [] w)

pub narrowed-place : (name below : List Bool) (w t u : Trie) → reach name w ≡ Some t → Narrows name below t u → Narrowed name below w u
narrowed-place name below w t u e n = record {
  at = ap (λ (m : List Bool). reach m w) n.named ∙ reach-on name n.path w t u e n.at;
  passed = record { on = front-test name below (n.path, n.named); bare = passed-on below [] name w t e n.bare };
}
