-- Places along a stem.
use Rattle.std.proofs.Common.{◌≡◌, ◌<◌, suc, Bool, true, false, not, List, [], ◌∷◌, ◌++◌, length, get_or, Some, refl, sym, ◌∙◌, ap, arith, subst, ◌⊎◌, inl, inr, length-append, append-nil}
use Rattle.std.specs.Cmp.{first_so, second_so}
use Rattle.std.specs.Cmp.Derive.{both_true}
use Rattle.std.specs.List.{starts_with}
use Rattle.std.proofs.lemmas.Bool.{false_from_ne_true}
use mathlib.Core.Bool.{beq, true≢false}
use Rattle.zorder.specs.SameName.{same_name, same_name-decides}
use Rattle.zorder.specs.Tile.{tiles_from}
use Rattle.index_layer.specs.Leaves.{names_of, has_name}
use Rattle.index_layer.specs.Part.{goes_on, is_inner}
use Rattle.index_layer.proofs.LeafNames.{front-test, front-from_test}
use Rattle.kd_trie.specs.declared.stem.Side.{Side}
use Rattle.bit_trie.specs.Tries.{Trie, halves, leaves_under, reach}
use Rattle.kd_trie.specs.Nodes.{seen}
use Rattle.kd_trie.specs.Stems.{way_of, stem_over, GoesPast, Passing}
use Rattle.bit_trie.proofs.Reaching.{reach-half, reach-halves, below-fork}

-- a name that another one goes on from is told by the test
pub on-test : (name stem : List Bool) → GoesPast name stem → goes_on name stem ≡ true
on-test name stem past =
    let longer : length stem ≡ length name → ⊥ = λ same. omega (arith, ap length past.2, length-append name (past.0 ∷ past.1), same) in
    both_true (front-test name stem (past.0 ∷ past.1, past.2)) (ap not (false_from_ne_true (same_name stem name) (λ same. longer (ap length ((same_name-decides stem name).0 same)))))

pub passing-at : (name rest : List Bool) (sides : List Side) (s : Side) → way_of sides ≡ name ++ rest → length name < length sides → s ≡ get_or sides (length name) s → Passing name sides s
passing-at name rest [] s e lt at = absurd (omega (arith, lt))
passing-at [] rest (r ∷ sides) s e lt at = record { front = []; back = sides; is = λ i. sym at i ∷ sides; named = refl }
passing-at (b ∷ name) rest (r ∷ sides) s e lt at =
    let p = passing-at name rest sides s (tail_same r.bit b (way_of sides) (name ++ rest) e) (omega (arith, lt)) at in
    record {
      front = r ∷ p.front;
      back = p.back;
      is = ap (λ (l : List Side). r ∷ l) p.is;
      named = λ i. sym (head_same r.bit b (way_of sides) (name ++ rest) e) i ∷ p.named i;
    }
  where
    head_same : (a b : Bool) (xs ys : List Bool) → a ∷ xs ≡ b ∷ ys → a ≡ b
    head_same a b xs ys e = cc e

    tail_same : (a b : Bool) (xs ys : List Bool) → a ∷ xs ≡ b ∷ ys → xs ≡ ys
    tail_same a b xs ys e = cc e

reach-front : (front back : List Side) (s : Side) (t : Trie) → reach (way_of front) (stem_over (front ++ s ∷ back) t) ≡ Some (halves s.bit (seen s.node) (stem_over back t))
reach-front [] back s t = refl
reach-front (f ∷ front) back s t = reach-halves f.bit (way_of front) (seen f.node) (stem_over (front ++ s ∷ back) t) ∙ reach-front front back s t

way-past : (front back : List Side) (s : Side) → way_of (front ++ s ∷ back) ≡ (way_of front ++ s.bit ∷ []) ++ way_of back
way-past [] back s = refl
way-past (f ∷ front) back s = ap (λ (w : List Bool). f.bit ∷ w) (way-past front back s)

-- the root is where the way ends, and stands in for the places before
on-past : (front back : List Side) (s : Side) (t : Trie) (stem : List Bool) → stem ≡ way_of (front ++ s ∷ back) → GoesPast (way_of front ++ s.bit ∷ []) stem ⊎ (stem_over back t ≡ t)
on-past front [] s t stem named = inr refl
on-past front (r ∷ back) s t stem named = inl (r.bit, way_of back, named ∙ way-past front (r ∷ back) s)

-- what is below a name that the stem goes on from
pub record Passed (name stem : List Bool) (w t a : Trie) (b : Bool) : Type 0 where
  pub inner : is_inner name (leaves_under [] w) ≡ true
  pub none : has_name name (leaves_under [] w) ≡ false
  pub on : GoesPast (name ++ b ∷ []) stem ⊎ (reach (name ++ b ∷ []) w ≡ Some t)
  pub beside : reach (name ++ not b ∷ []) w ≡ Some a

or-at : (path stem : List Bool) (w u t : Trie) → reach path w ≡ Some u → GoesPast path stem ⊎ (u ≡ t) → GoesPast path stem ⊎ (reach path w ≡ Some t)
or-at path stem w u t e (inl past) = inl past
or-at path stem w u t e (inr same) = inr (e ∙ ap (λ (v : Trie). Some v) same)

by_bit : (b : Bool) (name stem : List Bool) (w u t a : Trie) → tiles_from 0 (names_of (leaves_under [] w)) ≡ true → reach name w ≡ Some (halves b a u) → GoesPast (name ++ b ∷ []) stem ⊎ (u ≡ t) → Passed name stem w t a b
by_bit true name stem w u t a tile here on =
    let both = below-fork w tile name a u here in
    record { inner = both.0; none = both.1; on = or-at (name ++ true ∷ []) stem w u t (reach-half name true w a u here) on; beside = reach-half name false w a u here }
by_bit false name stem w u t a tile here on =
    let both = below-fork w tile name u a here in
    record { inner = both.0; none = both.1; on = or-at (name ++ false ∷ []) stem w u t (reach-half name false w u a here) on; beside = reach-half name true w u a here }

pub passed-at : (name stem : List Bool) (sides : List Side) (s : Side) (t : Trie) (b : Bool) → s.bit ≡ b → stem ≡ way_of sides → Passing name sides s
    → tiles_from 0 (names_of (leaves_under [] (stem_over sides t))) ≡ true → Passed name stem (stem_over sides t) t (seen s.node) b
passed-at name stem sides s t b is named p tile =
    let w : Trie = stem_over sides t in
    let u : Trie = stem_over p.back t in
    let here : reach name w ≡ Some (halves b (seen s.node) u) =
    (λ i. reach (p.named i) (stem_over (p.is i) t)) ∙ reach-front p.front p.back s t ∙ ap (λ (c : Bool). Some (halves c (seen s.node) u)) is in
    let on : GoesPast (name ++ b ∷ []) stem ⊎ (u ≡ t) =
    subst (λ (n : List Bool). GoesPast n stem ⊎ (u ≡ t)) (λ i. sym p.named i ++ is i ∷ []) (on-past p.front p.back s t stem (named ∙ ap way_of p.is)) in
    by_bit b name stem w u t (seen s.node) tile here on

-- the top is the root, or the stem goes on from it
pub top-at : (stem : List Bool) (sides : List Side) (t : Trie) → stem ≡ way_of sides → GoesPast [] stem ⊎ (reach [] (stem_over sides t) ≡ Some t)
top-at stem [] t named = inr refl
top-at stem (s ∷ sides) t named = inl (s.bit, way_of sides, named)

-- where the stem does not go on, a place is what its name leads to
pub not-past : (name stem : List Bool) (w t : Trie) → (GoesPast name stem → ⊥) → GoesPast name stem ⊎ (reach name w ≡ Some t) → reach name w ≡ Some t
not-past name stem w t never (inl past) = absurd (never past)
not-past name stem w t never (inr e) = e

-- a way has a bit for each side
pub way-length : (sides : List Side) → length (way_of sides) ≡ length sides
way-length [] = refl
way-length (s ∷ sides) = ap suc (way-length sides)

-- what the test says of two names
pub going : (name stem : List Bool) → goes_on name stem ≡ true → GoesPast name stem
going name stem e =
    let f = front-from_test name stem (first_so (starts_with beq stem name) (not (same_name stem name)) e) in
    by_rest f.0 f.1 (second_so (starts_with beq stem name) (not (same_name stem name)) e)
  where
    by_rest : (rest : List Bool) → stem ≡ name ++ rest → not (same_name stem name) ≡ true → GoesPast name stem
    by_rest [] is other = absurd (true≢false (sym other ∙ ap not ((same_name-decides stem name).1 (is ∙ append-nil name))))
    by_rest (b ∷ rest) is other = (b, rest, is)

pub longer-way : (name stem : List Bool) (sides : List Side) → stem ≡ way_of sides → GoesPast name stem → length name < length sides
longer-way name stem sides named past =
    omega (arith, ap length (sym named ∙ past.2), length-append name (past.0 ∷ past.1), way-length sides)

pub passing : (name stem : List Bool) (sides : List Side) (s : Side) → stem ≡ way_of sides → goes_on name stem ≡ true → s ≡ get_or sides (length name) s → Passing name sides s
passing name stem sides s named e at =
    let past = going name stem e in
    passing-at name (past.0 ∷ past.1) sides s (sym named ∙ past.2) (longer-way name stem sides named past) at
