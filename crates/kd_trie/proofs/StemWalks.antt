-- Walks that begin along a stem.
use Rattle.std.proofs.Common.{◌≡◌, ◌-◌, ℕ, Bool, true, List, [], ◌∷◌, ◌++◌, length, Some, refl, sym, ◌∙◌, ap, subst, append_assoc, append-nil}
use Rattle.std.specs.Cmp.{first_so, second_so}
use Rattle.zorder.specs.Bits.{low_bits}
use Rattle.zorder.specs.Key.{is_under}
use Rattle.kd_trie.specs.declared.stem.Side.{Side}
use Rattle.bit_trie.specs.Tries.{Trie, reach, is_bare}
use Rattle.kd_trie.specs.Nodes.{seen}
use Rattle.kd_trie.specs.Stems.{way_of, stem_over, all_bare, GoesPast}
use Rattle.bit_trie.specs.Walks.{Agrees, Narrows}
use Rattle.bit_trie.proofs.Reaching.{reach-halves}
use Rattle.bit_trie.proofs.Walking.{heads, narrows-half, Narrowed, narrowed-place}
use Rattle.kd_trie.proofs.StemLemmas.{under-stem}

-- below a stem
pub reach-stem : (sides : List Side) (path : List Bool) (t : Trie) → reach (way_of sides ++ path) (stem_over sides t) ≡ reach path t
reach-stem [] path t = refl
reach-stem (s ∷ sides) path t = reach-halves s.bit (way_of sides ++ path) (seen s.node) (stem_over sides t) ∙ reach-stem sides path t

pub agrees-stem : (name : List Bool) (sides : List Side) (from to left rest : ℕ) (t u : Trie) → name ≡ way_of sides → is_under name from ≡ true → is_under name to ≡ true → left ≡ 64 - length name
    → Agrees from to left rest t u → Agrees from to 64 rest (stem_over sides t) u
agrees-stem name sides from to left rest t u named over_from over_to fits a = record {
  path = way_of sides ++ a.path;
  from_is = whole from over_from a.from_is;
  to_is = whole to over_to a.to_is;
  at = reach-stem sides a.path t ∙ a.at;
}
  where
    whole : (key : ℕ) → is_under name key ≡ true → low_bits left key ≡ a.path ++ low_bits rest key → low_bits 64 key ≡ (way_of sides ++ a.path) ++ low_bits rest key
    whole key over e = under-stem name sides key left named over fits ∙ ap (λ (p : List Bool). way_of sides ++ p) e ∙ sym (append_assoc (way_of sides) a.path (low_bits rest key))

pub narrows-stem : (name below : List Bool) (sides : List Side) (t u : Trie) → all_bare sides ≡ true → Narrows (name ++ way_of sides) below t u → Narrows name below (stem_over sides t) u
narrows-stem name below [] t u e n = subst (λ (m : List Bool). Narrows m below t u) (append-nil name) n
narrows-stem name below (s ∷ sides) t u e n =
    narrows-half name below s.bit (seen s.node) (stem_over sides t) (stem_over (s ∷ sides) t) u refl (first_so (is_bare (seen s.node)) (all_bare sides) e)
    (narrows-stem (name ++ s.bit ∷ []) below sides t u (second_so (is_bare (seen s.node)) (all_bare sides) e)
    (subst (λ (m : List Bool). Narrows m below t u) (sym (append_assoc name (s.bit ∷ []) (way_of sides))) n))

-- a way in two parts
pub record Parts (name rest : List Bool) (sides : List Side) : Type 0 where
  pub front : List Side
  pub back : List Side
  pub is : sides ≡ front ++ back
  pub named : name ≡ way_of front
  pub rest_is : rest ≡ way_of back

pub parts_of : (name rest : List Bool) (sides : List Side) → way_of sides ≡ name ++ rest → Parts name rest sides
parts_of [] rest sides e = record { front = []; back = sides; is = refl; named = refl; rest_is = sym e }
parts_of (b ∷ name) rest [] e = absurd (cc e)
parts_of (b ∷ name) rest (s ∷ sides) e =
    let h = heads s.bit b (way_of sides) (name ++ rest) e in
    let p = parts_of name rest sides h.1 in
    record { front = s ∷ p.front; back = p.back; is = ap (λ (l : List Side). s ∷ l) p.is; named = λ i. sym h.0 i ∷ p.named i; rest_is = p.rest_is }

pub reach-way : (front back : List Side) (t : Trie) → reach (way_of front) (stem_over (front ++ back) t) ≡ Some (stem_over back t)
reach-way [] back t = refl
reach-way (s ∷ front) back t = reach-halves s.bit (way_of front) (seen s.node) (stem_over (front ++ back) t) ∙ reach-way front back t

pub bare-back : (front back : List Side) → all_bare (front ++ back) ≡ true → all_bare back ≡ true
bare-back [] back e = e
bare-back (s ∷ front) back e = bare-back front back (second_so (is_bare (seen s.node)) (all_bare (front ++ back)) e)

pub narrowed-stem : (name stem below : List Bool) (sides : List Side) (t u : Trie) → stem ≡ way_of sides → all_bare sides ≡ true → GoesPast name stem → Narrows stem below t u → Narrowed name below (stem_over sides t) u
narrowed-stem name stem below sides t u named e past n =
    let p = parts_of name (past.0 ∷ past.1) sides (sym named ∙ past.2) in
    let back : all_bare p.back ≡ true = bare-back p.front p.back (ap all_bare (sym p.is) ∙ e) in
    let here : stem ≡ name ++ way_of p.back = past.2 ∙ ap (λ (r : List Bool). name ++ r) p.rest_is in
    narrowed-place name below (stem_over sides t) (stem_over p.back t) u ((λ i. reach (p.named i) (stem_over (p.is i) t)) ∙ reach-way p.front p.back t)
    (narrows-stem name below p.back t u back (subst (λ (m : List Bool). Narrows m below t u) here n))
