-- Places in a trie whose pairs count their rows, and how many there are below a name.
use Rattle.std.proofs.Common.{◌≡◌, ◌-◌, ◌^◌, ◌⊎◌, inl, inr, ℕ, Bool, true, List, [], ◌∷◌, ◌++◌, length, min, Some, refl, sym, ◌∙◌, ap, arith}
use Rattle.std.specs.Cmp.{first_so, second_so}
use mathlib.Core.Bool.{true≢false}
use Rattle.index_layer.specs.Leaves.{all_rows}
use Rattle.index_layer.specs.Subtree.{subtree}
use Rattle.bit_trie.specs.Tries.{Trie, leaves_under, reach, rows_in, is_bare}
use Rattle.bit_trie.proofs.TrieCounts.{rows-reached, rows-bare, rows-halves}
use Rattle.kd_trie.specs.declared.node.Node.{Node, Leaf, Inner'}
use Rattle.kd_trie.specs.declared.stem.Side.{Side}
use Rattle.kd_trie.specs.Nodes.{seen, is_counted, StandsFor}
use Rattle.kd_trie.specs.Stems.{way_of, stem_over, GoesPast, Passing, all_bare}
use Rattle.kd_trie.proofs.StemWalks.{parts_of, reach-way, bare-back}

pub with-count : (hold : Bool) (name stem : List Bool) (w : Trie) (n : Node) → GoesPast name stem ⊎ (reach name w ≡ Some (seen n)) → (hold ≡ true → is_counted n ≡ true) → GoesPast name stem ⊎ StandsFor hold name w n
with-count hold name stem w n (inl past) c = inl past
with-count hold name stem w n (inr e) c = inr (record { at = e; counted = c })

pub stands-at : (hold : Bool) (name stem : List Bool) (w : Trie) (n : Node) → GoesPast name stem ⊎ StandsFor hold name w n → GoesPast name stem ⊎ (reach name w ≡ Some (seen n))
stands-at hold name stem w n (inl past) = inl past
stands-at hold name stem w n (inr s) = inr s.at

pub stands-for : (hold : Bool) (name stem : List Bool) (w : Trie) (n : Node) → (GoesPast name stem → ⊥) → GoesPast name stem ⊎ StandsFor hold name w n → StandsFor hold name w n
stands-for hold name stem w n never (inl past) = absurd (never past)
stands-for hold name stem w n never (inr s) = s

-- a leaf has no pair
bare-counted : (n : Node) → is_bare (seen n) ≡ true → is_counted n ≡ true
bare-counted (Leaf b) e = refl
bare-counted (Inner' p zero one count) e = absurd (true≢false (sym e))

bare-at : (front back : List Side) (s : Side) → all_bare (front ++ s ∷ back) ≡ true → is_bare (seen s.node) ≡ true
bare-at [] back s e = first_so (is_bare (seen s.node)) (all_bare back) e
bare-at (f ∷ front) back s e = bare-at front back s (second_so (is_bare (seen f.node)) (all_bare (front ++ s ∷ back)) e)

pub beside-counted : (name : List Bool) (sides : List Side) (s : Side) → Passing name sides s → all_bare sides ≡ true → is_counted s.node ≡ true
beside-counted name sides s p e = bare-counted s.node (bare-at p.front p.back s (ap all_bare (sym p.is) ∙ e))

-- beside a stem there are no rows
pub rows-stem : (sides : List Side) (t : Trie) → all_bare sides ≡ true → rows_in (stem_over sides t) ≡ rows_in t
rows-stem [] t e = refl
rows-stem (s ∷ sides) t e =
    let none : rows_in (seen s.node) ≡ 0 = rows-bare (seen s.node) (first_so (is_bare (seen s.node)) (all_bare sides) e) in
    omega (arith, rows-halves s.bit (seen s.node) (stem_over sides t), none, rows-stem sides t (second_so (is_bare (seen s.node)) (all_bare sides) e))

pub rows-past : (name stem : List Bool) (sides : List Side) (t : Trie) → stem ≡ way_of sides → all_bare sides ≡ true → GoesPast name stem → length (all_rows (subtree name (leaves_under [] (stem_over sides t)))) ≡ rows_in t
rows-past name stem sides t named e past =
    let p = parts_of name (past.0 ∷ past.1) sides (sym named ∙ past.2) in
    let at : reach name (stem_over sides t) ≡ Some (stem_over p.back t) = (λ i. reach (p.named i) (stem_over (p.is i) t)) ∙ reach-way p.front p.back t in
    rows-reached name (stem_over sides t) (stem_over p.back t) at ∙ rows-stem p.back t (bare-back p.front p.back (ap all_bare (sym p.is) ∙ e))

-- a count of as many rows, cut off where it doesn't fit
pub same-cut : (r n all : ℕ) → r ≡ min n (2 ^ 64 - 1) → all ≡ n → r ≡ min all (2 ^ 64 - 1)
same-cut r n all is same = is ∙ ap (λ (m : ℕ). min m (2 ^ 64 - 1)) (sym same)
