-- A trie under a stem: what is done on a path that begins with the stem is done below it.
use Rattle.std.proofs.Common.{◌≡◌, ◌≤◌, ◌+◌, ◌-◌, ℕ, zero, suc, Bool, true, false, List, [], ◌∷◌, ◌++◌, length, take, drop, refl, sym, ◌∙◌, ap, arith, zero-add, Result, Ok, Err, IfOk, OnOk}
use Rattle.std.specs.Cmp.{booleans_Decides}
use Rattle.std.specs.Cmp.Lexicographic.{pointwise_decides}
use Rattle.std.proofs.lemmas.List.{take-append-drop}
use Rattle.zorder.specs.Bits.{low_bits}
use Rattle.zorder.specs.Key.{is_under, key_bits}
use Rattle.kd_trie.specs.declared.node.Node.{Node}
use Rattle.bucket_versions.specs.Rows.{Rows}
use Rattle.kd_trie.specs.declared.stem.Side.{Side}
use Rattle.bit_trie.specs.Tries.{Trie, halves, height, name_at, bucket_at, graft, changed_at, rows_at}
use Rattle.kd_trie.specs.Nodes.{seen}
use Rattle.bit_trie.specs.Ways.{Fits}
use Rattle.kd_trie.specs.Stems.{way_of, stem_over}

drop-low : (n w k : ℕ) → drop n (low_bits w k) ≡ low_bits (w - n) k
drop-low zero w k =
    let same : w ≡ w - zero = omega arith in
    ap (λ n. low_bits n k) same
drop-low (suc n) zero k =
    let same : zero ≡ zero - suc n = omega arith in
    ap (λ n. low_bits n k) same
drop-low (suc n) (suc w) k =
    let same : w - n ≡ suc w - suc n = omega arith in
    drop-low n w k ∙ ap (λ n. low_bits n k) same

-- the bits of a key under a name begin with the name
pub path-under : (name : List Bool) (key : ℕ) → is_under name key ≡ true → low_bits 64 key ≡ name ++ low_bits (64 - length name) key
unfolding key_bits
path-under name key u =
    let same : name ≡ take (length name) (low_bits 64 key) = (pointwise_decides booleans_Decides name (take (length name) (low_bits 64 key))).0 u in
    sym (take-append-drop (length name) (low_bits 64 key))
    ∙ (λ i. sym same i ++ drop-low (length name) 64 key i)

higher : (b : Bool) (a t : Trie) (n : ℕ) → height (halves b a t) ≤ n → suc (height t) ≤ n
higher true a t n h = omega (arith, h)
higher false a t n h = omega (arith, h)

-- what a stem leads to is lower by its length
pub height-stem : (sides : List Side) (t : Trie) (n : ℕ) → height (stem_over sides t) ≤ n → length (way_of sides) + height t ≤ n
height-stem [] t n h = omega (arith, h)
height-stem (s ∷ sides) t zero h = absurd (omega (arith, higher s.bit (seen s.node) (stem_over sides t) zero h))
height-stem (s ∷ sides) t (suc n) h =
    let lower : height (stem_over sides t) ≤ n = omega (arith, higher s.bit (seen s.node) (stem_over sides t) (suc n) h) in
    omega (arith, height-stem sides t n lower)

changed-halves : (b : Bool) (path : List Bool) (change : Rows → Rows) (a t : Trie) → changed_at (b ∷ path) change (halves b a t) ≡ halves b a (changed_at path change t)
changed-halves true path change a t = refl
changed-halves false path change a t = refl

pub changed-stem : (sides : List Side) (path : List Bool) (change : Rows → Rows) (t : Trie) → changed_at (way_of sides ++ path) change (stem_over sides t) ≡ stem_over sides (changed_at path change t)
changed-stem [] path change t = refl
changed-stem (s ∷ sides) path change t =
    changed-halves s.bit (way_of sides ++ path) change (seen s.node) (stem_over sides t) ∙ ap (halves s.bit (seen s.node)) (changed-stem sides path change t)

graft-halves : (b : Bool) (path : List Bool) (u a t : Trie) → graft (b ∷ path) u (halves b a t) ≡ halves b a (graft path u t)
graft-halves true path u a t = refl
graft-halves false path u a t = refl

pub graft-stem : (sides : List Side) (path : List Bool) (u t : Trie) → graft (way_of sides ++ path) u (stem_over sides t) ≡ stem_over sides (graft path u t)
graft-stem [] path u t = refl
graft-stem (s ∷ sides) path u t =
    graft-halves s.bit (way_of sides ++ path) u (seen s.node) (stem_over sides t) ∙ ap (halves s.bit (seen s.node)) (graft-stem sides path u t)

rows-halves : (b : Bool) (path : List Bool) (a t : Trie) → rows_at (b ∷ path) (halves b a t) ≡ rows_at path t
rows-halves true path a t = refl
rows-halves false path a t = refl

pub rows-stem : (sides : List Side) (path : List Bool) (t : Trie) → rows_at (way_of sides ++ path) (stem_over sides t) ≡ rows_at path t
rows-stem [] path t = refl
rows-stem (s ∷ sides) path t = rows-halves s.bit (way_of sides ++ path) (seen s.node) (stem_over sides t) ∙ rows-stem sides path t

bucket-halves : (b : Bool) (path : List Bool) (a t : Trie) → bucket_at (b ∷ path) (halves b a t) ≡ bucket_at path t
bucket-halves true path a t = refl
bucket-halves false path a t = refl

pub bucket-stem : (sides : List Side) (path : List Bool) (t : Trie) → bucket_at (way_of sides ++ path) (stem_over sides t) ≡ bucket_at path t
bucket-stem [] path t = refl
bucket-stem (s ∷ sides) path t = bucket-halves s.bit (way_of sides ++ path) (seen s.node) (stem_over sides t) ∙ bucket-stem sides path t

name-halves : (b : Bool) (path : List Bool) (a t : Trie) → length (name_at (b ∷ path) (halves b a t)) ≡ suc (length (name_at path t))
name-halves true path a t = refl
name-halves false path a t = refl

pub name-stem : (sides : List Side) (path : List Bool) (t : Trie) → length (name_at (way_of sides ++ path) (stem_over sides t)) ≡ length (way_of sides) + length (name_at path t)
name-stem [] path t = sym (zero-add (length (name_at path t)))
name-stem (s ∷ sides) path t =
    let here = name-halves s.bit (way_of sides ++ path) (seen s.node) (stem_over sides t) in
    omega (arith, here, name-stem sides path t)

-- one side more
pub stem-over-append : (sides : List Side) (s : Side) (t : Trie) → stem_over (sides ++ s ∷ []) t ≡ stem_over sides (halves s.bit (seen s.node) t)
stem-over-append [] s t = refl
stem-over-append (r ∷ sides) s t = ap (halves r.bit (seen r.node)) (stem-over-append sides s t)

pub way-append : (sides : List Side) (s : Side) → way_of (sides ++ s ∷ []) ≡ way_of sides ++ s.bit ∷ []
way-append [] s = refl
way-append (r ∷ sides) s = ap (λ (way : List Bool). r.bit ∷ way) (way-append sides s)

-- a stem that grows by one side and then further
pub stretched : {E : Type 0} (r : Result Node E) (old between new : List Side) (s : Side) (on t : Trie) → between ≡ old ++ s ∷ [] → t ≡ halves s.bit (seen s.node) on
    → IfOk r (λ n. stem_over new (seen n) ≡ stem_over between on) → IfOk r (λ n. stem_over new (seen n) ≡ stem_over old t)
stretched (Ok n) old between new s on t one is over = over ∙ ap (λ (sides : List Side). stem_over sides on) one ∙ stem-over-append old s on ∙ ap (stem_over old) (sym is)
stretched (Err e) old between new s on t one is over = tt

-- a key under a stem goes on below it
pub under-stem : (name : List Bool) (sides : List Side) (key left : ℕ) → name ≡ way_of sides → is_under name key ≡ true → left ≡ 64 - length name → low_bits 64 key ≡ way_of sides ++ low_bits left key
under-stem name sides key left named under rest =
    path-under name key under ∙ (λ i. named i ++ low_bits (sym rest i) key)

pub fits-under : (name : List Bool) (sides : List Side) (t : Trie) (left : ℕ) → name ≡ way_of sides → left ≡ 64 - length name → height (stem_over sides t) ≤ 64 → Fits left t
fits-under name sides t left named rest h = record { height = omega (arith, height-stem sides t 64 h, rest, ap length named); most = omega (arith, rest) }

module _ (sides : List Side) (key left : ℕ) (path : low_bits 64 key ≡ way_of sides ++ low_bits left key) where
  pub changed-under : (change : Rows → Rows) (t : Trie) → changed_at (low_bits 64 key) change (stem_over sides t) ≡ stem_over sides (changed_at (low_bits left key) change t)
  changed-under change t = ap (λ (p : List Bool). changed_at p change (stem_over sides t)) path ∙ changed-stem sides (low_bits left key) change t

  pub graft-under : (u t : Trie) → graft (low_bits 64 key) u (stem_over sides t) ≡ stem_over sides (graft (low_bits left key) u t)
  graft-under u t = ap (λ (p : List Bool). graft p u (stem_over sides t)) path ∙ graft-stem sides (low_bits left key) u t

  pub rows-under : (t : Trie) → rows_at (low_bits 64 key) (stem_over sides t) ≡ rows_at (low_bits left key) t
  rows-under t = ap (λ (p : List Bool). rows_at p (stem_over sides t)) path ∙ rows-stem sides (low_bits left key) t

  pub bucket-under : (t : Trie) → bucket_at (low_bits 64 key) (stem_over sides t) ≡ bucket_at (low_bits left key) t
  bucket-under t = ap (λ (p : List Bool). bucket_at p (stem_over sides t)) path ∙ bucket-stem sides (low_bits left key) t

  pub name-length-under : (t : Trie) → length (name_at (low_bits 64 key) (stem_over sides t)) ≡ length (way_of sides) + length (name_at (low_bits left key) t)
  name-length-under t = ap (λ (p : List Bool). length (name_at p (stem_over sides t))) path ∙ name-stem sides (low_bits left key) t

-- what holds of a trie whose part below the stem was changed or not
pub made-under : {A E : Type 0} (r : Result A E) (sides : List Side) (change under : Trie → Trie) (old new : Trie) (first last : Trie) → stem_over sides old ≡ first → last ≡ stem_over sides new
    → change (stem_over sides old) ≡ stem_over sides (under old) → OnOk r (new ≡ under old) → OnOk r (last ≡ change first)
made-under (Ok x) sides change under old new first last begun ended over made = ended ∙ ap (stem_over sides) made ∙ sym over ∙ ap change begun
made-under (Err e) sides change under old new first last begun ended over made = tt

-- how many rows a key leads to under the stem and over it
pub counted-under : {E : Type 0} (r : Result ℕ E) (sides : List Side) (key left : ℕ) (under last : Trie) → low_bits 64 key ≡ way_of sides ++ low_bits left key → last ≡ stem_over sides under
    → IfOk r (λ n. n ≡ length (rows_at (low_bits left key) under)) → IfOk r (λ n. n ≡ length (rows_at (low_bits 64 key) last))
counted-under (Ok n) sides key left under last path ended is = is ∙ ap length (sym (rows-under sides key left path under)) ∙ ap (λ (t : Trie). length (rows_at (low_bits 64 key) t)) (sym ended)
counted-under (Err e) sides key left under last path ended is = tt
