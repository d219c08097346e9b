-- The cells of a legal history are legal after the first cells, whatever splits these left open.
use Rattle.std.proofs.Common.{◌≡◌, ℕ, ◌+◌, ◌<◌, ◌≤◌, Bool, true, false, not, ◌&&◌, ◌⊎◌, inl, inr, ◌==◌, List, [], ◌∷◌, ◌++◌, length, Option, Some, None, is_some, refl, sym, ◌∙◌, ap, subst, arith, cond}
use mathlib.Core.Bool.{true≢false}
use Rattle.std.specs.Prelude.{nat_lt, nat_le}
use Rattle.std.specs.List.{filter}
use Rattle.std.specs.Cmp.{first_so, second_so}
use Rattle.std.specs.Cmp.Derive.{both_true}
use Rattle.std.proofs.lemmas.Bool.{cases_Bool, eqb-true, lt-ltb, ltb-true}
use Rattle.std.proofs.lemmas.Option.{none-some, same_Some}
use Rattle.std.proofs.lemmas.List.Elements.{filter-append}
use Rattle.zorder.specs.SameName.{same_name}
use Rattle.cell_format.specs.declared.cell.Cell.{Cell}
use Rattle.cell_format.specs.declared.cell.Cell.TheVariants as cell
use Rattle.plain_list.specs.declared.ops.Op.{Op}
use Rattle.plain_list.specs.declared.ops.Op.TheVariants as op
use Rattle.plain_list.specs.declared.entries.Entry.{Entry}
use Rattle.plain_list.specs.declared.entries.Entry.TheVariants as entry
use Rattle.plain_list.specs.World.{World}
use Rattle.plain_list.specs.Answer.{answer_of, after_of, is_change, changed}
use Rattle.plain_list.specs.State.{State, OpenSplit, step, state_after, is_possible, is_free, is_legal_history, split_name, without_name, without_number, may_split, installed, is_leaf}
use Rattle.plain_list.proofs.Histories.{legal-rest}
use Rattle.log_state.specs.Recovers.{entry_of, is_possible_cell, cells_after, is_legal_cells}
use Rattle.log_state.specs.Changes.{cells_of, change_cells}

-- Whether a split has a number above `b`.
abbrev pub is_later : ℕ → OpenSplit → Bool
is_later b s = nat_lt b s.number

-- The states of a history and of the cells are equal, except that the cells' state may have more open splits. Those
-- were begun before.
pub record Follows (b : ℕ) (h c : State) : Type 0 where
  pub world : h.world ≡ c.world
  pub leaves : h.leaves ≡ c.leaves
  pub begun : h.begun ≡ c.begun
  pub splits : h.splits ≡ filter (is_later b) c.splits
  pub before : b ≤ c.begun

swapped : {A : Type 0} (p q : A → Bool) (x : A) (ps qs : List A) → filter p qs ≡ filter q ps → (a b : Bool) → p x ≡ a → q x ≡ b
    → filter p (cond b (x ∷ qs) qs) ≡ filter q (cond a (x ∷ ps) ps)
swapped p q x ps qs same true true ea eb = ap (λ t. cond t (x ∷ filter p qs) (filter p qs)) ea ∙ ap (λ l. x ∷ l) same ∙ sym (ap (λ t. cond t (x ∷ filter q ps) (filter q ps)) eb)
swapped p q x ps qs same false true ea eb = ap (λ t. cond t (x ∷ filter p qs) (filter p qs)) ea ∙ same
swapped p q x ps qs same true false ea eb = same ∙ sym (ap (λ t. cond t (x ∷ filter q ps) (filter q ps)) eb)
swapped p q x ps qs same false false ea eb = same

pub filter-and : {A : Type 0} (p q : A → Bool) (xs : List A) → filter p (filter q xs) ≡ filter q (filter p xs)
filter-and p q [] = refl
filter-and p q (x ∷ xs) = swapped p q x (filter p xs) (filter q xs) (filter-and p q xs) (p x) (q x) refl refl

chosen : {A : Type 0} (b : Bool) (x y z : A) → cond b x y ≡ z → ((b ≡ true) × (x ≡ z)) ⊎ ((b ≡ false) × (y ≡ z))
chosen true x y z e = inl (refl, e)
chosen false x y z e = inr (refl, e)

kept_or : (t : Bool) (s : OpenSplit) (rest : List OpenSplit) (n : ℕ) (name : List Bool) → split_name (cond t (s ∷ rest) rest) n ≡ Some name
    → ((t ≡ true) × ((s.number == n) ≡ true) × (s.name ≡ name)) ⊎ (split_name rest n ≡ Some name)
kept_or false s rest n name e = inr e
kept_or true s rest n name e = elim (chosen (s.number == n) (Some s.name) (split_name rest n) (Some name) e) [
  | inl this ↦ inl (refl, this.0, same_Some s.name name this.1)
  | inr other ↦ inr other.1
]

-- A split that was begun later has a later number.
later_number : (b n : ℕ) (splits : List OpenSplit) (name : List Bool) → split_name (filter (is_later b) splits) n ≡ Some name → b < n
later_number b n [] name e = absurd (none-some name e)
later_number b n (s ∷ splits) name e = elim (kept_or (is_later b s) s (filter (is_later b) splits) n name e) [
  | inl this ↦ omega (arith, ltb-true b s.number this.0, eqb-true s.number n this.1)
  | inr other ↦ later_number b n splits name other
]

-- A split that is open in the history is open in the cells, with the same name.
later_name : (b n : ℕ) (splits : List OpenSplit) (name : List Bool) → split_name (filter (is_later b) splits) n ≡ Some name → split_name splits n ≡ Some name
later_name b n [] name e = e
later_name b n (s ∷ splits) name e = elim (kept_or (is_later b s) s (filter (is_later b) splits) n name e) [
  | inl this ↦ ap (λ t. cond t (Some s.name) (split_name splits n)) this.1 ∙ ap Some this.2
  | inr other ↦ elim (cases_Bool (s.number == n)) [
    | inl same ↦
        let lt : b < s.number = omega (arith, later_number b n splits name other, eqb-true s.number n same) in
        let kept : is_later b s ≡ true = lt-ltb b s.number lt in
        let first : split_name (s ∷ filter (is_later b) splits) n ≡ Some name = sym (ap (λ t. split_name (cond t (s ∷ filter (is_later b) splits) (filter (is_later b) splits)) n) kept) ∙ e in
        let named : Some s.name ≡ Some name = sym (ap (λ t. cond t (Some s.name) (split_name (filter (is_later b) splits) n)) same) ∙ first in
        ap (λ t. cond t (Some s.name) (split_name splits n)) same ∙ named
    | inr differs ↦ ap (λ t. cond t (Some s.name) (split_name splits n)) differs ∙ later_name b n splits name other
  ]
]

-- A begin with the next number.
begins : (b n : ℕ) (name : List Bool) (splits : List OpenSplit) → b < n
    → filter (is_later b) (without_name name splits ++ record { number = n; name = name } ∷ []) ≡ without_name name (filter (is_later b) splits) ++ record { number = n; name = name } ∷ []
begins b n name splits lt =
    filter-append (is_later b) (without_name name splits) (record { number = n; name = name } ∷ [])
    ∙ (λ i. filter-and (is_later b) (λ s. not (same_name s.name name)) splits i ++ cond (lt-ltb b n lt i) (record { number = n; name = name } ∷ []) [])

-- An install or an abandonment.
ends : (b n : ℕ) (splits : List OpenSplit) → filter (is_later b) (without_number n splits) ≡ without_number n (filter (is_later b) splits)
ends b n splits = filter-and (is_later b) (λ s. not (s.number == n)) splits

same_either : {A : Type 0} (b : Bool) (x : A) → cond b x x ≡ x
same_either true x = refl
same_either false x = refl

-- The claim about a list of cells.
abbrev Goes : ℕ → ℕ → State → State → List Cell → Type 0
Goes w b last c cells = (is_legal_cells w c cells ≡ true) × Follows b last (cells_after w c cells)

-- A call that changes nothing.
keeps : (b : ℕ) (s c : State) (world : World) → world ≡ s.world → Follows b s c → Follows b (record s { world = world }) c
keeps b s c world same f = record { world = same ∙ f.world; leaves = f.leaves; begun = f.begun; splits = f.splits; before = f.before }

-- A call that changes the world.
changes : (w b : ℕ) (s c : State) (op : Op) → Follows b s c → Follows b (step w s (entry.Call 0 0 op)) (step w c (entry.Call 0 0 op))
changes w b s c op f = record { world = ap (λ l. after_of l op) f.world; leaves = f.leaves; begun = f.begun; splits = f.splits; before = f.before }

-- A put, a move or a removal. It has a cell if it is a change.
module _ (w b : ℕ) (s c last : State) (op : Op) (one : Cell) (rest : List Cell) (is_it : entry_of one ≡ entry.Call 0 0 op)
    (possible : is_possible_cell w c one ≡ is_change (answer_of c.world op)) (f : Follows b s c)
    (on : (d : State) → Follows b (step w s (entry.Call 0 0 op)) d → Goes w b last d rest) where
  changing : (t : Bool) → is_change (answer_of s.world op) ≡ t → Goes w b last c (cond t (one ∷ []) [] ++ rest)
  changing true e =
      let same : is_change (answer_of c.world op) ≡ true = sym (ap (λ l. is_change (answer_of l op)) f.world) ∙ e in
      let next = on (step w c (entry.Call 0 0 op)) (changes w b s c op f) in
      let taken : step w c (entry_of one) ≡ step w c (entry.Call 0 0 op) = ap (step w c) is_it in
      (both_true (possible ∙ same) (ap (λ d. is_legal_cells w d rest) taken ∙ next.0), subst (λ d. Follows b last (cells_after w d rest)) (sym taken) next.1)
  changing false e = on c (keeps b s c (after_of s.world op) (ap (λ t. cond t (changed s.world op) s.world) e) f)

-- A question.
asking : (w b : ℕ) (s c last : State) (op : Op) (rest : List Cell) → changed s.world op ≡ s.world → Follows b s c
    → ((d : State) → Follows b (step w s (entry.Call 0 0 op)) d → Goes w b last d rest) → (t : Bool) → Goes w b last c (cond t [] [] ++ rest)
asking w b s c last op rest same f on true = on c (keeps b s c (after_of s.world op) (ap (λ l. cond (is_change (answer_of s.world op)) l s.world) same ∙ same_either _ _) f)
asking w b s c last op rest same f on false = on c (keeps b s c (after_of s.world op) (ap (λ l. cond (is_change (answer_of s.world op)) l s.world) same ∙ same_either _ _) f)

called : (w b : ℕ) (s c last : State) (op : Op) (rest : List Cell) → Follows b s c → ((d : State) → Follows b (step w s (entry.Call 0 0 op)) d → Goes w b last d rest)
    → Goes w b last c (cond (is_change (answer_of s.world op)) (change_cells op) [] ++ rest)
called w b s c last (op.Put id at moment) rest f on = changing w b s c last (op.Put id at moment) (cell.Put id at moment) rest refl refl f on (is_change (answer_of s.world (op.Put id at moment))) refl
called w b s c last (op.Move id at moment) rest f on = changing w b s c last (op.Move id at moment) (cell.Move id at moment) rest refl refl f on (is_change (answer_of s.world (op.Move id at moment))) refl
called w b s c last (op.Remove id) rest f on = changing w b s c last (op.Remove id) (cell.Remove id) rest refl refl f on (is_change (answer_of s.world (op.Remove id))) refl
called w b s c last (op.Find id) rest f on = asking w b s c last (op.Find id) rest refl f on (is_change (answer_of s.world (op.Find id)))
called w b s c last (op.Within region) rest f on = asking w b s c last (op.Within region) rest refl f on (is_change (answer_of s.world (op.Within region)))
called w b s c last (op.Near at k) rest f on = asking w b s c last (op.Near at k) rest refl f on (is_change (answer_of s.world (op.Near at k)))

some_of : {A : Type 0} (o : Option A) → is_some o ≡ true → (x : A) × (o ≡ Some x)
some_of None e = absurd (true≢false (sym e))
some_of (Some x) e = (x, refl)

-- A begin.
begun : (w b : ℕ) (s c : State) (number : ℕ) (name : List Bool) → Follows b s c → is_possible w s (entry.Begin number name) ≡ true
    → (is_possible w c (entry.Begin number name) ≡ true) × Follows b (step w s (entry.Begin number name)) (step w c (entry.Begin number name))
begun w b s c number name f may =
    let may_c : is_possible w c (entry.Begin number name) ≡ true =
    sym (λ i. (number == f.begun i + 1) && (is_leaf (f.leaves i) name && nat_le (length name + w) 64)) ∙ may in
    let next : number ≡ s.begun + 1 = eqb-true number (s.begun + 1) (first_so (number == s.begun + 1) (may_split w s name) may) in
    let lt : b < number = omega (arith, next, f.begun, f.before) in (
      may_c,
      record {
        world = f.world;
        leaves = f.leaves;
        begun = ap (λ n. n + 1) f.begun;
        splits = ap (λ l. without_name name l ++ record { number = number; name = name } ∷ []) f.splits ∙ sym (begins b number name c.splits lt);
        before = omega (arith, f.before);
      },
    )

-- The end of an open split.
ended : (w b : ℕ) (s c : State) (number : ℕ) → Follows b s c → is_some (split_name s.splits number) ≡ true
    → (is_some (split_name c.splits number) ≡ true) × Follows b (step w s (entry.Install number)) (step w c (entry.Install number)) × Follows b (step w s (entry.Abandon number)) (step w c (entry.Abandon number))
ended w b s c number f may =
    let (name, named) = some_of (split_name s.splits number) may in
    let named_c : split_name c.splits number ≡ Some name = later_name b number c.splits name (sym (ap (λ l. split_name l number) f.splits) ∙ named) in
    let left : without_number number s.splits ≡ filter (is_later b) (without_number number c.splits) = ap (without_number number) f.splits ∙ sym (ends b number c.splits) in (
      ap is_some named_c,
      record { world = f.world; leaves = (λ i. installed w ((named ∙ sym named_c) i) (f.leaves i)); begun = f.begun; splits = left; before = f.before },
      record { world = f.world; leaves = f.leaves; begun = f.begun; splits = left; before = f.before },
    )

pub goes_on : (w b : ℕ) (s c : State) (h : List Entry) → Follows b s c → is_legal_history w s h ≡ true → Goes w b (state_after w s h) c (cells_of s.world h)
goes_on w b s c [] f legal = (refl, f)
goes_on w b s c (entry.Call session row op ∷ h) f legal =
    called w b s c (state_after w (step w s (entry.Call session row op)) h) op (cells_of (after_of s.world op) h) f
    (λ d g. goes_on w b (step w s (entry.Call session row op)) d h g (second_so (is_possible w s (entry.Call session row op) && is_free s (entry.Call session row op)) (is_legal_history w (step w s (entry.Call session row op)) h) legal))
goes_on w b s c (entry.Begin number name ∷ h) f legal =
    let may = first_so (is_possible w s (entry.Begin number name)) (is_free s (entry.Begin number name)) (first_so (is_possible w s (entry.Begin number name) && is_free s (entry.Begin number name)) (is_legal_history w (step w s (entry.Begin number name)) h) legal) in
    let now = begun w b s c number name f may in
    let later = goes_on w b (step w s (entry.Begin number name)) (step w c (entry.Begin number name)) h now.1 (second_so (is_possible w s (entry.Begin number name) && is_free s (entry.Begin number name)) (is_legal_history w (step w s (entry.Begin number name)) h) legal) in
    (both_true now.0 later.0, later.1)
goes_on w b s c (entry.Install number ∷ h) f legal =
    let may = first_so (is_possible w s (entry.Install number)) true (first_so (is_possible w s (entry.Install number) && is_free s (entry.Install number)) (is_legal_history w (step w s (entry.Install number)) h) legal) in
    let now = ended w b s c number f may in
    let later = goes_on w b (step w s (entry.Install number)) (step w c (entry.Install number)) h now.1 (second_so (is_possible w s (entry.Install number) && is_free s (entry.Install number)) (is_legal_history w (step w s (entry.Install number)) h) legal) in
    (both_true now.0 later.0, later.1)
goes_on w b s c (entry.Abandon number ∷ h) f legal =
    let may = first_so (is_possible w s (entry.Abandon number)) true (first_so (is_possible w s (entry.Abandon number) && is_free s (entry.Abandon number)) (is_legal_history w (step w s (entry.Abandon number)) h) legal) in
    let now = ended w b s c number f may in
    let later = goes_on w b (step w s (entry.Abandon number)) (step w c (entry.Abandon number)) h now.2 (second_so (is_possible w s (entry.Abandon number) && is_free s (entry.Abandon number)) (is_legal_history w (step w s (entry.Abandon number)) h) legal) in
    (both_true now.0 later.0, later.1)
goes_on w b s c (entry.Fail number lost ∷ h) f legal = goes_on w b s c h f (legal-rest w s (entry.Fail number lost) h legal)
