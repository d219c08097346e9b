-- Fresh cells are no more than the cells whose state they represent.
use Rattle.std.proofs.Common.{◌≡◌, inl, inr, ℕ, suc, ◌+◌, ◌*◌, ◌≤◌, Bool, true, false, not, ◌==◌, List, [], ◌∷◌, ◌++◌, length, map, cond, Option, Some, None, is_some, refl, sym, ◌∙◌, ap, subst, arith, length-append}
use Rattle.std.specs.List.{filter}
use Rattle.std.specs.Cmp.{first_so, second_so}
use mathlib.Core.Bool.{true≢false}
use Rattle.zorder.specs.SameName.{same_name}
use Rattle.zorder.specs.Tile.{children}
use Rattle.cell_format.specs.declared.cell.Cell.{Cell}
use Rattle.cell_format.specs.declared.cell.Cell.TheVariants.{Put, Move, Remove, Begin, Install, Abandon}
use Rattle.plain_list.specs.declared.world.Member.{Member}
use Rattle.plain_list.specs.declared.ops.Op.{Op}
use Rattle.plain_list.specs.declared.ops.Op.TheVariants as op
use Rattle.plain_list.specs.World.{World}
use Rattle.plain_list.specs.Answer.{changed, after_of, is_change, answer_of}
use Rattle.plain_list.specs.State.{State, OpenSplit, empty_state, step, split_leaf, split_name, installed, without_name, without_number, ComesBySplits}
use Rattle.plain_list.proofs.BySplits.{come-first, come-after}
use Rattle.plain_list.proofs.Worlds.{length-with_member, length-with_moved}
use Rattle.log_state.specs.Recovers.{entry_of, is_legal_cells, is_possible_cell, cells_after, state_of, IsLegalCells}
use Rattle.log_compact.specs.Fresh.{split_cells, put_cells, fresh_cells, inner_names}
use Rattle.zorder.specs.Width.{IsWidth}
use Rattle.log_compact.proofs.Forest.{forest_of, length-one, length-two}
use Rattle.log_compact.proofs.Inner.{inner_names-forest}

-- The leaves of any cells come by splits.
pub comes_by_splits : (w : ℕ) (cells : List Cell) → ComesBySplits w (state_of w cells).leaves
comes_by_splits w cells = come-after w empty_state (map entry_of cells) (come-first w)

-- An operation adds at most one object.
length-filter-le : {A : Type 0} (p : A → Bool) (xs : List A) → length (filter p xs) ≤ length xs
length-filter-le p [] = omega arith
length-filter-le p (x ∷ xs) = by_test (p x) (length-filter-le p xs)
  where
    by_test : (b : Bool) → length (filter p xs) ≤ length xs → length (cond b (x ∷ filter p xs) (filter p xs)) ≤ suc (length xs)
    by_test true le = omega (arith, le)
    by_test false le = omega (arith, le)

length-changed : (world : World) (o : Op) → length (changed world o) ≤ length world + 1
length-changed world (op.Put id at moment) = let m : Member = record { id = id; at = at; moment = moment } in omega (arith, length-with_member m world)
length-changed world (op.Move id at moment) = omega (arith, length-with_moved id (record { at = at; moment = moment }) world)
length-changed world (op.Remove id) = omega (arith, length-filter-le (λ (m : Member). not (m.id == id)) world)
length-changed world (op.Find id) = omega arith
length-changed world (op.Within region) = omega arith
length-changed world (op.Near at k) = omega arith

length-after_of : (world : World) (o : Op) → length (after_of world o) ≤ length world + 1
length-after_of world o = by_test (is_change (answer_of world o)) (length-changed world o)
  where
    by_test : (b : Bool) → length (changed world o) ≤ length world + 1 → length (cond b (changed world o) world) ≤ length world + 1
    by_test true le = le
    by_test false le = omega arith

-- When an open split ends, there is one fewer.
length-without_number : (number : ℕ) (splits : List OpenSplit) → is_some (split_name splits number) ≡ true → length (without_number number splits) + 1 ≤ length splits
length-without_number number [] found = absurd (true≢false (sym found))
length-without_number number (s ∷ splits) found =
    by_test (s.number == number) found (length-without_number number splits) (length-filter-le (λ (o : OpenSplit). not (o.number == number)) splits)
  where
    by_test : (b : Bool) → is_some (cond b (Some s.name) (split_name splits number)) ≡ true → (is_some (split_name splits number) ≡ true → length (without_number number splits) + 1 ≤ length splits)
        → length (without_number number splits) ≤ length splits → length (cond (not b) (s ∷ without_number number splits) (without_number number splits)) + 1 ≤ suc (length splits)
    by_test true found later le = omega (arith, le)
    by_test false found later le = omega (arith, later found)

-- A split adds at most as many leaves as it has children, less one.
length-split_one : (name : List Bool) (leaves : List (List Bool)) → length (split_leaf 1 name leaves) ≤ length leaves + 1
length-split_one name [] = omega arith
length-split_one name (leaf ∷ leaves) = by_test (same_name leaf name) (length-split_one name leaves)
  where
    by_test : (b : Bool) → length (split_leaf 1 name leaves) ≤ length leaves + 1 → length (cond b (children 1 name ++ leaves) (leaf ∷ split_leaf 1 name leaves)) ≤ suc (length leaves) + 1
    by_test true le = omega arith
    by_test false le = omega (arith, le)

length-split_two : (name : List Bool) (leaves : List (List Bool)) → length (split_leaf 2 name leaves) ≤ length leaves + 3
length-split_two name [] = omega arith
length-split_two name (leaf ∷ leaves) = by_test (same_name leaf name) (length-split_two name leaves)
  where
    by_test : (b : Bool) → length (split_leaf 2 name leaves) ≤ length leaves + 3 → length (cond b (children 2 name ++ leaves) (leaf ∷ split_leaf 2 name leaves)) ≤ suc (length leaves) + 3
    by_test true le = omega arith
    by_test false le = omega (arith, le)

installed-one : (name : Option (List Bool)) (leaves : List (List Bool)) → length (installed 1 name leaves) ≤ length leaves + 1
installed-one None leaves = omega arith
installed-one (Some name) leaves = length-split_one name leaves

installed-two : (name : Option (List Bool)) (leaves : List (List Bool)) → length (installed 2 name leaves) ≤ length leaves + 3
installed-two None leaves = omega arith
installed-two (Some name) leaves = length-split_two name leaves

begun-few : (s : State) (number : ℕ) (name : List Bool) → length (without_name name s.splits ++ record { number = number; name = name } ∷ []) ≤ length s.splits + 1
begun-few s number name =
    let new : List OpenSplit = record { number = number; name = name } ∷ [] in
    omega (arith, length-append (without_name name s.splits) new, length-filter-le (λ (o : OpenSplit). not (same_name o.name name)) s.splits)

-- The parts of a state, each with the least number of cells that it takes, if a split has two children.
abbrev weight_one : State → ℕ
weight_one s = length s.world + length s.splits + 2 * length s.leaves

step-one : (s : State) (c : Cell) → is_possible_cell 1 s c ≡ true → weight_one (step 1 s (entry_of c)) ≤ weight_one s + 1
step-one s (Put id at moment) may = omega (arith, length-after_of s.world (op.Put id at moment))
step-one s (Move id at moment) may = omega (arith, length-after_of s.world (op.Move id at moment))
step-one s (Remove id) may = omega (arith, length-after_of s.world (op.Remove id))
step-one s (Begin number name) may = omega (arith, begun-few s number name)
step-one s (Install number) may = omega (arith, length-without_number number s.splits may, installed-one (split_name s.splits number) s.leaves)
step-one s (Abandon number) may = omega (arith, length-without_number number s.splits may)

all-one : (s : State) (cells : List Cell) → is_legal_cells 1 s cells ≡ true → weight_one (cells_after 1 s cells) ≤ weight_one s + length cells
all-one s [] legal = omega arith
all-one s (c ∷ cells) legal =
    let one = step-one s c (first_so (is_possible_cell 1 s c) (is_legal_cells 1 (step 1 s (entry_of c)) cells) legal) in
    let rest = all-one (step 1 s (entry_of c)) cells (second_so (is_possible_cell 1 s c) (is_legal_cells 1 (step 1 s (entry_of c)) cells) legal) in
    omega (arith, one, rest)

-- Three times that number, if a split has four children.
abbrev weight_two : State → ℕ
weight_two s = 3 * length s.world + 3 * length s.splits + 2 * length s.leaves

step-two : (s : State) (c : Cell) → is_possible_cell 2 s c ≡ true → weight_two (step 2 s (entry_of c)) ≤ weight_two s + 3
step-two s (Put id at moment) may = omega (arith, length-after_of s.world (op.Put id at moment))
step-two s (Move id at moment) may = omega (arith, length-after_of s.world (op.Move id at moment))
step-two s (Remove id) may = omega (arith, length-after_of s.world (op.Remove id))
step-two s (Begin number name) may = omega (arith, begun-few s number name)
step-two s (Install number) may = omega (arith, length-without_number number s.splits may, installed-two (split_name s.splits number) s.leaves)
step-two s (Abandon number) may = omega (arith, length-without_number number s.splits may)

all-two : (s : State) (cells : List Cell) → is_legal_cells 2 s cells ≡ true → weight_two (cells_after 2 s cells) ≤ weight_two s + 3 * length cells
all-two s [] legal = omega arith
all-two s (c ∷ cells) legal =
    let one = step-two s c (first_so (is_possible_cell 2 s c) (is_legal_cells 2 (step 2 s (entry_of c)) cells) legal) in
    let rest = all-two (step 2 s (entry_of c)) cells (second_so (is_possible_cell 2 s c) (is_legal_cells 2 (step 2 s (entry_of c)) cells) legal) in
    omega (arith, one, rest)

length-split_cells : (n : ℕ) (names : List (List Bool)) → length (split_cells n names) ≡ 2 * length names
length-split_cells n [] = refl
length-split_cells n (name ∷ names) = omega (arith, length-split_cells (n + 1) names)

length-put_cells : (world : World) → length (put_cells world) ≡ length world
length-put_cells [] = refl
length-put_cells (m ∷ world) = ap suc (length-put_cells world)

pub length-fresh_cells : (w : ℕ) (world : World) (leaves : List (List Bool)) → length (fresh_cells w world leaves) ≡ 2 * length (inner_names w leaves) + length world
length-fresh_cells w world leaves =
    length-append (split_cells 1 (inner_names w leaves)) (put_cells world) ∙ (λ i. length-split_cells 1 (inner_names w leaves) i + length-put_cells world i)

-- The fresh cells of a state are no more than legal cells that lead to it.
pub fresh_few : (w : ℕ) → IsWidth w → (cells : List Cell) → IsLegalCells w cells → length (fresh_cells w (state_of w cells).world (state_of w cells).leaves) ≤ length cells
fresh_few w (inl one) cells legal =
    subst (λ v. IsLegalCells v cells → length (fresh_cells v (state_of v cells).world (state_of v cells).leaves) ≤ length cells) (sym one)
    (λ legal. let s : State = state_of 1 cells in
    let (inner, f) = forest_of 1 s.leaves (comes_by_splits 1 cells) in
    omega (arith, length-fresh_cells 1 s.world s.leaves, ap length (inner_names-forest 1 (inl refl) s.leaves inner f), length-one ([] ∷ []) s.leaves inner f, all-one empty_state cells legal)) legal
fresh_few w (inr both) cells legal =
    subst (λ v. IsLegalCells v cells → length (fresh_cells v (state_of v cells).world (state_of v cells).leaves) ≤ length cells) (sym both)
    (λ legal. let s : State = state_of 2 cells in
    let (inner, f) = forest_of 2 s.leaves (comes_by_splits 2 cells) in
    omega (arith, length-fresh_cells 2 s.world s.leaves, ap length (inner_names-forest 2 (inr refl) s.leaves inner f), length-two ([] ∷ []) s.leaves inner f, all-two empty_state cells legal)) legal
