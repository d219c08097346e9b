-- What was found in a log is a state that a book may begin at.
use Rattle.std.proofs.Common.{◌≡◌, ℕ, ◌+◌, ◌≤◌, true, List, [], ◌∷◌, length, map, refl, sym, subst, arith}
use Rattle.std.specs.Cmp.{first_so, second_so}
use Rattle.cell_format.specs.declared.cell.Cell.{Cell}
use Rattle.cell_format.specs.declared.cell.Cell.TheVariants.{Put, Move, Remove, Begin, Install, Abandon}
use Rattle.disk_trait.specs.Drive.{Drive}
use Rattle.plain_list.specs.State.{State, ComesBySplits, empty_state, step, is_possible}
use Rattle.plain_list.proofs.BySplits.{come-first, come-after}
use Rattle.recovery.specs.declared.seen.Seen.{Seen}
use Rattle.log_state.specs.Recovers.{entry_of, is_possible_cell, is_legal_cells, cells_after, state_of}
use Rattle.recovery.specs.Found.{IsFound}
use Rattle.index_build.specs.Grown.{IsGrown}
use Rattle.index_build.proofs.GrownStates.{IsGrownState, grown-empty, grown-step}

-- the entry of a possible cell is possible
entry-possible : (w : ℕ) (s : State) (c : Cell) → is_possible_cell w s c ≡ true → is_possible w s (entry_of c) ≡ true
entry-possible w s (Put id at moment) may = refl
entry-possible w s (Move id at moment) may = refl
entry-possible w s (Remove id) may = refl
entry-possible w s (Begin number name) may = may
entry-possible w s (Install number) may = may
entry-possible w s (Abandon number) may = may

grown-cells : (w : ℕ) (s : State) (cells : List Cell) → IsGrownState w s → is_legal_cells w s cells ≡ true → IsGrownState w (cells_after w s cells)
grown-cells w s [] g legal = g
grown-cells w s (c ∷ cells) g legal =
    let may : is_possible_cell w s c ≡ true = first_so (is_possible_cell w s c) (is_legal_cells w (step w s (entry_of c)) cells) legal in
    let later : is_legal_cells w (step w s (entry_of c)) cells ≡ true = second_so (is_possible_cell w s c) (is_legal_cells w (step w s (entry_of c)) cells) legal in
    grown-cells w (step w s (entry_of c)) cells (grown-step w s (entry_of c) g (entry-possible w s c may)) later

-- a cell begins one split at most
begun-step : (w : ℕ) (s : State) (c : Cell) → (step w s (entry_of c)).begun ≤ s.begun + 1
begun-step w s (Put id at moment) = omega arith
begun-step w s (Move id at moment) = omega arith
begun-step w s (Remove id) = omega arith
begun-step w s (Begin number name) = omega arith
begun-step w s (Install number) = omega arith
begun-step w s (Abandon number) = omega arith

begun-cells : (w : ℕ) (s : State) (cells : List Cell) → (cells_after w s cells).begun ≤ s.begun + length cells
begun-cells w s [] = omega arith
begun-cells w s (c ∷ cells) = omega (arith, begun-step w s c, begun-cells w (step w s (entry_of c)) cells)

pub found-grown : (oldest w most : ℕ) (drive : Drive) (seen : Seen) → IsFound oldest w most drive seen → IsGrown w seen.leaves
found-grown oldest w most drive seen found = subst (IsGrown w) (sym found.finds.leaves) (grown-cells w empty_state found.cells (grown-empty w) found.legal).leaves

pub found-begun : (oldest w most : ℕ) (drive : Drive) (seen : Seen) → IsFound oldest w most drive seen → seen.begun ≤ most
found-begun oldest w most drive seen found =
    let few : (state_of w found.cells).begun ≤ 0 + length found.cells = begun-cells w empty_state found.cells in
    omega (arith, few, found.few, found.finds.begun)

-- and its leaves come by splits
pub found-comes : (oldest w most : ℕ) (drive : Drive) (seen : Seen) → IsFound oldest w most drive seen → ComesBySplits w seen.leaves
found-comes oldest w most drive seen found = subst (ComesBySplits w) (sym found.finds.leaves) (come-after w empty_state (map entry_of found.cells) (come-first w))
