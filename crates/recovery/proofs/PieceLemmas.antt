-- The cell at the front of a piece.
use Rattle.std.proofs.Common.{◌≡◌, ℕ, ◌≤◌, List, [], ◌∷◌, ◌++◌, length, take, refl, sym, subst}
use Rattle.std.specs.Prelude.{Result, Ok, Err, IfErr}
use Rattle.std.specs.Result.{IsErrAnd}
use Rattle.std.specs.List.{AllByRecursion}
use Rattle.cell_format.specs.declared.cell.CellFault.{CellFault}
use Rattle.cell_format.specs.declared.cell.CellFault.TheVariants as fault
use Rattle.cell_format.specs.Faults.{HasNoKind, HasReserved, HasBadName}
use Rattle.cell_format.specs.Decodes.{Decodes}
use Rattle.recovery.specs.Faults.{IsWrong}
use Rattle.plain_list.specs.State.{State}
use Rattle.recovery.specs.declared.seen.OpenFault.{OpenFault}
use Rattle.recovery.specs.Pieces.{cause_of}

pub all_append : {A : Type 0} (P : A → Type 0) (xs ys : List A) → AllByRecursion P xs → AllByRecursion P ys → AllByRecursion P (xs ++ ys)
all_append P [] ys all more = more
all_append P (x ∷ xs) ys all more = (all.0, all_append P xs ys all.1 more)

-- A claim about a fault holds of the fault that is passed on.
pub passed_on : {T : Type 0} (result : Result T OpenFault) (fault : OpenFault) (P : OpenFault → Type 0) → IsErrAnd result (λ e. e ≡ fault) → P fault → IfErr result P
passed_on (Ok x) fault P same holds = tt
passed_on (Err e) fault P same holds = subst P (sym same) holds

-- Why a cell without a spelling is damaged.
pub wrong_cell : (v w : ℕ) (s : State) (tail bytes : List ℕ) (why : CellFault) → bytes ≡ take 32 tail → 33 ≤ length tail → Decodes v bytes (Err why) → IsWrong v w s tail (cause_of why)
wrong_cell v w s tail bytes fault.Kind is long says = (long, subst HasNoKind is (says.kind.0 refl))
wrong_cell v w s tail bytes fault.Reserved is long says = (long, subst (HasReserved v) is (says.reserved.0 refl))
wrong_cell v w s tail bytes fault.BadName is long says = (long, subst (HasBadName v) is (says.bad_name.0 refl))
