use Rattle.std.proofs.Common.{◌≡◌, ◌∙◌, ℕ, suc, ◌+◌, ◌-◌, ◌≤◌, false, not, cond, List, [], ◌∷◌, length, sym, ap, subst, arith, rules}
use Rattle.std.specs.List.{filter}
use Rattle.bucket_versions.specs.declared.row.Row.{Row}
use Rattle.bucket_versions.specs.Rows.{IsRows, has_row}
use Rattle.bucket_versions.specs.Delta.{difference, delta_len}
use Rattle.bucket_versions.proofs.RowSets.{IsRows-difference, length_split, delta_told}
use Rattle.bucket_versions.proofs.deltas.delta_of.Goals as goal

-- how many rows are not in a base
abbrev new_in : List Row → List Row → ℕ
new_in base rows = length (filter (λ r. not (has_row r base)) rows)

one_more : (base rows left rest : List Row) (r : Row) (came : ℕ) → came + new_in base left ≡ new_in base rows → left ≡ r ∷ rest → has_row r base ≡ false → came + 1 ≤ length rows
one_more base rows left rest r came so_far is out =
    let first : new_in base (r ∷ rest) ≡ suc (new_in base rest) = λ i. length (cond (not (out i)) (r ∷ filter (λ r. not (has_row r base)) rest) (filter (λ r. not (has_row r base)) rest)) in
    let all : new_in base left ≡ suc (new_in base rest) = ap (new_in base) is ∙ first in
    let most = length_split (λ r. not (has_row r base)) rows in
    omega (arith, so_far, all, most)

ended : (base rows left : List Row) (came : ℕ) → came + new_in base left ≡ new_in base rows → left ≡ [] → came ≡ new_in base rows
ended base rows left came so_far is =
    let none : new_in base left ≡ 0 = ap (new_in base) is in
    omega (arith, so_far, none)

pub overflow_add-came : goal.overflow_add-came
overflow_add-came c =
    let rows : List Row = difference c.args.under.now c.args.delta.now in
    let out : has_row c.in-Some.row.now c.args.base.now ≡ false = search rules in
    let more = one_more c.args.base.now rows c.loop-row.row-iterator c.next.new.self c.in-Some.row.now c.loop-row.came c.loop-row.invariant c.in-Some.ensures.steps out in
    omega (arith, more, c.requires.count, c.requires.fits)

told : (base rows left : List Row) (came count : ℕ) → IsRows base → IsRows rows → came + new_in base left ≡ new_in base rows → left ≡ [] → count ≡ length rows
    → (came ≤ count) × ((count - came ≤ length base + came) × (length base + came - (count - came) ≡ delta_len (record { base = base; rows = rows })))
told base rows left came count rising other so_far is all =
    let at = delta_told base rows came rising other (ended base rows left came so_far is) in
    let P : ℕ → Type 0 = λ n. (came ≤ n) × ((n - came ≤ length base + came) × (length base + came - (n - came) ≡ delta_len (record { base = base; rows = rows }))) in
    subst P (sym all) at

pub overflow_add-result : goal.overflow_add-result
overflow_add-result c =
    let at = told c.args.base.now (difference c.args.under.now c.args.delta.now) c.loop-row.row-iterator c.loop-row.came c.args.count c.requires.base (IsRows-difference c.args.under.now c.args.delta.now c.requires.parts.base c.requires.parts.delta) c.loop-row.invariant c.in-None.ensures.steps.0 c.requires.count in
    omega (arith, at.0, c.requires.fits)

pub overflow_sub-result : goal.overflow_sub-result
overflow_sub-result c = (told c.args.base.now (difference c.args.under.now c.args.delta.now) c.loop-row.row-iterator c.loop-row.came c.args.count c.requires.base (IsRows-difference c.args.under.now c.args.delta.now c.requires.parts.base c.requires.parts.delta) c.loop-row.invariant c.in-None.ensures.steps.0 c.requires.count).0

pub overflow_sub-result-2 : goal.overflow_sub-result-2
overflow_sub-result-2 c = (told c.args.base.now (difference c.args.under.now c.args.delta.now) c.loop-row.row-iterator c.loop-row.came c.args.count c.requires.base (IsRows-difference c.args.under.now c.args.delta.now c.requires.parts.base c.requires.parts.delta) c.loop-row.invariant c.in-None.ensures.steps.0 c.requires.count).1.0

pub returns : goal.returns
returns c = (told c.args.base.now (difference c.args.under.now c.args.delta.now) c.loop-row.row-iterator c.loop-row.came c.args.count c.requires.base (IsRows-difference c.args.under.now c.args.delta.now c.requires.parts.base c.requires.parts.delta) c.loop-row.invariant c.in-None.ensures.steps.0 c.requires.count).1.1
