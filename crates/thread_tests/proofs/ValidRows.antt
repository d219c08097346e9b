-- Rows that are valid, one by one.
use Rattle.std.proofs.Common.{ℕ, zero, suc, ◌<◌, List, [], ◌∷◌, length, arith}
use Rattle.std.specs.Prelude.{slice_index_or}
use Rattle.plain_list.specs.declared.ops.Op.{Op}
use Rattle.plain_list.specs.Answer.{IsValid}
use Rattle.thread_tests.specs.Passes.{AreValid}

pub valid-at : (rows : List (ℕ × Op)) → AreValid rows → (i : ℕ) (d : ℕ × Op) → i < length rows → IsValid (slice_index_or rows i d).1
valid-at [] all i d within = absurd (omega (arith, within))
valid-at (r ∷ rows) (one, all) zero d within = one
valid-at (r ∷ rows) (one, all) (suc i) d within = valid-at rows all i d (omega (arith, within))
