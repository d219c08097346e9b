-- The objects that rows leave are a world.
use Rattle.std.proofs.Common.{◌≡◌, ℕ, ◌+◌, Bool, true, false, cond, ◌==◌, List, [], ◌∷◌, ◌++◌, refl, sym, subst, arith}
use Rattle.std.specs.Prelude.{⊤}
use Rattle.std.specs.List.{AllByRecursion}
use Rattle.std.proofs.lemmas.Bool.Decides.{nat_tests}
use Rattle.plain_list.specs.declared.ops.Op.{Op}
use Rattle.plain_list.specs.declared.entries.Entry.{Entry}
use Rattle.plain_list.specs.declared.entries.Entry.TheVariants.{Call, Begin, Install, Abandon, Fail}
use Rattle.plain_list.specs.Answer.{FitsOp, after_of}
use Rattle.plain_list.specs.World.{World, IsWorld}
use Rattle.plain_list.specs.History.{world_after}
use Rattle.plain_list.specs.Played.{calls_of, IsPlayed}
use Rattle.plain_list.proofs.Worlds.{IsWorld-after_of}
use Rattle.csv_rows.specs.declared.rows.InRow.{InRow}
use Rattle.csv_rows.specs.InRows.{IsInRow, AreInRows}
use Rattle.lane_history.specs.SessionRows.{session_rows, session_rows_from}

-- operations that fit
abbrev AllFit : List (ℕ × Op) → Type 0
AllFit [] = ⊤
AllFit (r ∷ rows) = FitsOp r.1 × AllFit rows

rows-fit : (n s : ℕ) (rows : List InRow) → AllByRecursion IsInRow rows → AllFit (session_rows_from n s rows)
rows-fit n s [] all = tt
rows-fit n s (r ∷ rows) (first, all) = by_test (r.session == s) (rows-fit (n + 1) s rows all)
  where
    by_test : (b : Bool) → AllFit (session_rows_from (n + 1) s rows) → AllFit (cond b ((n, r.op) ∷ session_rows_from (n + 1) s rows) (session_rows_from (n + 1) s rows))
    by_test true more = (first.fits, more)
    by_test false more = more

front-fits : (front rest : List (ℕ × Op)) → AllFit (front ++ rest) → AllFit front
front-fits [] rest all = tt
front-fits (r ∷ front) rest (first, all) = (first, front-fits front rest all)

calls-fit : (rows : List InRow) (h : List Entry) → AreInRows rows → IsPlayed (session_rows rows) h → (s : ℕ) → AllFit (calls_of s h)
calls-fit rows h are played s = let (rest, whole) = played s in front-fits (calls_of s h) rest (subst AllFit (sym whole) (rows-fit 1 s rows are.each))

same-session : (s : ℕ) → (s == s) ≡ false → ⊥
same-session s e = grind (arith, nat_tests)

fit-after : (world : World) (h : List Entry) → ((s : ℕ) → AllFit (calls_of s h)) → IsWorld world → IsWorld (world_after world h)
fit-after world [] fit is = is
fit-after world (Call session row op ∷ h) fit is = fit-after (after_of world op) h (λ s. rest s (session == s) (fit s)) (IsWorld-after_of world op (first (session == session) refl (fit session)) is)
  where
    first : (b : Bool) → (session == session) ≡ b → AllFit (cond b ((row, op) ∷ calls_of session h) (calls_of session h)) → FitsOp op
    first true e all = all.0
    first false e all = absurd (same-session session e)

    rest : (s : ℕ) (b : Bool) → AllFit (cond b ((row, op) ∷ calls_of s h) (calls_of s h)) → AllFit (calls_of s h)
    rest s true all = all.1
    rest s false all = all
fit-after world (Begin number name ∷ h) fit is = fit-after world h fit is
fit-after world (Install number ∷ h) fit is = fit-after world h fit is
fit-after world (Abandon number ∷ h) fit is = fit-after world h fit is
fit-after world (Fail cell lost ∷ h) fit is = fit-after world h fit is

-- after calls of rows
pub played-world : (rows : List InRow) (world : World) (h : List Entry) → AreInRows rows → IsPlayed (session_rows rows) h → IsWorld world → IsWorld (world_after world h)
played-world rows world h are played is = fit-after world h (calls-fit rows h are played) is
