-- Lines of reports, one after the other.
use Rattle.std.proofs.Common.{◌≡◌, ◌∙◌, ℕ, ◌+◌, ◌<◌, List, [], ◌∷◌, ◌++◌, length, take, drop, Option, refl, sym, ap, subst, arith, append_assoc, take-append-drop, get_or}
use Rattle.std.proofs.Math.Seq.{take-length}
use Rattle.std.proofs.lemmas.List.{append-nil, take_more, length-take-le}
use Rattle.csv_rows.specs.Pieces.{Moves}
use Rattle.csv_rows.proofs.PiecesFacts.{moves-none, moves-trans, moves-more, moves-is}
use Rattle.follower.specs.declared.turns.Report.{Report}
use Rattle.follow_run.specs.Lines.{report_title, report_line, lines_from, reports_text}

lines-append : (n : ℕ) (xs ys : List Report) → lines_from n (xs ++ ys) ≡ lines_from n xs ++ lines_from (n + length xs) ys
lines-append n [] ys = let e : n ≡ n + 0 = omega arith in ap (λ (k : ℕ). lines_from k ys) e
lines-append n (x ∷ xs) ys =
    let e : n + 1 + length xs ≡ n + length (x ∷ xs) = omega arith in
    ap (λ l. report_line n x ++ l) (lines-append (n + 1) xs ys ∙ ap (λ (k : ℕ). lines_from (n + 1) xs ++ lines_from k ys) e)
    ∙ sym (append_assoc (report_line n x) (lines_from (n + 1) xs) (lines_from (n + length (x ∷ xs)) ys))

-- The text of the first lines.
abbrev pub text_to : List Report → ℕ → List ℕ
text_to reports i = report_title ++ lines_from 1 (take i reports)

-- One more line.
text-more : (reports : List Report) (i : ℕ) (d : Report) → i < length reports → text_to reports i ++ report_line (i + 1) (get_or reports i d) ≡ text_to reports (i + 1)
text-more reports i d lt =
    let front : List Report = take i reports in
    let r : Report = get_or reports i d in
    let long : 1 + length front ≡ i + 1 = omega (arith, length-take-le i reports (omega arith)) in
    append_assoc report_title (lines_from 1 front) (report_line (i + 1) r)
    ∙ ap (λ l. report_title ++ l)
    (ap (λ l. lines_from 1 front ++ l) (sym (append-nil (report_line (i + 1) r)) ∙ ap (λ (k : ℕ). lines_from k (r ∷ [])) (sym long)) ∙ sym (lines-append 1 front (r ∷ [])) ∙ ap (λ (l : List Report). lines_from 1 l) (sym (take_more reports i d lt)))

-- All lines.
text-all : (reports : List Report) (i : ℕ) → i ≡ length reports → text_to reports i ≡ reports_text reports
unfolding reports_text
text-all reports i end = ap (λ (l : List Report). report_title ++ lines_from 1 l) (ap (λ n. take n reports) end ∙ take-length reports)

-- The lines that are left.
text-rest : (reports : List Report) (i : ℕ) → text_to reports i ++ lines_from (1 + length (take i reports)) (drop i reports) ≡ reports_text reports
unfolding reports_text
text-rest reports i =
    append_assoc report_title (lines_from 1 (take i reports)) (lines_from (1 + length (take i reports)) (drop i reports))
    ∙ ap (λ l. report_title ++ l) (sym (lines-append 1 (take i reports) (drop i reports)) ∙ ap (λ (l : List Report). lines_from 1 l) (take-append-drop i reports))

-- `index` lines were added.
pub record HasLines (old now : Option (List ℕ)) (faults later : ℕ) (reports : List Report) (index : ℕ) (held : List ℕ) : Type 0 where
  pub moved : Moves old now (text_to reports index) held
  pub same : later ≡ faults

module _ (old : Option (List ℕ)) (faults : ℕ) (reports : List Report) where
  pub lines-none : HasLines old old faults faults reports 0 report_title
  lines-none = record { moved = subst (λ (l : List ℕ). Moves old old l report_title) (sym (append-nil report_title)) (moves-none old report_title); same = refl }

  pub lines-more : (mid now : Option (List ℕ)) (later last index : ℕ) (held more : List ℕ) (d : Report) → HasLines old mid faults later reports index held
      → Moves mid now (held ++ report_line (index + 1) (get_or reports index d)) more → last ≡ later → index < length reports → HasLines old now faults last reports (index + 1) more
  lines-more mid now later last index held more d h step same lt =
      let line : List ℕ = report_line (index + 1) (get_or reports index d) in
      let begun = moves-more old mid (text_to reports index) held line h.moved in
      record {
        moved = moves-is old now (text_to reports index ++ line) (text_to reports (index + 1)) more (text-more reports index d lt) (moves-trans old mid now (text_to reports index ++ line) (held ++ line) more begun step);
        same = same ∙ h.same;
      }

  -- A fault in the middle of a line.
  pub lines-lost : (mid now : Option (List ℕ)) (later index : ℕ) (held lost : List ℕ) (d : Report) → HasLines old mid faults later reports index held
      → Moves mid now (held ++ report_line (index + 1) (get_or reports index d)) lost → index < length reports
      → Moves old now (reports_text reports) (lost ++ lines_from (1 + length (take (index + 1) reports)) (drop (index + 1) reports))
  lines-lost mid now later index held lost d h step lt =
      let next = lines-more mid now later later index held lost d h step refl lt in
      let rest : List ℕ = lines_from (1 + length (take (index + 1) reports)) (drop (index + 1) reports) in
      moves-is old now (text_to reports (index + 1) ++ rest) (reports_text reports) (lost ++ rest) (text-rest reports (index + 1)) (moves-more old now (text_to reports (index + 1)) lost rest next.moved)

  -- All lines were added.
  pub lines-all : (now : Option (List ℕ)) (later index : ℕ) (held : List ℕ) → HasLines old now faults later reports index held → index ≡ length reports → Moves old now (reports_text reports) held
  lines-all now later index held h end = moves-is old now (text_to reports index) (reports_text reports) held (text-all reports index end) h.moved
