-- The rows of each session, parted one after the other.
use Rattle.std.proofs.Common.{◌≡◌, ◌≢◌, ℕ, zero, suc, ◌+◌, ◌-◌, ◌<◌, ◌≤◌, List, [], ◌∷◌, ◌++◌, length, take, get_or, set, map, replicate, Bool, true, false, cond, ◌==◌, refl, sym, ap, ◌∙◌, arith}
use Rattle.std.proofs.lemmas.Bool.{eqb-true, eqb-false}
use Rattle.std.proofs.lemmas.List.{append-nil, take_more, length-set, length-map, length-replicate, get_or-map, get_or-replicate, get_or-set_other}
use Rattle.std.proofs.Math.Seq.{take-length}
use Rattle.std.proofs.lemmas.Grind.{get_or-set_at}
use Rattle.plain_list.specs.declared.ops.Op.{Op}
use Rattle.csv_rows.specs.declared.rows.InRow.{InRow}
use Rattle.lane_history.specs.SessionRows.{session_rows, session_rows_from}
use Rattle.play_run.specs.inside.Dealt.{AreParted, AreLeft}

-- a row behind others
rows-last : (n t : ℕ) (xs : List InRow) (r : InRow) → session_rows_from n t (xs ++ r ∷ []) ≡ session_rows_from n t xs ++ cond (r.session == t) ((n + length xs, r.op) ∷ []) []
rows-last n t [] r = ap (λ (k : ℕ). cond (r.session == t) ((k, r.op) ∷ []) []) here
  where
    here : n ≡ n + 0
    here = omega arith
rows-last n t (x ∷ xs) r = by_test (rows-last (n + 1) t xs r) (x.session == t)
  where
    next : n + 1 + length xs ≡ n + suc (length xs)
    next = omega arith

    last : ℕ → List (ℕ × Op)
    last k = cond (r.session == t) ((k, r.op) ∷ []) []

    by_test : session_rows_from (n + 1) t (xs ++ r ∷ []) ≡ session_rows_from (n + 1) t xs ++ last (n + 1 + length xs) → (b : Bool)
        → cond b ((n, x.op) ∷ session_rows_from (n + 1) t (xs ++ r ∷ [])) (session_rows_from (n + 1) t (xs ++ r ∷ []))
        ≡ cond b ((n, x.op) ∷ session_rows_from (n + 1) t xs) (session_rows_from (n + 1) t xs) ++ last (n + suc (length xs))
    by_test more true = ap (λ (l : List (ℕ × Op)). (n, x.op) ∷ l) (more ∙ ap (λ (k : ℕ). session_rows_from (n + 1) t xs ++ last k) next)
    by_test more false = more ∙ ap (λ (k : ℕ). session_rows_from (n + 1) t xs ++ last k) next

taken-length : (i : ℕ) (rows : List InRow) → i ≤ length rows → length (take i rows) ≡ i
taken-length zero rows le = refl
taken-length (suc i) [] le = absurd (omega (arith, le))
taken-length (suc i) (x ∷ rows) le = ap suc (taken-length i rows (omega (arith, le)))

-- a session's rows among one more
rows-more : (t : ℕ) (rows : List InRow) (i : ℕ) (row : InRow) → i < length rows
    → session_rows (take (i + 1) rows) t ≡ session_rows (take i rows) t ++ cond ((get_or rows i row).session == t) ((i + 1, (get_or rows i row).op) ∷ []) []
rows-more t rows i row lt =
    ap (λ (l : List InRow). session_rows l t) (take_more rows i row lt) ∙ rows-last 1 t (take i rows) (get_or rows i row)
    ∙ ap (λ (k : ℕ). session_rows (take i rows) t ++ cond ((get_or rows i row).session == t) ((k, (get_or rows i row).op) ∷ []) []) number
  where
    number : 1 + length (take i rows) ≡ i + 1
    number = omega (arith, taken-length i rows (omega (arith, lt)))

abbrev nothing : List (ℕ × Op)
nothing = []

module _ {V : Type 0} (items : V → List (ℕ × Op)) where
  pub parted-none : (rows : List InRow) (own : List V) → map items own ≡ replicate 16 [] → AreParted items rows 0 own
  parted-none rows own none = record {
    size = size;
    each = λ s d lt. sym (get_or-map items own s d nothing (omega (arith, size, lt))) ∙ ap (λ (l : List (List (ℕ × Op))). get_or l s nothing) none ∙ get_or-replicate 16 s nothing nothing lt;
  }
    where
      size : length own ≡ 16
      size = sym (length-map own items) ∙ ap length none ∙ length-replicate 16 nothing

  -- one row more went to those of its session
  pub parted-more : (rows : List InRow) (i : ℕ) (row : InRow) (own : List V) (value d : V) → AreParted items rows i own → i < length rows → 1 ≤ (get_or rows i row).session → (get_or rows i row).session ≤ 16
      → items value ≡ items (get_or own ((get_or rows i row).session - 1) d) ++ (i + 1, (get_or rows i row).op) ∷ [] → AreParted items rows (i + 1) (set own ((get_or rows i row).session - 1) value)
  parted-more rows i row own value d has lt some few is = record { size = length-set own at value ∙ has.size; each = each }
    where
      r : InRow
      r = get_or rows i row

      at : ℕ
      at = r.session - 1

      each : (s : ℕ) (e : V) → s < 16 → items (get_or (set own at value) s e) ≡ session_rows (take (i + 1) rows) (suc s)
      each s e lt16 = by_test (r.session == suc s) refl
        where
          by_test : (b : Bool) → (r.session == suc s) ≡ b → items (get_or (set own at value) s e) ≡ session_rows (take (i + 1) rows) (suc s)
          by_test true t =
              let here : s ≡ at = omega (arith, eqb-true r.session (suc s) t) in
              ap items (get_or-set_at own at s value e here (omega (arith, has.size, few, some))) ∙ is
              ∙ ap (λ (l : List (ℕ × Op)). l ++ (i + 1, r.op) ∷ []) (ap (λ (k : ℕ). items (get_or own k d)) (sym here) ∙ has.each s d lt16)
              ∙ sym (rows-more (suc s) rows i row lt ∙ ap (λ (b : Bool). session_rows (take i rows) (suc s) ++ cond b ((i + 1, r.op) ∷ []) []) t)
          by_test false t =
              let there : s ≢ at = λ e2. eqb-false r.session (suc s) t (omega (arith, e2, some)) in
              ap items (get_or-set_other own at s value e there) ∙ has.each s e lt16
              ∙ sym (rows-more (suc s) rows i row lt ∙ ap (λ (b : Bool). session_rows (take i rows) (suc s) ++ cond b ((i + 1, r.op) ∷ []) []) t ∙ append-nil (session_rows (take i rows) (suc s)))

  -- all rows, where none was taken so far
  pub left-all : (rows : List InRow) (own : List V) → AreParted items rows (length rows) own → AreLeft items rows 0 own
  left-all rows own parted =
      record { size = parted.size; each = λ s d le lt. parted.each s d lt ∙ ap (λ (l : List InRow). session_rows l (suc s)) (take-length rows) }

  -- the rows of a session were taken
  pub left-less : (rows : List InRow) (n : ℕ) (own : List V) (value : V) → AreLeft items rows n own → AreLeft items rows (n + 1) (set own n value)
  left-less rows n own value has = record {
    size = length-set own n value ∙ has.size;
    each = λ s d le lt. ap items (get_or-set_other own n s value d (λ same. absurd (omega (arith, same, le)))) ∙ has.each s d (omega (arith, le)) lt;
  }
