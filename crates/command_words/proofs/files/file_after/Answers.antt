use Rattle.std.proofs.Common.{◌≡◌, ◌∙◌, ℕ, ◌<◌, ◌≤◌, false, List, [], ◌∷◌, length, get_or, map, sym, ap, subst, arith}
use Rattle.std.specs.Prelude.{IsTrue}
use Rattle.std.specs.String.{string_bytes}
use Rattle.command_words.specs.Words.{NamesFile, is_file_name}
use Rattle.command_words.proofs.files.file_after.Goals.{else-is_word-via-then-is_word+else-is_file_name, else-is_word-via-else-is_word}
use Rattle.command_words.proofs.files.file_after.Goals as goal

two : {X : Type 0} (ws : List X) (a b : X) → 2 ≤ length ws → length ws < 3 → a ≡ get_or ws 0 a → b ≡ get_or ws 1 b → ws ≡ a ∷ b ∷ []
two [] a b low high e f = absurd (omega (arith, low))
two (v ∷ []) a b low high e f = absurd (omega (arith, low))
two (v ∷ w ∷ []) a b low high e f = λ i. sym e i ∷ sym f i ∷ []
two (v ∷ w ∷ x ∷ xs) a b low high e f = absurd (omega (arith, high))

other : (words : List (List ℕ)) (command first file : List ℕ) → words ≡ first ∷ file ∷ [] → (first ≡ command → ⊥) → (name : List ℕ) → NamesFile command words name → ⊥
other words command first file is differs name names =
    let same : first ∷ file ∷ [] ≡ command ∷ name ∷ [] = sym is ∙ names.0 in differs (ap (λ (ws : List (List ℕ)). get_or ws 0 first) same)

unfit : (words : List (List ℕ)) (command first file : List ℕ) → words ≡ first ∷ file ∷ [] → (IsTrue (is_file_name file) → ⊥) → (name : List ℕ) → NamesFile command words name → ⊥
unfit words command first file is bad name names =
    let same : first ∷ file ∷ [] ≡ command ∷ name ∷ [] = sym is ∙ names.0 in
    let named : file ≡ name = ap (λ (ws : List (List ℕ)). get_or ws 1 file) same in
    bad (subst (λ (n : List ℕ). IsTrue (is_file_name n)) (sym named) names.1)

never : IsTrue false → ⊥
never e = cc e

pub returns-then-is_file_name : goal.returns-then-is_file_name
returns-then-is_file_name c =
    let words : map string_bytes c.args.words.now ≡ string_bytes c.first-item.result ∷ string_bytes c.file-item.result ∷ [] =
    ap (map string_bytes) (two c.args.words.now c.first-item.result c.file-item.result (omega arith) (omega arith) c.first-item.is c.file-item.is) in
    let same : c.as_str.result.now ≡ c.args.command.now = c.is_word.ensures.0 c.if-is_word.true in
    let first : string_bytes c.first-item.result ≡ c.args.command.now = sym c.as_str.ensures.value ∙ same in
    let file : string_bytes c.file-item.result ≡ c.as_str-then-is_file_name.result.now = sym c.as_str-then-is_file_name.ensures.value in
    (words ∙ (λ i. first i ∷ file i ∷ []), search)

pub returns-else-is_word : goal.returns-else-is_word
returns-else-is_word c =
    let words : map string_bytes c.args.words.now ≡ string_bytes c.first-item.result ∷ string_bytes c.file-item.result ∷ [] =
    ap (map string_bytes) (two c.args.words.now c.first-item.result c.file-item.result (omega arith) (omega arith) c.first-item.is c.file-item.is) in
    elim c.else-is_word.branch [
      | else-is_word-via-then-is_word+else-is_file_name w ↦ unfit (map string_bytes c.args.words.now) c.args.command.now (string_bytes c.first-item.result) (string_bytes c.file-item.result) words (λ good. never (subst IsTrue (ap is_file_name (sym w.as_str-then-is_word.ensures.value) ∙ sym w.is_file_name.ensures ∙ w.if-is_file_name.false) good))
      | else-is_word-via-else-is_word w ↦ other (map string_bytes c.args.words.now) c.args.command.now (string_bytes c.first-item.result) (string_bytes c.file-item.result) words (λ e. never (subst IsTrue w.if-is_word.false (c.is_word.ensures.1 (c.as_str.ensures.value ∙ e))))
    ]
