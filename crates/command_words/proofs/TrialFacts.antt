-- Words that ask for made rows, or don't.
use Rattle.std.proofs.Common.{◌≡◌, ◌∙◌, ◌<◌, ◌≤◌, ℕ, List, [], ◌∷◌, length, get_or, Option, Some, None, sym, ap, subst, arith}
use Rattle.std.specs.Prelude.{codes, IsTrue}
use Rattle.std.proofs.lemmas.Bool.{true≢false}
use Rattle.csv_rows.proofs.NumbersFacts.{number_in-some}
use Rattle.command_words.specs.declared.trials.Made.{Made}
use Rattle.command_words.specs.Words.{AsksFor, SpellsMade, SpellsTrial, IsTrial, is_file_name, Trial}

-- the word at a place, of words that are two lists
pub word-at : (n : ℕ) (words one other : List (List ℕ)) → words ≡ one → words ≡ other → get_or one n [] ≡ get_or other n []
word-at n words one other first second = ap (λ (ws : List (List ℕ)). get_or ws n []) (sym first ∙ second)

transport-made : {rows seed rows' seed' : List ℕ} (made : Made) → rows ≡ rows' → seed ≡ seed' → SpellsMade rows seed made → SpellsMade rows' seed' made
transport-made {rows = rows} {seed = seed} {rows' = rows'} {seed' = seed'} made e f s = subst (λ (l : List ℕ). SpellsMade rows' l made) f (subst (λ (l : List ℕ). SpellsMade l seed made) e s)

-- four words of which the last two spell no rows
pub not-made : (words : List (List ℕ)) (command log rows seed : List ℕ) → words ≡ command ∷ log ∷ rows ∷ seed ∷ [] → ((made : Made) → SpellsMade rows seed made → ⊥) → (other : List ℕ) (made : Made) → SpellsTrial words other made → ⊥
not-made words command log rows seed is none other made (rows', seed', spells, numbers) = none made (transport-made made (word-at 2 words _ _ spells is) (word-at 3 words _ _ spells is) numbers)

pub four : {X : Type 0} (ws : List X) (a b c d : X) → 4 ≤ length ws → length ws < 5 → a ≡ get_or ws 0 a → b ≡ get_or ws 1 b → c ≡ get_or ws 2 c → d ≡ get_or ws 3 d → ws ≡ a ∷ b ∷ c ∷ d ∷ []
four [] a b c d low high p q r s = absurd (omega (arith, low))
four (z1 ∷ []) a b c d low high p q r s = absurd (omega (arith, low))
four (z1 ∷ z2 ∷ []) a b c d low high p q r s = absurd (omega (arith, low))
four (z1 ∷ z2 ∷ z3 ∷ []) a b c d low high p q r s = absurd (omega (arith, low))
four (z1 ∷ z2 ∷ z3 ∷ z4 ∷ []) a b c d low high p q r s = λ i. sym p i ∷ sym q i ∷ sym r i ∷ sym s i ∷ []
four (z1 ∷ z2 ∷ z3 ∷ z4 ∷ z5 ∷ zs) a b c d low high p q r s = absurd (omega (arith, high))

-- words that ask for made rows have some word in the place of a file
spells-trial : (words : List (List ℕ)) → IsTrial words → (log : List ℕ) × (made : Made) × SpellsTrial words log made
spells-trial words (None, made, spells) = (codes "-", made, spells)
spells-trial words (Some file, made, (named, spells)) = (file, made, spells)

pub not-tried : (words : List (List ℕ)) → ((log : List ℕ) (made : Made) → SpellsTrial words log made → ⊥) → IsTrial words → ⊥
not-tried words none trial = let (log, made, spells) = spells-trial words trial in none log made spells

trial-log : (words : List (List ℕ)) (log : List ℕ) (made : Made) → SpellsTrial words log made → get_or words 1 [] ≡ log
trial-log words log made (rows, seed, spells, numbers) = ap (λ (ws : List (List ℕ)). get_or ws 1 []) spells

-- the command's word
pub trial-word : (words : List (List ℕ)) → IsTrial words → get_or words 0 [] ≡ codes "trial"
trial-word words trial = let (log, made, spells) = spells-trial words trial in by_form log made spells
  where
    by_form : (log : List ℕ) (made : Made) → SpellsTrial words log made → get_or words 0 [] ≡ codes "trial"
    by_form log made (rows, seed, spells, numbers) = ap (λ (ws : List (List ℕ)). get_or ws 0 []) spells

some-number : (m n : ℕ) → Some m ≡ Some n → m ≡ n
some-number m n e = cc e

-- two words spell one number of rows and one seed
same-made : (rows seed : List ℕ) (a b : Made) → SpellsMade rows seed a → SpellsMade rows seed b → a ≡ b
same-made rows seed a b first second =
    let count : a.rows ≡ b.rows = some-number a.rows b.rows (sym first.rows_are ∙ second.rows_are) in
    let number : a.seed ≡ b.seed = some-number a.seed b.seed (sym first.seed_is ∙ second.seed_is) in
    λ i. record { rows = count i; seed = number i }

same-trial : (words : List (List ℕ)) (k l : List ℕ) (a b : Made) → SpellsTrial words k a → SpellsTrial words l b → a ≡ b
same-trial words k l a b (rows, seed, spells, numbers) (rows', seed', spells', numbers') =
    same-made rows' seed' a b (transport-made a (word-at 2 words _ _ spells spells') (word-at 3 words _ _ spells spells') numbers) numbers'

dash-file : (words : List (List ℕ)) (file : List ℕ) (a b : Made) → SpellsTrial words (codes "-") a → IsTrue (is_file_name file) → SpellsTrial words file b → ⊥
dash-file words file a b plain named over = absurd (true≢false (sym (ap is_file_name (sym (trial-log words (codes "-") a plain) ∙ trial-log words file b over) ∙ named)))

pub one-trial : (words : List (List ℕ)) (k l : Option (List ℕ)) (a b : Made) → AsksFor words (Trial k a) → AsksFor words (Trial l b) → Trial k a ≡ Trial l b
one-trial words None None a b first second = ap (Trial None) (same-trial words (codes "-") (codes "-") a b first second)
one-trial words None (Some g) a b first second = absurd (dash-file words g a b first second.0 second.1)
one-trial words (Some f) None a b first second = absurd (dash-file words f b a second first.0 first.1)
one-trial words (Some f) (Some g) a b first second =
    let file : f ≡ g = sym (trial-log words f a first.1) ∙ trial-log words g b second.1 in
    let made : a ≡ b = same-trial words f g a b first.1 second.1 in
    λ i. Trial (Some (file i)) (made i)

spelled-few : (rows seed : List ℕ) (made : Made) → SpellsMade rows seed made → made.rows ≤ 65536
spelled-few rows seed made spells = (number_in-some 1 65536 made.rows rows (sym spells.rows_are)).3

-- no more rows are made than an input may have
pub trial-few : (words : List (List ℕ)) (log : Option (List ℕ)) (made : Made) → AsksFor words (Trial log made) → made.rows ≤ 65536
trial-few words None made (rows, seed, spells, numbers) = spelled-few rows seed made numbers
trial-few words (Some file) made (named, (rows, seed, spells, numbers)) = spelled-few rows seed made numbers
