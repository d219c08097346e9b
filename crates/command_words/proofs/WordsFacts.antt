-- Words ask for one command.
use Rattle.std.proofs.Common.{◌≡◌, ◌⊎◌, ◌∙◌, ◌<◌, ◌≤◌, inl, inr, ℕ, List, [], ◌∷◌, length, get_or, Option, Some, None, sym, ap, subst, arith}
use Rattle.std.specs.Prelude.{codes, sum, IsTrue, MatchOption}
use Rattle.std.proofs.lemmas.Bool.{true≢false}
use Rattle.zorder.specs.Width.{IsWidth}
use Rattle.zorder.specs.declared.points.Region.{Region}
use Rattle.csv_rows.specs.Numbers.{number_in}
use Rattle.command_words.specs.Words.{Command, AsksFor, NamesFile, SpellsBox, SpellsNoSize, SpellsInit, SpellsPlay, SpellsShow, NamesPair, IsAccepted, IsInit, IsCheck, IsPlay, IsShow, IsTrial, IsUnlogged, IsLogged, IsCompact, IsWatch, IsFollow, NamesNoFile, NamesNoPair, is_file_name, Init, Check, Play, Show, Trial, Compact, Watch, Follow}
use Rattle.command_words.proofs.TrialFacts.{trial-word, one-trial, word-at}

init-word : (words : List (List ℕ)) → IsInit words → get_or words 0 [] ≡ codes "init"
init-word words (file, width, (named, inl two)) = ap (λ (ws : List (List ℕ)). get_or ws 0 []) two.0
init-word words (file, width, (named, inr three)) = ap (λ (ws : List (List ℕ)). get_or ws 0 []) three.0

-- words that make a log have some word in the place of a file
pub not-made : (words : List (List ℕ)) → ((log : List ℕ) (width : ℕ) → SpellsInit words log width → ⊥) → IsInit words → ⊥
not-made words none (file, width, (named, spells)) = none file width spells

made-file : (words : List (List ℕ)) (log : List ℕ) (width : ℕ) → SpellsInit words log width → get_or words 1 [] ≡ log
made-file words log width (inl two) = ap (λ (ws : List (List ℕ)). get_or ws 1 []) two.0
made-file words log width (inr three) = ap (λ (ws : List (List ℕ)). get_or ws 1 []) three.0

-- that word names none
pub unmade : (words : List (List ℕ)) (log : List ℕ) (width : ℕ) → SpellsInit words log width → (IsTrue (is_file_name log) → ⊥) → IsInit words → ⊥
unmade words log width spells bad (file, other, (named, as_file)) =
    bad (subst (λ (l : List ℕ). IsTrue (is_file_name l)) (sym (made-file words file other as_file) ∙ made-file words log width spells) named)

same-width : (words : List (List ℕ)) (f g : List ℕ) (v w : ℕ) → SpellsInit words f v → SpellsInit words g w → v ≡ w
same-width words f g v w (inl (two, is)) (inl (also, same)) = is ∙ sym same
same-width words f g v w (inl (two, is)) (inr (three, same)) = absurd (omega (arith, ap length (sym two ∙ three)))
same-width words f g v w (inr (three, is)) (inl (two, same)) = absurd (omega (arith, ap length (sym two ∙ three)))
same-width words f g v w (inr (three, is)) (inr (also, same)) = is ∙ sym same

-- a log is made of a width that logs have
pub init-width : (words : List (List ℕ)) (file : List ℕ) (width : ℕ) → AsksFor words (Init file width) → IsWidth width
init-width words file width (named, inl two) = inl two.1
init-width words file width (named, inr three) = inr three.1

one-init : (words : List (List ℕ)) (f g : List ℕ) (v w : ℕ) → AsksFor words (Init f v) → AsksFor words (Init g w) → Init f v ≡ Init g w
one-init words f g v w (named, first) (also, second) =
    let file : f ≡ g = sym (made-file words f v first) ∙ made-file words g w second in
    let width : v ≡ w = same-width words f g v w first second in
    λ i. Init (file i) (width i)

check-word : (words : List (List ℕ)) → IsCheck words → get_or words 0 [] ≡ codes "check"
check-word words asks = ap (λ (ws : List (List ℕ)). get_or ws 0 []) asks.1.0

-- words that play rows have some word in the place of a file
pub spells-play : (words : List (List ℕ)) → IsPlay words → (log : List ℕ) × (size : ℕ) × SpellsPlay words log size
spells-play words (size, (None, spells)) = (codes "-", size, spells)
spells-play words (size, (Some file, (named, spells))) = (file, size, spells)

pub not-played : (words : List (List ℕ)) → ((log : List ℕ) (size : ℕ) → SpellsPlay words log size → ⊥) → IsPlay words → ⊥
not-played words none play = let (log, size, spells) = spells-play words play in none log size spells

-- the word in the place of a file
log-word : (words : List (List ℕ)) (log : List ℕ) (size : ℕ) → SpellsPlay words log size → get_or words 1 [] ≡ log
log-word words log size (inl two) = ap (λ (ws : List (List ℕ)). get_or ws 1 []) two.0
log-word words log size (inr sized) = ap (λ (ws : List (List ℕ)). get_or ws 1 []) sized.1

-- four words of which the last two spell no size
pub not-sized : (words : List (List ℕ)) (command log option number : List ℕ) → words ≡ command ∷ log ∷ option ∷ number ∷ [] → SpellsNoSize option number → (other : List ℕ) (size : ℕ) → SpellsPlay words other size → ⊥
not-sized words command log option number is none other size (inl (two, plain)) = absurd (omega (arith, ap length (sym two ∙ is)))
not-sized words command log option number is none other size (inr (digits, spells, named)) =
    none (word-at 2 words _ _ is spells) size (ap (number_in 4 4096) (word-at 3 words _ _ is spells) ∙ named)

play-word : (words : List (List ℕ)) → IsPlay words → get_or words 0 [] ≡ codes "play"
play-word words play = let (log, size, spells) = spells-play words play in by_form log size spells
  where
    by_form : (log : List ℕ) (size : ℕ) → SpellsPlay words log size → get_or words 0 [] ≡ codes "play"
    by_form log size (inl two) = ap (λ (ws : List (List ℕ)). get_or ws 0 []) two.0
    by_form log size (inr sized) = ap (λ (ws : List (List ℕ)). get_or ws 0 []) sized.1

show-word : (words : List (List ℕ)) (log : List ℕ) (region : Region) → SpellsShow words log region → get_or words 0 [] ≡ codes "show"
show-word words log region (x, y, a, b, spells, corners) = ap (λ (ws : List (List ℕ)). get_or ws 0 []) spells

-- words that ask for objects have some word in the place of a file
pub not-shown : (words : List (List ℕ)) → ((log : List ℕ) (region : Region) → SpellsShow words log region → ⊥) → IsShow words → ⊥
not-shown words none (file, region, (named, spells)) = none file region spells

shown-file : (words : List (List ℕ)) (log : List ℕ) (region : Region) → SpellsShow words log region → get_or words 1 [] ≡ log
shown-file words log region (x, y, a, b, spells, corners) = ap (λ (ws : List (List ℕ)). get_or ws 1 []) spells

-- the word in the place of a file names none
pub unnamed : (words : List (List ℕ)) (log : List ℕ) (region : Region) → SpellsShow words log region → (IsTrue (is_file_name log) → ⊥) → IsShow words → ⊥
unnamed words log region spells bad (file, other, (named, as_file)) =
    bad (subst (λ (l : List ℕ). IsTrue (is_file_name l)) (sym (shown-file words file other as_file) ∙ shown-file words log region spells) named)

-- rows are played over no log or over one
pub unlogged-logged : (words : List (List ℕ)) → IsUnlogged words → IsLogged words → ⊥
unlogged-logged words (size, plain) (file, n, (named, over)) =
    absurd (true≢false (sym (ap is_file_name (sym (log-word words (codes "-") size plain) ∙ log-word words file n over) ∙ named)))

shown-word : (words : List (List ℕ)) → IsShow words → get_or words 0 [] ≡ codes "show"
shown-word words (file, region, (named, spells)) = show-word words file region spells

compact-word : (words : List (List ℕ)) → IsCompact words → get_or words 0 [] ≡ codes "compact"
compact-word words (file, new, asks) = ap (λ (ws : List (List ℕ)). get_or ws 0 []) asks.spells

watch-word : (words : List (List ℕ)) → IsWatch words → get_or words 0 [] ≡ codes "watch"
watch-word words asks = ap (λ (ws : List (List ℕ)). get_or ws 0 []) asks.1.0

follow-word : (words : List (List ℕ)) → IsFollow words → get_or words 0 [] ≡ codes "follow"
follow-word words (file, new, asks) = ap (λ (ws : List (List ℕ)). get_or ws 0 []) asks.spells

-- the word of a command
abbrev command_word : Command → List ℕ
command_word (Init file width) = codes "init"
command_word (Check file) = codes "check"
command_word (Play log size) = codes "play"
command_word (Show file region) = codes "show"
command_word (Trial log made) = codes "trial"
command_word (Compact file new) = codes "compact"
command_word (Watch file) = codes "watch"
command_word (Follow file new) = codes "follow"

-- words that ask for a command begin with its word
begins : (words : List (List ℕ)) (a : Command) → AsksFor words a → get_or words 0 [] ≡ command_word a
begins words (Init file width) asks = init-word words (file, width, asks)
begins words (Check file) asks = check-word words (file, asks)
begins words (Play log size) asks = play-word words (size, (log, asks))
begins words (Show file region) asks = shown-word words (file, region, asks)
begins words (Trial log made) asks = trial-word words (log, made, asks)
begins words (Compact file new) asks = compact-word words (file, new, asks)
begins words (Watch file) asks = watch-word words (file, asks)
begins words (Follow file new) asks = follow-word words (file, new, asks)

-- the letters of a command's word, added up: no two commands have the same sum
letters : (words : List (List ℕ)) (a b : Command) → AsksFor words a → AsksFor words b → sum (command_word a) ≡ sum (command_word b)
letters words a b first second = ap sum (sym (begins words a first) ∙ begins words b second)

-- words name one file behind a command
same-file : (command : List ℕ) (words : List (List ℕ)) (f g : List ℕ) → NamesFile command words f → NamesFile command words g → f ≡ g
same-file command words f g first second = ap (λ (ws : List (List ℕ)). get_or ws 1 []) (sym first.0 ∙ second.0)

some-number : (m n : ℕ) → Some m ≡ Some n → m ≡ n
some-number m n e = cc e

same-size : (words : List (List ℕ)) (a b : List ℕ) (m n : ℕ) → SpellsPlay words a m → SpellsPlay words b n → m ≡ n
same-size words a b m n (inl (two, is)) (inl (other, same)) = is ∙ sym same
same-size words a b m n (inl (two, is)) (inr (number, four, named)) = absurd (omega (arith, ap length (sym two ∙ four)))
same-size words a b m n (inr (number, four, named)) (inl (two, is)) = absurd (omega (arith, ap length (sym two ∙ four)))
same-size words a b m n (inr (number, four, named)) (inr (digits, other, same)) =
    let text : number ≡ digits = ap (λ (ws : List (List ℕ)). get_or ws 3 []) (sym four ∙ other) in
    some-number m n (sym named ∙ ap (number_in 4 4096) text ∙ same)

one-play : (words : List (List ℕ)) (k l : Option (List ℕ)) (m n : ℕ) → AsksFor words (Play k m) → AsksFor words (Play l n) → Play k m ≡ Play l n
one-play words None None m n first second = ap (Play None) (same-size words (codes "-") (codes "-") m n first second)
one-play words None (Some g) m n first second = absurd (unlogged-logged words (m, first) (g, n, second))
one-play words (Some f) None m n first second = absurd (unlogged-logged words (n, second) (f, m, first))
one-play words (Some f) (Some g) m n first second =
    let file : f ≡ g = sym (log-word words f m first.1) ∙ log-word words g n second.1 in
    let size : m ≡ n = same-size words f g m n first.1 second.1 in
    λ i. Play (Some (file i)) (size i)

-- four words spell one box
same-box : (x y a b : List ℕ) (q r : Region) → SpellsBox x y a b q → SpellsBox x y a b r → q ≡ r
same-box x y a b q r first second =
    let lo_x : q.lo.x ≡ r.lo.x = some-number q.lo.x r.lo.x (sym first.lo_x ∙ second.lo_x) in
    let lo_y : q.lo.y ≡ r.lo.y = some-number q.lo.y r.lo.y (sym first.lo_y ∙ second.lo_y) in
    let hi_x : q.hi.x ≡ r.hi.x = some-number q.hi.x r.hi.x (sym first.hi_x ∙ ap (λ n. number_in n 4294967295 a) lo_x ∙ second.hi_x) in
    let hi_y : q.hi.y ≡ r.hi.y = some-number q.hi.y r.hi.y (sym first.hi_y ∙ ap (λ n. number_in n 4294967295 b) lo_y ∙ second.hi_y) in
    λ i. record { lo = record { x = lo_x i; y = lo_y i }; hi = record { x = hi_x i; y = hi_y i } }

transport-box : {x y a b x' y' a' b' : List ℕ} (r : Region) → x ≡ x' → y ≡ y' → a ≡ a' → b ≡ b' → SpellsBox x y a b r → SpellsBox x' y' a' b' r
transport-box {x = x} {y = y} {a = a} {b = b} {x' = x'} {y' = y'} {a' = a'} {b' = b'} r e f g h s =
    subst (λ (l : List ℕ). SpellsBox x' y' a' l r) h (subst (λ (l : List ℕ). SpellsBox x' y' l b r) g (subst (λ (l : List ℕ). SpellsBox x' l a b r) f (subst (λ (l : List ℕ). SpellsBox l y a b r) e s)))

-- six words of which the last four spell no box
pub not-boxed : (words : List (List ℕ)) (command log x y a b : List ℕ) → words ≡ command ∷ log ∷ x ∷ y ∷ a ∷ b ∷ [] → ((r : Region) → SpellsBox x y a b r → ⊥) → (other : List ℕ) (region : Region) → SpellsShow words other region → ⊥
not-boxed words command log x y a b is none other region (x', y', a', b', spells, corners) =
    none region (transport-box region (word-at 2 words _ _ spells is) (word-at 3 words _ _ spells is) (word-at 4 words _ _ spells is) (word-at 5 words _ _ spells is) corners)

pub six : {X : Type 0} (ws : List X) (a b c d e f : X) → 6 ≤ length ws → length ws < 7 → a ≡ get_or ws 0 a → b ≡ get_or ws 1 b → c ≡ get_or ws 2 c → d ≡ get_or ws 3 d → e ≡ get_or ws 4 e → f ≡ get_or ws 5 f
    → ws ≡ a ∷ b ∷ c ∷ d ∷ e ∷ f ∷ []
six [] a b c d e f low high p q r s t u = absurd (omega (arith, low))
six (z1 ∷ []) a b c d e f low high p q r s t u = absurd (omega (arith, low))
six (z1 ∷ z2 ∷ []) a b c d e f low high p q r s t u = absurd (omega (arith, low))
six (z1 ∷ z2 ∷ z3 ∷ []) a b c d e f low high p q r s t u = absurd (omega (arith, low))
six (z1 ∷ z2 ∷ z3 ∷ z4 ∷ []) a b c d e f low high p q r s t u = absurd (omega (arith, low))
six (z1 ∷ z2 ∷ z3 ∷ z4 ∷ z5 ∷ []) a b c d e f low high p q r s t u = absurd (omega (arith, low))
six (z1 ∷ z2 ∷ z3 ∷ z4 ∷ z5 ∷ z6 ∷ []) a b c d e f low high p q r s t u = λ i. sym p i ∷ sym q i ∷ sym r i ∷ sym s i ∷ sym t i ∷ sym u i ∷ []
six (z1 ∷ z2 ∷ z3 ∷ z4 ∷ z5 ∷ z6 ∷ z7 ∷ zs) a b c d e f low high p q r s t u = absurd (omega (arith, high))

same-shown : (words : List (List ℕ)) (f g : List ℕ) (q r : Region) → SpellsShow words f q → SpellsShow words g r → q ≡ r
same-shown words f g q r (x, y, a, b, spells, corners) (x', y', a', b', spells', corners') =
    same-box x' y' a' b' q r (transport-box q (word-at 2 words _ _ spells spells') (word-at 3 words _ _ spells spells') (word-at 4 words _ _ spells spells') (word-at 5 words _ _ spells spells') corners) corners'

one-show : (words : List (List ℕ)) (f g : List ℕ) (q r : Region) → AsksFor words (Show f q) → AsksFor words (Show g r) → Show f q ≡ Show g r
one-show words f g q r (named, first) (also, second) =
    let file : f ≡ g = sym (shown-file words f q first) ∙ shown-file words g r second in
    let region : q ≡ r = same-shown words f g q r first second in
    λ i. Show (file i) (region i)

-- words name one pair of files behind a command
module _ (command : List ℕ) (words : List (List ℕ)) (f g k l : List ℕ) (first : NamesPair command words f k) (second : NamesPair command words g l) where
  same-old : f ≡ g
  same-old = word-at 1 words _ _ first.spells second.spells

  same-new : k ≡ l
  same-new = word-at 2 words _ _ first.spells second.spells

one-compact : (words : List (List ℕ)) (f g k l : List ℕ) → AsksFor words (Compact f k) → AsksFor words (Compact g l) → Compact f k ≡ Compact g l
one-compact words f g k l first second = λ i. Compact (same-old (codes "compact") words f g k l first second i) (same-new (codes "compact") words f g k l first second i)

one-follow : (words : List (List ℕ)) (f g k l : List ℕ) → AsksFor words (Follow f k) → AsksFor words (Follow g l) → Follow f k ≡ Follow g l
one-follow words f g k l first second = λ i. Follow (same-old (codes "follow") words f g k l first second i) (same-new (codes "follow") words f g k l first second i)

-- words ask for one command
pub one-command : (words : List (List ℕ)) (a b : Command) → AsksFor words a → AsksFor words b → a ≡ b
one-command words (Init f v) (Init g w) first second = one-init words f g v w first second
one-command words (Check f) (Check g) first second = ap Check (same-file (codes "check") words f g first second)
one-command words (Play k m) (Play l n) first second = one-play words k l m n first second
one-command words (Show f q) (Show g r) first second = one-show words f g q r first second
one-command words (Trial k a) (Trial l b) first second = one-trial words k l a b first second
one-command words (Compact f k) (Compact g l) first second = one-compact words f g k l first second
one-command words (Watch f) (Watch g) first second = ap Watch (same-file (codes "watch") words f g first second)
one-command words (Follow f k) (Follow g l) first second = one-follow words f g k l first second
one-command words a b first second = let e = letters words a b first second in absurd (omega (arith, e))

-- words that ask for none of the commands aren't accepted
module _ (words : List (List ℕ)) (init : IsInit words → ⊥) (check : NamesNoFile (codes "check") words) (show : IsShow words → ⊥) (trial : IsTrial words → ⊥) (compact : NamesNoPair (codes "compact") words) (watch : NamesNoFile (codes "watch") words) (follow : NamesNoPair (codes "follow") words) (play : IsPlay words → ⊥) where
  pub none-asked : IsAccepted words → ⊥
  none-asked (Init file width, asks) = init (file, width, asks)
  none-asked (Check file, asks) = check file asks
  none-asked (Play log size, asks) = play (size, (log, asks))
  none-asked (Show file region, asks) = show (file, region, asks)
  none-asked (Trial log made, asks) = trial (log, made, asks)
  none-asked (Compact file new, asks) = compact file new asks
  none-asked (Watch file, asks) = watch file asks
  none-asked (Follow file new, asks) = follow file new asks

pub none-weaker : {A P Q : Type 0} (R : A → Type 0) (o : Option A) → (P → Q) → MatchOption o P R → MatchOption o Q R
none-weaker R None weaker holds = weaker holds
none-weaker R (Some a) weaker holds = holds
