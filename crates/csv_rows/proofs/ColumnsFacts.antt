-- Columns that were taken or written one by one.
use Rattle.std.proofs.Common.{◌≡◌, ◌∙◌, ℕ, List, [], ◌∷◌, ◌++◌, refl, sym, ap, subst, append_assoc}
use Rattle.std.specs.Prelude.{codes}
use Rattle.plain_list.specs.declared.ops.Op.{Op}
use Rattle.csv_rows.specs.declared.columns.Columns.{Columns}
use Rattle.csv_rows.specs.declared.columns.Rule.{Rule}
use Rattle.csv_rows.specs.declared.columns.Word.{Word}
use Rattle.csv_rows.specs.declared.columns.Word.TheVariants.{Put, Move, Drop, Where, Box, Near}
use Rattle.csv_rows.specs.Columns.{AreKept, Fits, column_texts, columns_of, op_of, rules_of, text_by, word_by, word_text}
use Rattle.csv_rows.specs.RowLines.{line_then, op_fields}

-- two rules of columns 3 to 5 are the same
record SameFront (a b : Columns Rule) : Type 0 where
  id : a.id ≡ b.id
  x : a.x ≡ b.x
  y : a.y ≡ b.y

-- those rules are the word's alone
same_front : (word : Word) (x y u v : ℕ) → SameFront (rules_of word x y) (rules_of word u v)
same_front Put x y u v = record { id = refl; x = refl; y = refl }
same_front Move x y u v = record { id = refl; x = refl; y = refl }
same_front Drop x y u v = record { id = refl; x = refl; y = refl }
same_front Where x y u v = record { id = refl; x = refl; y = refl }
same_front Box x y u v = record { id = refl; x = refl; y = refl }
same_front Near x y u v = record { id = refl; x = refl; y = refl }

-- what a word and columns say is said by that word
word_by-op_of : (word : Word) (c : Columns ℕ) → word_by (op_of word c) ≡ word
word_by-op_of Put c = refl
word_by-op_of Move c = refl
word_by-op_of Drop c = refl
word_by-op_of Where c = refl
word_by-op_of Box c = refl
word_by-op_of Near c = refl

-- and by these columns, where they keep its rules
columns_of-op_of : (word : Word) (c : Columns ℕ) → AreKept word c → columns_of (op_of word c) ≡ c
columns_of-op_of Put c k = λ i. record c { a = sym k.a i; b = sym k.b i }
columns_of-op_of Move c k = λ i. record c { a = sym k.a i; b = sym k.b i }
columns_of-op_of Drop c k = λ i. record c { x = sym k.x i; y = sym k.y i; a = sym k.a i; b = sym k.b i; moment = sym k.moment i }
columns_of-op_of Where c k = λ i. record c { x = sym k.x i; y = sym k.y i; a = sym k.a i; b = sym k.b i; moment = sym k.moment i }
columns_of-op_of Box c k = λ i. record c { id = sym k.id i; moment = sym k.moment i }
columns_of-op_of Near c k = λ i. record c { id = sym k.id i; b = sym k.b i; moment = sym k.moment i }

module _ (word : Word) (c : Columns ℕ) (front back : Columns Rule) (begins : front ≡ rules_of word 0 0) (ends : back ≡ rules_of word c.x c.y) where
  id_rule-is : front.id ≡ (rules_of word c.x c.y).id
  id_rule-is = ap (λ (r : Columns Rule). r.id) begins ∙ (same_front word 0 0 c.x c.y).id

  x_rule-is : front.x ≡ (rules_of word c.x c.y).x
  x_rule-is = ap (λ (r : Columns Rule). r.x) begins ∙ (same_front word 0 0 c.x c.y).x

  y_rule-is : front.y ≡ (rules_of word c.x c.y).y
  y_rule-is = ap (λ (r : Columns Rule). r.y) begins ∙ (same_front word 0 0 c.x c.y).y

  -- columns that were taken one by one keep the rules
  pub kept-columns : Fits front.id c.id → Fits front.x c.x → Fits front.y c.y → Fits back.a c.a → Fits back.b c.b → Fits back.moment c.moment → AreKept word c
  kept-columns id x y a b moment = record {
    id = subst (λ (r : Rule). Fits r c.id) id_rule-is id;
    x = subst (λ (r : Rule). Fits r c.x) x_rule-is x;
    y = subst (λ (r : Rule). Fits r c.y) y_rule-is y;
    a = subst (λ (r : Columns Rule). Fits r.a c.a) ends a;
    b = subst (λ (r : Columns Rule). Fits r.b c.b) ends b;
    moment = subst (λ (r : Columns Rule). Fits r.moment c.moment) ends moment;
  }

  -- and stand in the text that they were taken of
  pub taken-columns : (t0 t1 t2 t3 t4 t5 t6 rest : List ℕ) → t0 ≡ codes "," ++ (text_by front.id c.id ++ t1) → t1 ≡ codes "," ++ (text_by front.x c.x ++ t2) → t2 ≡ codes "," ++ (text_by front.y c.y ++ t3)
      → t3 ≡ codes "," ++ (text_by back.a c.a ++ t4) → t4 ≡ codes "," ++ (text_by back.b c.b ++ t5) → t5 ≡ codes "," ++ (text_by back.moment c.moment ++ t6) → t6 ≡ codes "\n" ++ rest → t0 ≡ line_then (column_texts word c) rest
  taken-columns t0 t1 t2 t3 t4 t5 t6 rest id x y a b moment end =
      let moment_is = moment ∙ ap (λ (r : Columns Rule). codes "," ++ (text_by r.moment c.moment ++ t6)) ends ∙ ap (λ (l : List ℕ). codes "," ++ (text_by (rules_of word c.x c.y).moment c.moment ++ l)) end in
      let b_is = b ∙ ap (λ (r : Columns Rule). codes "," ++ (text_by r.b c.b ++ t5)) ends ∙ ap (λ (l : List ℕ). codes "," ++ (text_by (rules_of word c.x c.y).b c.b ++ l)) moment_is in
      let a_is = a ∙ ap (λ (r : Columns Rule). codes "," ++ (text_by r.a c.a ++ t4)) ends ∙ ap (λ (l : List ℕ). codes "," ++ (text_by (rules_of word c.x c.y).a c.a ++ l)) b_is in
      let y_is = y ∙ ap (λ (r : Rule). codes "," ++ (text_by r c.y ++ t3)) y_rule-is ∙ ap (λ (l : List ℕ). codes "," ++ (text_by (rules_of word c.x c.y).y c.y ++ l)) a_is in
      let x_is = x ∙ ap (λ (r : Rule). codes "," ++ (text_by r c.x ++ t2)) x_rule-is ∙ ap (λ (l : List ℕ). codes "," ++ (text_by (rules_of word c.x c.y).x c.x ++ l)) y_is in
      id ∙ ap (λ (r : Rule). codes "," ++ (text_by r c.id ++ t1)) id_rule-is ∙ ap (λ (l : List ℕ). codes "," ++ (text_by (rules_of word c.x c.y).id c.id ++ l)) x_is

-- the fields of an operation are those that it was taken of
pub op_fields-taken : (word : Word) (c : Columns ℕ) (o : Op) → AreKept word c → o ≡ op_of word c → op_fields o ≡ word_text word ∷ column_texts word c
op_fields-taken word c o kept is =
    let word_is = ap word_by is ∙ word_by-op_of word c in
    let columns_is = ap columns_of is ∙ columns_of-op_of word c kept in
    ap (λ (w : Word). word_text w ∷ column_texts w (columns_of o)) word_is ∙ ap (λ (d : Columns ℕ). word_text word ∷ column_texts word d) columns_is

-- seven fields that were pushed one by one, each behind a comma, and the end of the line
pub pushed_fields : (old a b c d e f g : List ℕ) → old ++ codes "," ++ a ++ (codes "," ++ b) ++ (codes "," ++ c) ++ (codes "," ++ d) ++ (codes "," ++ e) ++ (codes "," ++ f) ++ (codes "," ++ g) ++ codes "\n" ≡ old ++ line_then (a ∷ b ∷ c ∷ d ∷ e ∷ f ∷ g ∷ []) []
pushed_fields old a b c d e f g = simp append_assoc
