use Rattle.std.proofs.Common.{◌≡◌, ◌∙◌, ◌-◌, Bool, true, false, List, [], ◌∷◌, ◌++◌, length, take, refl, ap, arith, append_assoc, length-append}
use Rattle.std.proofs.Math.Seq.{take-append_seam}
use Rattle.zorder.specs.Key.{key_bits, is_under}
use Rattle.zorder.specs.Name.{first_key}
use Rattle.zorder.specs.SameName.{same_name, same_name-decides}
use Rattle.index_layer.proofs.LeafKeys.{first_key-under}
use Rattle.index_layer.proofs.LeafNames.{front-from_test}
use Rattle.quad_trie.proofs.trie.ends_with_one.Goals as goal

last : (front : List Bool) (a b : Bool) → (front ++ a ∷ []) ≡ (front ++ b ∷ []) → a ≡ b
last [] a b e = cc e
last (x ∷ front) a b e = last front a b (cc e)

tested : (front : List Bool) (bit : Bool) → same_name (front ++ true ∷ []) (front ++ bit ∷ []) ≡ bit
tested front true = (same_name-decides (front ++ true ∷ []) (front ++ true ∷ [])).1 refl
tested front false = by_test (same_name (front ++ true ∷ []) (front ++ false ∷ [])) refl
  where
    by_test : (b : Bool) → same_name (front ++ true ∷ []) (front ++ false ∷ []) ≡ b → b ≡ false
    by_test true e = last front true false ((same_name-decides (front ++ true ∷ []) (front ++ false ∷ [])).0 e)
    by_test false e = refl

pub returns : goal.returns
returns c front bit named =
    let name : List Bool = c.args.name.now in
    let under : is_under name (first_key name) ≡ true = first_key-under name c.len.ensures.most in
    let rest = front-from_test name (key_bits (first_key name)) under in
    let whole : key_bits (first_key name) ≡ front ++ (bit ∷ rest.0) = rest.1 ∙ ap (λ (n : List Bool). n ++ rest.0) named ∙ append_assoc front (bit ∷ []) rest.0 in
    let count : c.len.result - 1 ≡ length front = omega (arith, c.len.ensures.len, ap length named, length-append front (bit ∷ [])) in
    let cut : take (length front) (front ++ (bit ∷ rest.0)) ≡ front = take-append_seam front (bit ∷ rest.0) in
    let made : c.first_bits-front.result ≡ front = c.first_bits-front.ensures ∙ (λ i. take (count i) (key_bits (c.bits.ensures i))) ∙ ap (take (length front)) whole ∙ cut in
    c.eq.ensures ∙ (λ i. same_name ((c.child.ensures ∙ ap (λ (n : List Bool). n ++ true ∷ []) made) i) (named i)) ∙ tested front bit
