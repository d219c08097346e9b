use Rattle.std.proofs.Common.{◌≡◌, ◌∙◌, [], ◌∷◌, map, sym, ap}
use Rattle.std.specs.String.{string_bytes}
use Rattle.command_words.proofs.WordsFacts.{not-boxed, six}
use Rattle.command_words.proofs.boxes.show_words.Goals as goal

pub returns-in_err-region-in-len6 : goal.returns-in_err-region-in-len6
returns-in_err-region-in-len6 c =
    let items = six c.args.words.now c.command-item.result c.log-item.result c.x-item.result c.y-item.result c.a-item.result c.b-item.result c.in-len6.len_at_least c.in-len6.len_below c.command-item.is c.log-item.is c.x-item.is c.y-item.is c.a-item.is c.b-item.is in
    let x = c.as_str-then-is_word.ensures.value in
    let y = c.as_str-then-is_word-2.ensures.value in
    let a = c.as_str-then-is_word-3.ensures.value in
    let b = c.as_str-then-is_word-4.ensures.value in
    let words : map string_bytes c.args.words.now
    ≡ string_bytes c.command-item.result ∷ string_bytes c.log-item.result ∷ c.as_str-then-is_word.result.now ∷ c.as_str-then-is_word-2.result.now ∷ c.as_str-then-is_word-3.result.now ∷ c.as_str-then-is_word-4.result.now ∷ [] =
    ap (map string_bytes) items ∙ (λ i. string_bytes c.command-item.result ∷ string_bytes c.log-item.result ∷ sym x i ∷ sym y i ∷ sym a i ∷ sym b i ∷ []) in
    rw c.from_residual.ensures (not-boxed (map string_bytes c.args.words.now) _ _ _ _ _ _ words c.in_err-region-in-len6.ensures)

pub returns-in_ok-region-in-len6 : goal.returns-in_ok-region-in-len6
returns-in_ok-region-in-len6 c =
    let items = six c.args.words.now c.command-item.result c.log-item.result c.x-item.result c.y-item.result c.a-item.result c.b-item.result c.in-len6.len_at_least c.in-len6.len_below c.command-item.is c.log-item.is c.x-item.is c.y-item.is c.a-item.is c.b-item.is in
    let command = sym c.as_str.ensures.value ∙ c.is_word.ensures.0 c.if-is_word.true in
    let log = c.as_str-then-is_word-5.ensures.value in
    let x = c.as_str-then-is_word.ensures.value in
    let y = c.as_str-then-is_word-2.ensures.value in
    let a = c.as_str-then-is_word-3.ensures.value in
    let b = c.as_str-then-is_word-4.ensures.value in (
      c.as_str-then-is_word.result.now,
      c.as_str-then-is_word-2.result.now,
      c.as_str-then-is_word-3.result.now,
      c.as_str-then-is_word-4.result.now,
      ap (map string_bytes) items ∙ (λ i. command i ∷ sym log i ∷ sym x i ∷ sym y i ∷ sym a i ∷ sym b i ∷ []),
      c.in_ok-region-in-len6.ensures,
    )
