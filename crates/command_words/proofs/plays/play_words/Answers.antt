use Rattle.std.proofs.Common.{◌≡◌, ◌∙◌, inr, [], ◌∷◌, map, sym, ap}
use Rattle.std.specs.String.{string_bytes}
use Rattle.command_words.proofs.TrialFacts.{four}
use Rattle.command_words.proofs.WordsFacts.{not-sized}
use Rattle.command_words.proofs.plays.play_words.Goals as goal

pub returns-in_err-size-in-len4 : goal.returns-in_err-size-in-len4
returns-in_err-size-in-len4 c =
    let command = c.command-item-then-words-lt5 in
    let log = c.log-item-then-words-lt5 in
    let items = four c.args.words.now command.result log.result c.option-item.result c.number-item.result c.in-len4.len_at_least c.in-len4.len_below command.is log.is c.option-item.is c.number-item.is in
    let option = c.as_str-then-is_word-2.ensures.value in
    let number = c.as_str-then-is_word-2-2.ensures.value in
    let words : map string_bytes c.args.words.now
    ≡ string_bytes command.result ∷ string_bytes log.result ∷ c.as_str-then-is_word-2.result.now ∷ c.as_str-then-is_word-2-2.result.now ∷ [] =
    ap (map string_bytes) items ∙ (λ i. string_bytes command.result ∷ string_bytes log.result ∷ sym option i ∷ sym number i ∷ []) in
    rw c.from_residual.ensures (not-sized (map string_bytes c.args.words.now) _ _ _ _ words c.in_err-size-in-len4.ensures)

pub returns-in_ok-size-in-len4 : goal.returns-in_ok-size-in-len4
returns-in_ok-size-in-len4 c =
    let first = c.command-item-then-words-lt5 in
    let second = c.log-item-then-words-lt5 in
    let items = four c.args.words.now first.result second.result c.option-item.result c.number-item.result c.in-len4.len_at_least c.in-len4.len_below first.is second.is c.option-item.is c.number-item.is in
    let command = sym c.as_str-in-len4.ensures.value ∙ c.is_word-in-len4.ensures.0 c.if-is_word-2.true in
    let log = c.as_str-then-is_word-2-3.ensures.value in
    let option = sym c.as_str-then-is_word-2.ensures.value ∙ c.in_ok-size-in-len4.ensures.0 in
    let number = c.as_str-then-is_word-2-2.ensures.value in
    inr (c.as_str-then-is_word-2-2.result.now, ap (map string_bytes) items ∙ (λ i. command i ∷ sym log i ∷ option i ∷ sym number i ∷ []), c.in_ok-size-in-len4.ensures.1)
