use Rattle.std.proofs.Common.{◌≡◌, ◌∙◌, [], ◌∷◌, map, sym, ap}
use Rattle.std.specs.String.{string_bytes}
use Rattle.command_words.proofs.TrialFacts.{four, not-made}
use Rattle.command_words.proofs.trials.trial_words.Goals as goal

pub returns-in_err-made-in-len4 : goal.returns-in_err-made-in-len4
returns-in_err-made-in-len4 c =
    let items = four c.args.words.now c.command-item.result c.log-item.result c.rows-item.result c.seed-item.result c.in-len4.len_at_least c.in-len4.len_below c.command-item.is c.log-item.is c.rows-item.is c.seed-item.is in
    let rows = c.as_str-then-is_word.ensures.value in
    let seed = c.as_str-then-is_word-2.ensures.value in
    let words : map string_bytes c.args.words.now
    ≡ string_bytes c.command-item.result ∷ string_bytes c.log-item.result ∷ c.as_str-then-is_word.result.now ∷ c.as_str-then-is_word-2.result.now ∷ [] =
    ap (map string_bytes) items ∙ (λ i. string_bytes c.command-item.result ∷ string_bytes c.log-item.result ∷ sym rows i ∷ sym seed i ∷ []) in
    rw c.from_residual.ensures (not-made (map string_bytes c.args.words.now) _ _ _ _ words c.in_err-made-in-len4.ensures)

pub returns-in_ok-made-in-len4 : goal.returns-in_ok-made-in-len4
returns-in_ok-made-in-len4 c =
    let items = four c.args.words.now c.command-item.result c.log-item.result c.rows-item.result c.seed-item.result c.in-len4.len_at_least c.in-len4.len_below c.command-item.is c.log-item.is c.rows-item.is c.seed-item.is in
    let command = sym c.as_str.ensures.value ∙ c.is_word.ensures.0 c.if-is_word.true in
    let log = c.as_str-then-is_word-3.ensures.value in
    let rows = c.as_str-then-is_word.ensures.value in
    let seed = c.as_str-then-is_word-2.ensures.value in
    (c.as_str-then-is_word.result.now, c.as_str-then-is_word-2.result.now, ap (map string_bytes) items ∙ (λ i. command i ∷ sym log i ∷ sym rows i ∷ sym seed i ∷ []), c.in_ok-made-in-len4.ensures)
