use Rattle.std.proofs.Common.{◌≡◌, ◌<◌, ◌≤◌, ◌∙◌, ◌&&◌, ℕ, Bool, false, length, ltb, sym, ap, arith}
use Rattle.std.proofs.lemmas.Bool.{lt-ltb}
use Rattle.std.proofs.lemmas.Bool.Decides.{nat_tests}
use Rattle.zorder.specs.Key.{is_under}
use Rattle.zorder.specs.Name.{first_key}
use Rattle.index_layer.proofs.LeafNames.{goes_on-test}
use Rattle.index_layer.proofs.names.goes_on.Goals as goal

not_less : (m n : ℕ) → n ≤ m → ltb m n ≡ false
not_less m n le = grind (arith, nat_tests)

pub returns-then-len : goal.returns-then-len
returns-then-len c =
    let name = c.args.name.now in
    let long = c.args.long.now in
    let shorter : length name < length long = omega (arith, c.if-len.true, c.len.ensures.len, c.len-2.ensures.len) in
    c.begins.ensures
    ∙ ap (is_under name) c.bits.ensures
    ∙ ap (λ (b : Bool). b && is_under name (first_key long)) (sym (lt-ltb (length name) (length long) shorter))
    ∙ sym (goes_on-test name long c.len-2.ensures.most)

pub returns-else-len : goal.returns-else-len
returns-else-len c =
    let name = c.args.name.now in
    let long = c.args.long.now in
    let longer : length long ≤ length name = omega (arith, c.if-len.false, c.len.ensures.len, c.len-2.ensures.len) in
    not_less c.len.result c.len-2.result (omega (arith, c.if-len.false))
    ∙ ap (λ (b : Bool). b && is_under name (first_key long)) (sym (not_less (length name) (length long) longer))
    ∙ sym (goes_on-test name long c.len-2.ensures.most)
