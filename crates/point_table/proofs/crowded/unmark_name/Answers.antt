use Rattle.std.proofs.Common.{◌≡◌, ℕ, true, false, ap, sym, ◌∙◌}
use Rattle.std.specs.List.{remove}
use Rattle.zorder.specs.Name.{first_key}
use Rattle.point_table.specs.Crowded.{key_place, has_key}
use Rattle.point_table.proofs.KeyPlaces.{remove-key_place, keep-key_place}
use Rattle.point_table.proofs.crowded.unmark_name.Goals as goal

pub returns-then-has_key-clause-names : goal.returns-then-has_key-clause-names
returns-then-has_key-clause-names c =
    let names = c.args.names.now.items in
    let name = c.args.name.now in
    let place : c.place_of-place.result ≡ key_place name names = c.place_of-place.ensures.place ∙ ap (key_place name) c.deref.ensures.value in
    let has : has_key (key_place name names) (first_key name) names ≡ true =
    rw (← place, ← c.bits.ensures, ← c.deref-2.ensures.value) (sym c.has_key.ensures ∙ c.if-has_key.true) in
    c.remove.ensures.items ∙ ap (λ (i : ℕ). remove names i) place ∙ remove-key_place name names has

pub returns-else-has_key-clause-names : goal.returns-else-has_key-clause-names
returns-else-has_key-clause-names c =
    let names = c.args.names.now.items in
    let name = c.args.name.now in
    let place : c.place_of-place.result ≡ key_place name names = c.place_of-place.ensures.place ∙ ap (key_place name) c.deref.ensures.value in
    let has : has_key (key_place name names) (first_key name) names ≡ false =
    rw (← place, ← c.bits.ensures, ← c.deref-2.ensures.value) (sym c.has_key.ensures ∙ c.if-has_key.false) in
    keep-key_place name names has
