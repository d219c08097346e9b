use Rattle.std.proofs.Common.{◌≡◌, ℕ, true, false, cond, is_ok, ap, sym, ◌∙◌}
use Rattle.std.specs.Prelude.{slice_set}
use Rattle.std.specs.List.{insert}
use Rattle.zorder.specs.Name.{first_key}
use Rattle.point_table.specs.Crowded.{key_place, has_key}
use Rattle.point_table.proofs.KeyPlaces.{set-key_place, insert-key_place}
use Rattle.point_table.proofs.crowded.mark_name.Goals as goal

pub returns-then-has_key-clause-names : goal.returns-then-has_key-clause-names
returns-then-has_key-clause-names c =
    let names = c.args.names.now.items in
    let name = c.args.name.now in
    let place : c.place_of-place.result ≡ key_place name names = c.place_of-place.ensures.place ∙ ap (key_place name) c.deref.ensures.value in
    let has : has_key (key_place name names) (first_key name) names ≡ true =
    rw (← place, ← c.bits.ensures, ← c.deref-2.ensures.value) (sym c.has_key.ensures ∙ c.if-has_key.true) in
    ap (λ (i : ℕ). slice_set names i name) place ∙ set-key_place name names has

pub returns-else-has_key-clause-names : goal.returns-else-has_key-clause-names
returns-else-has_key-clause-names c =
    let names = c.args.names.now.items in
    let name = c.args.name.now in
    let place : c.place_of-place.result ≡ key_place name names = c.place_of-place.ensures.place ∙ ap (key_place name) c.deref.ensures.value in
    let has : has_key (key_place name names) (first_key name) names ≡ false =
    rw (← place, ← c.bits.ensures, ← c.deref-2.ensures.value) (sym c.has_key.ensures ∙ c.if-has_key.false) in
    let done : is_ok c.insert.result ≡ true = c.insert.ensures.succeeds c.requires.room in
    c.insert.ensures.items ∙ ap (λ b. cond b (insert names c.place_of-place.result name) names) done
    ∙ ap (λ (i : ℕ). insert names i name) place ∙ insert-key_place name names has
