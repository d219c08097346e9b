use Rattle.std.proofs.Common.{◌≡◌, map, sym, ap, ◌∙◌, cond, Some, None}
use Rattle.std.specs.Ordering.{nat_cmp}
use Rattle.std.specs.BTreeMap.{is_at}
use Rattle.std.specs.Map.{lookup}
use Rattle.zorder.specs.Name.{first_key}
use Rattle.recovery.specs.LeafMap.{leaves_of, keyed}
use Rattle.recovery.proofs.LeafMaps.{picked, picked-lookup}
use Rattle.recovery.proofs.leaf_map.LeafMap.split_at.Goals as goal

pub returns-in_err-found : goal.returns-in_err-found
returns-in_err-found c =
    let name = c.args.name.now in
    let ls = leaves_of c.self.inside.leaves.entries in
    let found : c.copied.result ≡ lookup (is_at (nat_cmp (first_key name))) (map keyed ls) = c.copied.ensures ∙ c.get.ensures.value ∙ (λ i. lookup (is_at (nat_cmp (c.bits.ensures i))) (c.self.invariant.keys i)) in
    c.from_residual.ensures ∙ sym (ap (picked name) c.in_err-found.was) ∙ ap (picked name) found ∙ rw (← c.self.view_is) (picked-lookup 0 ls name c.self.invariant.tile)

pub returns-then-eq : goal.returns-then-eq
returns-then-eq c =
    let name = c.args.name.now in
    let ls = leaves_of c.self.inside.leaves.entries in
    let found : c.copied.result ≡ lookup (is_at (nat_cmp (first_key name))) (map keyed ls) = c.copied.ensures ∙ c.get.ensures.value ∙ (λ i. lookup (is_at (nat_cmp (c.bits.ensures i))) (c.self.invariant.keys i)) in
    sym (ap (λ t. cond t (Some c.in_ok-found.found.split) None) (sym c.eq.ensures ∙ c.if-eq.true))
    ∙ sym (ap (picked name) c.in_ok-found.was) ∙ ap (picked name) found ∙ rw (← c.self.view_is) (picked-lookup 0 ls name c.self.invariant.tile)

pub returns-else-eq : goal.returns-else-eq
returns-else-eq c =
    let name = c.args.name.now in
    let ls = leaves_of c.self.inside.leaves.entries in
    let found : c.copied.result ≡ lookup (is_at (nat_cmp (first_key name))) (map keyed ls) = c.copied.ensures ∙ c.get.ensures.value ∙ (λ i. lookup (is_at (nat_cmp (c.bits.ensures i))) (c.self.invariant.keys i)) in
    sym (ap (λ t. cond t (Some c.in_ok-found.found.split) None) (sym c.eq.ensures ∙ c.if-eq.false))
    ∙ sym (ap (picked name) c.in_ok-found.was) ∙ ap (picked name) found ∙ rw (← c.self.view_is) (picked-lookup 0 ls name c.self.invariant.tile)
