-- The rows of leaves that stand for places are under the leaves' names.
use Rattle.std.proofs.Common.{◌≡◌, ◌<◌, ◌^◌, true, List, [], ◌∷◌, sym, ◌∙◌}
use Rattle.std.specs.Prelude.{◌&&◌}
use Rattle.std.specs.List.{AllByRecursion}
use Rattle.std.specs.Cmp.{first_so, second_so}
use Rattle.zorder.specs.declared.points.Placed.{Placed}
use Rattle.zorder.specs.Key.{is_under}
use Rattle.bucket_versions.specs.declared.row.Row.{Row}
use Rattle.index_layer.specs.Leaves.{Leaf}
use Rattle.index_layer.specs.Stands.{HasRowsOf, places_have}
use Rattle.index_layer.proofs.Standing.{placed_key-lt}
use Rattle.table_share.specs.KeysUnder.{AreAllKeysUnder}
use Rattle.table_share.proofs.TableRows.{all_from_has}

pub leaves_under : (places : List Placed) (leaves : List Leaf) → AllByRecursion (HasRowsOf places) leaves → AreAllKeysUnder leaves
leaves_under places [] has = tt
leaves_under places (l ∷ leaves) has = (
  all_from_has (λ (r : Row). (r.key < 2 ^ 64) × (is_under l.name r.key ≡ true)) l.bucket.rows
      (λ q e.
      let both : (places_have places q && is_under l.name q.key) ≡ true = sym (has.0 q) ∙ e in
      (placed_key-lt places q (first_so (places_have places q) (is_under l.name q.key) both), second_so (places_have places q) (is_under l.name q.key) both)),
  leaves_under places leaves has.1,
)
