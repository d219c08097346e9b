use Rattle.std.proofs.Common.{◌≡◌, ◌∙◌, ◌<◌, ◌^◌, List, true, length, refl, sym, ap, subst, arith, rules}
use Rattle.bucket_versions.specs.declared.row.Row.{Row}
use Rattle.bucket_versions.specs.Rows.{IsRows}
use Rattle.bucket_versions.specs.Delta.{difference}
use Rattle.bucket_versions.specs.RowList.{is_short}
use Rattle.bucket_versions.proofs.RowSets.{difference-none}
use Rattle.bucket_versions.proofs.row_list.RowList.above.Goals as goal

pub returns-clause-rows : goal.returns-clause-rows
returns-clause-rows c =
    let below : c.in_ok-shared.field-0.value.items ≡ c.args.rows.items = search rules in
    (ap (difference c.in_ok-shared.field-0.value.items) c.new.ensures.items ∙ difference-none c.in_ok-shared.field-0.value.items ∙ below, below)

pub returns-clause-is : goal.returns-clause-is
returns-clause-is c =
    let base = c.in_ok-shared.field-0.value.items in
    let below : base ≡ c.args.rows.items = search rules in
    let rows : difference base c.new.result.items ≡ c.args.rows.items = ap (difference base) c.new.ensures.items ∙ difference-none base ∙ below in
    let fits : c.args.rows.len < 2 ^ 62 = search rules in
    let few : length base < 2 ^ 62 = (let same = ap length below in let long = c.args.rows.ok.0 in omega (arith, same, long, fits)) in
    record {
      under = subst IsRows (sym below) c.requires;
      list = subst IsRows (sym c.new.ensures.items) tt;
      few = few;
      short = subst (λ (l : List Row). is_short (length base) (length l) ≡ true) (sym c.new.ensures.items) refl;
      counted = c.len-count.ensures ∙ c.args.rows.ok.0 ∙ sym (ap length rows);
    }
