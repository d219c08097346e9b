use Rattle.std.proofs.Common.{◌≡◌, ◌∙◌, ap, sym, rules}
use Rattle.bucket_versions.specs.Content.{base_in}
use Rattle.bucket_versions.proofs.RowSets.{difference-none}
use Rattle.bucket_versions.proofs.content.Content.base_parts.Goals as goal

pub returns-in-Below-clause-rows : goal.returns-in-Below-clause-rows
returns-in-Below-clause-rows c = difference-none c.under.result.now ∙ c.under.ensures ∙ sym (ap (λ b. base_in b c.args.self.now.rows) c.in-Below.is)

pub returns-in-Beside-clause-rows : goal.returns-in-Beside-clause-rows
returns-in-Beside-clause-rows c =
    let base : c.deref-in-Beside.result.now ≡ c.in-Beside.base.value.items = search rules in
    difference-none c.deref-in-Beside.result.now ∙ base ∙ sym (ap (λ b. base_in b c.args.self.now.rows) c.in-Beside.is)
