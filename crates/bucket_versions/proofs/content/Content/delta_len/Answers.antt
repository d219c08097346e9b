use Rattle.std.proofs.Common.{◌≡◌, ◌∙◌, ◌<◌, ◌^◌, length, ap, sym, arith}
use Rattle.bucket_versions.specs.Delta.{delta_len}
use Rattle.bucket_versions.specs.RowList.{rows_under, listed}
use Rattle.bucket_versions.specs.Content.{kept_in}
use Rattle.bucket_versions.proofs.RowSets.{length-delta}
use Rattle.bucket_versions.proofs.RowLists.{listed-small}
use Rattle.bucket_versions.proofs.Contents.{IsRows-listed, delta-none}
use Rattle.bucket_versions.proofs.content.Content.delta_len.Goals as goal

pub delta_of-requires-clause-fits : goal.delta_of-requires-clause-fits
delta_of-requires-clause-fits c =
    let rows = c.args.self.now.rows in
    let base = c.in-Beside.base.value in
    let in_base : length c.deref-in-Beside.result.now ≡ base.len = c.deref-in-Beside.ensures.len ∙ ap (λ v. v.len) c.deref.ensures in
    let base_room = base.ok.1 in
    let base_cap = base.small in
    let long = rows.list.ok.0 in
    let within = rows.list.ok.1 in
    let cap = rows.list.small in
    let small : length rows.list.items < 2 ^ 63 = omega (arith, long, within, cap) in
    let fits = listed-small rows.under rows.list.items c.requires.rows small in
    let count = c.count.ensures in
    omega (arith, in_base, base_room, base_cap, fits, count)

pub returns-in-Own : goal.returns-in-Own
returns-in-Own c =
    let rows = c.args.self.now.rows in
    sym (ap (λ b. delta_len (kept_in b rows)) c.in-Own.is ∙ delta-none (listed rows) (IsRows-listed rows c.requires.rows))

pub returns-in-Below : goal.returns-in-Below
returns-in-Below c =
    let rows = c.args.self.now.rows in
    c.len.ensures
    ∙ rows.list.ok.0
    ∙ length-delta (rows_under rows.under) rows.list.items c.requires.rows.under c.requires.rows.list
    ∙ sym (ap (λ b. delta_len (kept_in b rows)) c.in-Below.is)
