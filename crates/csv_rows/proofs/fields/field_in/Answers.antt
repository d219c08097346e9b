use Rattle.std.proofs.Common.{◌≤◌, sym, length, arith}
use Rattle.csv.specs.Records.{fields_of}
use Rattle.csv_rows.proofs.FieldsFacts.{field_at-none}
use Rattle.csv_rows.proofs.fields.field_in.Goals as goal

pub returns : goal.returns
returns c = sym c.in-Some.ensures.value

pub unreachable-requires : goal.unreachable-requires
unreachable-requires c = let few : length (fields_of c.args.record.now) ≤ c.args.place = field_at-none _ _ (sym c.in-None.ensures.value) in omega (arith, few, c.requires)
