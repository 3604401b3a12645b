use Rattle.std.proofs.Common.{◌≡◌, rules}
use Rattle.std.specs.String.{string_bytes}
use Rattle.cm_types.specs.ValueTrees.{value_of}
use Rattle.cm_values.specs.Spelling.{no_words}
use Rattle.cm_values.proofs.CaseLaws.{enum_bearing, enum_past, enum_there, nothing_written}
use Rattle.cm_values.proofs.values.put_enum.Goals as goal

pub returns-in-Some : goal.returns-in-Some
returns-in-Some c = rw c.in-Some.is (nothing_written (string_bytes c.args.out.now) _ (enum_bearing no_words c.args.labels.now c.args.index (value_of c.in-Some.field-0.value)))

pub returns-in-None-get : goal.returns-in-None-get
returns-in-None-get c = rw c.in-None.is (nothing_written (string_bytes c.args.out.now) _ (enum_past c.args.labels.now c.args.index c.in-None-get.ensures.lookup.3))

pub returns-in-Some-get : goal.returns-in-Some-get
returns-in-Some-get c =
    let label = c.in-Some-get.label.now in
    let same : c.as_str.result.now ≡ label = search rules in
    rw (c.in-None.is, enum_there c.args.labels.now c.args.index label c.in-Some-get.ensures.lookup.3.0 c.in-Some-get.ensures.lookup.1) (rw same at c.put_name.ensures)
