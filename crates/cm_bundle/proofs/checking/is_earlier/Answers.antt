use Rattle.std.proofs.lemmas.Str.{is_utf8-from_IsUtf8}
use Rattle.cm_bundle.specs.Trees.{supply_tree}
use Rattle.cm_bundle.proofs.Earlier.{earlier_tested}
use Rattle.cm_bundle.proofs.checking.is_earlier.Goals as goal

pub returns : goal.returns
returns c =
    let name = rw c.as_bytes-name.ensures.value at (is_utf8-from_IsUtf8 c.as_bytes-name.result.now c.as_bytes-name.ensures.utf8) in
    let export = rw c.as_bytes-export.ensures.value at (is_utf8-from_IsUtf8 c.as_bytes-export.result.now c.as_bytes-export.ensures.utf8) in
    earlier_tested c.args.parts (supply_tree c.args.supply.now) name export
