use Rattle.std.proofs.Common.{arith}
use Rattle.std.proofs.lemmas.Str.{is_utf8-from_IsUtf8}
use Rattle.cm_bundle.specs.Trees.{name_tree}
use Rattle.cm_bundle.proofs.NameLaws.{named}
use Rattle.cm_bundle.proofs.names.write_name.Goals as goal

pub returns-clause-text : goal.returns-clause-text
returns-clause-text c =
    let text = rw c.as_bytes.ensures.value at (is_utf8-from_IsUtf8 c.as_bytes.result.now c.as_bytes.ensures.utf8) in
    named c.write_blob.result (name_tree c.args.name.now) (omega arith) text
