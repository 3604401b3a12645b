use Rattle.std.proofs.Common.{◌∙◌, ap}
use Rattle.std.specs.Option.{option_map}
use Rattle.cm_validate_core.specs.NameMaps.{entries_of}
use Rattle.cm_validate_core.specs.Entries.{def_of}
use Rattle.cm_validate_core.proofs.NameLaws.{named_law, numbered_law}
use Rattle.cm_validate_core.proofs.entries.CoreItem.named.Goals as goal

pub returns-clause-def : goal.returns-clause-def
returns-clause-def c = λ made.
    ap (option_map (def_of made)) (c.copied.ensures ∙ c.get.ensures)
    ∙ named_law made c.args.name.now (entries_of c.args.items.now)

pub returns-clause-numbered : goal.returns-clause-numbered
returns-clause-numbered c = λ names a.
    rw (c.copied.ensures ∙ c.get.ensures) (numbered_law names c.args.name.now (entries_of c.args.items.now) a)
