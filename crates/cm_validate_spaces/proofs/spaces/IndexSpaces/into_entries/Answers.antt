use Rattle.std.proofs.Common.{sym}
use Rattle.cm_validate_spaces.specs.IndexSpaces.{funcs_in, types_in}
use Rattle.cm_validate_spaces.specs.declared.entries.ComponentEntries.{ComponentEntries}
use Rattle.cm_validate_spaces.proofs.EntryLaws.{entries_are}
use Rattle.cm_validate_spaces.proofs.spaces.IndexSpaces.into_entries.Goals as goal

pub returns-clause-entries : goal.returns-clause-entries
returns-clause-entries c = λ s at.
    let w = c.args.self in
    let l = c.into_lists-imports in
    let e : ComponentEntries = record { types = c.into_types.result; imports = l.result.imports; exports = l.result.exports; resources = l.result.resources; core_funcs = c.into_funcs.result; made = w.made } in
    entries_are (types_in w) (funcs_in w) e s (sym c.into_types.ensures.types) (sym c.into_types.ensures.funcs)
    (l.ensures.imports (types_in w) (funcs_in w) s at.component_is)
    (l.ensures.exports (types_in w) (funcs_in w) s at.component_is)
    (l.ensures.resources (types_in w) (funcs_in w) s at.component_is)
    (λ tell told. c.into_funcs.ensures tell s (at.core_is tell told))
    (l.ensures.imports_there (types_in w) (funcs_in w) s at.component_is)
    (l.ensures.exports_there (types_in w) (funcs_in w) s at.component_is)
    at.made_there
