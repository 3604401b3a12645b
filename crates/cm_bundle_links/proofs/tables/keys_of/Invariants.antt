use Rattle.std.proofs.Common.{◌≡◌, List, map, take}
use Rattle.cm_names.specs.Keys.{key_view}
use Rattle.cm_types.specs.Types.{FuncTy, Ty}
use Rattle.cm_match_serving.specs.cm_validate_entries.ComponentSpaces.{export_def}
use Rattle.cm_bundle_links.specs.Tables.{key_of}
use Rattle.cm_bundle_links.proofs.tables.keys_of.Given as goal

-- the keys of the exports so far
abbrev pub invariant-loop-export : goal.invariant-loop-export
invariant-loop-export l = (types : List Ty) (funcs : List FuncTy)
    → map key_view l.keys.items ≡ map (λ e. key_of (export_def types funcs e)) (take l.export-index l.exports)
