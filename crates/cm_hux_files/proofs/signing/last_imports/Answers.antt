use Rattle.std.proofs.Common.{◌∙◌, ap}
use Rattle.cm_types_arena.specs.Externs.{are_externs_in, is_extern_there}
use Rattle.cm_types_arena.specs.Places.{funcs_of, types_of}
use Rattle.cm_match_serving.specs.cm_validate_spaces.Checked.{funcs_in, types_in}
use Rattle.cm_hux_files.proofs.TypesThere.{last_there, there_in}
use Rattle.cm_hux_files.proofs.signing.last_imports.Goals as goal

pub new-requires-2-clause-exports : goal.new-requires-2-clause-exports
new-requires-2-clause-exports c =
    let k = c.args.checked in
    let m = c.into_externs-externs in
    let there = there_in (types_of m.result.types) (types_in k) (funcs_of m.result.types) (funcs_in k) m.result.imports.items m.ensures.types m.ensures.funcs m.ensures.imports_there in
    ap (are_externs_in m.result.types) (c.unnumbered-2.ensures.externs ∙ c.in_ok-exports.ensures.tail)
    ∙ last_there _ c.saturating_sub-first.result m.result.imports.items there
