use Rattle.std.proofs.Common.{◌≡◌, ◌∙◌, ◌<◌, ap, length, map, subst, sym}
use Rattle.std.specs.List.{AllByRecursion}
use Rattle.cm_types_arena.specs.Arena.{field_types}
use Rattle.cm_types_arena.specs.Places.{funcs_of, types_of}
use Rattle.cm_types_arena.specs.Replaced.{replaced, replaced_fields}
use Rattle.cm_types_arena.specs.TypeDefs.{func_at, type_at}
use Rattle.cm_layout_placed.specs.Placed.{types_by}
use Rattle.cm_layout_placed.proofs.ReplacedLaws.{as_many_by, fields_by, types_at_by}
use Rattle.cm_abi_programs.proofs.programs.PlacedPrograms.params.Goals as goal

pub passed-requires : goal.passed-requires
passed-requires c =
    let s = c.requires.tuple.0 in
    let types = types_of c.args.types.now in
    let all = (func_at (funcs_of c.args.types.now) c.args.func).params in
    let ps = c.func_params.result.now in
    let there : AllByRecursion (λ p. p < length (types_by s types)) ps = subst (λ n. AllByRecursion (λ p. p < n) ps) (sym (as_many_by s types)) c.func_params.ensures.there in
    let are : field_types (replaced_fields s all) ≡ map (type_at (types_by s types)) ps = fields_by s all ∙ (ap (map (replaced s)) c.func_params.ensures.params ∙ types_at_by s types ps) in
    record {
      tuple = (types_by s types, replaced_fields s all, c.requires.tuple.1, there, are, c.requires.tuple.2);
    }
