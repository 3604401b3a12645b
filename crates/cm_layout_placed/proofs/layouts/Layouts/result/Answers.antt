use Rattle.std.proofs.Common.{◌≡◌, ◌≤◌, ◌∙◌, [], map, arith, ap, sym, None}
use Rattle.std.specs.Option.{option_map}
use Rattle.std.proofs.lemmas.Result.{IfOk-weaker}
use Rattle.cm_types.specs.Limits.{nodes_of_fields}
use Rattle.cm_types.specs.Types.{Fields, FieldsKind, fields, no_fields, tuple_type}
use Rattle.cm_types.specs.declared.limits.TheConstants.{MAX_NODES}
use Rattle.cm_layout.specs.Layouts.{layout_of}
use Rattle.cm_layout.specs.Shapes.{layout_at, layout_of_fields_at}
use Rattle.cm_types_arena.specs.Arena.{field_types}
use Rattle.cm_types_arena.specs.Places.{funcs_of, types_of}
use Rattle.cm_types_arena.specs.TypeDefs.{func_at, type_at}
use Rattle.cm_types_arena.specs.Replaced.{Standing, replaced}
use Rattle.cm_layout_placed.specs.Placed.{AreOf, layouts_in, result_fields, types_by}
use Rattle.cm_layout_placed.proofs.layouts.Layouts.result.Goals as goal

pub fields_layout-requires : goal.fields_layout-requires
fields_layout-requires c = (no_fields, omega arith, tt)

pub returns-in-None : goal.returns-in-None
returns-in-None c =
    let types = types_of c.args.types.now in
    let answer = (func_at (funcs_of c.args.types.now) c.args.func).result in
    let none : answer ≡ None = c.func_result.ensures.answer ∙ ap (option_map (type_at types)) c.in-None.is in
    let ls = map layout_of c.deref.result.now in
    IfOk-weaker c.fields_layout.result
    (λ l. (k : FieldsKind) (fs : Fields) → nodes_of_fields fs ≤ MAX_NODES → AreOf ls [] (field_types fs) → layout_of l ≡ layout_at (fields k fs))
    (λ l. (s : Standing) → layouts_in c.args.self.now ≡ map layout_at (types_by s types) → layout_of l ≡ layout_of_fields_at (result_fields (option_map (replaced s) answer)))
    (λ l f s e. f tuple_type no_fields (omega arith) tt ∙ ap (λ o. layout_of_fields_at (result_fields (option_map (replaced s) o))) (sym none)) c.fields_layout.ensures
