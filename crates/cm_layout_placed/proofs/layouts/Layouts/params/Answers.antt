use Rattle.std.proofs.Common.{◌≡◌, ◌≤◌, ◌∙◌, map, length, arith, ap}
use Rattle.std.proofs.lemmas.Result.{IfOk-weaker}
use Rattle.cm_types.specs.Limits.{nodes_of_fields}
use Rattle.cm_types.specs.TypeTrees.{fields_of}
use Rattle.cm_types.specs.Types.{Fields, FieldsKind, fields, tuple_type}
use Rattle.cm_types.specs.declared.limits.TheConstants.{MAX_NODES}
use Rattle.cm_layout.specs.Layouts.{layout_of}
use Rattle.cm_layout.specs.Shapes.{layout_at, layout_of_fields_at}
use Rattle.cm_types_arena.specs.Arena.{field_types}
use Rattle.cm_types_arena.specs.Places.{funcs_of, types_of}
use Rattle.cm_types_arena.specs.TypeDefs.{func_at, type_at}
use Rattle.cm_types_arena.specs.Replaced.{Standing, replaced, replaced_fields}
use Rattle.cm_layout_placed.specs.Placed.{AreOf, layouts_in, types_by}
use Rattle.cm_layout_placed.proofs.PlacedLaws.{all_laid, are_of}
use Rattle.cm_layout_placed.proofs.ReplacedLaws.{as_many_by, fields_by, fields_nodes, types_at_by}
use Rattle.cm_layout_placed.proofs.layouts.Layouts.params.Goals as goal

pub fields_layout-requires : goal.fields_layout-requires
fields_layout-requires c =
    let s = c.requires.laid.0 in
    let types = types_of c.args.types.now in
    let all = (func_at (funcs_of c.args.types.now) c.args.func).params in
    let f = c.func-func.result.now in
    let is : fields_of f.params.items ≡ all = ap (λ g. g.params) c.func-func.ensures in
    let few : nodes_of_fields (replaced_fields s all) ≤ MAX_NODES =
    omega (arith, fields_nodes s all (c.what_stays.ensures.nodes s (fields tuple_type all)), ap nodes_of_fields is, f.within_limits.0) in
    let laid : map layout_of c.deref.result.now ≡ map layout_at (types_by s types) = ap (map layout_of) c.deref.ensures.value ∙ c.requires.laid.1 in
    let parts : field_types (replaced_fields s all) ≡ map (type_at (types_by s types)) c.func_params.result.now = fields_by s all ∙ ap (map (replaced s)) c.func_params.ensures.params ∙ types_at_by s types c.func_params.result.now in
    (replaced_fields s all, few, rw (laid, parts) (are_of (map layout_at (types_by s types)) (types_by s types) (length types) c.func_params.result.now (rw (as_many_by s types) at (all_laid (types_by s types))) c.func_params.ensures.there))

pub returns : goal.returns
returns c =
    let types = types_of c.args.types.now in
    let all = (func_at (funcs_of c.args.types.now) c.args.func).params in
    let f = c.func-func.result.now in
    let ls = map layout_of c.deref.result.now in
    let ps = c.func_params.result.now in
    let is : fields_of f.params.items ≡ all = ap (λ g. g.params) c.func-func.ensures in
    IfOk-weaker c.fields_layout.result
    (λ l. (k : FieldsKind) (fs : Fields) → nodes_of_fields fs ≤ MAX_NODES → AreOf ls ps (field_types fs) → layout_of l ≡ layout_at (fields k fs))
    (λ l. (s : Standing) → layouts_in c.args.self.now ≡ map layout_at (types_by s types) → layout_of l ≡ layout_of_fields_at (replaced_fields s all))
    (λ l h s e.
    let few : nodes_of_fields (replaced_fields s all) ≤ MAX_NODES =
    omega (arith, fields_nodes s all (c.what_stays.ensures.nodes s (fields tuple_type all)), ap nodes_of_fields is, f.within_limits.0) in
    let laid : ls ≡ map layout_at (types_by s types) = ap (map layout_of) c.deref.ensures.value ∙ e in
    let parts : field_types (replaced_fields s all) ≡ map (type_at (types_by s types)) ps = fields_by s all ∙ ap (map (replaced s)) c.func_params.ensures.params ∙ types_at_by s types ps in
    let there : AreOf ls ps (field_types (replaced_fields s all)) =
    rw (laid, parts) (are_of (map layout_at (types_by s types)) (types_by s types) (length types) ps (rw (as_many_by s types) at (all_laid (types_by s types))) c.func_params.ensures.there) in
    h tuple_type (replaced_fields s all) few there) c.fields_layout.ensures
