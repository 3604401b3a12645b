use Rattle.std.proofs.Common.{◌≡◌, ◌≤◌, ◌∙◌, [], ◌∷◌, map, Some, arith, ap}
use Rattle.std.proofs.lemmas.Result.{IfOk-weaker}
use Rattle.cm_types.specs.Limits.{nodes_of_fields}
use Rattle.cm_types.specs.Types.{Fields, FieldsKind, field, fields, no_fields, tuple_type}
use Rattle.cm_types.specs.declared.limits.TheConstants.{MAX_NODES}
use Rattle.cm_layout.specs.Layouts.{layout_of}
use Rattle.cm_layout.specs.Shapes.{layout_at, layout_of_fields_at}
use Rattle.cm_types_arena.specs.Arena.{field_types}
use Rattle.cm_types_arena.specs.Places.{types_of}
use Rattle.cm_types_arena.specs.TypeDefs.{type_at}
use Rattle.cm_types_arena.specs.Replaced.{Standing, replaced}
use Rattle.cm_layout_placed.specs.Placed.{AreOf, layouts_in, result_fields, types_by}
use Rattle.cm_layout_placed.proofs.PlacedLaws.{all_laid}
use Rattle.cm_layout_placed.proofs.ReplacedLaws.{as_many_by, type_by}
use Rattle.cm_layout_placed.proofs.layouts.Layouts.one.Goals as goal

pub fields_layout-requires : goal.fields_layout-requires
fields_layout-requires c =
    let s = c.requires.laid.0 in
    let types = types_of c.args.types.now in
    let p = c.args.place in
    let t = replaced s (type_at types p) in
    let few : nodes_of_fields (field [] t no_fields) ≤ MAX_NODES = omega (arith, c.what_stays.ensures.nodes s (type_at types p), c.types_are_lawful.ensures.within.0) in
    let laid : map layout_of c.deref.result.now ≡ map layout_at (types_by s types) = ap (map layout_of) c.deref.ensures.value ∙ c.requires.laid.1 in
    let h = all_laid (types_by s types) p (omega (arith, c.requires.there, as_many_by s types)) in
    (field [] t no_fields, few, rw laid (h.0, h.1 ∙ ap layout_at (type_by s types p), tt))

pub returns : goal.returns
returns c =
    let types = types_of c.args.types.now in
    let p = c.args.place in
    let ls = map layout_of c.deref.result.now in
    IfOk-weaker c.fields_layout.result
    (λ l. (k : FieldsKind) (fs : Fields) → nodes_of_fields fs ≤ MAX_NODES → AreOf ls (p ∷ []) (field_types fs) → layout_of l ≡ layout_at (fields k fs))
    (λ l. (s : Standing) → layouts_in c.args.self.now ≡ map layout_at (types_by s types) → layout_of l ≡ layout_of_fields_at (result_fields (Some (replaced s (type_at types p)))))
    (λ l f s e.
    let t = replaced s (type_at types p) in
    let few : nodes_of_fields (field [] t no_fields) ≤ MAX_NODES = omega (arith, c.what_stays.ensures.nodes s (type_at types p), c.types_are_lawful.ensures.within.0) in
    let laid : ls ≡ map layout_at (types_by s types) = ap (map layout_of) c.deref.ensures.value ∙ e in
    let h = all_laid (types_by s types) p (omega (arith, c.requires.there, as_many_by s types)) in
    f tuple_type (field [] t no_fields) few (rw laid (h.0, h.1 ∙ ap layout_at (type_by s types p), tt))) c.fields_layout.ensures
