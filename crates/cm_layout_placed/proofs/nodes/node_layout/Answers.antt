use Rattle.std.proofs.Common.{◌≡◌, ◌≤◌, ◌∙◌, [], ◌∷◌, ℕ, map, arith, ap, refl, sym, rules, Option, Some, None, is_some, Vec, Global}
use Rattle.std.specs.declared.rc.Rc.{Rc}
use Rattle.std.specs.Option.{option_map}
use Rattle.std.proofs.lemmas.Result.{IfOk-weaker}
use Rattle.cm_types.specs.Limits.{nodes_of, nodes_of_cases, nodes_of_fields}
use Rattle.cm_types.specs.declared.limits.TheConstants.{MAX_NODES}
use Rattle.cm_types.specs.TypeTrees.{type_of, cases_of, fields_of, parts_of, plain_from, shared_payload}
use Rattle.cm_types.specs.Types.{Ty, Fields, FieldsKind, fields, record_type, tuple_type, cases, option_type, result_type, variant_type, enum_type, fixed_list}
use Rattle.cm_types.specs.declared.type_trees.TypeNode.{TypeNode, the_lemmas}
use Rattle.cm_types.specs.declared.type_trees.TypeNode.TheViews as node
use Rattle.cm_types.specs.declared.type_trees.TypeNode.TheVariants as leaf
use Rattle.cm_types.specs.declared.type_trees.Field.{Field}
use Rattle.cm_types.specs.declared.type_trees.Case.{Case}
use Rattle.cm_types.specs.declared.names.Label.{Label}
use Rattle.cm_layout.specs.Layouts.{layout_of}
use Rattle.cm_layout.specs.Shapes.{layout_at}
use Rattle.cm_types_arena.specs.Arena.{field_types, payload_types}
use Rattle.cm_types_arena.specs.Replaced.{Standing, replaced, replaced_cases, replaced_fields}
use Rattle.cm_layout_placed.specs.Placed.{AreOf, option_cases, result_cases}
use Rattle.cm_layout_placed.proofs.ReplacedLaws.{result_by, some_by}
use Rattle.cm_layout_placed.proofs.nodes.node_layout.Goals as goal
use Rattle.cm_types_arena.proofs.ReplacedLemmas.{plain_by}

seen_Record : (v : Rc (Vec Field Global) Global) → type_of (node.Record v) ≡ fields record_type (fields_of v.value.items)
seen_Record v = search (rules, the_lemmas)

seen_Tuple : (v : Rc (Vec TypeNode Global) Global) → type_of (node.Tuple v) ≡ fields tuple_type (parts_of v.value.items)
seen_Tuple v = search (rules, the_lemmas)

seen_Option : (b : Rc TypeNode Global) → type_of (node.Option b) ≡ cases option_type (option_cases (type_of b.value))
seen_Option b = search (rules, the_lemmas)

seen_Result : (ok error : Option (Rc TypeNode Global)) → type_of (node.Result ok error) ≡ cases result_type (result_cases (shared_payload ok) (shared_payload error))
seen_Result ok error = search (rules, the_lemmas)

seen_Variant : (v : Rc (Vec Case Global) Global) → type_of (node.Variant v) ≡ cases variant_type (cases_of v.value.items)
seen_Variant v = search (rules, the_lemmas)

same_some : (o : Option (Rc TypeNode Global)) → is_some (shared_payload o) ≡ is_some o
same_some None = refl
same_some (Some b) = refl

pub option_layout-requires : goal.option_layout-requires
option_layout-requires g c =
    let s = g.R.Replacement.replacement c.args.by.now in
    let is = ap (replaced s) (ap type_of c.in-Option.is ∙ seen_Option c.in-Option.field-0) in
    (replaced s (type_of c.in-Option.field-0.value), rw is at c.requires.within, rw is at c.requires.parts)

pub returns-in-Result : goal.returns-in-Result
returns-in-Result g c =
    let s = g.R.Replacement.replacement c.args.by.now in
    let ls = map layout_of c.args.layouts.now in
    let ok = option_map (replaced s) (shared_payload c.in-Result.ok) in
    let error = option_map (replaced s) (shared_payload c.in-Result.error) in
    let is = ap (replaced s) (ap type_of c.in-Result.is ∙ seen_Result c.in-Result.ok c.in-Result.error) ∙ result_by s (shared_payload c.in-Result.ok) (shared_payload c.in-Result.error) in
    rw is (IfOk-weaker c.result_layout.result
    (λ l. (p q : Option Ty) → nodes_of (cases result_type (result_cases p q)) ≤ MAX_NODES → is_some p ≡ c.is_some.result → is_some q ≡ c.is_some-in-Result.result
    → AreOf ls c.args.places.now (payload_types (result_cases p q)) → layout_of l ≡ layout_at (cases result_type (result_cases p q)))
    (λ l. layout_of l ≡ layout_at (cases result_type (result_cases ok error)))
    (λ l f. f ok error (rw is at c.requires.within) (some_by s (shared_payload c.in-Result.ok) ∙ same_some c.in-Result.ok ∙ sym c.is_some.ensures) (some_by s (shared_payload c.in-Result.error) ∙ same_some c.in-Result.error ∙ sym c.is_some-in-Result.ensures) (rw is at c.requires.parts))
    c.result_layout.ensures)

pub returns-in-Record : goal.returns-in-Record
returns-in-Record g c =
    let s = g.R.Replacement.replacement c.args.by.now in
    let ls = map layout_of c.args.layouts.now in
    let all = replaced_fields s (fields_of c.in-Record._fields.value.items) in
    let is = ap (replaced s) (ap type_of c.in-Record.is ∙ seen_Record c.in-Record._fields) in
    rw is (IfOk-weaker c.fields_layout.result
    (λ l. (k : FieldsKind) (fs : Fields) → nodes_of_fields fs ≤ MAX_NODES → AreOf ls c.args.places.now (field_types fs) → layout_of l ≡ layout_at (fields k fs))
    (λ l. layout_of l ≡ layout_at (fields record_type all))
    (λ l f. f record_type all (omega (arith, rw is at c.requires.within)) (rw is at c.requires.parts))
    c.fields_layout.ensures)

pub returns-in-Tuple : goal.returns-in-Tuple
returns-in-Tuple g c =
    let s = g.R.Replacement.replacement c.args.by.now in
    let ls = map layout_of c.args.layouts.now in
    let all = replaced_fields s (parts_of c.in-Tuple._parts.value.items) in
    let is = ap (replaced s) (ap type_of c.in-Tuple.is ∙ seen_Tuple c.in-Tuple._parts) in
    rw is (IfOk-weaker c.fields_layout-in-Tuple.result
    (λ l. (k : FieldsKind) (fs : Fields) → nodes_of_fields fs ≤ MAX_NODES → AreOf ls c.args.places.now (field_types fs) → layout_of l ≡ layout_at (fields k fs))
    (λ l. layout_of l ≡ layout_at (fields tuple_type all))
    (λ l f. f tuple_type all (omega (arith, rw is at c.requires.within)) (rw is at c.requires.parts))
    c.fields_layout-in-Tuple.ensures)

seen_FixedList : (b : Rc TypeNode Global) (n : ℕ) → type_of (node.FixedList b n) ≡ fixed_list (type_of b.value) n
seen_FixedList b n = search (rules, the_lemmas)

seen_Enum : (v : Rc (Vec Label Global) Global) → type_of (leaf.Enum v) ≡ cases enum_type (plain_from v.value.items)
seen_Enum v = search (rules, the_lemmas)

pub result_layout-requires : goal.result_layout-requires
result_layout-requires g c =
    let s = g.R.Replacement.replacement c.args.by.now in
    let ok = option_map (replaced s) (shared_payload c.in-Result.ok) in
    let error = option_map (replaced s) (shared_payload c.in-Result.error) in
    let is = ap (replaced s) (ap type_of c.in-Result.is ∙ seen_Result c.in-Result.ok c.in-Result.error) ∙ result_by s (shared_payload c.in-Result.ok) (shared_payload c.in-Result.error) in (
      ok,
      error,
      rw is at c.requires.within,
      some_by s (shared_payload c.in-Result.ok) ∙ same_some c.in-Result.ok ∙ sym c.is_some.ensures,
      some_by s (shared_payload c.in-Result.error) ∙ same_some c.in-Result.error ∙ sym c.is_some-in-Result.ensures,
      rw is at c.requires.parts,
    )

pub cases_layout-requires : goal.cases_layout-requires
cases_layout-requires g c =
    let s = g.R.Replacement.replacement c.args.by.now in
    let row = c.in-Variant.cases.value.items in
    let is = ap (replaced s) (ap type_of c.in-Variant.is ∙ seen_Variant c.in-Variant.cases) in
    let few : nodes_of_cases (replaced_cases s (cases_of row)) ≤ MAX_NODES = omega (arith, rw is at c.requires.within) in
    rw (c.deref-in-Variant.ensures.value, c.deref.ensures) (s, few, rw is at c.requires.parts)

pub returns-in-Variant : goal.returns-in-Variant
returns-in-Variant g c =
    let s = g.R.Replacement.replacement c.args.by.now in
    let ls = map layout_of c.args.layouts.now in
    let row = c.in-Variant.cases.value.items in
    let is = ap (replaced s) (ap type_of c.in-Variant.is ∙ seen_Variant c.in-Variant.cases) in
    let few : nodes_of_cases (replaced_cases s (cases_of row)) ≤ MAX_NODES = omega (arith, rw is at c.requires.within) in
    let e = rw (c.deref-in-Variant.ensures.value, c.deref.ensures) at c.cases_layout.ensures in
    rw is (IfOk-weaker c.cases_layout.result
    (λ l. (u : Standing) → nodes_of_cases (replaced_cases u (cases_of row)) ≤ MAX_NODES → AreOf ls c.args.places.now (payload_types (replaced_cases u (cases_of row)))
    → layout_of l ≡ layout_at (cases variant_type (replaced_cases u (cases_of row))))
    (λ l. layout_of l ≡ layout_at (cases variant_type (replaced_cases s (cases_of row))))
    (λ l f. f s few (rw is at c.requires.parts)) e)

pub returns-in-Enum : goal.returns-in-Enum
returns-in-Enum g c =
    let s = g.R.Replacement.replacement c.args.by.now in
    let is = ap (replaced s) (ap type_of c.in-Enum.is ∙ seen_Enum c.in-Enum.labels) ∙ ap (cases enum_type) (plain_by s c.in-Enum.labels.value.items) in
    rw is (c.enumeration.ensures c.in-Enum.labels.value.items (search (rules, c.len.ensures, c.deref-in-Enum.ensures)))

pub returns-in_ok-share_nth-in-FixedList : goal.returns-in_ok-share_nth-in-FixedList
returns-in_ok-share_nth-in-FixedList g c =
    let s = g.R.Replacement.replacement c.args.by.now in
    let t = replaced s (type_of c.in-FixedList.element.value) in
    let is = ap (replaced s) (ap type_of c.in-FixedList.is ∙ seen_FixedList c.in-FixedList.element c.in-FixedList.length) in
    rw is (IfOk-weaker c.fixed_list.result (λ l. (u : Ty) → layout_of c.in_ok-share_nth-in-FixedList.field-0 ≡ layout_at u → layout_of l ≡ layout_at (fixed_list u c.in-FixedList.length))
    (λ l. layout_of l ≡ layout_at (fixed_list t c.in-FixedList.length))
    (λ l f. f t (c.in_ok-share_nth-in-FixedList.ensures (t ∷ []) (rw is at c.requires.parts) (omega arith))) c.fixed_list.ensures)
