use Rattle.std.proofs.Common.{◌≡◌, ◌∙◌, ◌∷◌, map, take, ap, sym, rules, Vec, Global, ℕ, Option}
use Rattle.std.specs.declared.rc.Rc.{Rc}
use Rattle.std.proofs.lemmas.Result.{IfOk-weaker}
use Rattle.cm_types.specs.declared.core_value.CoreKind.TheVariants.{I32}
use Rattle.cm_types.specs.declared.names.Label.{Label}
use Rattle.cm_types.specs.TypeTrees.{type_of, cases_of, fields_of, parts_of, plain_from, shared_payload}
use Rattle.cm_types.specs.Types.{fields, record_type, tuple_type, cases, variant_type, enum_type, option_type, result_type, fixed_list}
use Rattle.cm_types.specs.declared.type_trees.TypeNode.{TypeNode, the_lemmas}
use Rattle.cm_types.specs.declared.type_trees.TypeNode.TheViews as node
use Rattle.cm_types.specs.declared.type_trees.TypeNode.TheVariants as leaf
use Rattle.cm_types.specs.declared.type_trees.Case.{Case}
use Rattle.cm_types.specs.declared.type_trees.Field.{Field}
use Rattle.cm_layout.specs.Flattening.{copies}
use Rattle.cm_types_arena.specs.Arena.{parts_in}
use Rattle.cm_layout_placed.specs.Kinds.{in_turn, joined, kinds_at}
use Rattle.cm_layout_placed.specs.Placed.{first_kinds, option_cases, result_cases}
use Rattle.cm_layout_placed.proofs.KindLaws.{case_kinds, copy_kinds, field_kinds}
use Rattle.cm_layout_placed.proofs.kinds.node_kinds.Goals as goal

seen_Record : (v : Rc (Vec Field Global) Global) → type_of (node.Record v) ≡ fields record_type (fields_of v.value.items)
seen_Record v = search (rules, the_lemmas)

seen_Tuple : (v : Rc (Vec TypeNode Global) Global) → type_of (node.Tuple v) ≡ fields tuple_type (parts_of v.value.items)
seen_Tuple v = search (rules, the_lemmas)

seen_Variant : (v : Rc (Vec Case Global) Global) → type_of (node.Variant v) ≡ cases variant_type (cases_of v.value.items)
seen_Variant v = search (rules, the_lemmas)

seen_Enum : (v : Rc (Vec Label Global) Global) → type_of (leaf.Enum v) ≡ cases enum_type (plain_from v.value.items)
seen_Enum v = search (rules, the_lemmas)

seen_Option : (b : Rc TypeNode Global) → type_of (node.Option b) ≡ cases option_type (option_cases (type_of b.value))
seen_Option b = search (rules, the_lemmas)

seen_Result : (ok error : Option (Rc TypeNode Global)) → type_of (node.Result ok error) ≡ cases result_type (result_cases (shared_payload ok) (shared_payload error))
seen_Result ok error = search (rules, the_lemmas)

seen_FixedList : (b : Rc TypeNode Global) (n : ℕ) → type_of (node.FixedList b n) ≡ fixed_list (type_of b.value) n
seen_FixedList b n = search (rules, the_lemmas)

pub returns-in-Record : goal.returns-in-Record
returns-in-Record c =
    let kss = map (λ v. v.items) c.args.kinds.now in
    let ps = c.args.places.now in
    let fs = fields_of c.in-Record._fields.value.items in
    let is = ap type_of c.in-Record.is ∙ seen_Record c.in-Record._fields in
    IfOk-weaker c.kinds_in_turn-in-Record.result (λ ks. ks.items ≡ take 16 (in_turn (map (kinds_at kss) ps))) (λ ks. ks.items ≡ first_kinds (type_of c.args.node.now))
    (λ ks e. e ∙ field_kinds kss ps fs (c.requires.parts ∙ ap (λ t. map first_kinds (parts_in t)) is) ∙ ap first_kinds (sym is)) c.kinds_in_turn-in-Record.ensures

pub returns-in-Tuple : goal.returns-in-Tuple
returns-in-Tuple c =
    let kss = map (λ v. v.items) c.args.kinds.now in
    let ps = c.args.places.now in
    let fs = parts_of c.in-Tuple._parts.value.items in
    let is = ap type_of c.in-Tuple.is ∙ seen_Tuple c.in-Tuple._parts in
    IfOk-weaker c.kinds_in_turn-in-Tuple.result (λ ks. ks.items ≡ take 16 (in_turn (map (kinds_at kss) ps))) (λ ks. ks.items ≡ first_kinds (type_of c.args.node.now))
    (λ ks e. e ∙ field_kinds kss ps fs (c.requires.parts ∙ ap (λ t. map first_kinds (parts_in t)) is) ∙ ap first_kinds (sym is)) c.kinds_in_turn-in-Tuple.ensures

pub returns-in-Variant : goal.returns-in-Variant
returns-in-Variant c =
    let kss = map (λ v. v.items) c.args.kinds.now in
    let ps = c.args.places.now in
    let cs = cases_of c.in-Variant._cases.value.items in
    let is = ap type_of c.in-Variant.is ∙ seen_Variant c.in-Variant._cases in
    IfOk-weaker c.cases_kinds.result (λ ks. ks.items ≡ take 16 (I32 ∷ joined (map (kinds_at kss) ps))) (λ ks. ks.items ≡ first_kinds (type_of c.args.node.now))
    (λ ks e. e ∙ case_kinds kss ps cs (c.requires.parts ∙ ap (λ t. map first_kinds (parts_in t)) is) ∙ ap first_kinds (sym is)) c.cases_kinds.ensures

pub returns-in-Enum : goal.returns-in-Enum
returns-in-Enum c =
    let kss = map (λ v. v.items) c.args.kinds.now in
    let ps = c.args.places.now in
    let cs = plain_from c.in-Enum._labels.value.items in
    let is = ap type_of c.in-Enum.is ∙ seen_Enum c.in-Enum._labels in
    IfOk-weaker c.cases_kinds-in-Enum.result (λ ks. ks.items ≡ take 16 (I32 ∷ joined (map (kinds_at kss) ps))) (λ ks. ks.items ≡ first_kinds (type_of c.args.node.now))
    (λ ks e. e ∙ case_kinds kss ps cs (c.requires.parts ∙ ap (λ t. map first_kinds (parts_in t)) is) ∙ ap first_kinds (sym is)) c.cases_kinds-in-Enum.ensures

pub returns-in-Option : goal.returns-in-Option
returns-in-Option c =
    let kss = map (λ v. v.items) c.args.kinds.now in
    let ps = c.args.places.now in
    let cs = option_cases (type_of c.in-Option._some.value) in
    let is = ap type_of c.in-Option.is ∙ seen_Option c.in-Option._some in
    IfOk-weaker c.cases_kinds-in-Option.result (λ ks. ks.items ≡ take 16 (I32 ∷ joined (map (kinds_at kss) ps))) (λ ks. ks.items ≡ first_kinds (type_of c.args.node.now))
    (λ ks e. e ∙ case_kinds kss ps cs (c.requires.parts ∙ ap (λ t. map first_kinds (parts_in t)) is) ∙ ap first_kinds (sym is)) c.cases_kinds-in-Option.ensures

pub returns-in-Result : goal.returns-in-Result
returns-in-Result c =
    let kss = map (λ v. v.items) c.args.kinds.now in
    let ps = c.args.places.now in
    let cs = result_cases (shared_payload c.in-Result.ok) (shared_payload c.in-Result.error) in
    let is = ap type_of c.in-Result.is ∙ seen_Result c.in-Result.ok c.in-Result.error in
    IfOk-weaker c.cases_kinds-in-Result.result (λ ks. ks.items ≡ take 16 (I32 ∷ joined (map (kinds_at kss) ps))) (λ ks. ks.items ≡ first_kinds (type_of c.args.node.now))
    (λ ks e. e ∙ case_kinds kss ps cs (c.requires.parts ∙ ap (λ t. map first_kinds (parts_in t)) is) ∙ ap first_kinds (sym is)) c.cases_kinds-in-Result.ensures

pub returns-in_ok-element-in-FixedList : goal.returns-in_ok-element-in-FixedList
returns-in_ok-element-in-FixedList c =
    let kss = map (λ v. v.items) c.args.kinds.now in
    let ps = c.args.places.now in
    let t = type_of c.in-FixedList.element.value in
    let n = c.in-FixedList.length in
    let is = ap type_of c.in-FixedList.is ∙ seen_FixedList c.in-FixedList.element c.in-FixedList.length in
    let of : c.deref.result.now ≡ take 16 (in_turn (map (kinds_at kss) ps)) = c.deref.ensures.value ∙ c.in_ok-element-in-FixedList.ensures in
    IfOk-weaker c.copied_kinds.result (λ ks. ks.items ≡ take 16 (copies n c.deref.result.now)) (λ ks. ks.items ≡ first_kinds (type_of c.args.node.now))
    (λ ks e. e ∙ ap (λ l. take 16 (copies n l)) of ∙ copy_kinds kss ps t n (c.requires.parts ∙ ap (λ u. map first_kinds (parts_in u)) is) ∙ ap first_kinds (sym is)) c.copied_kinds.ensures
