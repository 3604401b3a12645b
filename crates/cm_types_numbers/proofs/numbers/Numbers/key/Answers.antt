use Rattle.std.proofs.Common.{◌≡◌, ◌∙◌, ap, length, List, ℕ, map, Some, sym, subst}
use Rattle.std.proofs.lemmas.Result.{IfOk-from_err}
use Rattle.cm_types.specs.declared.type_trees.Case.{Case}
use Rattle.cm_types.specs.declared.type_trees.Field.{Field}
use Rattle.cm_types.specs.Types.{Ty}
use Rattle.cm_types.specs.TypeTrees.{cases_of, fields_of, parts_of, shared_payload, type_of}
use Rattle.cm_types_arena.specs.Arena.{field_types, payload_types, parts_in}
use Rattle.cm_types_arena.specs.Replaced.{replaced, replaced_cases, replaced_fields}
use Rattle.cm_types_numbers.specs.Numbering.{numbering, number, AreNumbers, number_cases, number_fields, number_labels, result_cases}
use Rattle.cm_types_numbers.proofs.ChainLemmas.{parts_are}
use Rattle.cm_types_numbers.proofs.NodeLemmas.{list_numbered, fixed_list_numbered, record_numbered, tuple_numbered, variant_numbered, enum_numbered, flags_numbered, option_numbered, result_numbered}
use Rattle.cm_types_numbers.proofs.Seen.{seen_Result}
use Rattle.cm_types_numbers.proofs.Stays.{extends_itself}
use Rattle.cm_types_numbers.proofs.numbers.Numbers.key.Goals as goal
use Rattle.cm_types_arena.proofs.ArenaLemmas.{fields_long}
use Rattle.cm_types.proofs.TypesLaws.{seen_Bool, seen_Char, seen_S16, seen_S32, seen_S64, seen_S8, seen_U16, seen_U32, seen_U64, seen_U8}
use Rattle.cm_types.proofs.Seen.{seen_Enum, seen_FixedList, seen_Flags, seen_List, seen_Option, seen_Record, seen_StringType, seen_Tuple, seen_Variant}

pub fields-requires : goal.fields-requires
fields-requires g c =
    let seen = ap type_of c.in-Record.is ∙ seen_Record c.in-Record.fields in
    let items = c.deref-in-Record.ensures.value ∙ ap (λ v. v.items) c.deref.ensures in
    c.requires ∙ ap (λ y. length (parts_in y)) seen ∙ fields_long c.in-Record.fields.value.items ∙ sym (ap length items)

pub returns-in-List-clause-node : goal.returns-in-List-clause-node
returns-in-List-clause-node g c = λ are later e.
    list_numbered (numbering c.args.self.now) later e (g.R.Replacement.replacement c.args.replacement.now) (type_of c.args.ty.now) c.args.parts.now are (type_of c.in-List.field-0.value) (ap type_of c.in-List.is ∙ seen_List c.in-List.field-0)

pub returns-in-FixedList-clause-node : goal.returns-in-FixedList-clause-node
returns-in-FixedList-clause-node g c = λ are later e.
    fixed_list_numbered (numbering c.args.self.now) later e (g.R.Replacement.replacement c.args.replacement.now) (type_of c.args.ty.now) c.args.parts.now are (type_of c.in-FixedList.element.value) c.in-FixedList.length (ap type_of c.in-FixedList.is ∙ seen_FixedList c.in-FixedList.element c.in-FixedList.length)

pub returns-in_ok-fields-in-Record-clause-node : goal.returns-in_ok-fields-in-Record-clause-node
returns-in_ok-fields-in-Record-clause-node g c = λ are later e.
    let s = g.R.Replacement.replacement c.args.replacement.now in
    let seen = ap type_of c.in-Record.is ∙ seen_Record c.in-Record.fields in
    let items = c.deref-in-Record.ensures.value ∙ ap (λ v. v.items) c.deref.ensures in
    record_numbered (numbering c.args.self.now) (numbering c.fields.new.self) later e s (type_of c.args.ty.now) c.args.parts.now are c.in_ok-fields-in-Record.field-0 (fields_of c.in-Record.fields.value.items) seen
    (subst (λ (fs : List Field). AreNumbers (numbering c.args.self.now) s (field_types (fields_of fs)) c.args.parts.now → number_fields (numbering c.fields.new.self) (replaced_fields s (fields_of fs)) ≡ Some c.in_ok-fields-in-Record.field-0) items (c.in_ok-fields-in-Record.ensures.number s))

pub returns-in_ok-parts-in-Tuple-clause-node : goal.returns-in_ok-parts-in-Tuple-clause-node
returns-in_ok-parts-in-Tuple-clause-node g c = λ are later e.
    let s = g.R.Replacement.replacement c.args.replacement.now in
    let ts : List Ty = map type_of c.in-Tuple.field-0.value.items in
    tuple_numbered (numbering c.args.self.now) (numbering c.parts.new.self) later e s (type_of c.args.ty.now) c.args.parts.now are c.in_ok-parts-in-Tuple.field-0 (parts_of c.in-Tuple.field-0.value.items) (ap type_of c.in-Tuple.is ∙ seen_Tuple c.in-Tuple.field-0)
    (λ h. c.in_ok-parts-in-Tuple.ensures.number s ts (subst (λ (us : List Ty). AreNumbers (numbering c.args.self.now) s us c.args.parts.now) (parts_are ts) h))

pub returns-in_ok-cases-in-Variant-clause-node : goal.returns-in_ok-cases-in-Variant-clause-node
returns-in_ok-cases-in-Variant-clause-node g c = λ are later e.
    let s = g.R.Replacement.replacement c.args.replacement.now in
    let items = c.deref-in-Variant-2.ensures.value ∙ ap (λ v. v.items) c.deref-in-Variant.ensures in
    variant_numbered (numbering c.args.self.now) (numbering c.cases.new.self) later e s (type_of c.args.ty.now) c.args.parts.now are c.in_ok-cases-in-Variant.field-0 (cases_of c.in-Variant.cases.value.items) (ap type_of c.in-Variant.is ∙ seen_Variant c.in-Variant.cases)
    (subst (λ (cs : List Case). AreNumbers (numbering c.args.self.now) s (payload_types (cases_of cs)) c.args.parts.now → number_cases (numbering c.cases.new.self) (replaced_cases s (cases_of cs)) ≡ Some c.in_ok-cases-in-Variant.field-0) items (c.in_ok-cases-in-Variant.ensures.number s))

pub returns-in_ok-labels-in-Enum-clause-node : goal.returns-in_ok-labels-in-Enum-clause-node
returns-in_ok-labels-in-Enum-clause-node g c = λ are later e.
    let s = g.R.Replacement.replacement c.args.replacement.now in
    let items = c.deref-in-Enum-2.ensures.value ∙ ap (λ v. v.items) c.deref-in-Enum.ensures in
    enum_numbered (numbering c.args.self.now) (numbering c.labels.new.self) later e s (type_of c.args.ty.now) c.args.parts.now are c.in_ok-labels-in-Enum.field-0 c.in-Enum.labels.value.items (ap type_of c.in-Enum.is ∙ seen_Enum c.in-Enum.labels)
    (subst (λ (ls : List (List ℕ)). number_labels (numbering c.labels.new.self) ls ≡ Some c.in_ok-labels-in-Enum.field-0) items c.in_ok-labels-in-Enum.ensures.number)

pub returns-in_ok-labels-in-Flags-clause-node : goal.returns-in_ok-labels-in-Flags-clause-node
returns-in_ok-labels-in-Flags-clause-node g c = λ are later e.
    let s = g.R.Replacement.replacement c.args.replacement.now in
    let items = c.deref-in-Flags-2.ensures.value ∙ ap (λ v. v.items) c.deref-in-Flags.ensures in
    flags_numbered (numbering c.args.self.now) (numbering c.labels-in-Flags.new.self) later e s (type_of c.args.ty.now) c.args.parts.now are c.in_ok-labels-in-Flags.field-0 c.in-Flags.labels.value.items (ap type_of c.in-Flags.is ∙ seen_Flags c.in-Flags.labels)
    (subst (λ (ls : List (List ℕ)). number_labels (numbering c.labels-in-Flags.new.self) ls ≡ Some c.in_ok-labels-in-Flags.field-0) items c.in_ok-labels-in-Flags.ensures.number)

pub returns-in_ok-two_cases-in-Option-clause-node : goal.returns-in_ok-two_cases-in-Option-clause-node
returns-in_ok-two_cases-in-Option-clause-node g c = λ are later e.
    let s = g.R.Replacement.replacement c.args.replacement.now in
    option_numbered (numbering c.args.self.now) (numbering c.two_cases.new.self) later e s (type_of c.args.ty.now) c.args.parts.now are c.in_ok-two_cases-in-Option.field-0 (type_of c.in-Option.field-0.value) (ap type_of c.in-Option.is ∙ seen_Option c.in-Option.field-0)
    c.in_ok-two_cases-in-Option.ensures.number

pub returns-in_ok-result_cases-in-Result-clause-node : goal.returns-in_ok-result_cases-in-Result-clause-node
returns-in_ok-result_cases-in-Result-clause-node g c = λ are later e.
    let s = g.R.Replacement.replacement c.args.replacement.now in
    result_numbered (numbering c.args.self.now) (numbering c.result_cases.new.self) later e s (type_of c.args.ty.now) c.args.parts.now are c.in_ok-result_cases-in-Result.field-0 (result_cases (shared_payload c.in-Result.ok) (shared_payload c.in-Result.error)) (ap type_of c.in-Result.is ∙ seen_Result c.in-Result.ok c.in-Result.error)
    (c.in_ok-result_cases-in-Result.ensures.number s)

pub returns-in-Bool-clause-node : goal.returns-in-Bool-clause-node
returns-in-Bool-clause-node g c = λ are later e.
    ap (λ (t : Ty). number later (replaced (g.R.Replacement.replacement c.args.replacement.now) t)) (ap type_of c.in-Bool.is ∙ seen_Bool)

pub returns-in-S8-clause-node : goal.returns-in-S8-clause-node
returns-in-S8-clause-node g c = λ are later e.
    ap (λ (t : Ty). number later (replaced (g.R.Replacement.replacement c.args.replacement.now) t)) (ap type_of c.in-S8.is ∙ seen_S8)

pub returns-in-U8-clause-node : goal.returns-in-U8-clause-node
returns-in-U8-clause-node g c = λ are later e.
    ap (λ (t : Ty). number later (replaced (g.R.Replacement.replacement c.args.replacement.now) t)) (ap type_of c.in-U8.is ∙ seen_U8)

pub returns-in-S16-clause-node : goal.returns-in-S16-clause-node
returns-in-S16-clause-node g c = λ are later e.
    ap (λ (t : Ty). number later (replaced (g.R.Replacement.replacement c.args.replacement.now) t)) (ap type_of c.in-S16.is ∙ seen_S16)

pub returns-in-U16-clause-node : goal.returns-in-U16-clause-node
returns-in-U16-clause-node g c = λ are later e.
    ap (λ (t : Ty). number later (replaced (g.R.Replacement.replacement c.args.replacement.now) t)) (ap type_of c.in-U16.is ∙ seen_U16)

pub returns-in-S32-clause-node : goal.returns-in-S32-clause-node
returns-in-S32-clause-node g c = λ are later e.
    ap (λ (t : Ty). number later (replaced (g.R.Replacement.replacement c.args.replacement.now) t)) (ap type_of c.in-S32.is ∙ seen_S32)

pub returns-in-U32-clause-node : goal.returns-in-U32-clause-node
returns-in-U32-clause-node g c = λ are later e.
    ap (λ (t : Ty). number later (replaced (g.R.Replacement.replacement c.args.replacement.now) t)) (ap type_of c.in-U32.is ∙ seen_U32)

pub returns-in-S64-clause-node : goal.returns-in-S64-clause-node
returns-in-S64-clause-node g c = λ are later e.
    ap (λ (t : Ty). number later (replaced (g.R.Replacement.replacement c.args.replacement.now) t)) (ap type_of c.in-S64.is ∙ seen_S64)

pub returns-in-U64-clause-node : goal.returns-in-U64-clause-node
returns-in-U64-clause-node g c = λ are later e.
    ap (λ (t : Ty). number later (replaced (g.R.Replacement.replacement c.args.replacement.now) t)) (ap type_of c.in-U64.is ∙ seen_U64)

pub returns-in-Char-clause-node : goal.returns-in-Char-clause-node
returns-in-Char-clause-node g c = λ are later e.
    ap (λ (t : Ty). number later (replaced (g.R.Replacement.replacement c.args.replacement.now) t)) (ap type_of c.in-Char.is ∙ seen_Char)

pub returns-in-String-clause-node : goal.returns-in-String-clause-node
returns-in-String-clause-node g c = λ are later e.
    ap (λ (t : Ty). number later (replaced (g.R.Replacement.replacement c.args.replacement.now) t)) (ap type_of c.in-String.is ∙ seen_StringType)

pub returns-in-Bool-clause-kept : goal.returns-in-Bool-clause-kept
returns-in-Bool-clause-kept g c = extends_itself (numbering c.args.self.now)

pub returns-in-S8-clause-kept : goal.returns-in-S8-clause-kept
returns-in-S8-clause-kept g c = extends_itself (numbering c.args.self.now)

pub returns-in-U8-clause-kept : goal.returns-in-U8-clause-kept
returns-in-U8-clause-kept g c = extends_itself (numbering c.args.self.now)

pub returns-in-S16-clause-kept : goal.returns-in-S16-clause-kept
returns-in-S16-clause-kept g c = extends_itself (numbering c.args.self.now)

pub returns-in-U16-clause-kept : goal.returns-in-U16-clause-kept
returns-in-U16-clause-kept g c = extends_itself (numbering c.args.self.now)

pub returns-in-S32-clause-kept : goal.returns-in-S32-clause-kept
returns-in-S32-clause-kept g c = extends_itself (numbering c.args.self.now)

pub returns-in-U32-clause-kept : goal.returns-in-U32-clause-kept
returns-in-U32-clause-kept g c = extends_itself (numbering c.args.self.now)

pub returns-in-S64-clause-kept : goal.returns-in-S64-clause-kept
returns-in-S64-clause-kept g c = extends_itself (numbering c.args.self.now)

pub returns-in-U64-clause-kept : goal.returns-in-U64-clause-kept
returns-in-U64-clause-kept g c = extends_itself (numbering c.args.self.now)

pub returns-in-Char-clause-kept : goal.returns-in-Char-clause-kept
returns-in-Char-clause-kept g c = extends_itself (numbering c.args.self.now)

pub returns-in-String-clause-kept : goal.returns-in-String-clause-kept
returns-in-String-clause-kept g c = extends_itself (numbering c.args.self.now)

pub returns-in-List-clause-kept : goal.returns-in-List-clause-kept
returns-in-List-clause-kept g c = extends_itself (numbering c.args.self.now)

pub returns-in-FixedList-clause-kept : goal.returns-in-FixedList-clause-kept
returns-in-FixedList-clause-kept g c = extends_itself (numbering c.args.self.now)

pub returns-in-Own-clause-kept : goal.returns-in-Own-clause-kept
returns-in-Own-clause-kept g c = extends_itself (numbering c.args.self.now)

pub returns-in-Borrow-clause-kept : goal.returns-in-Borrow-clause-kept
returns-in-Borrow-clause-kept g c = extends_itself (numbering c.args.self.now)

pub returns-in_ok-fields-in-Record-clause-kept : goal.returns-in_ok-fields-in-Record-clause-kept
returns-in_ok-fields-in-Record-clause-kept g c = c.fields.ensures.kept

pub returns-in_err-fields-in-Record-clause-node : goal.returns-in_err-fields-in-Record-clause-node
returns-in_err-fields-in-Record-clause-node g c = IfOk-from_err c.from_residual.result _ c.from_residual.ensures.0

pub returns-in_err-fields-in-Record-clause-kept : goal.returns-in_err-fields-in-Record-clause-kept
returns-in_err-fields-in-Record-clause-kept g c = c.fields.ensures.kept

pub returns-in_ok-parts-in-Tuple-clause-kept : goal.returns-in_ok-parts-in-Tuple-clause-kept
returns-in_ok-parts-in-Tuple-clause-kept g c = c.parts.ensures.kept

pub returns-in_err-parts-in-Tuple-clause-node : goal.returns-in_err-parts-in-Tuple-clause-node
returns-in_err-parts-in-Tuple-clause-node g c = IfOk-from_err c.from_residual-in_err-parts-in-Tuple.result _ c.from_residual-in_err-parts-in-Tuple.ensures.0

pub returns-in_err-parts-in-Tuple-clause-kept : goal.returns-in_err-parts-in-Tuple-clause-kept
returns-in_err-parts-in-Tuple-clause-kept g c = c.parts.ensures.kept

pub returns-in_ok-cases-in-Variant-clause-kept : goal.returns-in_ok-cases-in-Variant-clause-kept
returns-in_ok-cases-in-Variant-clause-kept g c = c.cases.ensures.kept

pub returns-in_err-cases-in-Variant-clause-node : goal.returns-in_err-cases-in-Variant-clause-node
returns-in_err-cases-in-Variant-clause-node g c = IfOk-from_err c.from_residual-in_err-cases-in-Variant.result _ c.from_residual-in_err-cases-in-Variant.ensures.0

pub returns-in_err-cases-in-Variant-clause-kept : goal.returns-in_err-cases-in-Variant-clause-kept
returns-in_err-cases-in-Variant-clause-kept g c = c.cases.ensures.kept

pub returns-in_ok-labels-in-Enum-clause-kept : goal.returns-in_ok-labels-in-Enum-clause-kept
returns-in_ok-labels-in-Enum-clause-kept g c = c.labels.ensures.kept

pub returns-in_err-labels-in-Enum-clause-node : goal.returns-in_err-labels-in-Enum-clause-node
returns-in_err-labels-in-Enum-clause-node g c = IfOk-from_err c.from_residual-in_err-labels-in-Enum.result _ c.from_residual-in_err-labels-in-Enum.ensures.0

pub returns-in_err-labels-in-Enum-clause-kept : goal.returns-in_err-labels-in-Enum-clause-kept
returns-in_err-labels-in-Enum-clause-kept g c = c.labels.ensures.kept

pub returns-in_ok-labels-in-Flags-clause-kept : goal.returns-in_ok-labels-in-Flags-clause-kept
returns-in_ok-labels-in-Flags-clause-kept g c = c.labels-in-Flags.ensures.kept

pub returns-in_err-labels-in-Flags-clause-node : goal.returns-in_err-labels-in-Flags-clause-node
returns-in_err-labels-in-Flags-clause-node g c = IfOk-from_err c.from_residual-in_err-labels-in-Flags.result _ c.from_residual-in_err-labels-in-Flags.ensures.0

pub returns-in_err-labels-in-Flags-clause-kept : goal.returns-in_err-labels-in-Flags-clause-kept
returns-in_err-labels-in-Flags-clause-kept g c = c.labels-in-Flags.ensures.kept

pub returns-in_ok-two_cases-in-Option-clause-kept : goal.returns-in_ok-two_cases-in-Option-clause-kept
returns-in_ok-two_cases-in-Option-clause-kept g c = c.two_cases.ensures.kept

pub returns-in_err-two_cases-in-Option-clause-node : goal.returns-in_err-two_cases-in-Option-clause-node
returns-in_err-two_cases-in-Option-clause-node g c = IfOk-from_err c.from_residual-in_err-two_cases-in-Option.result _ c.from_residual-in_err-two_cases-in-Option.ensures.0

pub returns-in_err-two_cases-in-Option-clause-kept : goal.returns-in_err-two_cases-in-Option-clause-kept
returns-in_err-two_cases-in-Option-clause-kept g c = c.two_cases.ensures.kept

pub returns-in_ok-result_cases-in-Result-clause-kept : goal.returns-in_ok-result_cases-in-Result-clause-kept
returns-in_ok-result_cases-in-Result-clause-kept g c = c.result_cases.ensures.kept

pub returns-in_err-result_cases-in-Result-clause-node : goal.returns-in_err-result_cases-in-Result-clause-node
returns-in_err-result_cases-in-Result-clause-node g c = IfOk-from_err c.from_residual-in_err-result_cases-in-Result.result _ c.from_residual-in_err-result_cases-in-Result.ensures.0

pub returns-in_err-result_cases-in-Result-clause-kept : goal.returns-in_err-result_cases-in-Result-clause-kept
returns-in_err-result_cases-in-Result-clause-kept g c = c.result_cases.ensures.kept
