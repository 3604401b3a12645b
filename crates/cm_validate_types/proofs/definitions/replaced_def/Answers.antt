use Rattle.std.proofs.Common.{◌∙◌, ap, arith, length, List, ℕ, map, sym, subst, ◌<◌, is_some, codes}
use Rattle.std.specs.List.{AllByRecursion}
use Rattle.std.proofs.lemmas.Result.{IfOk-from_err}
use Rattle.cm_types.specs.declared.type_trees.Case.{Case}
use Rattle.cm_types.specs.declared.type_trees.Field.{Field}
use Rattle.cm_types.specs.Types.{Ty, list, fixed_list, own, borrow, fields, cases, flags, record_type, tuple_type, variant_type, enum_type, option_type, plain, carrying, no_cases}
use Rattle.cm_types.specs.TypeTrees.{case_of, field_of, parts_from, plain_from, type_of}
use Rattle.cm_types_arena.specs.TypeDefs.{type_at}
use Rattle.cm_types_arena.specs.Arena.{parts_in}
use Rattle.cm_types_arena.specs.Replaced.{replaced}
use Rattle.cm_validate_types.proofs.DefLaws.{cases_below, cases_same, fields_below, fields_same, first_below, one_same, parts_same, two_below}
use Rattle.cm_validate_types.proofs.definitions.replaced_def.Goals as goal
use Rattle.cm_lemmas.proofs.Lists.{cloned}
use Rattle.cm_types_arena.proofs.ArenaLemmas.{fields_long}
use Rattle.cm_types_arena.proofs.ReplacedLemmas.{plain_by}
use Rattle.cm_types.proofs.TypesLaws.{seen_Bool, seen_Borrow, seen_Char, seen_Own, seen_S16, seen_S32, seen_S64, seen_S8, seen_U16, seen_U32, seen_U64, seen_U8}
use Rattle.cm_types.proofs.Seen.{seen_Enum, seen_FixedList, seen_Flags, seen_List, seen_Option, seen_Record, seen_StringType, seen_Tuple, seen_Variant}

pub field_defs-requires : goal.field_defs-requires
field_defs-requires g c =
    let seen = ap type_of c.in-Record.is ∙ seen_Record c.in-Record.fields in
    let items = c.deref-in-Record.ensures.value ∙ ap (λ v. v.items) c.deref.ensures in
    c.requires ∙ ap (λ y. length (parts_in y)) seen ∙ fields_long c.in-Record.fields.value.items ∙ sym (ap length items)

pub returns-in_ok-field_defs-in-Record-clause-there : goal.returns-in_ok-field_defs-in-Record-clause-there
returns-in_ok-field_defs-in-Record-clause-there g c = λ count all.
    fields_below count c.in_ok-field_defs-in-Record.field-0.items (subst (λ (ps : List ℕ). AllByRecursion (λ p. p < count) ps) (sym c.in_ok-field_defs-in-Record.ensures.places) all)

pub returns-in_ok-field_defs-in-Record-clause-ty : goal.returns-in_ok-field_defs-in-Record-clause-ty
returns-in_ok-field_defs-in-Record-clause-ty g c = λ types are.
    let s = g.R.Replacement.replacement c.args.by.now in
    let seen = ap type_of c.in-Record.is ∙ seen_Record c.in-Record.fields in
    let items = c.deref-in-Record.ensures.value ∙ ap (λ v. v.items) c.deref.ensures in
    let defs = c.in_ok-field_defs-in-Record.ensures in
    let labels = c.in_ok-field_defs-in-Record.ensures.labels ∙ ap (map (λ (f : Field). (field_of f).0)) items in
    let held = ap (λ (t : Ty). map (replaced s) (parts_in t)) (sym seen) ∙ are ∙ ap (map (type_at types)) (sym c.in_ok-field_defs-in-Record.ensures.places) in
    ap (fields record_type) (fields_same s types c.in_ok-field_defs-in-Record.field-0.items c.in-Record.fields.value.items labels held) ∙ ap (replaced s) (sym seen)

pub returns-in_ok-from_slice-in-Tuple-clause-ty : goal.returns-in_ok-from_slice-in-Tuple-clause-ty
returns-in_ok-from_slice-in-Tuple-clause-ty g c = λ types are.
    let s = g.R.Replacement.replacement c.args.by.now in
    let seen = ap type_of c.in-Tuple.is ∙ seen_Tuple c.in-Tuple.field-0 in
    let held = ap (λ (t : Ty). map (replaced s) (parts_in t)) (sym seen) ∙ are in
    ap (λ (ps : List ℕ). fields tuple_type (parts_from (map (type_at types) ps))) c.in_ok-from_slice-in-Tuple.ensures.items
    ∙ ap (fields tuple_type) (parts_same s types (map type_of c.in-Tuple.field-0.value.items) c.args.parts.now held)
    ∙ ap (replaced s) (sym seen)

pub returns-in_ok-case_defs-in-Variant-clause-there : goal.returns-in_ok-case_defs-in-Variant-clause-there
returns-in_ok-case_defs-in-Variant-clause-there g c = λ count all.
    cases_below count c.in_ok-case_defs-in-Variant.field-0.items (subst (λ (ps : List ℕ). AllByRecursion (λ p. p < count) ps) (sym c.in_ok-case_defs-in-Variant.ensures.places) all)

pub returns-in_ok-case_defs-in-Variant-clause-ty : goal.returns-in_ok-case_defs-in-Variant-clause-ty
returns-in_ok-case_defs-in-Variant-clause-ty g c = λ types are.
    let s = g.R.Replacement.replacement c.args.by.now in
    let seen = ap type_of c.in-Variant.is ∙ seen_Variant c.in-Variant.cases in
    let items = c.deref-in-Variant-2.ensures.value ∙ ap (λ v. v.items) c.deref-in-Variant.ensures in
    let labels = c.in_ok-case_defs-in-Variant.ensures.labels ∙ ap (map (λ (x : Case). (case_of x).0)) items in
    let carrying = c.in_ok-case_defs-in-Variant.ensures.carrying ∙ ap (map (λ (x : Case). is_some (case_of x).1)) items in
    let held = ap (λ (t : Ty). map (replaced s) (parts_in t)) (sym seen) ∙ are ∙ ap (map (type_at types)) (sym c.in_ok-case_defs-in-Variant.ensures.places) in
    ap (cases variant_type) (cases_same s types c.in_ok-case_defs-in-Variant.field-0.items c.in-Variant.cases.value.items labels carrying held) ∙ ap (replaced s) (sym seen)

pub returns-in_ok-clone-in-Enum-clause-ty : goal.returns-in_ok-clone-in-Enum-clause-ty
returns-in_ok-clone-in-Enum-clause-ty g c = λ types are.
    let s = g.R.Replacement.replacement c.args.by.now in
    let seen = ap type_of c.in-Enum.is ∙ seen_Enum c.in-Enum.labels in
    let same = cloned c.deref-in-Enum.result.now.items c.in_ok-clone-in-Enum.field-0.items c.in_ok-clone-in-Enum.ensures.cases.0 ∙ ap (λ v. v.items) c.deref-in-Enum.ensures in
    ap (λ (ls : List (List ℕ)). cases enum_type (plain_from ls)) same ∙ ap (cases enum_type) (sym (plain_by s c.in-Enum.labels.value.items)) ∙ ap (replaced s) (sym seen)

pub returns-in_ok-clone-in-Flags-clause-ty : goal.returns-in_ok-clone-in-Flags-clause-ty
returns-in_ok-clone-in-Flags-clause-ty g c = λ types are.
    let s = g.R.Replacement.replacement c.args.by.now in
    let seen = ap type_of c.in-Flags.is ∙ seen_Flags c.in-Flags.labels in
    let same = cloned c.deref-in-Flags.result.now.items c.in_ok-clone-in-Flags.field-0.items c.in_ok-clone-in-Flags.ensures.cases.0 ∙ ap (λ v. v.items) c.deref-in-Flags.ensures in
    ap (λ (ls : List (List ℕ)). flags ls) same ∙ ap (replaced s) (sym seen)

pub returns-in-Option-clause-there : goal.returns-in-Option-clause-there
returns-in-Option-clause-there g c = λ count all.
    let seen = ap type_of c.in-Option.is ∙ seen_Option c.in-Option.field-0 in
    let one = c.requires ∙ ap (λ y. length (parts_in y)) seen in
    first_below count c.args.parts.now (omega (arith, one)) all

pub returns-in-Option-clause-ty : goal.returns-in-Option-clause-ty
returns-in-Option-clause-ty g c = λ types are.
    let s = g.R.Replacement.replacement c.args.by.now in
    let seen = ap type_of c.in-Option.is ∙ seen_Option c.in-Option.field-0 in
    let held = ap (λ (t : Ty). map (replaced s) (parts_in t)) (sym seen) ∙ are in
    ap (λ (t : Ty). cases option_type (plain (codes "none") (carrying (codes "some") t no_cases))) (one_same s types (type_of c.in-Option.field-0.value) c.args.parts.now held)
    ∙ ap (replaced s) (sym seen)

-- ---- types that hold none

pub returns-in-Bool-clause-there : goal.returns-in-Bool-clause-there
returns-in-Bool-clause-there g c = λ count all. tt

pub returns-in-Bool-clause-ty : goal.returns-in-Bool-clause-ty
returns-in-Bool-clause-ty g c = λ types are. sym (ap (replaced (g.R.Replacement.replacement c.args.by.now)) (ap type_of c.in-Bool.is ∙ seen_Bool))

pub returns-in-S8-clause-there : goal.returns-in-S8-clause-there
returns-in-S8-clause-there g c = λ count all. tt

pub returns-in-S8-clause-ty : goal.returns-in-S8-clause-ty
returns-in-S8-clause-ty g c = λ types are. sym (ap (replaced (g.R.Replacement.replacement c.args.by.now)) (ap type_of c.in-S8.is ∙ seen_S8))

pub returns-in-U8-clause-there : goal.returns-in-U8-clause-there
returns-in-U8-clause-there g c = λ count all. tt

pub returns-in-U8-clause-ty : goal.returns-in-U8-clause-ty
returns-in-U8-clause-ty g c = λ types are. sym (ap (replaced (g.R.Replacement.replacement c.args.by.now)) (ap type_of c.in-U8.is ∙ seen_U8))

pub returns-in-S16-clause-there : goal.returns-in-S16-clause-there
returns-in-S16-clause-there g c = λ count all. tt

pub returns-in-S16-clause-ty : goal.returns-in-S16-clause-ty
returns-in-S16-clause-ty g c = λ types are. sym (ap (replaced (g.R.Replacement.replacement c.args.by.now)) (ap type_of c.in-S16.is ∙ seen_S16))

pub returns-in-U16-clause-there : goal.returns-in-U16-clause-there
returns-in-U16-clause-there g c = λ count all. tt

pub returns-in-U16-clause-ty : goal.returns-in-U16-clause-ty
returns-in-U16-clause-ty g c = λ types are. sym (ap (replaced (g.R.Replacement.replacement c.args.by.now)) (ap type_of c.in-U16.is ∙ seen_U16))

pub returns-in-S32-clause-there : goal.returns-in-S32-clause-there
returns-in-S32-clause-there g c = λ count all. tt

pub returns-in-S32-clause-ty : goal.returns-in-S32-clause-ty
returns-in-S32-clause-ty g c = λ types are. sym (ap (replaced (g.R.Replacement.replacement c.args.by.now)) (ap type_of c.in-S32.is ∙ seen_S32))

pub returns-in-U32-clause-there : goal.returns-in-U32-clause-there
returns-in-U32-clause-there g c = λ count all. tt

pub returns-in-U32-clause-ty : goal.returns-in-U32-clause-ty
returns-in-U32-clause-ty g c = λ types are. sym (ap (replaced (g.R.Replacement.replacement c.args.by.now)) (ap type_of c.in-U32.is ∙ seen_U32))

pub returns-in-S64-clause-there : goal.returns-in-S64-clause-there
returns-in-S64-clause-there g c = λ count all. tt

pub returns-in-S64-clause-ty : goal.returns-in-S64-clause-ty
returns-in-S64-clause-ty g c = λ types are. sym (ap (replaced (g.R.Replacement.replacement c.args.by.now)) (ap type_of c.in-S64.is ∙ seen_S64))

pub returns-in-U64-clause-there : goal.returns-in-U64-clause-there
returns-in-U64-clause-there g c = λ count all. tt

pub returns-in-U64-clause-ty : goal.returns-in-U64-clause-ty
returns-in-U64-clause-ty g c = λ types are. sym (ap (replaced (g.R.Replacement.replacement c.args.by.now)) (ap type_of c.in-U64.is ∙ seen_U64))

pub returns-in-Char-clause-there : goal.returns-in-Char-clause-there
returns-in-Char-clause-there g c = λ count all. tt

pub returns-in-Char-clause-ty : goal.returns-in-Char-clause-ty
returns-in-Char-clause-ty g c = λ types are. sym (ap (replaced (g.R.Replacement.replacement c.args.by.now)) (ap type_of c.in-Char.is ∙ seen_Char))

pub returns-in-String-clause-there : goal.returns-in-String-clause-there
returns-in-String-clause-there g c = λ count all. tt

pub returns-in-String-clause-ty : goal.returns-in-String-clause-ty
returns-in-String-clause-ty g c = λ types are. sym (ap (replaced (g.R.Replacement.replacement c.args.by.now)) (ap type_of c.in-String.is ∙ seen_StringType))

pub returns-in-Own-clause-there : goal.returns-in-Own-clause-there
returns-in-Own-clause-there g c = λ count all. tt

pub returns-in-Own-clause-ty : goal.returns-in-Own-clause-ty
returns-in-Own-clause-ty g c = λ types are. ap own c.replace.ensures ∙ sym (ap (replaced (g.R.Replacement.replacement c.args.by.now)) (ap type_of c.in-Own.is ∙ seen_Own c.in-Own.id))

pub returns-in-Borrow-clause-there : goal.returns-in-Borrow-clause-there
returns-in-Borrow-clause-there g c = λ count all. tt

pub returns-in-Borrow-clause-ty : goal.returns-in-Borrow-clause-ty
returns-in-Borrow-clause-ty g c = λ types are. ap borrow c.replace-in-Borrow.ensures ∙ sym (ap (replaced (g.R.Replacement.replacement c.args.by.now)) (ap type_of c.in-Borrow.is ∙ seen_Borrow c.in-Borrow.id))

pub returns-in_ok-clone-in-Enum-clause-there : goal.returns-in_ok-clone-in-Enum-clause-there
returns-in_ok-clone-in-Enum-clause-there g c = λ count all. tt

pub returns-in_ok-clone-in-Flags-clause-there : goal.returns-in_ok-clone-in-Flags-clause-there
returns-in_ok-clone-in-Flags-clause-there g c = λ count all. tt

-- ---- types that hold one

pub bounds-parts-0 : goal.bounds-parts-0
bounds-parts-0 g c =
    let one = c.requires ∙ ap (λ y. length (parts_in y)) (ap type_of c.in-List.is ∙ seen_List c.in-List.field-0) in
    omega (arith, one)

pub returns-in-List-clause-there : goal.returns-in-List-clause-there
returns-in-List-clause-there g c = λ count all.
    let one = c.requires ∙ ap (λ y. length (parts_in y)) (ap type_of c.in-List.is ∙ seen_List c.in-List.field-0) in
    first_below count c.args.parts.now (omega (arith, one)) all

pub returns-in-List-clause-ty : goal.returns-in-List-clause-ty
returns-in-List-clause-ty g c = λ types are.
    let s = g.R.Replacement.replacement c.args.by.now in
    let seen = ap type_of c.in-List.is ∙ seen_List c.in-List.field-0 in
    let held = ap (λ (t : Ty). map (replaced s) (parts_in t)) (sym seen) ∙ are in
    ap list (one_same s types (type_of c.in-List.field-0.value) c.args.parts.now held) ∙ ap (replaced s) (sym seen)

pub bounds-parts-0-in-FixedList : goal.bounds-parts-0-in-FixedList
bounds-parts-0-in-FixedList g c =
    let one = c.requires ∙ ap (λ y. length (parts_in y)) (ap type_of c.in-FixedList.is ∙ seen_FixedList c.in-FixedList.element c.in-FixedList.length) in
    omega (arith, one)

pub returns-in-FixedList-clause-there : goal.returns-in-FixedList-clause-there
returns-in-FixedList-clause-there g c = λ count all.
    let one = c.requires ∙ ap (λ y. length (parts_in y)) (ap type_of c.in-FixedList.is ∙ seen_FixedList c.in-FixedList.element c.in-FixedList.length) in
    first_below count c.args.parts.now (omega (arith, one)) all

pub returns-in-FixedList-clause-ty : goal.returns-in-FixedList-clause-ty
returns-in-FixedList-clause-ty g c = λ types are.
    let s = g.R.Replacement.replacement c.args.by.now in
    let seen = ap type_of c.in-FixedList.is ∙ seen_FixedList c.in-FixedList.element c.in-FixedList.length in
    let held = ap (λ (t : Ty). map (replaced s) (parts_in t)) (sym seen) ∙ are in
    ap (λ (t : Ty). fixed_list t c.in-FixedList.length) (one_same s types (type_of c.in-FixedList.element.value) c.args.parts.now held) ∙ ap (replaced s) (sym seen)

pub bounds-parts-0-in-Option : goal.bounds-parts-0-in-Option
bounds-parts-0-in-Option g c =
    let one = c.requires ∙ ap (λ y. length (parts_in y)) (ap type_of c.in-Option.is ∙ seen_Option c.in-Option.field-0) in
    omega (arith, one)

-- ---- types that hold some

pub returns-in_ok-from_slice-in-Tuple-clause-there : goal.returns-in_ok-from_slice-in-Tuple-clause-there
returns-in_ok-from_slice-in-Tuple-clause-there g c = λ count all.
    subst (λ (ps : List ℕ). AllByRecursion (λ p. p < count) ps) (sym c.in_ok-from_slice-in-Tuple.ensures.items) all

pub returns-in-Result-clause-there : goal.returns-in-Result-clause-there
returns-in-Result-clause-there g c = λ count all.
    two_below count c.result_places-ok.result.0 c.result_places-ok.result.1 (subst (λ (ps : List ℕ). AllByRecursion (λ p. p < count) ps) (sym c.result_places-ok.ensures.places) all)

-- ---- where there is no memory

pub returns-in_err-field_defs-in-Record-clause-there : goal.returns-in_err-field_defs-in-Record-clause-there
returns-in_err-field_defs-in-Record-clause-there g c = IfOk-from_err c.from_residual.result _ c.from_residual.ensures.0

pub returns-in_err-field_defs-in-Record-clause-ty : goal.returns-in_err-field_defs-in-Record-clause-ty
returns-in_err-field_defs-in-Record-clause-ty g c = IfOk-from_err c.from_residual.result _ c.from_residual.ensures.0

pub returns-in_err-from_slice-in-Tuple-clause-there : goal.returns-in_err-from_slice-in-Tuple-clause-there
returns-in_err-from_slice-in-Tuple-clause-there g c = IfOk-from_err c.from_residual-in_err-from_slice-in-Tuple.result _ c.from_residual-in_err-from_slice-in-Tuple.ensures.0

pub returns-in_err-from_slice-in-Tuple-clause-ty : goal.returns-in_err-from_slice-in-Tuple-clause-ty
returns-in_err-from_slice-in-Tuple-clause-ty g c = IfOk-from_err c.from_residual-in_err-from_slice-in-Tuple.result _ c.from_residual-in_err-from_slice-in-Tuple.ensures.0

pub returns-in_err-case_defs-in-Variant-clause-there : goal.returns-in_err-case_defs-in-Variant-clause-there
returns-in_err-case_defs-in-Variant-clause-there g c = IfOk-from_err c.from_residual-in_err-case_defs-in-Variant.result _ c.from_residual-in_err-case_defs-in-Variant.ensures.0

pub returns-in_err-case_defs-in-Variant-clause-ty : goal.returns-in_err-case_defs-in-Variant-clause-ty
returns-in_err-case_defs-in-Variant-clause-ty g c = IfOk-from_err c.from_residual-in_err-case_defs-in-Variant.result _ c.from_residual-in_err-case_defs-in-Variant.ensures.0

pub returns-in_err-clone-in-Enum-clause-there : goal.returns-in_err-clone-in-Enum-clause-there
returns-in_err-clone-in-Enum-clause-there g c = IfOk-from_err c.from_residual-in_err-clone-in-Enum.result _ c.from_residual-in_err-clone-in-Enum.ensures.0

pub returns-in_err-clone-in-Enum-clause-ty : goal.returns-in_err-clone-in-Enum-clause-ty
returns-in_err-clone-in-Enum-clause-ty g c = IfOk-from_err c.from_residual-in_err-clone-in-Enum.result _ c.from_residual-in_err-clone-in-Enum.ensures.0

pub returns-in_err-clone-in-Flags-clause-there : goal.returns-in_err-clone-in-Flags-clause-there
returns-in_err-clone-in-Flags-clause-there g c = IfOk-from_err c.from_residual-in_err-clone-in-Flags.result _ c.from_residual-in_err-clone-in-Flags.ensures.0

pub returns-in_err-clone-in-Flags-clause-ty : goal.returns-in_err-clone-in-Flags-clause-ty
returns-in_err-clone-in-Flags-clause-ty g c = IfOk-from_err c.from_residual-in_err-clone-in-Flags.result _ c.from_residual-in_err-clone-in-Flags.ensures.0
