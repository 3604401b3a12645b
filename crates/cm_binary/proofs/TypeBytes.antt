-- Types: what is written spells them, nothing shorter does, and there are no more than may stand.
use Rattle.std.proofs.Common.{◌≡◌, ℕ, zero, suc, ◌+◌, ◌-◌, ◌*◌, ◌≤◌, ◌<◌, ◌^◌, ◌⊎◌, inl, inr, List, ◌++◌, ◌∷◌, [], length, Bool, true, false, Option, Some, None, Ok, refl, sym, subst, arith}
use Rattle.std.specs.Prelude.{ℤ, pos, negsuc, if◌then◌else◌}
use Rattle.std.specs.Str.{is_utf8}
use Rattle.std.specs.List.{list_all, sum_by}
use Rattle.std.proofs.lemmas.Bool.{and_parts, ltb-true}
use Rattle.std.proofs.lemmas.Bool.Decides.{nat_tests}
use Rattle.std.proofs.lemmas.Int.{ints}
use Rattle.std.proofs.lemmas.List.{length-append}
use Rattle.cm_leb.specs.Numbers.{IsWithin}
use Rattle.cm_leb.specs.NumbersRead.{is_within}
use Rattle.cm_leb.specs.NumbersWritten.{group_of, signed_length, to_two_complement, shortest_unsigned, shortest_signed}
use Rattle.cm_leb.proofs.ShortestLaws.{shortest_signed-apart}
use Rattle.cm_binary_grammar.specs.Grammar.{vec}
use Rattle.cm_binary_grammar.specs.Spelling.{blob_spelling, vec_spelling}
use Rattle.cm_binary_grammar.proofs.LeastLaws.{Least, done_least, bind_least, ahead_least, code_least, refuse_least, number_least, signed_least, check_least, fixed_least, vec_least, from_stock_least, stocked_least}
use Rattle.cm_binary_grammar.proofs.WrittenLaws.{Spelled, Writes, WritesFrom, done_written, bind_written, last_written, ahead_written, code_written, number_written, signed_written, check_written, fixed_written, vec_written, from_stock_written, stocked_written, chain_costs, from_stock_costs}
use Rattle.cm_types.specs.Names.{is_label}
use Rattle.cm_types.specs.declared.def_types.PrimValType.{PrimValType}
use Rattle.cm_types.specs.declared.def_types.PrimValType.TheVariants as prims
use Rattle.cm_types.specs.declared.def_types.ValType.{ValType}
use Rattle.cm_types.specs.declared.def_types.ValType.TheVariants as val_types
use Rattle.cm_types.specs.declared.def_types.OuterType.{OuterType}
use Rattle.cm_types.specs.declared.def_types.TypeBound.TheVariants as bounds
use Rattle.cm_types.specs.declared.def_types.ExportDesc.TheVariants as export_descs
use Rattle.cm_types.specs.DefTypes as types
use Rattle.cm_types.specs.DefTypes.{DefValTypeTree, FuncTypeTree, DeclaredTypeTree, DeclarationTree, DefTypeTree, value_def, func_def, resource_def, instance_def}
use Rattle.cm_binary_model.specs.Spelling.{optional_spelling, prim_val_type_code, val_type_spelling, param_spelling, case_spelling, def_val_type_code, def_val_type_parts, result_spelling, func_spelling, declared_type_spelling, type_bound_spelling, extern_name_spelling, export_desc_spelling, export_decl_spelling, outer_type_spelling, declaration_spelling, def_spelling}
use Rattle.cm_binary_model.specs.Parts.{is_index, holds_optional, holds_label, holds_val_type, holds_param, holds_case, holds_def_val_type, holds_func, holds_declared_type, holds_name, holds_type_bound, holds_export_desc, holds_export_decl, holds_outer_type, holds_declaration, holds_def}
use Rattle.cm_binary_model.specs.Limits.{types_in_declaration, types_in_def}
use Rattle.cm_binary_model.proofs.Nonempty.{blob_some, val_type_some, param_some, case_some, declaration_some, def_some}
use Rattle.cm_binary_forms.specs.declared.fault.DecodeReason.TheVariants.{BadNumber, TooMany}
use Rattle.cm_binary_forms.specs.declared.codes.OptionalForm.{OptionalForm}
use Rattle.cm_binary_forms.specs.declared.codes.OptionalForm.TheVariants as optional_forms
use Rattle.cm_binary_forms.specs.declared.codes.ResultForm.{ResultForm}
use Rattle.cm_binary_forms.specs.declared.codes.ResultForm.TheVariants as result_forms
use Rattle.cm_binary_forms.specs.declared.codes.ValueForm.{ValueForm}
use Rattle.cm_binary_forms.specs.declared.codes.ValueForm.TheVariants as value_forms
use Rattle.cm_binary_forms.specs.declared.codes.DeclaredTypeForm.{DeclaredTypeForm}
use Rattle.cm_binary_forms.specs.declared.codes.DeclaredTypeForm.TheVariants as declared_type_forms
use Rattle.cm_binary_forms.specs.declared.codes.DeclarationForm.{DeclarationForm}
use Rattle.cm_binary_forms.specs.declared.codes.DeclarationForm.TheVariants as declaration_forms
use Rattle.cm_binary_forms.specs.declared.codes.DeclaredDescForm.{DeclaredDescForm}
use Rattle.cm_binary_forms.specs.declared.codes.DeclaredDescForm.TheVariants as declared_descs
use Rattle.cm_binary_forms.specs.declared.codes.TypeBoundForm.{TypeBoundForm}
use Rattle.cm_binary_forms.specs.declared.codes.TypeBoundForm.TheVariants as bound_forms
use Rattle.cm_binary_forms.specs.declared.codes.AliasSort.{AliasSort}
use Rattle.cm_binary_forms.specs.declared.codes.AliasSort.TheVariants as alias_sorts
use Rattle.cm_binary_forms.specs.declared.codes.OuterTypeTarget.TheVariants as outer_targets
use Rattle.cm_binary_forms.specs.declared.codes.TypeForm.{TypeForm}
use Rattle.cm_binary_forms.specs.declared.codes.TypeForm.TheVariants as type_forms
use Rattle.cm_binary_forms.specs.Codes.{is_from, prim_val_type, declared_type_form, type_form}
use Rattle.cm_binary_forms.specs.Texts.{Production, index, label}
use Rattle.cm_binary_forms.specs.Types.{optional_of, optional, is_type_index, as_index, type_index, val_type_of, val_type, param, case_type, def_val_type_of, func_result_of, func_result, func_type, declared_type_of, declared_type, declared_type_from, declared_alias_of, declared_alias, type_bound_of, type_bound, export_desc_of, export_desc, export_decl, declaration_of, declaration, declarations, def_type_of, def_type, def_type_from, type_defs}
use Rattle.cm_binary.proofs.Texts.{label_least, label_written, extern_name_least, extern_name_writes}
use Rattle.cm_binary.proofs.AliasBytes.{outer_type_least, outer_type_written}

-- ---- nothing shorter

optional_of_least : {A : Type 0} (g : Production A) (spell : A → List ℕ) → Least g (λ x. length (spell x)) → (f : OptionalForm) → Least (optional_of g f) (λ o. length (optional_spelling spell o) - 1)
unfolding optional_of
optional_of_least g spell l optional_forms.Absent = done_least _ (omega arith)
optional_of_least g spell l optional_forms.Present = bind_least _ _ l (λ x. done_least _ (omega arith))

optional_least : {A : Type 0} (g : Production A) (spell : A → List ℕ) → Least g (λ x. length (spell x)) → Least (optional g) (λ o. length (optional_spelling spell o))
unfolding optional
optional_least g spell l = bind_least _ _ (code_least _) (optional_of_least g spell l)

type_index_least : Least type_index (λ z. length (shortest_signed z))
unfolding type_index
type_index_least = check_least _ _ _ (signed_least _)

group_some : (k v : ℕ) → 1 ≤ k → 1 ≤ length (group_of k v)
group_some zero v h = absurd (omega arith)
group_some (suc zero) v h = omega arith
group_some (suc (suc k)) v h = omega arith

first_of : (a b c d : Bool) → 1 ≤ (if a then 1 else (if b then 2 else (if c then 3 else (if d then 4 else 5))))
first_of true b c d = omega arith
first_of false true c d = omega arith
first_of false false true d = omega arith
first_of false false false true = omega arith
first_of false false false false = omega arith

as_index_least : (z : ℤ) → length (shortest_signed (pos (as_index z))) - length (shortest_signed z) ≤ 0
as_index_least (pos n) = omega arith
as_index_least (negsuc n) =
    let z = negsuc n in
    omega (arith, group_some (signed_length z) (to_two_complement (7 * signed_length z) z) (first_of (is_within 7 z) (is_within 14 z) (is_within 21 z) (is_within 28 z)))

val_type_of_least : (p : Bool) → Least (val_type_of p) (λ t. length (val_type_spelling t))
unfolding val_type_of
val_type_of_least true = bind_least _ _ (code_least _) (λ primitive. done_least _ (omega arith))
val_type_of_least false = bind_least _ _ type_index_least (λ number. done_least _ (as_index_least number))

val_type_least : Least val_type (λ t. length (val_type_spelling t))
unfolding val_type
val_type_least = ahead_least _ (λ b. val_type_of_least (is_from 0x40 0x7f b))

param_least : Least param (λ p. length (param_spelling p))
unfolding param
param_least = bind_least _ _ label_least (λ name. bind_least _ _ val_type_least (λ ty. done_least _ (omega (arith, length-append {A = ℕ}))))

case_type_least : Least case_type (λ c. length (case_spelling c))
unfolding case_type
case_type_least = bind_least _ _ label_least (λ name. bind_least _ _ (optional_least _ _ val_type_least) (λ payload. bind_least _ _ (fixed_least _ _) (λ nothing. done_least _ (omega (arith, length-append {A = ℕ})))))

def_val_type_of_least : (f : ValueForm) → Least (def_val_type_of f) (λ t. length (def_val_type_parts t))
unfolding def_val_type_of
def_val_type_of_least (value_forms.Primitive p) = done_least _ (omega arith)
def_val_type_of_least value_forms.Record = bind_least _ _ (vec_least _ _ _ param_least) (λ fields. done_least _ (omega arith))
def_val_type_of_least value_forms.Variant = bind_least _ _ (vec_least _ _ _ case_type_least) (λ cases. done_least _ (omega arith))
def_val_type_of_least value_forms.List = bind_least _ _ val_type_least (λ element. done_least _ (omega arith))
def_val_type_of_least value_forms.FixedList = bind_least _ _ val_type_least (λ element. bind_least _ _ (number_least _) (λ count. done_least _ (omega (arith, length-append {A = ℕ}))))
def_val_type_of_least value_forms.Tuple = bind_least _ _ (vec_least _ _ _ val_type_least) (λ parts. done_least _ (omega arith))
def_val_type_of_least value_forms.Flags = bind_least _ _ (vec_least _ _ _ label_least) (λ labels. done_least _ (omega arith))
def_val_type_of_least value_forms.Enum = bind_least _ _ (vec_least _ _ _ label_least) (λ labels. done_least _ (omega arith))
def_val_type_of_least value_forms.Option = bind_least _ _ val_type_least (λ some. done_least _ (omega arith))
def_val_type_of_least value_forms.Result = bind_least _ _ (optional_least _ _ val_type_least) (λ ok. bind_least _ _ (optional_least _ _ val_type_least) (λ error. done_least _ (omega (arith, length-append {A = ℕ}))))
def_val_type_of_least value_forms.Own = bind_least _ _ (number_least _) (λ resource. done_least _ (omega arith))
def_val_type_of_least value_forms.Borrow = bind_least _ _ (number_least _) (λ resource. done_least _ (omega arith))

func_result_of_least : (f : ResultForm) → Least (func_result_of f) (λ r. length (result_spelling r) - 1)
unfolding func_result_of
func_result_of_least result_forms.One = bind_least _ _ val_type_least (λ ty. done_least _ (omega arith))
func_result_of_least result_forms.Zero = bind_least _ _ (fixed_least _ _) (λ nothing. done_least _ (omega arith))

func_result_least : Least func_result (λ r. length (result_spelling r))
unfolding func_result
func_result_least = bind_least _ _ (code_least _) func_result_of_least

func_type_least : Least func_type (λ f. length (func_spelling f))
unfolding func_type
func_type_least = bind_least _ _ (vec_least _ _ _ param_least) (λ params. bind_least _ _ func_result_least (λ r. done_least _ (omega (arith, length-append {A = ℕ}))))

declared_type_of_least : (f : DeclaredTypeForm) → Least (declared_type_of f) (λ d. length (declared_type_spelling d) - 1)
unfolding declared_type_of
declared_type_of_least (declared_type_forms.Value form) = bind_least _ _ (def_val_type_of_least form) (λ value. done_least _ (omega arith))
declared_type_of_least declared_type_forms.Func = bind_least _ _ func_type_least (λ func. done_least _ (omega arith))

declared_type_least : Least declared_type (λ d. length (declared_type_spelling d))
unfolding declared_type
declared_type_least = bind_least _ _ (code_least _) declared_type_of_least

declared_type_from_least : (stock : ℕ) → Least (declared_type_from stock) (λ d. length (declared_type_spelling d))
unfolding declared_type_from
declared_type_from_least stock = from_stock_least _ _ (λ left. declared_type_least) stock

declared_alias_of_least : (s : AliasSort) → Least (declared_alias_of s) (λ o. 2 + length (outer_type_spelling o) - 1)
unfolding declared_alias_of
declared_alias_of_least alias_sorts.Core = bind_least _ _ (code_least _) (λ sort. refuse_least _)
declared_alias_of_least alias_sorts.Func = refuse_least _
declared_alias_of_least alias_sorts.Type = bind_least _ _ (code_least _) (λ target. record { bound = λ x bytes s. omega (arith, outer_type_least.bound x bytes s) })
declared_alias_of_least alias_sorts.Instance = refuse_least _

declared_alias_least : Least declared_alias (λ o. 2 + length (outer_type_spelling o))
unfolding declared_alias
declared_alias_least = bind_least _ _ (code_least _) declared_alias_of_least

type_bound_of_least : (f : TypeBoundForm) → Least (type_bound_of f) (λ b. length (type_bound_spelling b) - 1)
unfolding type_bound_of
type_bound_of_least bound_forms.Equal = bind_least _ _ (number_least _) (λ ty. done_least _ (omega arith))
type_bound_of_least bound_forms.SubResource = done_least _ (omega arith)

type_bound_least : Least type_bound (λ b. length (type_bound_spelling b))
unfolding type_bound
type_bound_least = bind_least _ _ (code_least _) type_bound_of_least

export_desc_of_least : (f : DeclaredDescForm) → Least (export_desc_of f) (λ d. length (export_desc_spelling d) - 1)
unfolding export_desc_of
export_desc_of_least declared_descs.Func = bind_least _ _ (number_least _) (λ ty. done_least _ (omega arith))
export_desc_of_least declared_descs.Type = bind_least _ _ type_bound_least (λ bound. done_least _ (omega arith))

export_desc_least : Least export_desc (λ d. length (export_desc_spelling d))
unfolding export_desc
export_desc_least = bind_least _ _ (code_least _) export_desc_of_least

export_decl_least : Least export_decl (λ e. length (export_decl_spelling e))
unfolding export_decl
export_decl_least = bind_least _ _ extern_name_least (λ name. bind_least _ _ export_desc_least (λ desc. done_least _ (omega (arith, length-append (extern_name_spelling name) (export_desc_spelling desc)))))

declaration_of_least : (stock : ℕ) (f : DeclarationForm) → Least (declaration_of stock f) (λ d. length (declaration_spelling d) - 1)
unfolding declaration_of
declaration_of_least stock declaration_forms.Type = bind_least _ _ (declared_type_from_least stock) (λ ty. done_least _ (omega arith))
declaration_of_least stock declaration_forms.Alias = bind_least _ _ declared_alias_least (λ outer. done_least _ (omega arith))
declaration_of_least stock declaration_forms.Export = bind_least _ _ export_decl_least (λ export. done_least _ (omega arith))

declaration_least : (stock : ℕ) → Least (declaration stock) (λ d. length (declaration_spelling d))
unfolding declaration
declaration_least stock = bind_least _ _ (code_least _) (declaration_of_least stock)

declarations_least : (stock : ℕ) → Least (declarations stock) (λ ds. length (vec_spelling declaration_spelling ds))
unfolding declarations
declarations_least stock = stocked_least _ _ _ _ declaration_least stock

def_type_of_least : (left : ℕ) (f : TypeForm) → Least (def_type_of left f) (λ d. length (def_spelling d) - 1)
unfolding def_type_of
def_type_of_least left (type_forms.Value form) = bind_least _ _ (def_val_type_of_least form) (λ value. done_least _ (omega arith))
def_type_of_least left type_forms.Func = bind_least _ _ func_type_least (λ func. done_least _ (omega arith))
def_type_of_least left type_forms.Resource = bind_least _ _ (fixed_least _ _) (λ representation. bind_least _ _ (optional_least _ _ (number_least _)) (λ destructor. done_least _ (omega arith)))
def_type_of_least left type_forms.Instance = bind_least _ _ (declarations_least left) (λ items. done_least _ (omega arith))

def_type_least : (left : ℕ) → Least (def_type left) (λ d. length (def_spelling d))
unfolding def_type
def_type_least left = bind_least _ _ (code_least _) (def_type_of_least left)

pub type_defs_least : (stock : ℕ) → Least (type_defs stock) (λ ts. length (vec_spelling def_spelling ts))
unfolding type_defs def_type_from
type_defs_least stock = stocked_least _ _ _ _ (λ left. from_stock_least _ _ def_type_least left) stock

-- ---- what is written: values that may be there, value types

optional_writes : {A : Type 0} (g : Production A) (test : A → Bool) (spell : A → List ℕ) → Writes g test spell → Writes (optional g) (holds_optional test) (optional_spelling spell)
unfolding optional optional_of
optional_writes g test spell w None h lt = bind_written _ (code_written {k = optional_forms.Absent} 0 refl) (done_written None) refl
optional_writes {A} g test spell w (Some x) h lt = bind_written _ (code_written {k = optional_forms.Present} 1 refl) (last_written (λ (y : A). Some y) (w x h (omega (arith, lt)))) refl

index_writes : Writes index is_index shortest_unsigned
index_writes n h lt = number_written n (ltb-true n (2 ^ 32) h)

label_writes : Writes label holds_label blob_spelling
label_writes x h lt = let both = and_parts (is_utf8 x) (is_label x) h in label_written x both.0 both.1 lt

prim_read : (p : PrimValType) → prim_val_type (prim_val_type_code p) ≡ Ok p
prim_read prims.Bool = refl
prim_read prims.S8 = refl
prim_read prims.U8 = refl
prim_read prims.S16 = refl
prim_read prims.U16 = refl
prim_read prims.S32 = refl
prim_read prims.U32 = refl
prim_read prims.S64 = refl
prim_read prims.U64 = refl
prim_read prims.Char = refl
prim_read prims.String = refl

prim_ahead : (p : PrimValType) → is_from 0x40 0x7f (prim_val_type_code p) ≡ true
prim_ahead prims.Bool = refl
prim_ahead prims.S8 = refl
prim_ahead prims.U8 = refl
prim_ahead prims.S16 = refl
prim_ahead prims.U16 = refl
prim_ahead prims.S32 = refl
prim_ahead prims.U32 = refl
prim_ahead prims.S64 = refl
prim_ahead prims.U64 = refl
prim_ahead prims.Char = refl
prim_ahead prims.String = refl

apart_ahead : (b : ℕ) → (b < 64) ⊎ (128 ≤ b) → is_from 0x40 0x7f b ≡ false
apart_ahead b (inl low) = grind (arith, nat_tests)
apart_ahead b (inr high) = grind (arith, nat_tests)

within_signed : (n : ℕ) → n < 2 ^ 32 → IsWithin 33 (pos n)
within_signed n lt = record { low = omega (arith, ints, lt); high = omega (arith, ints, lt) }

prim_written : (p : PrimValType) → Spelled (val_type_of true) (val_types.Primitive p) (prim_val_type_code p ∷ [])
unfolding val_type_of
prim_written p = last_written (λ (q : PrimValType). val_types.Primitive q) (code_written (prim_val_type_code p) (prim_read p))

index_written : (n : ℕ) → is_index n ≡ true → Spelled (val_type_of false) (val_types.Index n) (shortest_signed (pos n))
unfolding val_type_of type_index
index_written n h = last_written (λ (z : ℤ). val_types.Index (as_index z)) (check_written is_type_index BadNumber h (signed_written (pos n) (within_signed n (ltb-true n (2 ^ 32) h))))

abbrev val_type_at : ℕ → Production ValType
val_type_at b = val_type_of (is_from 0x40 0x7f b)

val_type_writes : Writes val_type holds_val_type val_type_spelling
unfolding val_type
val_type_writes (val_types.Primitive p) h lt =
    ahead_written val_type_at (prim_val_type_code p) [] refl (subst (λ (b : Bool). Spelled (val_type_of b) (val_types.Primitive p) (prim_val_type_code p ∷ [])) (sym (prim_ahead p)) (prim_written p))
val_type_writes (val_types.Index n) h lt =
    let begins = shortest_signed-apart n in
    ahead_written val_type_at begins.first begins.rest begins.parts (subst (λ (b : Bool). Spelled (val_type_of b) (val_types.Index n) (shortest_signed (pos n))) (sym (apart_ahead begins.first begins.apart)) (index_written n h))

param_writes : Writes param holds_param param_spelling
unfolding param
param_writes x h lt =
    let both = and_parts (holds_label x.label) (holds_val_type x.ty) h in
    let lengths = length-append (blob_spelling x.label) (val_type_spelling x.ty) in
    bind_written _ (label_writes x.label both.0 (omega (arith, lengths, lt))) (last_written (λ y. record { label = x.label; ty = y }) (val_type_writes x.ty both.1 (omega (arith, lengths, lt)))) refl

case_type_writes : Writes case_type holds_case case_spelling
unfolding case_type
case_type_writes x h lt =
    let both = and_parts (holds_label x.label) (holds_optional holds_val_type x.payload) h in
    let payload = optional_spelling val_type_spelling x.payload in
    let lengths = length-append (blob_spelling x.label) (payload ++ 0x00 ∷ []) in
    let parts = length-append payload (0x00 ∷ []) in
    bind_written _ (label_writes x.label both.0 (omega (arith, lengths, lt))) (bind_written _ (optional_writes val_type holds_val_type val_type_spelling val_type_writes x.payload both.1 (omega (arith, lengths, parts, lt))) (last_written (λ (u : Unit {0}). record { label = x.label; payload = x.payload }) fixed_written) refl) refl

-- ---- what is written: definitions

abbrev form_of : DefValTypeTree → ValueForm
form_of (types.primitive p) = value_forms.Primitive p
form_of (types.record_of fields) = value_forms.Record
form_of (types.variant_of cases) = value_forms.Variant
form_of (types.list_of element) = value_forms.List
form_of (types.fixed_list_of element n) = value_forms.FixedList
form_of (types.tuple_of parts) = value_forms.Tuple
form_of (types.flags_of labels) = value_forms.Flags
form_of (types.enum_of labels) = value_forms.Enum
form_of (types.option_of some) = value_forms.Option
form_of (types.result_of ok error) = value_forms.Result
form_of (types.own_of resource) = value_forms.Own
form_of (types.borrow_of resource) = value_forms.Borrow

prim_form_read : (p : PrimValType) → type_form (prim_val_type_code p) ≡ Ok (type_forms.Value (value_forms.Primitive p))
prim_form_read prims.Bool = refl
prim_form_read prims.S8 = refl
prim_form_read prims.U8 = refl
prim_form_read prims.S16 = refl
prim_form_read prims.U16 = refl
prim_form_read prims.S32 = refl
prim_form_read prims.U32 = refl
prim_form_read prims.S64 = refl
prim_form_read prims.U64 = refl
prim_form_read prims.Char = refl
prim_form_read prims.String = refl

form_read : (t : DefValTypeTree) → type_form (def_val_type_code t) ≡ Ok (type_forms.Value (form_of t))
form_read (types.primitive p) = prim_form_read p
form_read (types.record_of fields) = refl
form_read (types.variant_of cases) = refl
form_read (types.list_of element) = refl
form_read (types.fixed_list_of element n) = refl
form_read (types.tuple_of parts) = refl
form_read (types.flags_of labels) = refl
form_read (types.enum_of labels) = refl
form_read (types.option_of some) = refl
form_read (types.result_of ok error) = refl
form_read (types.own_of resource) = refl
form_read (types.borrow_of resource) = refl

prim_declared_read : (p : PrimValType) → declared_type_form (prim_val_type_code p) ≡ Ok (declared_type_forms.Value (value_forms.Primitive p))
prim_declared_read prims.Bool = refl
prim_declared_read prims.S8 = refl
prim_declared_read prims.U8 = refl
prim_declared_read prims.S16 = refl
prim_declared_read prims.U16 = refl
prim_declared_read prims.S32 = refl
prim_declared_read prims.U32 = refl
prim_declared_read prims.S64 = refl
prim_declared_read prims.U64 = refl
prim_declared_read prims.Char = refl
prim_declared_read prims.String = refl

declared_read : (t : DefValTypeTree) → declared_type_form (def_val_type_code t) ≡ Ok (declared_type_forms.Value (form_of t))
declared_read (types.primitive p) = prim_declared_read p
declared_read (types.record_of fields) = refl
declared_read (types.variant_of cases) = refl
declared_read (types.list_of element) = refl
declared_read (types.fixed_list_of element n) = refl
declared_read (types.tuple_of parts) = refl
declared_read (types.flags_of labels) = refl
declared_read (types.enum_of labels) = refl
declared_read (types.option_of some) = refl
declared_read (types.result_of ok error) = refl
declared_read (types.own_of resource) = refl
declared_read (types.borrow_of resource) = refl

labels_write : Writes (vec BadNumber label) (list_all holds_label) (vec_spelling blob_spelling)
labels_write = vec_written BadNumber label holds_label blob_spelling blob_some label_writes

parts_written : (t : DefValTypeTree) → holds_def_val_type t ≡ true → length (def_val_type_parts t) < 2 ^ 32 → Spelled (def_val_type_of (form_of t)) t (def_val_type_parts t)
unfolding def_val_type_of
parts_written (types.primitive p) h lt = done_written _
parts_written (types.record_of fields) h lt = last_written types.record_of (vec_written BadNumber param holds_param param_spelling param_some param_writes fields h lt)
parts_written (types.variant_of cases) h lt = last_written types.variant_of (vec_written BadNumber case_type holds_case case_spelling case_some case_type_writes cases h lt)
parts_written (types.list_of element) h lt = last_written types.list_of (val_type_writes element h lt)
parts_written (types.fixed_list_of element n) h lt =
    let both = and_parts (holds_val_type element) (is_index n) h in
    let lengths = length-append (val_type_spelling element) (shortest_unsigned n) in
    bind_written _ (val_type_writes element both.0 (omega (arith, lengths, lt))) (last_written (λ (m : ℕ). types.fixed_list_of element m) (index_writes n both.1 (omega (arith, lengths, lt)))) refl
parts_written (types.tuple_of parts) h lt = last_written types.tuple_of (vec_written BadNumber val_type holds_val_type val_type_spelling val_type_some val_type_writes parts h lt)
parts_written (types.flags_of labels) h lt = last_written types.flags_of (labels_write labels h lt)
parts_written (types.enum_of labels) h lt = last_written types.enum_of (labels_write labels h lt)
parts_written (types.option_of some) h lt = last_written types.option_of (val_type_writes some h lt)
parts_written (types.result_of ok error) h lt =
    let both = and_parts (holds_optional holds_val_type ok) (holds_optional holds_val_type error) h in
    let lengths = length-append (optional_spelling val_type_spelling ok) (optional_spelling val_type_spelling error) in
    bind_written _ (optional_writes val_type holds_val_type val_type_spelling val_type_writes ok both.0 (omega (arith, lengths, lt))) (last_written (λ (e : Option ValType). types.result_of ok e) (optional_writes val_type holds_val_type val_type_spelling val_type_writes error both.1 (omega (arith, lengths, lt)))) refl
parts_written (types.own_of resource) h lt = last_written types.own_of (index_writes resource h lt)
parts_written (types.borrow_of resource) h lt = last_written types.borrow_of (index_writes resource h lt)

func_result_writes : Writes func_result (holds_optional holds_val_type) result_spelling
unfolding func_result func_result_of
func_result_writes (Some ty) h lt = bind_written _ (code_written {k = result_forms.One} 0 refl) (last_written (λ (y : ValType). Some y) (val_type_writes ty h (omega (arith, lt)))) refl
func_result_writes None h lt = bind_written _ (code_written {k = result_forms.Zero} 1 refl) (last_written (λ (u : Unit {0}). None) fixed_written) refl

func_type_writes : Writes func_type holds_func func_spelling
unfolding func_type
func_type_writes x h lt =
    let both = and_parts (list_all holds_param x.params) (holds_optional holds_val_type x.result) h in
    let lengths = length-append (vec_spelling param_spelling x.params) (result_spelling x.result) in
    bind_written _ (vec_written BadNumber param holds_param param_spelling param_some param_writes x.params both.0 (omega (arith, lengths, lt))) (last_written (λ r. record { params = x.params; result = r }) (func_result_writes x.result both.1 (omega (arith, lengths, lt)))) refl

-- ---- what is written: types of instances

declared_type_writes : Writes declared_type holds_declared_type declared_type_spelling
unfolding declared_type declared_type_of
declared_type_writes (types.declared_value t) h lt = bind_written _ (code_written (def_val_type_code t) (declared_read t)) (last_written types.declared_value (parts_written t h (omega (arith, lt)))) refl
declared_type_writes (types.declared_func f) h lt = bind_written _ (code_written {k = declared_type_forms.Func} 0x40 refl) (last_written types.declared_func (func_type_writes f h (omega (arith, lt)))) refl

type_bound_writes : Writes type_bound holds_type_bound type_bound_spelling
unfolding type_bound type_bound_of
type_bound_writes (bounds.Equal ty) h lt = bind_written _ (code_written {k = bound_forms.Equal} 0 refl) (last_written bounds.Equal (index_writes ty h (omega (arith, lt)))) refl
type_bound_writes bounds.SubResource h lt = bind_written _ (code_written {k = bound_forms.SubResource} 1 refl) (done_written bounds.SubResource) refl

export_desc_writes : Writes export_desc holds_export_desc export_desc_spelling
unfolding export_desc export_desc_of
export_desc_writes (export_descs.Func ty) h lt = bind_written _ (code_written {k = declared_descs.Func} 1 refl) (last_written export_descs.Func (index_writes ty h (omega (arith, lt)))) refl
export_desc_writes (export_descs.Type bound) h lt = bind_written _ (code_written {k = declared_descs.Type} 3 refl) (last_written export_descs.Type (type_bound_writes bound h (omega (arith, lt)))) refl

export_decl_writes : Writes export_decl holds_export_decl export_decl_spelling
unfolding export_decl
export_decl_writes x h lt =
    let both = and_parts (holds_name x.name) (holds_export_desc x.desc) h in
    let lengths = length-append (extern_name_spelling x.name) (export_desc_spelling x.desc) in
    bind_written _ (extern_name_writes x.name both.0 (omega (arith, lengths, lt))) (last_written (λ d. record { name = x.name; desc = d }) (export_desc_writes x.desc both.1 (omega (arith, lengths, lt)))) refl

declared_alias_written : (o : OuterType) → holds_outer_type o ≡ true → Spelled declared_alias o (0x03 ∷ 0x02 ∷ outer_type_spelling o)
unfolding declared_alias declared_alias_of
declared_alias_written o h = bind_written _ (code_written {k = alias_sorts.Type} 3 refl) (bind_written _ (code_written {k = outer_targets.OuterType} 2 refl) (outer_type_written o h) refl) refl

declaration_takes : (t : DeclaredTypeTree) (stock : ℕ) → types_in_declaration (types.type_decl t) ≤ stock → 0 < stock
declaration_takes t stock le = omega (arith, le)

declarations_write : WritesFrom declaration types_in_declaration holds_declaration declaration_spelling
unfolding declaration declaration_of declared_type_from
declarations_write stock (types.type_decl t) le h lt = bind_written _ (code_written {k = declaration_forms.Type} 1 refl) (last_written types.type_decl (from_stock_written (λ left. declared_type) TooMany t (declared_type_spelling t) stock (declaration_takes t stock le) (declared_type_writes t h (omega (arith, lt))))) refl
declarations_write stock (types.outer_type_decl o) le h lt = bind_written _ (code_written {k = declaration_forms.Alias} 2 refl) (last_written types.outer_type_decl (declared_alias_written o h)) refl
declarations_write stock (types.export_decl e) le h lt = bind_written _ (code_written {k = declaration_forms.Export} 4 refl) (last_written types.export_decl (export_decl_writes e h (omega (arith, lt)))) refl

declaration_lists_write : WritesFrom declarations (λ ds. sum_by types_in_declaration ds) (list_all holds_declaration) (vec_spelling declaration_spelling)
unfolding declarations
declaration_lists_write = stocked_written BadNumber declaration types_in_declaration holds_declaration declaration_spelling declaration_some declarations_write

-- ---- what is written: type definitions

def_type_writes : (left : ℕ) (d : DefTypeTree) → types_in_def d ≤ left + 1 → holds_def d ≡ true → length (def_spelling d) < 2 ^ 32 → Spelled (def_type left) d (def_spelling d)
unfolding def_type def_type_of
def_type_writes left (value_def t) le h lt = bind_written _ (code_written (def_val_type_code t) (form_read t)) (last_written value_def (parts_written t h (omega (arith, lt)))) refl
def_type_writes left (instance_def ds) le h lt = bind_written _ (code_written {k = type_forms.Instance} 0x42 refl) (last_written instance_def (declaration_lists_write left ds (omega (arith, le)) h (omega (arith, lt)))) refl
def_type_writes left (func_def f) le h lt = bind_written _ (code_written 0x40 refl) (last_written func_def (func_type_writes f h (omega (arith, lt)))) refl
def_type_writes left (resource_def d) le h lt = bind_written _ (code_written {k = type_forms.Resource} 0x3f refl) (bind_written _ (fixed_written {literal = 0x7f ∷ []}) (last_written resource_def (optional_writes index is_index shortest_unsigned index_writes d h (omega (arith, lt)))) refl) refl

-- ---- no more than may stand

declared_type_costs : (stock : ℕ) (x : DeclaredTypeTree) (bytes : List ℕ) → (declared_type_from stock).Spells x bytes → 1 ≤ stock
unfolding declared_type_from
declared_type_costs = from_stock_costs (λ left. declared_type) TooMany (λ x. 1) (λ stock x bytes s. omega arith)

declaration_of_costs : (stock : ℕ) (f : DeclarationForm) (x : DeclarationTree) (bytes : List ℕ) → (declaration_of stock f).Spells x bytes → types_in_declaration x ≤ stock
unfolding declaration_of
declaration_of_costs stock declaration_forms.Type x bytes s = rw s.4.0 (declared_type_costs stock s.0 s.1 s.3)
declaration_of_costs stock declaration_forms.Alias x bytes s = rw s.4.0 (omega arith)
declaration_of_costs stock declaration_forms.Export x bytes s = rw s.4.0 (omega arith)

declaration_costs : (stock : ℕ) (x : DeclarationTree) (bytes : List ℕ) → (declaration stock).Spells x bytes → types_in_declaration x ≤ stock
unfolding declaration
declaration_costs stock x bytes s = declaration_of_costs stock s.0 x s.2 s.4

declarations_cost : (stock : ℕ) (xs : List DeclarationTree) (bytes : List ℕ) → (declarations stock).Spells xs bytes → sum_by types_in_declaration xs ≤ stock
unfolding declarations
declarations_cost stock xs bytes s = chain_costs declaration types_in_declaration declaration_costs s.0 stock xs s.2 s.4

def_of_costs : (left : ℕ) (f : TypeForm) (x : DefTypeTree) (bytes : List ℕ) → (def_type_of left f).Spells x bytes → types_in_def x ≤ left + 1
unfolding def_type_of
def_of_costs left (type_forms.Value form) x bytes s = rw s.4.0 (omega arith)
def_of_costs left type_forms.Func x bytes s = rw s.4.0 (omega arith)
def_of_costs left type_forms.Resource x bytes s = rw s.4.4.0 (omega arith)
def_of_costs left type_forms.Instance x bytes s = rw s.4.0 (omega (arith, declarations_cost left s.0 s.1 s.3))

def_costs : (left : ℕ) (x : DefTypeTree) (bytes : List ℕ) → (def_type left).Spells x bytes → types_in_def x ≤ left + 1
unfolding def_type
def_costs left x bytes s = def_of_costs left s.0 x s.2 s.4

def_takes : (d : DefTypeTree) → 1 ≤ types_in_def d
def_takes (value_def v) = omega arith
def_takes (func_def f) = omega arith
def_takes (resource_def d) = omega arith
def_takes (instance_def ds) = omega arith

def_types_write : WritesFrom def_type_from types_in_def holds_def def_spelling
unfolding def_type_from
def_types_write stock d some h lt = from_stock_written def_type TooMany d (def_spelling d) stock (omega (arith, some, def_takes d)) (def_type_writes (stock - 1) d (omega (arith, some, def_takes d)) h lt)

pub type_defs_write : WritesFrom type_defs (λ ts. sum_by types_in_def ts) (list_all holds_def) (vec_spelling def_spelling)
unfolding type_defs
type_defs_write = stocked_written BadNumber def_type_from types_in_def holds_def def_spelling def_some def_types_write

def_type_costs : (stock : ℕ) (x : DefTypeTree) (bytes : List ℕ) → (def_type_from stock).Spells x bytes → types_in_def x ≤ stock
unfolding def_type_from
def_type_costs = from_stock_costs def_type TooMany types_in_def def_costs

pub type_defs_cost : (stock : ℕ) (xs : List DefTypeTree) (bytes : List ℕ) → (type_defs stock).Spells xs bytes → sum_by types_in_def xs ≤ stock
unfolding type_defs
type_defs_cost stock xs bytes s = chain_costs def_type_from types_in_def def_type_costs s.0 stock xs s.2 s.4
