-- The core values that pass the types of an arena.
use Rattle.std.proofs.Common.{◌≡◌, ◌≤◌, ◌<◌, ℕ, List, [], length, Option, Some, None, refl, sym, ap, ◌∙◌}
use Rattle.std.specs.Prelude.{slice_get}
use Rattle.std.specs.Option.{option_and_then, option_map, option_or}
use Rattle.cm_binary_model.specs.declared.canons.CanonOption.{CanonOption}
use Rattle.cm_validate_model.specs.Definitions.{lowered}
use Rattle.cm_validate_model.specs.Spaces.{Spaces}
use Rattle.cm_validate_functions.specs.Lifts.{LiftDef, first_use, lifting, post_return}
use Rattle.std.proofs.Math.ListN.{get_or-eq_default}
use Rattle.cm_types.specs.Types.{Ty, FuncTy, fields, no_fields, tuple_type}
use Rattle.cm_types.specs.declared.core_value.CoreKind.{CoreKind}
use Rattle.cm_layout.specs.FlatFuncs.{flat_func, flat_func_of, lifted_func, lowered_func, FlatFuncTy}
use Rattle.cm_layout.specs.Flattening.{flat_of, flat_of_fields, flat_of_payload}
use Rattle.cm_layout.specs.declared.flat_funcs.FlatFunc.{FlatFunc}
use Rattle.cm_layout.specs.declared.flat_funcs.Side.{Side}
use Rattle.cm_layout.specs.declared.flat_funcs.Side.TheVariants.{Lift, Lower}
use Rattle.cm_types_arena.specs.Placed.{moved_by, placed_func}
use Rattle.cm_types_arena.specs.Replaced.{Standing, replaced, replaced_fields}
use Rattle.cm_types_arena.specs.TypeDefs.{func_at}
use Rattle.cm_types_arena.specs.declared.placed.Placed.{Placed}
use Rattle.cm_validate_functions.specs.CoreTypes.{CoreFuncTy, core_type, core_type_of, flat_type, guest_type, helper_type, post_return_type, type_of}
use Rattle.cm_validate_functions.specs.declared.core_types.CoreFuncType.{CoreFuncType}

-- moved resources change no flat type
abbrev pub KindsStay : Type 0
KindsStay = (s : Standing) (t : Ty) → flat_of (replaced s t) ≡ flat_of t

params_placed : KindsStay → (funcs : List FuncTy) (ty : Placed) → flat_of_fields (placed_func funcs ty).params ≡ flat_of_fields (func_at funcs ty.place).params
params_placed stay funcs ty = stay (moved_by ty.by) (fields tuple_type (func_at funcs ty.place).params)

payload_stays : KindsStay → (s : Standing) (r : Option Ty) → flat_of_payload (option_map (replaced s) r) ≡ flat_of_payload r
payload_stays stay s None = refl
payload_stays stay s (Some t) = stay s t

result_placed : KindsStay → (funcs : List FuncTy) (ty : Placed) → flat_of_payload (placed_func funcs ty).result ≡ flat_of_payload (func_at funcs ty.place).result
result_placed stay funcs ty = payload_stays stay (moved_by ty.by) (func_at funcs ty.place).result

flat_placed : KindsStay → (side : Side) (funcs : List FuncTy) (ty : Placed) → flat_func side (placed_func funcs ty) ≡ flat_func side (func_at funcs ty.place)
flat_placed stay Lift funcs ty =
    ap (λ (ps : List CoreKind). lifted_func ps (flat_of_payload (placed_func funcs ty).result)) (params_placed stay funcs ty)
    ∙ ap (lifted_func (flat_of_fields (func_at funcs ty.place).params)) (result_placed stay funcs ty)
flat_placed stay Lower funcs ty =
    ap (λ (ps : List CoreKind). lowered_func ps (flat_of_payload (placed_func funcs ty).result)) (params_placed stay funcs ty)
    ∙ ap (lowered_func (flat_of_fields (func_at funcs ty.place).params)) (result_placed stay funcs ty)

abbrev core_of : FlatFuncTy → CoreFuncTy
core_of f = record { params = f.params; results = f.results }

-- the type that flattening makes
pub flat_there : KindsStay → (side : Side) (funcs : List FuncTy) (ty : Placed) (flat : FlatFunc) (t : CoreFuncType)
    → flat_func_of flat ≡ flat_func side (func_at funcs ty.place) → core_type_of t ≡ core_of (flat_func_of flat) → core_type_of t ≡ flat_type side (placed_func funcs ty)
flat_there stay side funcs ty flat t is made = made ∙ ap core_of is ∙ sym (ap core_of (flat_placed stay side funcs ty))

-- where there is no function, nothing is passed
nothing : (side : Side) → core_of (flat_func side (record { params = no_fields; result = None })) ≡ record { params = []; results = [] }
nothing Lift = refl
nothing Lower = refl

pub flat_nowhere : KindsStay → (side : Side) (funcs : List FuncTy) (ty : Placed) (t : CoreFuncType) → length funcs ≤ ty.place → core_type_of t ≡ record { params = []; results = [] } → core_type_of t ≡ flat_type side (placed_func funcs ty)
flat_nowhere stay side funcs ty t le made =
    made
    ∙ sym (nothing side)
    ∙ sym (ap core_of (ap (flat_func side) (get_or-eq_default funcs (record { params = no_fields; result = None }) le)))
    ∙ sym (ap core_of (flat_placed stay side funcs ty))

-- ---- the types of core functions

pub by_post_return : (s : Spaces) (f : ℕ) (l : LiftDef) (t : CoreFuncTy) → None ≡ first_use lifting s f → Some l ≡ first_use post_return s f → t ≡ post_return_type l.ty → Some t ≡ guest_type s f
by_post_return s f l t none some is =
    ap (λ (u : CoreFuncTy). Some u) is
    ∙ ap (λ (o : Option LiftDef). option_or (option_map (λ l. post_return_type l.ty) o) (helper_type s f)) some
    ∙ ap (λ (o : Option LiftDef). option_or (option_map (λ l. flat_type Lift l.ty) o) (option_or (option_map (λ l. post_return_type l.ty) (first_use post_return s f)) (helper_type s f))) none

pub lowered_kind : (s : Spaces) (f import : ℕ) (item : Option ℕ) (ty : FuncTy) (os : List CanonOption) (t : CoreFuncTy) → Some (lowered import item ty os) ≡ slice_get s.core_funcs f → t ≡ flat_type Lower ty → Some t ≡ core_type s f
lowered_kind s f import item ty os t at is = ap (λ (u : CoreFuncTy). Some u) is ∙ ap (option_and_then (type_of s f)) at
