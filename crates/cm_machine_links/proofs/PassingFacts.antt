-- What functions pass, from layouts and kinds by place.
use Rattle.std.proofs.Common.{◌≡◌, ◌∙◌, ◌+◌, ◌<◌, ◌≤◌, ℕ, List, [], ◌∷◌, ◌++◌, length, map, take, get_or, Bool, true, false, Option, Some, None, refl, ap, sym, subst, arith, Global}
use Rattle.std.specs.Prelude.{nat_lt, if◌then◌else◌}
use Rattle.std.specs.List.{AllByRecursion}
use Rattle.std.specs.Option.{option_map}
use Rattle.std.specs.Prelude.{IfSome, Vec}
use Rattle.std.specs.declared.sync.Arc.{Arc}
use Rattle.std.proofs.lemmas.Bool.{ltb-false}
use Rattle.std.proofs.lemmas.List.{take_all, take_more}
use Rattle.cm_types.specs.declared.core_value.CoreKind.{CoreKind}
use Rattle.cm_types.specs.declared.core_value.CoreKind.TheVariants.{I32}
use Rattle.cm_types.specs.Spellable.{are_spellable, is_spellable}
use Rattle.cm_types.specs.Types.{Ty, Fields, FuncTy, field, fields, no_fields, tuple_type}
use Rattle.cm_types_arena.specs.Arena.{field_types}
use Rattle.cm_types_arena.specs.Replaced.{Standing, replaced, replaced_fields, replaced_func}
use Rattle.cm_layout.specs.Flattening.{flat_of, flat_of_fields, flat_of_payload}
use Rattle.cm_layout.specs.Shapes.{LayoutTy, layout_of_fields_at}
use Rattle.cm_abi_model.specs.Receives.{call_kinds}
use Rattle.cm_abi_model.specs.Requests.{is_spilled}
use Rattle.cm_abi_model.specs.Views.{Way, flat_limit, params, results}
use Rattle.cm_abi_slots.specs.Steps.{AreStepsOf, steps_for}
use Rattle.cm_abi_slots.specs.declared.steps.SlotStep.{SlotStep}
use Rattle.cm_layout_placed.specs.Placed.{result_fields}
use Rattle.cm_machine_model.specs.Plan.{one_field}
use Rattle.cm_machine_links.specs.Standing.{AreCallTypes, IsCallTypes, IsSpelled, first_flat, most_flat, passed_fields}
use Rattle.cm_machine_parts.specs.declared.link.CallTypes.{CallTypes}

pub fields_are : (o : Option Ty) → result_fields o ≡ one_field o
fields_are None = refl
fields_are (Some t) = refl

-- those that are passed flat are the first of so many
passed : (most : ℕ) (b : Bool) (ks : List CoreKind) → most ≤ 16 → nat_lt most (length ks) ≡ b → (if b then I32 ∷ [] else take 16 ks) ≡ (if b then I32 ∷ [] else ks)
passed most true ks le e = refl
passed most false ks le e = take_all 16 ks (omega (arith, le, ltb-false most (length ks) e))

pub kinds_passed : (most : ℕ) (width : ℕ) (ks flat : List CoreKind) → most ≤ 16 → width ≡ length ks → flat ≡ take 16 ks
    → (if nat_lt most width then I32 ∷ [] else flat) ≡ (if nat_lt most (length ks) then I32 ∷ [] else ks)
kinds_passed most width ks flat le e f =
    ap (λ n. if nat_lt most n then I32 ∷ [] else flat) e ∙ ap (λ l. if nat_lt most (length ks) then I32 ∷ [] else l) f ∙ passed most (nat_lt most (length ks)) ks le refl

pub result_flat : (flat : (s : Standing) (t : Ty) → flat_of (replaced s t) ≡ flat_of t) (s : Standing) (o : Option Ty) → flat_of_fields (one_field (option_map (replaced s) o)) ≡ flat_of_payload o
result_flat flat s None = refl
result_flat flat s (Some t) = nothing_behind (flat_of (replaced s t)) ∙ flat s t
  where
    nothing_behind : (xs : List CoreKind) → xs ++ [] ≡ xs
    nothing_behind [] = refl
    nothing_behind (x ∷ xs) = ap (λ l. x ∷ l) (nothing_behind xs)

-- the kinds of the core values that pass parameters, and a result, by layout and first kinds
pub params_kinds : (flat_of_same : (s : Standing) (t : Ty) → flat_of (replaced s t) ≡ flat_of t) (s : Standing) (fs : Fields) (l : LayoutTy) (b : Bool) (flat ks : List CoreKind)
    → l ≡ layout_of_fields_at (replaced_fields s fs) → b ≡ nat_lt 16 l.head.width → flat ≡ take 16 (flat_of_fields fs) → ks ≡ (if b then I32 ∷ [] else flat)
    → ks ≡ call_kinds params (replaced_fields s fs)
params_kinds same s fs l b flat ks laid spilled first is =
    let all : flat_of_fields (replaced_fields s fs) ≡ flat_of_fields fs = same s (fields tuple_type fs) in
    is
    ∙ ap (λ x. if x then I32 ∷ [] else flat) spilled
    ∙ kinds_passed 16 l.head.width (flat_of_fields (replaced_fields s fs)) flat (omega arith) (ap (λ (x : LayoutTy). x.head.width) laid) (first ∙ ap (take 16) (sym all))

pub results_kinds : (flat_of_same : (s : Standing) (t : Ty) → flat_of (replaced s t) ≡ flat_of t) (s : Standing) (o : Option Ty) (l : LayoutTy) (b : Bool) (flat ks : List CoreKind)
    → l ≡ layout_of_fields_at (result_fields (option_map (replaced s) o)) → b ≡ nat_lt 1 l.head.width → flat ≡ take 16 (flat_of_payload o) → ks ≡ (if b then I32 ∷ [] else flat)
    → ks ≡ call_kinds results (one_field (option_map (replaced s) o))
results_kinds same s o l b flat ks laid spilled first is =
    let fs = one_field (option_map (replaced s) o) in
    let laid_one : l ≡ layout_of_fields_at fs = laid ∙ ap layout_of_fields_at (fields_are (option_map (replaced s) o)) in
    is
    ∙ ap (λ x. if x then I32 ∷ [] else flat) spilled
    ∙ kinds_passed 1 l.head.width (flat_of_fields fs) flat (omega arith) (ap (λ (x : LayoutTy). x.head.width) laid_one) (first ∙ ap (take 16) (sym (result_flat same s o)))

-- those that pass what a function passes that way
pub kinds_that_way : (flat_of_same : (s : Standing) (t : Ty) → flat_of (replaced s t) ≡ flat_of t) (s : Standing) (f : FuncTy) (way : Way) (most : ℕ) (l : LayoutTy) (b : Bool) (flat ks : List CoreKind)
    → l ≡ layout_of_fields_at (passed_fields (replaced_func s f) way) → most ≡ most_flat way → b ≡ nat_lt most l.head.width → flat ≡ first_flat f way → ks ≡ (if b then I32 ∷ [] else flat)
    → ks ≡ call_kinds way (passed_fields (replaced_func s f) way)
kinds_that_way same s f params most l b flat ks laid at spilled first is = params_kinds same s f.params l b flat ks laid (spilled ∙ ap (λ n. nat_lt n l.head.width) at) first is
kinds_that_way same s f results most l b flat ks laid at spilled first is = results_kinds same s f.result l b flat ks laid (spilled ∙ ap (λ n. nat_lt n l.head.width) at) first is ∙ ap (call_kinds results) (sym (fields_are (option_map (replaced s) f.result)))

-- a result goes by memory where it is wide
pub pointer_of : (types : Fields) (l : LayoutTy) (b : Bool) → l ≡ layout_of_fields_at types → b ≡ nat_lt 1 l.head.width → b ≡ is_spilled results types
pointer_of types l b laid spilled = spilled ∙ ap (λ (x : LayoutTy). nat_lt 1 x.head.width) laid

-- steps that are kept are those of the types
steps_listed : (b : Bool) (way : Way) (types : Fields) (o : Option (Vec SlotStep Global)) (l : LayoutTy) → l ≡ layout_of_fields_at types
    → option_map (λ s. s.items) o ≡ (if b then None else steps_for (flat_limit way) l) → IfSome o (λ s. AreStepsOf way types s.items)
steps_listed b way types None l laid is = tt
steps_listed true way types (Some s) l laid is = absurd (cc (is))
steps_listed false way types (Some s) l laid is = sym (ap (steps_for (flat_limit way)) laid) ∙ sym is

pub steps_kept : (way : Way) (types : Fields) (o : Option (Vec SlotStep Global)) (most nodes : ℕ) (l : LayoutTy) → l ≡ layout_of_fields_at types
    → option_map (λ s. s.items) o ≡ (if nat_lt most nodes then None else steps_for (flat_limit way) l) → IfSome o (λ s. AreStepsOf way types s.items)
steps_kept way types o most nodes l laid is = steps_listed (nat_lt most nodes) way types o l laid is

-- ---- spelled

all_spelled : (ts : List Ty) (fs : Fields) → field_types fs ≡ ts → AllByRecursion (λ t. is_spellable t ≡ true) ts → are_spellable fs ≡ true
all_spelled ts no_fields e h = refl
all_spelled [] (field l t fs) e h = absurd (omega (arith, ap length e))
all_spelled (u ∷ ts) (field l t fs) e h = rw (ap is_spellable (first_is e) ∙ h.0, all_spelled ts fs (rest_is e) h.1) refl
  where
    first_is : {x y : Ty} {xs ys : List Ty} → x ∷ xs ≡ y ∷ ys → x ≡ y
    first_is h = cc h

    rest_is : {x y : Ty} {xs ys : List Ty} → x ∷ xs ≡ y ∷ ys → xs ≡ ys
    rest_is h = cc h

pub spelled_of : (ts : List Ty) (fs : Fields) → field_types fs ≡ ts → AllByRecursion (λ t. is_spellable t ≡ true) ts → are_spellable fs ≡ true
spelled_of = all_spelled

pub one_spelled_more : (at : ℕ → Ty) (ps : List ℕ) (i : ℕ) → i < length ps → is_spellable (at (get_or ps i 0)) ≡ true → AllByRecursion (λ t. is_spellable t ≡ true) (map at (take i ps))
    → AllByRecursion (λ t. is_spellable t ≡ true) (map at (take (i + 1) ps))
one_spelled_more at ps i lt here h = subst (λ l. AllByRecursion (λ t. is_spellable t ≡ true) (map at l)) (sym (take_more ps i 0 lt)) (joined (take i ps) h)
  where
    joined : (qs : List ℕ) → AllByRecursion (λ t. is_spellable t ≡ true) (map at qs) → AllByRecursion (λ t. is_spellable t ≡ true) (map at (qs ++ get_or ps i 0 ∷ []))
    joined [] k = (here, tt)
    joined (q ∷ qs) k = (k.0, joined qs k.1)

-- ---- call types of an arena

pub one_type_more : (s : Standing) (fs : List FuncTy) (i : ℕ) (d : FuncTy) (ts : List (Arc CallTypes Global)) (t : Arc CallTypes Global) → i < length fs
    → IsCallTypes s (get_or fs i d) t.value → IsSpelled (get_or fs i d) → AreCallTypes s (take i fs) ts → AreCallTypes s (take (i + 1) fs) (ts ++ t ∷ [])
one_type_more s fs i d ts t lt is spelled h = subst (λ l. AreCallTypes s l (ts ++ t ∷ [])) (sym (take_more fs i d lt)) (joined (take i fs) ts h)
  where
    joined : (gs : List FuncTy) (us : List (Arc CallTypes Global)) → AreCallTypes s gs us → AreCallTypes s (gs ++ get_or fs i d ∷ []) (us ++ t ∷ [])
    joined [] [] k = (is, spelled, tt)
    joined [] (u ∷ us) k = absurd k
    joined (g ∷ gs) [] k = absurd k
    joined (g ∷ gs) (u ∷ us) k = (k.0, k.1, joined gs us k.2)
