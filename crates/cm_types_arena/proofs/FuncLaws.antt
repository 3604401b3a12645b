-- The types of functions in an arena.
use Rattle.std.proofs.Common.{◌≡◌, ℕ, zero, suc, ◌<◌, ◌≤◌, inl, inr, Bool, true, false, if◌then◌else◌, List, [], ◌∷◌, ◌++◌, length, map, get_or, Option, Some, None, refl, sym, ap, ◌∙◌, subst, arith, length-append, Vec, Global}
use Rattle.std.proofs.Math.Logic.{∥∥₁_elim, ∥∥₁_prop}
use Rattle.std.proofs.lemmas.Bool.{cases_lt}
use Rattle.std.proofs.lemmas.List.{get_or_append_left, get_or_push, map-append, length-map}
use Rattle.std.specs.declared.rc.Rc.{Rc}
use Rattle.std.specs.List.{AllByRecursion}
use Rattle.std.specs.Option.{SomeIff, option_map}
use Rattle.cm_types.specs.declared.type_trees.Func.{Func}
use Rattle.cm_types.specs.declared.type_trees.Field.{Field}
use Rattle.cm_types.specs.declared.limits.TheConstants.{MAX_NODES, MAX_DEPTH}
use Rattle.cm_types.specs.Types.{Ty, FuncTy, fields, tuple_type}
use Rattle.cm_types.specs.TypeTrees.{TypedLabel, field_of, fields_of, fields_from}
use Rattle.cm_types.specs.Funcs.{func_of}
use Rattle.cm_types.specs.Limits.{IsWithinLimits}
use Rattle.cm_types.specs.Spellable.{are_spellable}
use Rattle.cm_types_arena.specs.declared.entries.TypeEntry.{TypeEntry}
use Rattle.cm_types_arena.specs.declared.funcs.FuncDef.{FuncDef}
use Rattle.cm_types_arena.specs.declared.funcs.FuncEntry.{FuncEntry}
use Rattle.cm_types_arena.specs.declared.summaries.Summary.{Summary}
use Rattle.cm_types_arena.specs.declared.type_defs.FieldDef.{FieldDef}
use Rattle.cm_types_arena.specs.declared.type_defs.TypeDef.TheVariants as def
use Rattle.cm_types_arena.specs.Summaries.{summary_of, summary_of_all, above}
use Rattle.cm_types_arena.specs.TypeDefs.{type_at, func_at, field_def_type, func_def_type, params_type, IsBelow}
use Rattle.cm_types_arena.specs.Arena.{field_types, types_in, funcs_in, IsArena, IsFuncEntry, AreFuncs}
use Rattle.cm_types_arena.specs.Places.{HasFuncParts}
use Rattle.cm_types_arena.proofs.ArenaLaws.{Summary-set, parts_left, at_left, all_below_prop, types_more}
use Rattle.cm_types_arena.proofs.EntryLaws.{parts_spellable}
use Rattle.cm_types_arena.proofs.DefLaws.{AreSpellable, record_parts, fields_spellable}
use Rattle.cm_types_arena.proofs.PlaceLaws.{AreBelow, mapped_below, below_more, option_more, below_prop}
use Rattle.cm_types_arena.proofs.SummaryLaws.{too_large, summary_known}
use Rattle.cm_types_arena.proofs.TySets.{Types-set}

-- ---- the entry of a definition

pub func_entry_made : (es : List TypeEntry) (d : FuncDef) (func : Rc Func Global) (params : Vec ℕ Global) (s : Summary) → HasFuncParts (length (types_in es)) d
    → params.items ≡ map (λ f. f.ty) d.params.items → s ≡ summary_of (params_type (func_def_type (types_in es) d)) → func_of func.value ≡ func_def_type (types_in es) d
    → IsFuncEntry (types_in es) (record { func = func; params = params; result = d.result; summary = s })
func_entry_made es d func params s there is known ty =
    record {
      summary = known ∙ ap (λ f. summary_of (params_type f)) (sym ty);
      there = subst (AreBelow (length (types_in es))) (sym is) (mapped_below (length (types_in es)) (λ f. f.ty) d.params.items there.0);
      params = ap (λ f. field_types f.params) ty ∙ record_parts (types_in es) d.params.items ∙ ap (map (type_at (types_in es))) (sym is);
      result_there = there.1;
      result = ap (λ f. f.result) ty;
    }

pub func_too_large : (types : List Ty) (d : FuncDef) (ps : List ℕ) → ps ≡ map (λ f. f.ty) d.params.items → ((summary_of_all (map (type_at types) ps)).nodes ≤ MAX_NODES → ⊥)
    → IsWithinLimits (params_type (func_def_type types d)) → ⊥
func_too_large types d ps e over within = too_large types (def.Record d.params) ps e over within

pub func_summary_known : (types : List Ty) (d : FuncDef) (ps : List ℕ) (r : Option Summary) (s : Summary) → ps ≡ map (λ f. f.ty) d.params.items
    → s ≡ summary_of_all (map (type_at types) ps)
    → SomeIff r (((above 1 s).nodes ≤ MAX_NODES) × ((above 1 s).depth ≤ MAX_DEPTH)) (above 1 s)
    → SomeIff r (IsWithinLimits (params_type (func_def_type types d))) (summary_of (params_type (func_def_type types d)))
func_summary_known types d ps r s e f h = summary_known types (def.Record d.params) ps r s e f h

-- what is built of a definition within the limits is a function's type
pub params_within : (types : List Ty) (d : FuncDef) (fs : List Field) → map field_of fs ≡ map (field_def_type types) d.params.items → IsWithinLimits (params_type (func_def_type types d))
    → IsWithinLimits (fields tuple_type (fields_of fs))
params_within types d fs is h = subst (λ (ls : List TypedLabel). IsWithinLimits (fields tuple_type (fields_from ls))) (sym is) h

pub params_spelled : (es : List TypeEntry) (d : FuncDef) (fs : List Field) → ∥ IsArena es ∥₁ → HasFuncParts (length (types_in es)) d → map field_of fs ≡ map (field_def_type (types_in es)) d.params.items
    → are_spellable (fields_of fs) ≡ true
params_spelled es d fs a h is =
    let places = map (λ f. f.ty) d.params.items in
    let spelled = parts_spellable es places a (mapped_below (length (types_in es)) (λ f. f.ty) d.params.items h.0) in
    ap (λ ls. are_spellable (fields_from ls)) is
    ∙ fields_spellable (fields_from (map (field_def_type (types_in es)) d.params.items)) (subst AreSpellable (sym (record_parts (types_in es) d.params.items)) spelled)

-- ---- with more types and more functions

result_left : (types more : List Ty) (o : Option ℕ) → IsBelow (length types) o → option_map (type_at types) o ≡ option_map (type_at (types ++ more)) o
result_left types more None h = refl
result_left types more (Some p) h = ap Some (sym (at_left types more p h))

func_left : (types more : List Ty) (e : FuncEntry) → IsFuncEntry types e → IsFuncEntry (types ++ more) e
func_left types more e i =
    let long : length types ≤ length (types ++ more) = omega (arith, length-append types more) in
    let same : length types ≤ length types = omega arith in
    record {
      summary = i.summary;
      there = below_more (length types) (length (types ++ more)) e.params.items long i.there;
      params = i.params ∙ parts_left types more (length types) e.params.items same i.there;
      result_there = option_more (length types) (length (types ++ more)) e.result long i.result_there;
      result = i.result ∙ result_left types more e.result i.result_there;
    }

funcs_left : (types more : List Ty) (fs : List FuncEntry) → AreFuncs types fs → AreFuncs (types ++ more) fs
funcs_left types more fs a k d h = func_left types more (get_or fs k d) (a k d h)

pub funcs_kept : (b : Bool) (new old : List TypeEntry) (e : TypeEntry) (fs : List FuncEntry) → new ≡ (if b then old ++ e ∷ [] else old) → ∥ AreFuncs (types_in old) fs ∥₁
    → ∥ AreFuncs (types_in new) fs ∥₁
funcs_kept true new old e fs is a =
    subst (λ (es : List TypeEntry). ∥ AreFuncs (types_in es) fs ∥₁) (sym is)
    (subst (λ (ts : List Ty). ∥ AreFuncs ts fs ∥₁) (sym (types_more old e)) (∥∥₁_elim a ∥∥₁_prop (λ b. ∣ funcs_left (types_in old) (types_in (e ∷ [])) fs b ∣₁)))
funcs_kept false new old e fs is a = subst (λ (es : List TypeEntry). ∥ AreFuncs (types_in es) fs ∥₁) (sym is) a

funcs_more : (types : List Ty) (fs : List FuncEntry) (e : FuncEntry) → AreFuncs types fs → IsFuncEntry types e → AreFuncs types (fs ++ e ∷ [])
funcs_more types fs e a i k d h =
    elim (cases_lt k (length fs)) [
      | inl lt ↦ rw (get_or_append_left fs (e ∷ []) d k lt) (a k d lt)
      | inr le ↦ rw (get_or_push fs e d k (omega (arith, h, length-append fs (e ∷ [])))) i
    ]

pub funcs_pushed : (b : Bool) (types : List Ty) (new old : List FuncEntry) (e : FuncEntry) → new ≡ (if b then old ++ e ∷ [] else old) → ∥ AreFuncs types old ∥₁ → IsFuncEntry types e
    → ∥ AreFuncs types new ∥₁
funcs_pushed true types new old e is a i = subst (λ (fs : List FuncEntry). ∥ AreFuncs types fs ∥₁) (sym is) (∥∥₁_elim a ∥∥₁_prop (λ b. ∣ funcs_more types old e b i ∣₁))
funcs_pushed false types new old e is a i = subst (λ (fs : List FuncEntry). ∥ AreFuncs types fs ∥₁) (sym is) a

pub no_funcs : (types : List Ty) → ∥ AreFuncs types [] ∥₁
no_funcs types = ∣ (λ k d h. absurd (omega (arith, h))) ∣₁

-- ---- what an arena says of a place

pub func_count : (fs : List FuncEntry) → length (funcs_in fs) ≡ length fs
func_count fs = length-map fs (λ e. func_of e.func.value)

func_there : (fs : List FuncEntry) (k : ℕ) (d : FuncEntry) → k < length fs → func_at (funcs_in fs) k ≡ func_of (get_or fs k d).func.value
func_there [] k d h = absurd (omega arith)
func_there (x ∷ fs) zero d h = refl
func_there (x ∷ fs) (suc k) d h = func_there fs k d (omega arith)

pub func_of_item : (fs : List FuncEntry) (k : ℕ) (e : FuncEntry) → k < length fs → e ≡ get_or fs k e → func_of e.func.value ≡ func_at (funcs_in fs) k
func_of_item fs k e h is = ap (λ x. func_of x.func.value) is ∙ sym (func_there fs k e h)

-- an option as a list: two options are equal where the lists are
abbrev listed : Option Ty → List Ty
listed None = []
listed (Some t) = t ∷ []

listed_one : (a b : Option Ty) → listed a ≡ listed b → a ≡ b
listed_one None None e = refl
listed_one None (Some u) e = absurd (omega (arith, ap length e))
listed_one (Some t) None e = absurd (omega (arith, ap length e))
listed_one (Some t) (Some u) e = ap Some (ap (λ ts. get_or ts 0 t) e)

module _ (types : List Ty) (fs : List FuncEntry) (k : ℕ) (e : FuncEntry) (a : ∥ AreFuncs types fs ∥₁) (h : k < length fs) (is : e ≡ get_or fs k e) where
  entry_there : AreFuncs types fs → IsFuncEntry types e
  entry_there b = subst (IsFuncEntry types) (sym is) (b k e h)

  pub params_there : field_types (func_at (funcs_in fs) k).params ≡ map (type_at types) e.params.items
  params_there = ap (λ f. field_types f.params) (sym (func_of_item fs k e h is)) ∙ ∥∥₁_elim a (Types-set _ _) (λ b. (entry_there b).params)

  pub params_low : AreBelow (length types) e.params.items
  params_low = ∥∥₁_elim a (all_below_prop (length types) e.params.items) (λ b. (entry_there b).there)

  pub answer_there : (func_at (funcs_in fs) k).result ≡ option_map (type_at types) e.result
  answer_there =
      ap (λ f. f.result) (sym (func_of_item fs k e h is))
      ∙ listed_one _ _ (∥∥₁_elim a (Types-set _ _) (λ b. ap listed (entry_there b).result))

  pub answer_low : IsBelow (length types) e.result
  answer_low = ∥∥₁_elim a (below_prop (length types) e.result) (λ b. (entry_there b).result_there)

  pub params_known : e.summary ≡ summary_of (params_type (func_at (funcs_in fs) k))
  params_known = ∥∥₁_elim a (Summary-set _ _) (λ b. (entry_there b).summary) ∙ ap (λ f. summary_of (params_type f)) (func_of_item fs k e h is)
