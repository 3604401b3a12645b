-- What comes of adding what the parts of definitions and functions stand for to the types of an
-- arena.
use Rattle.std.specs.Prelude.{ℕ, ◌<◌, List, Option, Result, Ok, Err, IfSome, map}
use Rattle.std.specs.Global.{Vec}
use Rattle.std.specs.List.{AllByRecursion}
use Rattle.cm_types.specs.Types.{Ty, FuncTy}
use Rattle.cm_types.specs.TypeTrees.{TypedLabel, CaseOf}
use Rattle.cm_types.specs.Limits.{IsWithinLimits}
use Rattle.cm_types.specs.Spellable.{is_spellable, is_spellable_payload}
use Rattle.cm_types_arena.specs.Places.{HasFuncParts}
use Rattle.cm_types_arena.specs.TypeDefs.{IsBelow, case_def_type, field_def_type, func_def_type}
use Rattle.cm_types_arena.specs.declared.types.Types.{Types}
use Rattle.cm_types_arena.specs.declared.type_defs.CaseDef.{CaseDef}
use Rattle.cm_types_arena.specs.declared.type_defs.FieldDef.{FieldDef}
use Rattle.cm_types_arena.specs.declared.funcs.FuncDef.{FuncDef}
use Rattle.cm_wit_meanings.specs.declared.fault.MeaningFault.{MeaningFault}
use Rattle.cm_wit_meanings.specs.declared.scope.Meaning as code
use Rattle.cm_wit_meanings.specs.declared.scope.Meaning.TheVariants as meant
use Rattle.cm_wit_meanings.specs.Added.{Added}
use Rattle.cm_wit_meanings.specs.Faults.{AreFieldsFault, IsFaultIn, IsFaultOf, IsFuncFault}
use Rattle.cm_wit_meanings.specs.Meanings.{variant_of}
use Rattle.cm_wit_meanings.specs.Places.{IsPlaced, meaning_in}
use Rattle.cm_wit_meanings.specs.Scopes.{Meaning, as_type}

-- ---- definitions

-- what the name of a definition stands for
abbrev pub AddedDef : Types → Types → Option Meaning → Result code.Meaning MeaningFault → Type 0
AddedDef old new meant r = Added meaning_in IsPlaced (IsFaultIn as_type) old new meant r

-- a name of the type at a place, if there is one
abbrev pub named_place : Result ℕ MeaningFault → Result code.Meaning MeaningFault
named_place (Ok place) = Ok (meant.Value place)
named_place (Err f) = Err f

-- ---- fields and cases

-- a field, and a case, whose type or payload has a place among so many types
abbrev pub is_field_there : ℕ → FieldDef → Type 0
is_field_there count d = d.ty < count

abbrev pub is_case_there : ℕ → CaseDef → Type 0
is_case_there count d = IsBelow count d.payload

-- why there is no field, and no case
abbrev pub IsFieldFault : Option TypedLabel → MeaningFault → Type 0
IsFieldFault meant f = IsFaultOf (λ x. IsWithinLimits x.1) (λ x. is_spellable x.1) meant f

abbrev pub IsCaseFault : Option CaseOf → MeaningFault → Type 0
IsCaseFault meant f =
    IsFaultOf (λ x. IfSome x.1 IsWithinLimits) (λ x. is_spellable_payload x.1) meant f

abbrev pub AddedField : Types → Types → Option TypedLabel → Result FieldDef MeaningFault → Type 0
AddedField old new meant r = Added field_def_type is_field_there IsFieldFault old new meant r

abbrev pub AddedCase : Types → Types → Option CaseOf → Result CaseDef MeaningFault → Type 0
AddedCase old new meant r = Added case_def_type is_case_there IsCaseFault old new meant r

-- several of them
abbrev pub fields_at : List Ty → Vec FieldDef → List TypedLabel
fields_at types ds = map (field_def_type types) ds.items

abbrev pub cases_at : List Ty → Vec CaseDef → List CaseOf
cases_at types ds = map (case_def_type types) ds.items

abbrev pub are_fields_there : ℕ → Vec FieldDef → Type 0
are_fields_there count ds = AllByRecursion (is_field_there count) ds.items

abbrev pub are_cases_there : ℕ → Vec CaseDef → Type 0
are_cases_there count ds = AllByRecursion (is_case_there count) ds.items

abbrev pub AddedFields : Types → Types → Option (List TypedLabel)
    → Result (Vec FieldDef) MeaningFault → Type 0
AddedFields old new meant r = Added fields_at are_fields_there AreFieldsFault old new meant r

abbrev pub AddedCases : Types → Types → Option (List CaseOf)
    → Result (Vec CaseDef) MeaningFault → Type 0
AddedCases old new meant r =
    Added cases_at are_cases_there (IsFaultIn variant_of) old new meant r

-- ---- functions

-- the types in a function
abbrev pub AddedFunc : Types → Types → Option FuncTy → Result FuncDef MeaningFault → Type 0
AddedFunc old new meant r = Added func_def_type HasFuncParts IsFuncFault old new meant r
