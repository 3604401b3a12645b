-- Why items cannot be had.
use Rattle.std.specs.Prelude.{Bool, List, Option}
use Rattle.std.specs.List.{AllByRecursion, list_all, flat_map}
use Rattle.cm_types.specs.Types.{FuncTy}
use Rattle.cm_types.specs.Signatures.{NamedItem}
use Rattle.cm_wit_meanings.specs.declared.fault.MeaningFault.{MeaningFault}
use Rattle.cm_wit_meanings.specs.Faults.{IsFaultOf, IsFuncWithin, is_func_spellable}
use Rattle.cm_wit_signature.specs.Functions.{item_funcs}

-- each of these functions is within the limits, and a file can spell the types in each
abbrev pub AreWithin : List FuncTy → Type 0
AreWithin fs = AllByRecursion IsFuncWithin fs

abbrev pub are_spelled : List FuncTy → Bool
are_spelled fs = list_all is_func_spellable fs

-- Why something with functions cannot be had: there is nothing; or a function of it is over the
-- limits, or cannot be spelled, if there is something. Where memory ran out nothing is said.
abbrev pub IsFaultWith : {A : Type 0} → (A → List FuncTy) → Option A → MeaningFault → Type 0
IsFaultWith funcs what f = IsFaultOf (λ x. AreWithin (funcs x)) (λ x. are_spelled (funcs x)) what f

-- why an item, or several, cannot be had
abbrev pub IsItemFault : Option NamedItem → MeaningFault → Type 0
IsItemFault what f = IsFaultWith item_funcs what f

abbrev pub AreItemsFault : Option (List NamedItem) → MeaningFault → Type 0
AreItemsFault what f = IsFaultWith (flat_map item_funcs) what f
