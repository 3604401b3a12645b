-- Why definitions are refused, besides the limits on expanded types, by the sketches of the types
-- before them.
use Rattle.std.specs.Prelude.{Bool, true, false, not, ◌&&◌, nat_lt, List, [], ◌∷◌, ◌++◌, map}
use Rattle.std.specs.Prelude.{Option, Some, None}
use Rattle.std.specs.List.{filter}
use Rattle.cm_types.specs.DefTypes.{DefValTypeTree, FuncTypeTree}
use Rattle.cm_validate_model.specs.declared.fault.ValidReason.{ValidReason}
use Rattle.cm_validate_model.specs.declared.fault.ValidReason.TheVariants as reason
use Rattle.cm_validate_model.specs.ReasonWords.{reason_number}
use Rattle.cm_validate_model.specs.Reasons.{unless}
use Rattle.cm_validate_model.specs.TypeRules.{params_broken, parts_broken, uses_broken}
use Rattle.cm_validate_instances.specs.declared.sketches.Sketch.{Sketch}
use Rattle.cm_validate_instances.specs.Definitions.{are_used, payload_holds}
use Rattle.cm_validate_instances.specs.Sketches.{sketch_sort}

-- ---- definitions

-- a definition of a value type
abbrev pub value_def_faults : List Sketch → DefValTypeTree → List ValidReason
value_def_faults ss v = parts_broken (map sketch_sort ss) v

-- a definition of the type of a function
abbrev pub func_def_faults : List Sketch → FuncTypeTree → List ValidReason
func_def_faults ss f =
    uses_broken (map sketch_sort ss) f
    ++ params_broken f
    ++ unless (not (are_used ss f && payload_holds ss f.result)) reason.BorrowInResult

-- ---- reasons but `TooLarge`

abbrev pub is_too_large : ValidReason → Bool
is_too_large reason.TooLarge = true
is_too_large _ = false

-- those of some reasons that are not `TooLarge`
abbrev pub besides_limits : List ValidReason → List ValidReason
besides_limits rs = filter (λ r. not (is_too_large r)) rs

-- each of some reasons has a smaller number than `TooLarge`
abbrev pub is_before_limits : ValidReason → Bool
is_before_limits r = nat_lt (reason_number r) (reason_number reason.TooLarge)

-- the least of some reasons, given the least of those that are others
abbrev pub or_too_large : List ValidReason → Option ValidReason → Option ValidReason
or_too_large rs (Some r) = Some r
or_too_large [] None = None
or_too_large (q ∷ qs) None = Some reason.TooLarge
