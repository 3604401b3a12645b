-- Lifting what a call passes (CanonicalABI.md, "Lifting and Lowering Values").
use Rattle.std.specs.Prelude.{◌≡◌, ℕ, Bool, List, [], map, Result, Some}
use Rattle.cm_types.specs.declared.core_value.CoreValue.{CoreValue}
use Rattle.cm_types.specs.Types.{Fields}
use Rattle.cm_types.specs.Values.{Val}
use Rattle.cm_handles.specs.Handles.{Handles, handle_at}
use Rattle.cm_layout.specs.Layouts.{layout_of}
use Rattle.cm_layout.specs.Shapes.{LayoutTy, layout_of_fields_at}
use Rattle.cm_abi_model.specs.declared.encoding.StringEncoding.{StringEncoding}
use Rattle.cm_abi_model.specs.declared.fault.AbiFault.{AbiFault}
use Rattle.cm_abi_model.specs.Denotes.{Denotes}
use Rattle.cm_abi_model.specs.Taken.{MAX_CONTENT, Transferable, after_met, lent_of, met, tags_of}
use Rattle.cm_abi_model.specs.Taken.{taken_of}
use Rattle.cm_abi_model.specs.Views.{View, Way, flat_limit}
use Rattle.cm_abi_load.specs.Outcomes.{State}
use Rattle.cm_abi_lift.specs.FlatReading.{read_passed}
use Rattle.cm_abi_model.specs.Lifts.{Hands}
use Rattle.cm_abi_lift.specs.HandingOver.{lifted}
use Rattle.cm_abi_lift.specs.declared.lifted.Lifted.{Lifted}
use Rattle.cm_abi_lift.specs.declared.passed.Passed.{Passed}

-- what is passed is a tuple of values of these types: its layout is theirs
abbrev pub IsTupleOf : Fields → Passed → Type 0
IsTupleOf types passed = layout_of passed.layout.now ≡ layout_of_fields_at types

-- a reader that has met nothing
abbrev pub fresh : State
fresh = record { left = MAX_CONTENT; handles = []; tags = [] }

-- what lifting comes to: the value, the tags of its strings, and the handles then; or the first
-- fault in reading order
abbrev pub lift_of : List ℕ → Handles → StringEncoding → Way → LayoutTy → List CoreValue
    → Result (Val × List Bool × Hands) AbiFault
lift_of memory table encoding way l slots =
    lifted table (read_passed (record { memory = memory; table = table; encoding = encoding })
    (flat_limit way) l slots fresh)

-- the handles after values were lifted
abbrev pub handed_with : Handles → Lifted → Hands
handed_with table l = record { table = table; owns = l.owns.items; lends = l.lends.items }
