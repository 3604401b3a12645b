-- The calls that C hands over (CanonicalABI.md, "Lifting and Lowering Values").
use Rattle.std.specs.Prelude.{◌≡◌, ◌⊎◌, ⊤, true, ℕ, List, length, None, Some}
use Rattle.cm_types.specs.Spellable.{are_spellable}
use Rattle.cm_types.specs.Types.{Fields}
use Rattle.cm_layout.specs.Layouts.{layout_of}
use Rattle.cm_layout.specs.Shapes.{layout_of_fields_at}
use Rattle.cm_abi_model.specs.Receives.{call_kinds}
use Rattle.cm_abi_model.specs.Requests.{IsStored}
use Rattle.cm_abi_model.specs.Views.{View, params}
use Rattle.huxarte_c_calls.specs.declared.call.Call.{Call}
use Rattle.huxarte_c_calls.specs.declared.call.HuxCall.{HuxCall}
use Rattle.huxarte_c_calls.specs.declared.fault.CallFault.{CallFault}
use Rattle.huxarte_c_calls.specs.declared.fault.CallFault.TheVariants as fault
use Rattle.huxarte_c_calls.specs.declared.handles.HuxHandle.{HuxHandle}
use Rattle.huxarte_c_calls.specs.HandedOver.{core_values_of, encoding_of, giver_of}
use Rattle.huxarte_c_calls.specs.HandedOver.{stored_encoding_of}

-- A call passes parameters of these types, which a file can spell: its layout and the kinds of its
-- core values are theirs. Its receiver stores strings as its encoding says.
pub record IsOf (c : Call) (types : Fields) : Type 0 where
  pub layout : layout_of c.layout ≡ layout_of_fields_at types
  pub kinds : c.kinds.items ≡ call_kinds params types
  pub spellable : are_spellable types ≡ true
  pub stores : IsStored c.encodings.target

-- it is the call that C hands over, with these numbers for core values
pub record IsCall (given : HuxCall) (numbers : List ℕ) (types : Fields) (c : Call) : Type 0 where
  pub is_of : IsOf c types
  pub source : encoding_of given.source ≡ Some c.encodings.source
  pub target : stored_encoding_of given.target ≡ Some c.encodings.target
  pub slots : c.slots.items ≡ core_values_of (call_kinds params types) numbers

-- no encoding has the number of one
abbrev pub HasNoEncoding : HuxCall → Type 0
HasNoEncoding given =
    (encoding_of given.source ≡ None) ⊎ (stored_encoding_of given.target ≡ None)

-- why what C hands over is no call of a function with parameters of these types
abbrev pub IsNoCall : HuxCall → List ℕ → Fields → CallFault → Type 0
IsNoCall given numbers types fault.NoEncoding = HasNoEncoding given
IsNoCall given numbers types fault.NoSlots =
    length numbers ≡ length (call_kinds params types) → ⊥
IsNoCall given numbers types fault.Memory = ⊤
IsNoCall given numbers types _ = ⊥

-- what is seen of the giver of a call, with this memory and these handles
abbrev pub view_of : Call → List ℕ → List HuxHandle → View
view_of c memory handles = giver_of memory handles c.encodings.source
