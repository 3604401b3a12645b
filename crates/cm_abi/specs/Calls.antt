-- A call, from its giver to its receiver (CanonicalABI.md, "Lifting and Lowering Values").
use Rattle.std.specs.Prelude.{◌≡◌, true}
use Rattle.cm_types.specs.Spellable.{are_spellable}
use Rattle.cm_types.specs.Types.{Fields}
use Rattle.cm_layout.specs.Layouts.{layout_of}
use Rattle.cm_layout.specs.Shapes.{layout_of_fields_at}
use Rattle.cm_abi_model.specs.Receives.{call_kinds}
use Rattle.cm_abi_model.specs.Requests.{CanStore}
use Rattle.cm_abi_model.specs.Views.{View}
use Rattle.cm_abi_model.specs.Ways.{way_of}
use Rattle.cm_abi.specs.declared.passing.Passing.{Passing}

-- Values go on as they were lifted in a view: by the layout and the kinds of their types, which a
-- file can spell, from the encoding of the view to one in which values of them may be stored.
pub record GoOn (giver : View) (p : Passing) (types : Fields) : Type 0 where
  pub layout : layout_of p.layout.now ≡ layout_of_fields_at types
  pub kinds : p.kinds.now ≡ call_kinds (way_of p.way) types
  pub spellable : are_spellable types ≡ true
  pub source : p.encodings.source ≡ giver.encoding
  pub stores : CanStore p.encodings.target types
