-- What is settled of a value that can be copied, before any of it is.
use Rattle.std.specs.Prelude.{◌≡◌, ◌↔◌, ℕ, ◌≤◌, List, length}
use Rattle.cm_types.specs.declared.limits.TheConstants.{MAX_FLAT_PARAMS}
use Rattle.cm_types.specs.Types.{Fields}
use Rattle.cm_types.specs.Values.{HasType, Val}
use Rattle.cm_abi_model.specs.Parts.{CasesFit, handle_count}
use Rattle.cm_abi_model.specs.Receives.{call_kinds}
use Rattle.cm_abi_model.specs.Regions.{AreApart, ArePlaced}
use Rattle.cm_abi_model.specs.Requests.{call_parts, tuple_of}
use Rattle.cm_abi_model.specs.Stores.{Given}
use Rattle.cm_abi_model.specs.Views.{Way}
use Rattle.cm_abi_model.specs.Answering.{places_of}
use Rattle.cm_abi_model.specs.Overlap.{AreDisjoint}
use Rattle.cm_abi_model.specs.Answered.{Requesting, all_requests}
use Rattle.cm_abi_model.specs.Placing.{regions_at}
use Rattle.cm_abi_model.specs.Copies.{PartsAreApart, handles_of_values}

-- A value has its types; its cases are counted in 32 bits, and its handles are as many as it
-- counts; there are no more core values than a call passes. Each of its parts has a place, the
-- answer to the last request for it, in a memory of so many bytes; and the places are apart exactly
-- where the regions of the answers are.
pub record IsSettled (memory_length : ℕ) (way : Way) (p : Requesting) (answers : List ℕ)
    (types : Fields) (v : Val) : Type 0 where
  pub typed : HasType (tuple_of types) v
  pub cases : CasesFit v
  pub handles : length (handles_of_values types v) ≡ handle_count v
  pub few : length (call_kinds way types) ≤ MAX_FLAT_PARAMS
  pub places : p.places ≡ places_of (all_requests p) answers
  pub counted : length p.places ≡ length (call_parts way types v)
  pub placed : (g : Given) → g.places ≡ p.places
      → ArePlaced p.target memory_length g 0 (call_parts way types v)
  pub regions : AreDisjoint (regions_at p.records p.places)
      ↔ PartsAreApart p answers
  pub apart : (g : Given) → g.places ≡ p.places → PartsAreApart p answers
      → AreApart p.target g 0 (call_parts way types v)
