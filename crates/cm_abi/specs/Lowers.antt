-- Lowering the values of a call (CanonicalABI.md, "Lifting and Lowering Values").
use Rattle.std.specs.Prelude.{◌≡◌, ℕ, ◌<◌, ◌≤◌, ◌⊎◌, true, List, None, length}
use Rattle.cm_types.specs.declared.core_value.CoreValue.{CoreValue}
use Rattle.cm_types.specs.Spellable.{are_spellable}
use Rattle.cm_types.specs.Types.{Fields}
use Rattle.cm_types.specs.Values.{HasType, Val, parts}
use Rattle.cm_handles.specs.Handles.{Handles, indices_left}
use Rattle.cm_layout.specs.Layouts.{layout_of}
use Rattle.cm_layout.specs.Shapes.{layout_of_fields_at}
use Rattle.cm_types.specs.ValueTrees.{values_of}
use Rattle.cm_abi_model.specs.declared.encoding.StringEncoding.TheVariants as encoding
use Rattle.cm_abi_model.specs.declared.fault.AbiFault.{AbiFault}
use Rattle.cm_abi_model.specs.declared.fault.AbiFault.TheVariants as fault
use Rattle.cm_abi_model.specs.declared.request.Request.{Request}
use Rattle.cm_abi_model.specs.Parts.{Part, parts_in}
use Rattle.cm_abi_model.specs.Receives.{HandleLeaf, NoneImplemented, Passes, Receives, call_bytes}
use Rattle.cm_abi_model.specs.Receives.{call_kinds, leaves_in}
use Rattle.cm_abi_model.specs.Requests.{CanStore, requests, stored_charset, tuple_of}
use Rattle.cm_abi_model.specs.Stores.{Framed, Given}
use Rattle.cm_abi_model.specs.Taken.{MAX_CONTENT}
use Rattle.cm_abi_model.specs.Views.{View}
use Rattle.cm_abi_model.specs.Ways.{way_of}
use Rattle.cm_abi_model.specs.Answering.{HaveScalars, IsFaultOfAnswers, IsGood, places_of}
use Rattle.cm_abi_requests.specs.Asking.{content_of_parts}
use Rattle.cm_abi_model.specs.Giving.{Gives, IsViewOf, added_count, numbers_given}
use Rattle.cm_abi_model.specs.declared.receiver.Receiver.{Receiver}
use Rattle.cm_abi.specs.declared.passing.Passing.{Passing}

-- the tuple of the values of a call, its parts, and its handles, in reading order
abbrev pub tuple_in : Passing → Val
tuple_in p = parts (values_of p.values.now)

abbrev pub parts_passed : Passing → Fields → List Part
parts_passed p types = parts_in (tuple_of types) (tuple_in p)

abbrev pub handles_passed : Passing → Fields → List HandleLeaf
handles_passed p types = leaves_in (tuple_of types) (tuple_in p)

-- what lowering the values asks for
abbrev pub asked_for : Passing → Fields → List Request
asked_for p types =
    requests (way_of p.way) types (tuple_in p) p.encodings.source p.encodings.target
    p.tags.now

-- Values of these types can be lowered: their layout and the kinds of the core values that pass
-- them are those of the types, which a file can spell; values of these types may be stored in their
-- target; strings and lists are within the limit of one direction of a call. Where strings come in
-- Latin-1 or in UTF-16, each is spelled in the one that its tag says.
pub record CanBeLowered (p : Passing) (types : Fields) : Type 0 where
  pub layout : layout_of p.layout.now ≡ layout_of_fields_at types
  pub kinds : p.kinds.now ≡ call_kinds (way_of p.way) types
  pub typed : HasType (tuple_of types) (tuple_in p)
  pub spellable : are_spellable types ≡ true
  pub stores : CanStore p.encodings.target types
  pub spelled : p.encodings.source ≡ encoding.Latin1OrUtf16
      → HaveScalars p.encodings.source p.tags.now (parts_passed p types)
  pub small :
      content_of_parts p.encodings.source p.tags.now (parts_passed p types) ≤ MAX_CONTENT

-- what the values are given: each part the answer to the last request for it, each handle its
-- number, by the receiver's table as it was
abbrev pub given_for : Passing → Fields → Receiver → Handles → List ℕ → Given
given_for p types to table answers =
    record {
      places = places_of (asked_for p types) answers;
      numbers = numbers_given to table (handles_passed p types);
      charset = stored_charset p.encodings.target;
    }

-- a view of the receiver, with this memory and this table, in which strings are stored as they were
-- written
pub record IsReceiving (w : View) (p : Passing) (to : Receiver) (memory : List ℕ)
    (table : Handles) : Type 0 where
  pub receiver : IsViewOf w to table
  pub memory_is : w.memory ≡ memory
  pub stored_alike : stored_charset w.encoding ≡ stored_charset p.encodings.target

-- Values of these types were lowered for a receiver, by the answers to what they asked for: its
-- memory and its table became these, and these core values pass them.
pub record IsLowered (p : Passing) (types : Fields) (to : Receiver) (answers old_memory : List ℕ)
    (old_table : Handles) (new_memory : List ℕ) (new_table : Handles) (slots : List CoreValue)
    : Type 0 where
  -- the receiver has the values: each part at its answer, each handle by its number
  pub received : (w : View) → IsReceiving w p to new_memory new_table
      → Receives w (way_of p.way) types slots (given_for p types to old_table answers)
      (tuple_in p)
  -- the core values denote them in its view, where it implements the resource of none of them
  pub denoted : (w : View) → IsReceiving w p to new_memory new_table
      → w.encoding ≡ p.encodings.target → NoneImplemented w (handles_passed p types)
      → Passes w (way_of p.way) types slots (tuple_in p)
  -- the bytes of the values were written, each at its address, and no other byte
  pub framed : Framed old_memory new_memory
      (call_bytes (given_for p types to old_table answers) (way_of p.way) types (tuple_in p))
  -- exactly their handles were added to the table, under the numbers that stand for them
  pub handles : Gives to old_table new_table (handles_passed p types)
      (numbers_given to old_table (handles_passed p types))
  -- the answers will do
  pub answers_are_good : IsGood (length old_memory) (asked_for p types) answers

-- Why values are not lowered: what is wrong with the answers; where they will do, that the table
-- has fewer indices left than it is to get handles; or that there is no memory.
abbrev pub IsFaultOfLowering : ℕ → Passing → Fields → Receiver → Handles → List ℕ → AbiFault
    → Type 0
IsFaultOfLowering memory_length p types to table answers f =
    IsFaultOfAnswers memory_length (asked_for p types) answers f
    ⊎ ((f ≡ fault.TableFull) × IsGood memory_length (asked_for p types) answers
    × (indices_left table < added_count to (handles_passed p types)))
    ⊎ (f ≡ fault.EngineMemory)
