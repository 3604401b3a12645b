-- Copying the values of a call to its receiver (CanonicalABI.md, "Lifting and Lowering Values").
use Rattle.std.specs.Prelude.{◌≡◌, ℕ, ◌<◌, ◌≤◌, List, []}
use Rattle.cm_types.specs.Types.{Fields}
use Rattle.cm_types.specs.Values.{Val}
use Rattle.cm_handles.specs.Handles.{Handles, indices_left}
use Rattle.cm_abi_model.specs.Answered.{Requesting, all_requests}
use Rattle.cm_abi_model.specs.Answering.{places_of, regions_of}
use Rattle.cm_abi_model.specs.Giving.{IsViewOf, added_count, numbers_given}
use Rattle.cm_abi_model.specs.Overlap.{AreDisjoint}
use Rattle.cm_abi_model.specs.Receives.{HandleLeaf, leaves_in}
use Rattle.cm_abi_model.specs.Requests.{stored_charset, tuple_of}
use Rattle.cm_abi_model.specs.Stores.{Given}
use Rattle.cm_abi_model.specs.Views.{View}
use Rattle.cm_abi_model.specs.declared.encoding.StringEncoding.{StringEncoding}
use Rattle.cm_abi_model.specs.declared.fault.AbiFault.{AbiFault}
use Rattle.cm_abi_model.specs.declared.fault.AbiFault.TheVariants as fault
use Rattle.cm_abi_model.specs.declared.receiver.Receiver.{Receiver}

-- the handles of a value of these types
abbrev pub handles_of_values : Fields → Val → List HandleLeaf
handles_of_values types v = leaves_in (tuple_of types) v

-- what a value is given: each part the answer to the last request for it, each handle its number,
-- by the receiver's table as it was
abbrev pub given_by : Requesting → List ℕ → Fields → Val → Receiver → Handles → Given
given_by p answers types v to table =
    record {
      places = places_of (all_requests p) answers;
      numbers = numbers_given to table (handles_of_values types v);
      charset = stored_charset p.target;
    }

-- a view of the receiver, with this memory and this table, in which strings are stored as they were
-- written
pub record IsReceivingIn (w : View) (target : StringEncoding) (to : Receiver) (memory : List ℕ)
    (table : Handles) : Type 0 where
  pub receiver : IsViewOf w to table
  pub memory_is : w.memory ≡ memory
  pub stored_alike : stored_charset w.encoding ≡ stored_charset target

-- the regions of the parts have no address in common
abbrev pub PartsAreApart : Requesting → List ℕ → Type 0
PartsAreApart p answers = AreDisjoint (regions_of (all_requests p) answers)

-- Why a value is not copied: the regions of two of its parts overlap; where they do not, that the
-- table has fewer indices left than it is to get handles; where it has enough, that there is no
-- memory, which is wanted where the value has handles alone.
abbrev pub IsFaultOfCopying : Requesting → List ℕ → Receiver → Handles → List HandleLeaf
    → AbiFault → Type 0
IsFaultOfCopying p answers to table leaves fault.Overlap = PartsAreApart p answers → ⊥
IsFaultOfCopying p answers to table leaves fault.TableFull =
    PartsAreApart p answers × (indices_left table < added_count to leaves)
IsFaultOfCopying p answers to table leaves fault.EngineMemory =
    PartsAreApart p answers × (added_count to leaves ≤ indices_left table) × (leaves ≡ [] → ⊥)
IsFaultOfCopying p answers to table leaves other = ⊥
