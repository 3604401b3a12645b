-- Handing a value over to its receiver (CanonicalABI.md, "Lifting and Lowering Values").
use Rattle.std.specs.Prelude.{◌≡◌, ◌≢◌, ℕ, ◌≤◌, ◌⊎◌, List, [], None, slice_set}
use Rattle.cm_types.specs.declared.core_value.CoreKind.{CoreKind}
use Rattle.cm_types.specs.declared.core_value.CoreValue.{CoreValue}
use Rattle.cm_types.specs.Types.{Fields}
use Rattle.cm_types.specs.Values.{Val}
use Rattle.cm_handles.specs.Handles.{Handles, indices_left}
use Rattle.cm_layout.specs.Layouts.{layout_of}
use Rattle.cm_layout.specs.Shapes.{layout_of_fields_at}
use Rattle.cm_abi_lift.specs.declared.passed.Passed.{Passed}
use Rattle.cm_abi_model.specs.Answered.{IsAllAnswered, Requesting, all_requests}
use Rattle.cm_abi_model.specs.Answering.{first_fault, regions_of}
use Rattle.cm_abi_model.specs.Giving.{Gives, added_count}
use Rattle.cm_abi_model.specs.Overlap.{AreDisjoint}
use Rattle.cm_abi_model.specs.Receives.{HandleLeaf, borrowed_leaf, call_kinds, owned_leaf}
use Rattle.cm_abi_model.specs.Scanned.{GoesOn, Scanned}
use Rattle.cm_abi_model.specs.Views.{View, Way}
use Rattle.cm_abi_model.specs.Ways.{way_of}
use Rattle.cm_abi_model.specs.declared.receiver.Receiver.{Receiver}
use Rattle.cm_abi_copy.specs.Copies.{IsCopied}
use Rattle.cm_machine_model.specs.declared.event.Trap.{Trap}
use Rattle.cm_machine_model.specs.declared.event.Trap.TheVariants as trap
use Rattle.cm_machine_model.specs.Memories.{memory_at}
use Rattle.cm_machine_model.specs.declared.frame.Place.{Place}
use Rattle.cm_machine_model.specs.declared.frame.Place.TheVariants as place
use Rattle.cm_machine_model.specs.Passages.{asked_for}
use Rattle.cm_machine_model.specs.Plan.{Link}
use Rattle.cm_machine_model.specs.State.{Passage, State, table_at}
use Rattle.cm_machine_model.specs.Step.{IsHanded, after_handing}

-- where the resource of one handle of a value is, once it was given at a number
abbrev pub owner_given : ℕ → HandleLeaf → ℕ → List Place → List Place
owner_given i (owned_leaf h) n owners = slice_set owners h.serial (place.InTable i n)
owner_given i (borrowed_leaf h) n owners = owners

-- A value that was scanned in a view can be copied from that memory into one of so many bytes: the
-- layout and the kinds are those of the types, and all its requests are answered well.
pub record CanCopy (view : View) (from : List ℕ) (memory_length : ℕ) (passed : Passed)
    (kinds : List CoreKind) (s : Scanned) (answers : List ℕ) (types : Fields) (v : Val) : Type 0
  where
    pub layout : layout_of passed.layout.now ≡ layout_of_fields_at types
    pub memory : view.memory ≡ from
    pub found : GoesOn view (way_of passed.way) types passed.slots.now v s
    pub answered : IsAllAnswered s.parts answers
    pub fine : first_fault memory_length (all_requests s.parts) answers ≡ None
    pub kinds_are : kinds ≡ call_kinds (way_of passed.way) types

-- some value can
abbrev pub CanBeCopied : List ℕ → ℕ → Passed → List CoreKind → Scanned → Type 0
CanBeCopied from memory_length passed kinds s =
    (view : View) × (answers : List ℕ) × (types : Fields) × (v : Val)
    × CanCopy view from memory_length passed kinds s answers types v

-- A value was copied to its receiver, whose memory is one of some.
pub record IsCopiedIn (to : Receiver) (way : Way) (types : Fields) (v : Val) (parts : Requesting)
    (answers : List ℕ) (before after : List (List ℕ)) (old new : Handles) (slots : List CoreValue)
    (numbers : List ℕ) : Type 0 where
  pub memory : List ℕ
  pub memories : after ≡ slice_set before to.instance memory
  pub copied : IsCopied to way types v parts answers (memory_at before to.instance) memory old new
      slots numbers

-- A value was handed over: its parts are apart, the table had room, and the new state is that after
-- it was handed over.
pub record IsHandedOver (s new : State) (l : Link) (way : Way) (to : Receiver) (p : Passage)
    (v : Val) (answers : List ℕ) (slots : List CoreValue) : Type 0 where
  pub apart : AreDisjoint (regions_of (asked_for l way p v) answers)
  pub room : added_count to p.leaves ≤ indices_left (table_at s.tables to.instance)
  pub memory : List ℕ
  pub handed : IsHanded s l way to p v memory slots
  pub is : new ≡ after_handing s to p memory
  pub numbers : List ℕ
  pub gives : Gives to (table_at s.tables to.instance) (table_at new.tables to.instance) p.leaves
      numbers

-- why a value is not handed over
abbrev pub StopsHanding : State → Link → Way → Receiver → Passage → Val → List ℕ → Trap → Type 0
StopsHanding s l way to p v answers t =
    ((AreDisjoint (regions_of (asked_for l way p v) answers) → ⊥) × (t ≡ trap.Overlap))
    ⊎ (AreDisjoint (regions_of (asked_for l way p v) answers)
    × (added_count to p.leaves ≤ indices_left (table_at s.tables to.instance) → ⊥)
    × (t ≡ trap.TableFull))
    ⊎ (AreDisjoint (regions_of (asked_for l way p v) answers)
    × (added_count to p.leaves ≤ indices_left (table_at s.tables to.instance))
    × (p.leaves ≢ []) × (t ≡ trap.EngineMemory))
