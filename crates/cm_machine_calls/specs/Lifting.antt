-- What a lift comes to (CanonicalABI.md, "Lifting and Lowering Values").
use Rattle.std.specs.Prelude.{◌≡◌, ℕ, ◌<◌, ◌⊎◌, List, length}
use Rattle.cm_types.specs.declared.core_value.CoreValue.{CoreValue}
use Rattle.cm_types.specs.Values.{Val}
use Rattle.cm_handles.specs.Handles.{Handles, IsSoundHandles}
use Rattle.cm_abi_model.specs.declared.fault.AbiFault.{AbiFault}
use Rattle.cm_abi_model.specs.Denotes.{Denotes}
use Rattle.cm_abi_model.specs.LiftStops.{LiftStops}
use Rattle.cm_abi_model.specs.Answered.{all_requests}
use Rattle.cm_abi_model.specs.Requests.{parts_of, requests}
use Rattle.cm_abi_model.specs.Scanned.{Scanned, ScansCall}
use Rattle.cm_abi_model.specs.Taken.{Transferable, lent_of, met, tags_of}
use Rattle.cm_abi_model.specs.Views.{View, Way}
use Rattle.cm_machine_model.specs.declared.event.Trap.{Trap}
use Rattle.cm_machine_model.specs.declared.event.Trap.TheVariants as trap
use Rattle.cm_machine_model.specs.Passages.{IsScanned}
use Rattle.cm_machine_model.specs.Plan.{Link, receiver_side, types_of}
use Rattle.cm_machine_model.specs.State.{Passage, State, table_at}
use Rattle.cm_machine_model.specs.Step.{MayWantMemory, after_lift, trap_of}

-- what is on its way of a scan of these core values
abbrev pub passage_in : List CoreValue → Scanned → Passage
passage_in slots s = record {
  slots = slots;
  records = s.parts.records;
  places = s.parts.places;
  answered = s.parts.answered;
  last = s.parts.last;
  leaves = s.handles;
}

-- why a lift stops: by what is wrong with the core values and what they lead to; or there is no
-- memory, where it may be wanted
abbrev pub StopsLift : View → Link → Way → List CoreValue → Trap → Type 0
StopsLift w l way slots t =
    ((f : AbiFault) × LiftStops w way (types_of l way) slots f × (t ≡ trap_of f))
    ⊎ (MayWantMemory w way (types_of l way) slots × (t ≡ trap.EngineMemory))

-- A value was scanned in a view, to go over the link that way: it asks for what it does with the
-- tags that were met, the table is sound, and where something is lent, the value has that handle.
pub record IsSeen (w : View) (l : Link) (way : Way) (slots : List CoreValue) (table : Handles)
    (s : Scanned) : Type 0 where
  pub v : Val
  pub scans : ScansCall w (receiver_side l way).encoding way (types_of l way) slots v table s
  pub asks : all_requests s.parts
      ≡ requests way (types_of l way) v w.encoding (receiver_side l way).encoding
      (tags_of (met w way (types_of l way) slots v))
  pub sound : IsSoundHandles table
  pub some : 0 < length s.lends → 0 < parts_of way (types_of l way) v

-- A value was lifted that way by an instance, for the call at a place: the new state is that after
-- the lift, but that the handles are not among the lends yet, whose indices are these.
pub record IsLifted (old new : State) (w : View) (l : Link) (way : Way) (giver place : ℕ)
    (slots : List CoreValue) (p : Passage) (lends : List ℕ) : Type 0 where
  pub v : Val
  pub denoted : Denotes w way (types_of l way) slots v
  pub transferable : Transferable w way (types_of l way) slots v
  pub scanned : IsScanned w l way slots v p
  pub is : new
      ≡ record (after_lift old giver place (met w way (types_of l way) slots v) p) {
        lends = old.lends;
      }
  pub lends_are : lends ≡ lent_of (met w way (types_of l way) slots v)
  pub sound : IsSoundHandles (table_at new.tables giver)
  pub some : 0 < length lends → 0 < parts_of way (types_of l way) v
