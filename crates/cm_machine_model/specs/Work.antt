-- How much is kept of what is on its way (this project's own choice).
use Rattle.std.specs.Prelude.{◌≡◌, ℕ, ◌==◌, false, List, [], ◌∷◌, length, filter, Option, Some}
use Rattle.std.specs.Prelude.{None}
use Rattle.cm_machine_model.specs.declared.frame.Frame.{Frame}
use Rattle.cm_machine_model.specs.declared.frame.Lend.{Lend}
use Rattle.cm_machine_model.specs.declared.frame.Work.{Work}
use Rattle.cm_machine_model.specs.declared.frame.Purpose.{Purpose}
use Rattle.cm_machine_model.specs.declared.frame.Purpose.TheVariants as purpose
use Rattle.cm_abi_model.specs.HandleLeaves.{owned_in}
use Rattle.cm_abi_model.specs.Scanned.{IsInOrder, Scanned}
use Rattle.cm_machine_model.specs.State.{Passage, State}

-- this place where the frame is one of a call, else the other
abbrev pub place_if_call : Purpose → ℕ → Option ℕ → Option ℕ
place_if_call (purpose.Call call) place otherwise = Some place
place_if_call purpose.Root place otherwise = otherwise
place_if_call (purpose.Destructor dropper) place otherwise = otherwise

-- the place of the topmost call, if one stands; frames of destructors above it are none
abbrev pub top_call : List Frame → Option ℕ
top_call [] = None
top_call (f ∷ fs) = place_if_call f.purpose (length fs) (top_call fs)

-- What is kept in all lists of a set is what is on its way: it is in order, and the records and the
-- handles are those of the passage; where nothing is on its way, no value is kept.
abbrev pub IsValueOf : Option Passage → Scanned → Type 0
IsValueOf None k = k.has_value ≡ false
IsValueOf (Some p) k = (k.parts.records ≡ p.records) × (k.handles ≡ p.leaves)

pub record IsKeptOf (o : Option Passage) (k : Scanned) : Type 0 where
  pub order : IsInOrder k
  pub value : IsValueOf o k

-- the records of parts that a passage has
abbrev pub records_kept : Option Passage → ℕ
records_kept None = 0
records_kept (Some p) = length p.records

-- the resources that are on their way in it
abbrev pub handles_kept : Option Passage → ℕ
handles_kept None = 0
handles_kept (Some p) = length (owned_in p.leaves)

-- the lends to the call at this place
abbrev pub lends_kept : Option ℕ → List Lend → ℕ
lends_kept None lends = 0
lends_kept (Some place) lends = length (filter (λ l. l.frame == place) lends)

-- The lengths of the lists of the topmost call of a state: the records of parts, the resources on
-- their way, and the handles that are lent to it.
abbrev pub work_of : State → Work
work_of s = record {
  records = records_kept s.passage;
  handles = handles_kept s.passage;
  lends = lends_kept (top_call s.stack) s.lends;
}
