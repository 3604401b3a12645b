-- What a scan keeps of what it reads: a record of each part, and each handle that it meets. Memory
-- is wanted for these alone (what is kept is this project's own choice).
use Rattle.std.specs.Prelude.{ℕ, ◌+◌, ◌<◌, List, length, Result, Ok, Err, ⊤}
use Rattle.cm_abi_load.specs.declared.stop.Stop.{Stop}
use Rattle.cm_abi_load.specs.declared.stop.Stop.TheVariants as stop
use Rattle.cm_abi_load.specs.Outcomes.{Outcome, State}
use Rattle.cm_abi_model.specs.declared.record.PartRecord.{PartRecord}
pub use Rattle.cm_abi_load.specs.Making.{KeepsHandles}

-- how many records and handles are kept
abbrev pub count_kept : List PartRecord → State → ℕ
count_kept rs s = length rs + length s.handles

-- where something is read, more is kept than so many records and handles
abbrev pub KeepsMore : ℕ → Outcome (List PartRecord) → Type 0
KeepsMore n (Ok x) = n < count_kept x.0 x.1
KeepsMore n (Err e) = ⊤

-- a stop for want of memory comes only where more is to be kept than so many records and handles
abbrev pub WantsToKeep : Stop → ℕ → Outcome (List PartRecord) → Type 0
WantsToKeep stop.Memory n outcome = KeepsMore n outcome
WantsToKeep (stop.Fault f) n outcome = ⊤

abbrev pub StopsToKeep : {X : Type 0} → Result X Stop → ℕ → Outcome (List PartRecord) → Type 0
StopsToKeep (Ok x) n outcome = ⊤
StopsToKeep (Err e) n outcome = WantsToKeep e n outcome
