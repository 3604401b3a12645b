-- Scanning a value: as far as a reader comes, with a record kept of each part (what is kept of each
-- is this project's own choice).
use Rattle.std.specs.Prelude.{List, ◌++◌, Result}
use Rattle.cm_abi_load.specs.declared.stop.Stop.{Stop}
use Rattle.cm_abi_model.specs.declared.record.PartRecord.{PartRecord}
use Rattle.cm_abi_load.specs.Outcomes.{Outcome, Reads, State, mapped}
use Rattle.cm_abi_lift.specs.Keeping.{StopsToKeep, count_kept}
pub use Rattle.cm_abi_load.specs.Records.{case_number, element_record, held, is_tagged, payload}
pub use Rattle.cm_abi_load.specs.Records.{records_at, records_each, records_of_case}
pub use Rattle.cm_abi_load.specs.Records.{records_of_cases, records_of_fields, records_of_list}
pub use Rattle.cm_abi_load.specs.Records.{records_of_payload, text_record}

-- a reader that makes no value came as far as one that does, want of memory aside; where that one
-- has a value, the records of its parts follow those kept before
abbrev pub Scans : {X V : Type 0} → (V → List PartRecord) → (State → Outcome V) → List PartRecord
    → List PartRecord → State → State → Result X Stop → Type 0
Scans R read old new before after result =
    Reads (λ u. new) result after (mapped (λ v. old ++ R v) (read before))

-- it stops for want of memory only where there is more to keep than was kept before
abbrev pub ScansToKeep : {X V : Type 0} → (V → List PartRecord) → (State → Outcome V)
    → List PartRecord → State → Result X Stop → Type 0
ScansToKeep R read old before result =
    StopsToKeep result (count_kept old before) (mapped (λ v. old ++ R v) (read before))
