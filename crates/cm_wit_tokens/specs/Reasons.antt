-- The numbers and the names of the reasons for which a WIT text is refused (this project's own
-- choice).
use Rattle.std.specs.Prelude.{ℕ, List, codes}
use Rattle.cm_wit_tokens.specs.declared.fault.WitReason.{WitReason}
use Rattle.cm_wit_tokens.specs.declared.fault.WitReason.TheVariants as reason

-- the number by which a reason is known
abbrev pub reason_number : WitReason → ℕ
reason_number reason.BadToken = 1
reason_number reason.Unexpected = 2
reason_number reason.Duplicate = 3
reason_number reason.UnknownName = 4
reason_number reason.Cycle = 5
reason_number reason.Unsupported = 6
reason_number reason.TooDeep = 7
reason_number reason.Memory = 8

-- the word by which a reason is known
abbrev pub reason_name : WitReason → List ℕ
reason_name reason.BadToken = codes "BadToken"
reason_name reason.Unexpected = codes "Unexpected"
reason_name reason.Duplicate = codes "Duplicate"
reason_name reason.UnknownName = codes "UnknownName"
reason_name reason.Cycle = codes "Cycle"
reason_name reason.Unsupported = codes "Unsupported"
reason_name reason.TooDeep = codes "TooDeep"
reason_name reason.Memory = codes "Memory"
