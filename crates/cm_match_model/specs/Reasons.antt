-- The numbers and the names of the reasons for which a set of components can't be linked (this
-- project's own choice).
use Rattle.std.specs.Prelude.{ℕ, List, codes}
use Rattle.cm_match_model.specs.declared.fault.LinkReason.{LinkReason}
use Rattle.cm_match_model.specs.declared.fault.LinkReason.TheVariants as reason

-- the number by which a reason is known
abbrev pub reason_number : LinkReason → ℕ
reason_number reason.Empty = 1
reason_number reason.TooMany = 2
reason_number reason.NoProvider = 3
reason_number reason.TwoProviders = 4
reason_number reason.MissingExport = 5
reason_number reason.DifferentType = 6
reason_number reason.DifferentResource = 7
reason_number reason.Memory = 8

-- the word by which a reason is known
abbrev pub reason_name : LinkReason → List ℕ
reason_name reason.Empty = codes "Empty"
reason_name reason.TooMany = codes "TooMany"
reason_name reason.NoProvider = codes "NoProvider"
reason_name reason.TwoProviders = codes "TwoProviders"
reason_name reason.MissingExport = codes "MissingExport"
reason_name reason.DifferentType = codes "DifferentType"
reason_name reason.DifferentResource = codes "DifferentResource"
reason_name reason.Memory = codes "Memory"
