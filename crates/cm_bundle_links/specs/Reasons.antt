-- The numbers of reasons.
use Rattle.std.specs.Prelude.{ℕ}
use Rattle.cm_bundle_links.specs.declared.fault.LinksReason.{LinksReason}
use Rattle.cm_bundle_links.specs.declared.fault.LinksReason.TheVariants as reasons

-- the number by which a reason is known, this project's own
abbrev pub reason_number : LinksReason → ℕ
reason_number reasons.OtherParts = 1
reason_number reasons.NotGiven = 2
reason_number reasons.Imported = 3
reason_number reasons.NoExport = 4
reason_number reasons.NoImport = 5
reason_number reasons.Memory = 6
