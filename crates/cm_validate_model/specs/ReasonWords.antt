-- The numbers and the names of the reasons for which a component is not valid (this project's own
-- choice).
use Rattle.std.specs.Prelude.{ℕ, List, codes}
use Rattle.cm_validate_model.specs.declared.fault.ValidReason.{ValidReason}
use Rattle.cm_validate_model.specs.declared.fault.ValidReason.TheVariants as reason

-- the number by which a reason is known
abbrev pub reason_number : ValidReason → ℕ
reason_number reason.NoSuchIndex = 1
reason_number reason.WrongSort = 2
reason_number reason.EmptyType = 3
reason_number reason.TooManyFlags = 4
reason_number reason.BorrowInResult = 5
reason_number reason.DuplicateName = 6
reason_number reason.NeedsMemory = 7
reason_number reason.NeedsRealloc = 8
reason_number reason.OptionTwice = 9
reason_number reason.OptionNotAllowed = 10
reason_number reason.NotGuestFunction = 11
reason_number reason.SecondMemory = 12
reason_number reason.NotOwnResource = 13
reason_number reason.BadAnnotatedName = 14
reason_number reason.Memory = 15
reason_number reason.NotImported = 16
reason_number reason.TooLarge = 17
reason_number reason.StoresLatin1 = 19

-- the word by which a reason is known
abbrev pub reason_name : ValidReason → List ℕ
reason_name reason.NoSuchIndex = codes "NoSuchIndex"
reason_name reason.WrongSort = codes "WrongSort"
reason_name reason.EmptyType = codes "EmptyType"
reason_name reason.TooManyFlags = codes "TooManyFlags"
reason_name reason.BorrowInResult = codes "BorrowInResult"
reason_name reason.DuplicateName = codes "DuplicateName"
reason_name reason.NeedsMemory = codes "NeedsMemory"
reason_name reason.NeedsRealloc = codes "NeedsRealloc"
reason_name reason.OptionTwice = codes "OptionTwice"
reason_name reason.OptionNotAllowed = codes "OptionNotAllowed"
reason_name reason.NotGuestFunction = codes "NotGuestFunction"
reason_name reason.SecondMemory = codes "SecondMemory"
reason_name reason.NotOwnResource = codes "NotOwnResource"
reason_name reason.BadAnnotatedName = codes "BadAnnotatedName"
reason_name reason.Memory = codes "Memory"
reason_name reason.NotImported = codes "NotImported"
reason_name reason.TooLarge = codes "TooLarge"
reason_name reason.StoresLatin1 = codes "StoresLatin1"
