-- Answers in numbers (this project's own choice; the numbers of the reasons are those of
-- docs/RULES.md).
use Rattle.std.specs.Prelude.{ℕ, Result, Ok, Err}
use Rattle.huxarte_c_calls.specs.declared.kinds.HuxKind.{HuxKind}
use Rattle.huxarte_c_calls.specs.declared.kinds.HuxKind.TheVariants as kind
use Rattle.huxarte_c_calls.specs.declared.verdicts.HuxVerdict.{HuxVerdict}

-- the number by which a kind is known
abbrev pub kind_number : HuxKind → ℕ
kind_number kind.Fine = 0
kind_number kind.Decode = 1
kind_number kind.Shim = 2
kind_number kind.Limit = 3
kind_number kind.Invalid = 4
kind_number kind.Unfit = 5
kind_number kind.Link = 6
kind_number kind.Wit = 7
kind_number kind.World = 8
kind_number kind.WorldExport = 9
kind_number kind.OwnImport = 10
kind_number kind.Show = 11
kind_number kind.Outside = 12
kind_number kind.NoText = 13
kind_number kind.Memory = 14
kind_number kind.Unplayed = 15
kind_number kind.Trapped = 16
kind_number kind.Stopped = 17
kind_number kind.NoFunc = 18
kind_number kind.NoEncoding = 19
kind_number kind.NoSlots = 20
kind_number kind.TooLarge = 21
kind_number kind.Value = 22
kind_number kind.Handles = 23
kind_number kind.Answer = 24
kind_number kind.Answers = 25
kind_number kind.NoPart = 26
kind_number kind.Choice = 33
kind_number kind.Bundle = 34
kind_number kind.BundleLinks = 35

-- what is wrong, for a reason, at an item of a place of a file
abbrev pub at_item : HuxKind → ℕ → ℕ → ℕ → ℕ → HuxVerdict
at_item k reason file place item =
    record { kind = kind_number k; reason = reason; file = file; place = place; item = item }

-- what is wrong, with no reason and no place
abbrev pub of_kind : HuxKind → HuxVerdict
of_kind k = at_item k 0 0 0 0

-- nothing is wrong
abbrev pub fine : HuxVerdict
fine = of_kind kind.Fine

-- The verdict on something that is done or refused: nothing is wrong, or what the refusal is in
-- numbers.
abbrev pub verdict_by : {A F : Type 0} → (F → HuxVerdict) → Result A F → HuxVerdict
verdict_by in_numbers (Ok _) = fine
verdict_by in_numbers (Err f) = in_numbers f
