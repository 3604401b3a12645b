-- What code that reads a bundle says of itself: how much more can be counted, and what a part adds.
use Rattle.std.specs.Prelude.{◌≡◌, ℕ, ◌+◌, ◌<◌, ◌^◌, List, Result, Ok, Err}
use Rattle.std.specs.List.{AllByRecursion}
use Rattle.cm_binary_grammar.specs.declared.cursor.Cursor.{Cursor}
use Rattle.cm_binary_grammar.specs.declared.fault.ReadError.{ReadError}
use Rattle.cm_binary_grammar.specs.Faults.{Fails}
use Rattle.cm_bundle.specs.declared.form.Part.{Part}
use Rattle.cm_bundle.specs.declared.fault.BundleReason.{BundleReason}
use Rattle.cm_bundle.specs.declared.spaces.Counts.{Counts}
use Rattle.cm_bundle.specs.declared.spaces.FrontSpaces.{FrontSpaces}
use Rattle.cm_bundle.specs.Grammar.{part}
use Rattle.cm_bundle.specs.Spelled.{Spaces, exports_of, all_counted}
use Rattle.cm_bundle.specs.Trees.{SupplyTree, part_tree}

-- The index spaces behind a front, as they lie in memory.
abbrev pub spaces_of : FrontSpaces → Spaces
spaces_of s = record { counts = s.counts; places = s.places.items }

-- Counts that leave room for so many more.
abbrev pub HasRoom : Counts → ℕ → Type 0
HasRoom c n = (c.functions + n < 2 ^ 63) × (c.instances + n < 2 ^ 63)

-- The part that was read is what the grammar gives, and the counts are those behind its aliases.
abbrev pub ReadsPart : Counts → List ℕ → Cursor BundleReason → Cursor BundleReason
    → Result (Part × Counts) (ReadError BundleReason) → Type 0
ReadsPart counts places old new (Ok x) =
    ((part (record { counts = counts; places = places })).reads old.end old.rest.now
    ≡ Ok (part_tree x.0, new.rest.now))
    × (x.1 ≡ all_counted counts (exports_of (part_tree x.0).arguments))
ReadsPart counts places old new (Err e) =
    Fails e ((part (record { counts = counts; places = places })).reads old.end old.rest.now)

-- Each is of one of the first parts, so many.
abbrev pub AreEarlier : ℕ → List SupplyTree → Type 0
AreEarlier parts xs = AllByRecursion (λ x. x.export.part < parts) xs
