-- Why a bundle is not written, and what code that writes one says of itself.
use Rattle.std.specs.Prelude.{◌≡◌, ◌⊎◌, ℕ, ◌+◌, ◌≤◌, ◌<◌, ◌^◌, List, ◌++◌, length, Result, Ok, Err}
use Rattle.std.specs.List.{AllByRecursion, flat_map}
use Rattle.cm_bundle.specs.declared.form.TheConstants.{MAX_PARTS}
use Rattle.cm_bundle.specs.declared.spaces.Counts.{Counts}
use Rattle.cm_bundle.specs.declared.spaces.FrontSpaces.{FrontSpaces}
use Rattle.cm_bundle.specs.declared.writing.WriteFault.{WriteFault}
use Rattle.cm_bundle.specs.declared.writing.WriteFault.TheVariants as faults
use Rattle.cm_bundle.specs.Bundles.{spelled}
use Rattle.cm_bundle.specs.Fronts.{group_spelled, front_spelled, spaces_behind, IsGroup}
use Rattle.cm_bundle.specs.Room.{spaces_of}
use Rattle.cm_bundle.specs.Spelled.{Spaces, exports_of, all_counted, part_spelled}
use Rattle.cm_bundle.specs.Spelled.{exports_spelled, body_spelled, IsSupply, AreSupplied}
use Rattle.cm_bundle.specs.Trees.{GroupTree, SupplyTree, PartTree, BundleTree}

-- What is wrong with a bundle that is refused for this.
abbrev pub IsRefused : WriteFault → BundleTree → Type 0
IsRefused faults.TooManyParts b = (MAX_PARTS < length b.parts) ⊎ (MAX_PARTS < length b.front)
IsRefused faults.BadFront b = ¬ AllByRecursion IsGroup b.front
IsRefused faults.NoSuchPart b =
    ¬ AreSupplied (length (spaces_behind b.front).places) b.parts b.exports
IsRefused faults.TooLong b = 2 ^ 32 ≤ length (spelled b)
IsRefused faults.Memory b = Unit {0}

-- What is wrong with so many bytes, or with what stands in them, which is fine if `Fine` holds.
abbrev pub IsWrong : WriteFault → ℕ → Type 0 → Type 0
IsWrong faults.TooManyParts size Fine = ⊥
IsWrong faults.BadFront size Fine = ⊥
IsWrong faults.NoSuchPart size Fine = ¬ Fine
IsWrong faults.TooLong size Fine = 2 ^ 32 ≤ size
IsWrong faults.Memory size Fine = Unit {0}

-- A part was written at these index spaces, and the counts are those behind its aliases.
abbrev pub WritesPart : Counts → List ℕ → PartTree → List ℕ → List ℕ → Result Counts WriteFault
    → Type 0
WritesPart counts places p old new (Ok c) =
    (new ≡ old ++ part_spelled (record { counts = counts; places = places }) p)
    × AllByRecursion (IsSupply (length places)) p.arguments
    × (c ≡ all_counted counts (exports_of p.arguments))
    × (c.functions < counts.functions + 2 ^ 32) × (c.instances < counts.instances + 2 ^ 32)
WritesPart counts places p old new (Err e) =
    IsWrong e (length (part_spelled (record { counts = counts; places = places }) p))
    (AllByRecursion (IsSupply (length places)) p.arguments)

-- The exports were written at these index spaces.
abbrev pub WritesExports : Counts → List ℕ → List SupplyTree → List ℕ → List ℕ
    → Result (Unit {0}) WriteFault → Type 0
WritesExports counts places xs old new (Ok _) =
    (new ≡ old ++ exports_spelled (record { counts = counts; places = places }) xs)
    × AllByRecursion (IsSupply (length places)) xs
WritesExports counts places xs old new (Err e) =
    IsWrong e (length (exports_spelled (record { counts = counts; places = places }) xs))
    (AllByRecursion (IsSupply (length places)) xs)

-- The parts and the exports were written at these index spaces.
abbrev pub WritesBody : Spaces → BundleTree → List ℕ → List ℕ → Result (Unit {0}) WriteFault
    → Type 0
WritesBody s b old new (Ok _) = (new ≡ old ++ body_spelled s b.parts b.exports)
    × AreSupplied (length s.places) b.parts b.exports
WritesBody s b old new (Err e) = IsWrong e (length (old ++ body_spelled s b.parts b.exports))
    (AreSupplied (length s.places) b.parts b.exports)

-- What is wrong with a front, which is fine where each group is one.
abbrev pub IsWrongFront : WriteFault → List GroupTree → Type 0
IsWrongFront faults.BadFront gs = ¬ AllByRecursion IsGroup gs
IsWrongFront faults.Memory gs = Unit {0}
IsWrongFront _ gs = ⊥

-- A group was written.
abbrev pub WritesGroup : GroupTree → List ℕ → List ℕ → Result (Unit {0}) WriteFault → Type 0
WritesGroup g old new (Ok _) = (new ≡ old ++ group_spelled g) × IsGroup g
WritesGroup g old new (Err faults.BadFront) = ¬ IsGroup g
WritesGroup g old new (Err faults.Memory) = Unit {0}
WritesGroup g old new (Err _) = ⊥

-- Groups were written.
abbrev pub WritesGroups : List GroupTree → List ℕ → List ℕ → Result (Unit {0}) WriteFault → Type 0
WritesGroups gs old new (Ok _) =
    (new ≡ old ++ flat_map group_spelled gs) × AllByRecursion IsGroup gs
WritesGroups gs old new (Err e) = IsWrongFront e gs

-- The front was written, and these are the index spaces behind it.
abbrev pub WritesFront : List GroupTree → List ℕ → List ℕ → Result FrontSpaces WriteFault → Type 0
WritesFront gs old new (Ok s) = (new ≡ old ++ front_spelled gs)
    × (spaces_of s ≡ spaces_behind gs) × AllByRecursion IsGroup gs
    × (s.counts.functions < 2 ^ 61) × (s.counts.instances < 2 ^ 61)
WritesFront gs old new (Err e) = IsWrongFront e gs
