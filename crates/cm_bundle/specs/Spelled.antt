-- The one spelling of parts and exports of bundles, and of custom sections (Binary.md, whose names
-- of the productions stand in brackets), and which parts have one.
use Rattle.std.specs.Prelude.{◌≡◌, ℕ, ◌+◌, ◌-◌, ◌<◌, List, [], ◌∷◌, ◌++◌, length, true}
use Rattle.std.specs.Prelude.{slice_index, map}
use Rattle.std.specs.List.{AllByRecursion}
use Rattle.std.specs.Str.{is_utf8}
use Rattle.cm_leb.specs.NumbersWritten.{shortest_unsigned}
use Rattle.cm_binary_grammar.specs.Spelling.{vec_spelling, blob_spelling}
use Rattle.cm_bundle.specs.declared.form.Sort.{Sort}
use Rattle.cm_bundle.specs.declared.form.Sort.TheVariants as sorts
use Rattle.cm_bundle.specs.declared.spaces.Counts.{Counts}
use Rattle.cm_bundle.specs.Trees.{ExportTree, SupplyTree, PartTree}

-- ---- index spaces ("Index Spaces")

-- The index that the next function or the next instance gets.
abbrev pub next_index : Counts → Sort → ℕ
next_index c sorts.Func = c.functions
next_index c sorts.Instance = c.instances

-- The counts behind one more.
abbrev pub counted : Counts → Sort → Counts
counted c sorts.Func = record {
  functions = c.functions + 1;
  instances = c.instances;
  fronts = c.fronts;
}
counted c sorts.Instance = record {
  functions = c.functions;
  instances = c.instances + 1;
  fronts = c.fronts;
}

-- The counts behind an alias of each.
abbrev pub all_counted : Counts → List ExportTree → Counts
all_counted c [] = c
all_counted c (x ∷ xs) = all_counted (counted c x.sort) xs

-- What is aliased of these.
abbrev pub exports_of : List SupplyTree → List ExportTree
exports_of xs = map (λ x. x.export) xs

-- The index spaces so far: how many functions and instances there are, and the index of the
-- instance of each part, behind that of what is imported, where there is one.
pub record Spaces : Type 0 where
  pub counts : Counts
  pub places : List ℕ

abbrev pub no_spaces : Spaces
no_spaces = record {
  counts = record { functions = 0; instances = 0; fronts = 0 };
  places = [];
}

-- The component of the next part: the places of instances that are of parts are those before it.
abbrev pub next_component : Counts → List ℕ → ℕ
next_component c places = length places - c.fronts

-- The index spaces behind a part: its aliases, and then its instance.
abbrev pub after_part : Spaces → PartTree → Spaces
after_part s p = record {
  counts = counted (all_counted s.counts (exports_of p.arguments)) sorts.Instance;
  places = s.places ++ (all_counted s.counts (exports_of p.arguments)).instances ∷ [];
}

-- ---- spellings

-- A section: its id, the size of its contents, the contents (`component`, `section`).
abbrev pub section_spelled : ℕ → List ℕ → List ℕ
section_spelled id contents = id ∷ blob_spelling contents

-- What is passed on (`sort`).
abbrev pub sort_code : Sort → ℕ
sort_code sorts.Func = 0x01
sort_code sorts.Instance = 0x05

-- An export of an instance: the sort, the kind of the target, the instance, the name (`alias`,
-- `aliastarget`).
abbrev pub alias_spelled : List ℕ → ExportTree → List ℕ
alias_spelled places x = sort_code x.sort ∷ 0x00
    ∷ (shortest_unsigned (slice_index places x.part) ++ blob_spelling x.name)

-- The aliases of what is passed on, one for each.
abbrev pub aliases_spelled : List ℕ → List SupplyTree → List ℕ
aliases_spelled places xs =
    section_spelled 0x06 (vec_spelling (alias_spelled places) (exports_of xs))

-- A name, the sort, the index (`instantiatearg`), between the bytes that stand around each.
abbrev pub supply_spelled : List ℕ → List ℕ → Counts → SupplyTree → List ℕ
supply_spelled lead tail c x = lead ++ (blob_spelling x.name
    ++ (sort_code x.export.sort ∷ (shortest_unsigned (next_index c x.export.sort) ++ tail)))

-- Each of these, by the indices of their aliases, which count from here.
abbrev pub supplies_spelled : List ℕ → List ℕ → Counts → List SupplyTree → List ℕ
supplies_spelled lead tail c [] = []
supplies_spelled lead tail c (x ∷ xs) =
    supply_spelled lead tail c x ++ supplies_spelled lead tail (counted c x.export.sort) xs

-- One instance of the component of a part: the form `instantiate`, the component, the arguments
-- (`instance`, `instanceexpr`).
abbrev pub instance_spelled : ℕ → Counts → List SupplyTree → List ℕ
instance_spelled component c xs = section_spelled 0x05 (0x01 ∷ 0x00 ∷ (shortest_unsigned component
    ++ (shortest_unsigned (length xs) ++ supplies_spelled [] [] c xs)))

-- A part: its component, the aliases of what it is given, its instance.
abbrev pub part_spelled : Spaces → PartTree → List ℕ
part_spelled s p = section_spelled 0x04 p.file ++ (aliases_spelled s.places p.arguments
    ++ instance_spelled (next_component s.counts s.places) s.counts p.arguments)

-- What is exported: each behind the byte of a plain name (`exportname'`), with no description
-- (`export`).
abbrev pub exported_spelled : Counts → List SupplyTree → List ℕ
exported_spelled c xs = section_spelled 0x0b
    (shortest_unsigned (length xs) ++ supplies_spelled (0x00 ∷ []) (0x00 ∷ []) c xs)

-- The exports, behind their aliases.
abbrev pub exports_spelled : Spaces → List SupplyTree → List ℕ
exports_spelled s xs = aliases_spelled s.places xs ++ exported_spelled s.counts xs

-- The parts and the exports.
abbrev pub body_spelled : Spaces → List PartTree → List SupplyTree → List ℕ
body_spelled s [] exports = exports_spelled s exports
body_spelled s (p ∷ ps) exports = part_spelled s p ++ body_spelled (after_part s p) ps exports

-- A custom section (`section_0`).
abbrev pub custom_spelled : List ℕ → List ℕ
custom_spelled contents = section_spelled 0x00 contents

-- ---- what has a spelling

-- Names that are texts, and an export of one of the first parts, so many.
pub record IsSupply (parts : ℕ) (x : SupplyTree) : Type 0 where
  pub name : is_utf8 x.name ≡ true
  pub export : is_utf8 x.export.name ≡ true
  pub earlier : x.export.part < parts

-- Each part is given exports of parts before it; what is exported is of any part.
abbrev pub AreSupplied : ℕ → List PartTree → List SupplyTree → Type 0
AreSupplied parts [] exports = AllByRecursion (IsSupply parts) exports
AreSupplied parts (p ∷ ps) exports =
    AllByRecursion (IsSupply parts) p.arguments × AreSupplied (parts + 1) ps exports
