-- Files without shims, as files that may have shims.
use Rattle.std.specs.Prelude.{ℕ, suc, List, [], ◌∷◌, map, Ok}
use Rattle.cm_binary_grammar.specs.Faults.{and_then}
use Rattle.cm_binary_model.specs.Limits.{within_limits}
use Rattle.cm_binary_model.specs.declared.externs.ExternDesc.{ExternDesc}
use Rattle.cm_binary_model.specs.declared.externs.ExternDesc.TheVariants as descs
use Rattle.cm_binary_model.specs.declared.externs.Import.{Import}
use Rattle.cm_binary_model.specs.Trees as sections
use Rattle.cm_binary_model.specs.Trees.{SectionTree}
use Rattle.cm_shims_plain.specs.declared.parts.WideDesc.{WideDesc}
use Rattle.cm_shims_plain.specs.declared.parts.WideDesc.TheVariants as wide_descs
use Rattle.cm_shims_plain.specs.declared.parts.WideImport.{WideImport}
use Rattle.cm_shims_plain.specs.Trees as trees
use Rattle.cm_shims_plain.specs.Trees.{WideSectionTree}
use Rattle.cm_shims_plain.specs.declared.fault.ShimFault.TheVariants as faults
use Rattle.cm_shims_plain.specs.Origins.{Origin}
use Rattle.cm_shims_plain.specs.Reading.{Outcome}
use Rattle.cm_shims_plain.specs.Steps.{or_fault}

-- What is imported.
abbrev pub widened_desc : ExternDesc → WideDesc
widened_desc (descs.Func ty) = wide_descs.Func ty
widened_desc (descs.Instance ty) = wide_descs.Instance ty

-- An import.
abbrev pub widened_import : Import → WideImport
widened_import i = record { name = i.name; desc = widened_desc i.desc }

-- A section.
abbrev pub widened : SectionTree → WideSectionTree
widened (sections.custom name bytes) = trees.plain_section (sections.custom name bytes)
widened (sections.core_module bytes) = trees.plain_section (sections.core_module bytes)
widened (sections.core_instances items) = trees.plain_section (sections.core_instances items)
widened (sections.instances items) = trees.wide_instances (map trees.of_exports items)
widened (sections.aliases items) = trees.plain_section (sections.aliases items)
widened (sections.types items) = trees.plain_section (sections.types items)
widened (sections.canons items) = trees.plain_section (sections.canons items)
widened (sections.imports items) = trees.wide_imports (map widened_import items)
widened (sections.exports items) = trees.plain_section (sections.exports items)

-- The numbers of some items from this one on.
abbrev pub numbers_from : {A : Type 0} → ℕ → List A → List ℕ
numbers_from n [] = []
numbers_from n (x ∷ xs) = n ∷ numbers_from (suc n) xs

-- The items of a section with the numbers that are noted for them: those of imports.
abbrev pub own_items : SectionTree → List ℕ
own_items (sections.imports items) = numbers_from 0 items
own_items section = []

-- Each of some sections, from this number on, comes from itself.
abbrev pub own_origins : ℕ → List SectionTree → List Origin
own_origins n [] = []
own_origins n (s ∷ c) = record { section = n; items = own_items s } ∷ own_origins (suc n) c

-- What a file with these sections comes to as it stands: its own component, within the limits of
-- files, of which nothing is wanted, and in which each section comes from itself.
abbrev pub own_component : List SectionTree → Outcome
own_component c =
    and_then (or_fault faults.Limit (within_limits c)) (λ d. Ok (d, [], own_origins 0 c))
