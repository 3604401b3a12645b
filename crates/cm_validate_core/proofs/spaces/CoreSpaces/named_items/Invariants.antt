use Rattle.std.proofs.Common.{◌≡◌, ℕ, map, drop, take, true}
use Rattle.std.specs.List.{flat_map, list_all}
use Rattle.std.specs.String.{string_bytes}
use Rattle.cm_binary_model.specs.Trees.{core_export_tree}
use Rattle.cm_validate_model.specs.Definitions.{CoreFuncDef}
use Rattle.cm_validate_model.specs.Rules.{are_distinct_texts}
use Rattle.cm_validate_model.specs.Spaces.{Spaces, named_core_def}
use Rattle.cm_validate_core.specs.CoreSpaces.{AreItemsNumbered, IsCoreOf, memory_names_of}
use Rattle.cm_validate_core.specs.Entries.{named_def}
use Rattle.cm_validate_core.specs.Instances.{is_export_there}
use Rattle.cm_validate_core.specs.NameMaps.{entries_of}
use Rattle.cm_validate_core.proofs.PlaceLaws.{has_name}
use Rattle.cm_validate_core.proofs.spaces.CoreSpaces.named_items.Given as goal
use Rattle.cm_validate_model.proofs.SharedLaws.{rest_is_distinct}

-- the names to come differ from those of the items, and from one another, where all differ; the
-- items are what the exports before name
abbrev pub invariant-loop-export : goal.invariant-loop-export
invariant-loop-export l = record {
  there : (made : ℕ → CoreFuncDef) (s : Spaces) → IsCoreOf made l.self s
      → list_all (is_export_there s) (map core_export_tree l.exports) ≡ true
      → list_all (is_export_there s) (map core_export_tree (drop l.export-index l.exports)) ≡ true;
  distinct : rest_is_distinct (has_name (entries_of l.items)) (map (λ e. string_bytes e.name) (drop l.export-index l.exports))
      ≡ are_distinct_texts (map (λ e. e.name) (map core_export_tree l.exports));
  defs : (made : ℕ → CoreFuncDef) (s : Spaces) → IsCoreOf made l.self s
      → map (named_def made) (entries_of l.items) ≡ flat_map (λ e. named_core_def s (core_export_tree e)) (take l.export-index l.exports);
  numbered : (made : ℕ → CoreFuncDef) (s : Spaces) → IsCoreOf made l.self s
      → AreItemsNumbered (memory_names_of l.self) (entries_of l.items);
}
