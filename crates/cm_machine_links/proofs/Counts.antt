-- A component has no more core functions than items.
use Rattle.std.proofs.Common.{◌≡◌, ◌+◌, ◌≤◌, List, [], ◌∷◌, length, Option, Some, None, refl, arith, length-append}
use Rattle.std.specs.Prelude.{option_to_list}
use Rattle.std.specs.List.{sum_by}
use Rattle.std.proofs.lemmas.List.{length-map}
use Rattle.std.proofs.lemmas.List.Sums.{sum_by-cons}
use Rattle.cm_binary_model.specs.Trees as trees
use Rattle.cm_binary_model.specs.Trees.{SectionTree}
use Rattle.cm_binary_model.specs.Limits.{items_in}
use Rattle.cm_validate_model.specs.Items.{Item, core_module_item, core_instance_item, instance_item, alias_item, type_item, canon_item, import_item, export_item, items_of, all_items}
use Rattle.cm_validate_model.specs.Spaces.{Spaces, spaces_of, empty_spaces, after_item, after_items, new_core_funcs}

at_most_one : {A : Type 0} (o : Option A) → length (option_to_list o) ≤ 1
at_most_one None = omega arith
at_most_one (Some x) = omega arith

one_new : (s : Spaces) (x : Item) → length (new_core_funcs s x) ≤ 1
one_new s core_module_item = omega arith
one_new s (core_instance_item i) = omega arith
one_new s (instance_item es) = omega arith
one_new s (alias_item a) = at_most_one _
one_new s (type_item t) = omega arith
one_new s (canon_item c) = at_most_one _
one_new s (import_item i) = omega arith
one_new s (export_item e) = omega arith

after_few : (s : Spaces) (xs : List Item) → length (after_items s xs).core_funcs ≤ length s.core_funcs + length xs
after_few s [] = omega arith
after_few s (x ∷ xs) = omega (arith, after_few (after_item s x) xs, length-append s.core_funcs (new_core_funcs s x), one_new s x)

section_items : (s : SectionTree) → length (items_of s) ≡ items_in s
section_items (trees.custom name bytes) = refl
section_items (trees.core_module bytes) = refl
section_items (trees.core_instances items) = length-map items core_instance_item
section_items (trees.instances items) = length-map items instance_item
section_items (trees.aliases items) = length-map items alias_item
section_items (trees.types items) = length-map items type_item
section_items (trees.canons items) = length-map items canon_item
section_items (trees.imports items) = length-map items import_item
section_items (trees.exports items) = length-map items export_item

items_count : (ss : List SectionTree) → length (all_items ss) ≡ sum_by items_in ss
items_count [] = refl
items_count (s ∷ ss) = omega (arith, section_items s, items_count ss, sum_by-cons items_in s ss, length-append (items_of s) (all_items ss))

pub core_funcs_few : (ss : List SectionTree) → length (spaces_of ss).core_funcs ≤ sum_by items_in ss
core_funcs_few ss = omega (arith, after_few empty_spaces (all_items ss), items_count ss)
