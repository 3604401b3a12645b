-- A file has at least as many bytes as its sections have items.
use Rattle.std.proofs.Common.{◌≡◌, ℕ, ◌<◌, ◌≤◌, List, [], ◌∷◌, length, refl, arith, Bool, true, false, None, Some}
use Rattle.std.specs.Prelude.{nat_lt, if◌then◌else◌, Option}
use Rattle.std.specs.List.{flat_map, sum_by, list_all}
use Rattle.std.proofs.lemmas.Bool.{ltb-false}
use Rattle.std.proofs.lemmas.List.{length-append}
use Rattle.std.proofs.lemmas.List.Sums.{sum_by-cons}
use Rattle.cm_leb.specs.NumbersWritten.{shortest_unsigned}
use Rattle.cm_binary_grammar.specs.Spelling.{vec_spelling}
use Rattle.cm_binary_model.specs.declared.limits.LimitFault.{LimitFault}
use Rattle.cm_binary_model.specs.declared.limits.LimitFault.TheVariants.{TooMany, TooLong, NotAModule}
use Rattle.cm_binary_model.specs.declared.limits.TheConstants.{MAX_TYPES, MAX_FILE_BYTES, COMPONENT_PREAMBLE}
use Rattle.cm_binary_model.specs.Trees as trees
use Rattle.cm_binary_model.specs.Trees.{SectionTree}
use Rattle.cm_binary_model.specs.Spelling.{core_instance_spelling, instance_spelling, alias_spelling, def_spelling, canon_spelling, import_spelling, export_spelling, contents_spelling, section_spelling, spelling}
use Rattle.cm_binary_model.proofs.Nonempty.{core_instance_some, instance_some, alias_some, def_some, canon_some, import_some, export_some}
use Rattle.cm_binary_model.specs.Limits.{types_in, items_in, has_preamble, limit_fault}
use Rattle.cm_lemmas.proofs.Lists.{all_spelled}

vec_spelled : {A : Type 0} (spell : A → List ℕ) → ((x : A) → 0 < length (spell x)) → (xs : List A) → length xs ≤ length (vec_spelling spell xs)
vec_spelled spell h xs = omega (arith, all_spelled spell h xs, length-append (shortest_unsigned (length xs)) (flat_map spell xs))

section_longer : (s : SectionTree) → length (contents_spelling s) < length (section_spelling s)
section_longer s = omega (arith, length-append (shortest_unsigned (length (contents_spelling s))) (contents_spelling s))

section_items : (s : SectionTree) → items_in s ≤ length (section_spelling s)
section_items (trees.custom name bytes) = omega arith
section_items (trees.core_module bytes) = omega arith
section_items (trees.core_instances items) = omega (arith, vec_spelled core_instance_spelling core_instance_some items, section_longer (trees.core_instances items))
section_items (trees.instances items) = omega (arith, vec_spelled instance_spelling instance_some items, section_longer (trees.instances items))
section_items (trees.aliases items) = omega (arith, vec_spelled alias_spelling alias_some items, section_longer (trees.aliases items))
section_items (trees.types items) = omega (arith, vec_spelled def_spelling def_some items, section_longer (trees.types items))
section_items (trees.canons items) = omega (arith, vec_spelled canon_spelling canon_some items, section_longer (trees.canons items))
section_items (trees.imports items) = omega (arith, vec_spelled import_spelling import_some items, section_longer (trees.imports items))
section_items (trees.exports items) = omega (arith, vec_spelled export_spelling export_some items, section_longer (trees.exports items))

all_items : (c : List SectionTree) → sum_by items_in c ≤ length (flat_map section_spelling c)
all_items [] = omega arith
all_items (s ∷ ss) = omega (arith, section_items s, all_items ss, sum_by-cons items_in s ss, length-append (section_spelling s) (flat_map section_spelling ss))

file_items : (c : List SectionTree) → sum_by items_in c ≤ length (spelling c)
file_items c = omega (arith, all_items c, length-append COMPONENT_PREAMBLE (flat_map section_spelling c))

abbrev fault_of : Bool → Bool → Bool → Option LimitFault
fault_of many long begun = if many then Some TooMany else if long then Some TooLong else if begun then None else Some NotAModule

not_long : (many long begun : Bool) → fault_of many long begun ≡ None → long ≡ false
not_long false false begun e = refl
not_long false true begun e = absurd cc
not_long true long begun e = absurd cc

-- so a component has at most as many items as a file may have bytes
pub few_items : (c : List SectionTree) → limit_fault c ≡ None → sum_by items_in c ≤ MAX_FILE_BYTES
few_items c e = omega (arith, file_items c, ltb-false MAX_FILE_BYTES (length (spelling c)) (not_long (nat_lt MAX_TYPES (sum_by types_in c)) (nat_lt MAX_FILE_BYTES (length (spelling c))) (list_all has_preamble c) e))
