-- Laws of what TypeTrees defines, for this crate and those above it.
use Rattle.std.proofs.Common.{◌≡◌, rules}
use Rattle.cm_types.specs.TypeTrees.{case_of, field_of}
use Rattle.cm_types.specs.declared.type_trees.Case.{Case, out-Case}
use Rattle.cm_types.specs.declared.type_trees.Field.{Field, out-Field}
use Rattle.cm_types.specs.declared.type_trees.TypeNode.{the_lemmas}

-- the label and the payload of a case
pub seen_case_label : (c : Case) → (case_of c).0 ≡ (out-Case c).label
seen_case_label c = search (rules, the_lemmas)

-- the label of a field
pub seen_label : (f : Field) → (field_of f).0 ≡ (out-Field f).label
seen_label f = search (rules, the_lemmas)
