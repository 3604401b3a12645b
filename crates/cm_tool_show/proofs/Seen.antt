-- What type each kind of node is.
use Rattle.std.proofs.Common.{◌≡◌, ℕ, Some, None, Vec, Global, rules}
use Rattle.std.specs.Prelude.{codes}
use Rattle.std.specs.declared.rc.Rc.{Rc}
use Rattle.cm_types.specs.Types.{carrying, cases, fields, fixed_list, list, no_cases, option_type, plain, record_type, result_type, tuple_type, variant_type}
use Rattle.cm_types.specs.TypeTrees.{cases_of, fields_of, parts_of, type_of}
use Rattle.cm_types.specs.declared.type_trees.TypeNode.{TypeNode, the_lemmas}
use Rattle.cm_types.specs.declared.type_trees.TypeNode.TheVariants as leaf
use Rattle.cm_types.specs.declared.type_trees.Field.{Field}
use Rattle.cm_types.specs.declared.type_trees.Case.{Case}

pub seen_List : (a : Rc TypeNode Global) → type_of (leaf.List a) ≡ list (type_of a.value)
seen_List a = search (rules, the_lemmas)

pub seen_FixedList : (a : Rc TypeNode Global) (n : ℕ) → type_of (leaf.FixedList a n) ≡ fixed_list (type_of a.value) n
seen_FixedList a n = search (rules, the_lemmas)

pub seen_Record : (v : Rc (Vec Field Global) Global) → type_of (leaf.Record v) ≡ fields record_type (fields_of v.value.items)
seen_Record v = search (rules, the_lemmas)

pub seen_Tuple : (v : Rc (Vec TypeNode Global) Global) → type_of (leaf.Tuple v) ≡ fields tuple_type (parts_of v.value.items)
seen_Tuple v = search (rules, the_lemmas)

pub seen_Variant : (v : Rc (Vec Case Global) Global) → type_of (leaf.Variant v) ≡ cases variant_type (cases_of v.value.items)
seen_Variant v = search (rules, the_lemmas)

pub seen_Option : (a : Rc TypeNode Global) → type_of (leaf.Option a) ≡ cases option_type (plain (codes "none") (carrying (codes "some") (type_of a.value) no_cases))
seen_Option a = search (rules, the_lemmas)

pub seen_plain : type_of (leaf.Result None None) ≡ cases result_type (plain (codes "ok") (plain (codes "error") no_cases))
seen_plain = search (rules, the_lemmas)

pub seen_ok : (a : Rc TypeNode Global) → type_of (leaf.Result (Some a) None) ≡ cases result_type (carrying (codes "ok") (type_of a.value) (plain (codes "error") no_cases))
seen_ok a = search (rules, the_lemmas)

pub seen_error : (a : Rc TypeNode Global) → type_of (leaf.Result None (Some a)) ≡ cases result_type (plain (codes "ok") (carrying (codes "error") (type_of a.value) no_cases))
seen_error a = search (rules, the_lemmas)

pub seen_both : (a b : Rc TypeNode Global) → type_of (leaf.Result (Some a) (Some b)) ≡ cases result_type (carrying (codes "ok") (type_of a.value) (carrying (codes "error") (type_of b.value) no_cases))
seen_both a b = search (rules, the_lemmas)
