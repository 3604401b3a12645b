use Rattle.std.proofs.Common.{◌≡◌, drop}
use Rattle.cm_types.specs.TypeTrees.{fields_of, parts_of, cases_of}
use Rattle.cm_types.specs.Spellable.{are_spellable, are_spellable_payloads}
use Rattle.cm_types.proofs.spellable.+spellable.Given as goal

-- what is left decides
abbrev pub invariant-are_spellable-loop-field : goal.invariant-are_spellable-loop-field
invariant-are_spellable-loop-field l = are_spellable (fields_of (drop l.field-index l.fields)) ≡ are_spellable (fields_of l.fields)

abbrev pub invariant-are_spellable_parts-loop-part : goal.invariant-are_spellable_parts-loop-part
invariant-are_spellable_parts-loop-part l = are_spellable (parts_of (drop l.part-index l.parts)) ≡ are_spellable (parts_of l.parts)

abbrev pub invariant-are_spellable_payloads-loop-case : goal.invariant-are_spellable_payloads-loop-case
invariant-are_spellable_payloads-loop-case l = are_spellable_payloads (cases_of (drop l.case-index l.cases)) ≡ are_spellable_payloads (cases_of l.cases)
