use Rattle.std.proofs.Common.{◌≡◌, map, sym, ap, ◌∙◌}
use Rattle.std.specs.List.{flat_map}
use Rattle.std.specs.Prelude.{is_some}
use Rattle.cm_binary_model.specs.Trees.{core_export_tree, core_exports}
use Rattle.cm_validate_model.specs.declared.fault.ValidReason.TheVariants as reason
use Rattle.cm_validate_model.specs.Definitions.{exporting}
use Rattle.cm_validate_model.specs.Reasons.{least, unless}
use Rattle.cm_validate_model.specs.Spaces.{named_core_def}
use Rattle.cm_validate_core.specs.NameMaps.{entries_of}
use Rattle.cm_validate_core.specs.CoreSpaces.{AreItemsNumbered, memory_names_of}
use Rattle.cm_validate_core.specs.Entries.{named_def}
use Rattle.cm_validate_core.proofs.InstanceLaws.{export_missing, exports_there}
use Rattle.cm_validate_core.proofs.spaces.CoreSpaces.add_exporting.Goals as goal
use Rattle.cm_lemmas.proofs.Options.{some_has}

pub returns-then-not-exports_are_there-clause-answer : goal.returns-then-not-exports_are_there-clause-answer
returns-then-not-exports_are_there-clause-answer c = record {
  fault = λ made s r. export_missing s (map core_export_tree c.args.exports.now) (sym (c.exports_are_there.ensures made s r) ∙ c.if-not-exports_are_there.true);
  after = λ made s r. r;
}

pub returns-in_default-clause-answer : goal.returns-in_default-clause-answer
returns-in_default-clause-answer c = record {
  fault = λ made s r.
      let there = sym (c.exports_are_there.ensures made s r) ∙ c.if-not-exports_are_there.false in
      let twice = sym (ap is_some c.in_default.is) ∙ c.in_ok-items.ensures.distinct made s r there in
      ap (λ b. least (unless b reason.DuplicateName)) twice ∙ exports_there s (map core_export_tree c.args.exports.now) there;
  after = λ made s r. r;
}

pub returns-clause-answer : goal.returns-clause-answer
returns-clause-answer c = record {
  fault = λ made s r.
      let there = sym (c.exports_are_there.ensures made s r) ∙ c.if-not-exports_are_there.false in
      let once = sym (ap is_some c.in-Some.is) ∙ c.in_ok-items.ensures.distinct made s r there in
      ap (λ b. least (unless b reason.DuplicateName)) once ∙ exports_there s (map core_export_tree c.args.exports.now) there;
  after = λ made s r.
      let defs = some_has (λ m. map (named_def made) (entries_of m) ≡ flat_map (named_core_def s) (map core_export_tree c.args.exports.now)) c.in_ok-items.field-0 c.in-Some.items c.in-Some.is (c.in_ok-items.ensures.defs made s r) in
      let numbered = some_has (λ m. AreItemsNumbered (memory_names_of c.args.self.now) (entries_of m)) c.in_ok-items.field-0 c.in-Some.items c.in-Some.is (c.in_ok-items.ensures.numbered made s r) in
      c.in_ok-push_instance.ensures.added made s (core_exports (map core_export_tree c.args.exports.now)) numbered (ap exporting (sym defs)) r;
}
