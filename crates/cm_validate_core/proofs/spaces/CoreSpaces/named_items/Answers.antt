use Rattle.std.proofs.Common.{◌≡◌, ℕ, List, [], ◌∷◌, map, refl, sym, ap, ◌∙◌, Some}
use Rattle.std.specs.Option.{option_map}
use Rattle.std.specs.Prelude.{is_some}
use Rattle.std.specs.String.{string_bytes}
use Rattle.cm_binary_model.specs.Trees.{CoreExportTree, core_export_tree}
use Rattle.cm_validate_model.specs.Rules.{are_distinct_texts}
use Rattle.cm_validate_model.specs.Spaces.{core_def_at, named_core_def}
use Rattle.cm_validate_core.specs.CoreSpaces.{IsItemNumbered, memory_names_of}
use Rattle.cm_validate_core.specs.NameMaps.{entries_of}
use Rattle.cm_validate_core.specs.Entries.{def_of, named_def}
use Rattle.cm_validate_core.specs.Instances.{is_export_there}
use Rattle.cm_validate_core.proofs.InstanceLaws.{export_there, no_more, one_def, passes_here}
use Rattle.cm_validate_core.proofs.PlaceLaws.{has_name, name_more}
use Rattle.cm_validate_core.proofs.SpaceLaws.{numbered_there}
use Rattle.cm_validate_core.proofs.TextLaws.{seen_again, seen_first}
use Rattle.cm_validate_core.proofs.spaces.CoreSpaces.named_items.Goals as goal
use Rattle.cm_lemmas.proofs.Lists.{all_push, mapped_twice, one_more_def}
use Rattle.cm_validate_model.proofs.RulesLaws.{at_first}
use Rattle.cm_lemmas.proofs.Bools.{was_new, was_seen}

pub loop-export-init : goal.loop-export-init
loop-export-init c = record {
  there = λ made s r e. e;
  distinct =
      at_first (has_name (entries_of c.new-items.result)) (map (λ e. string_bytes e.name) c.args.exports.now) (λ q. rw c.new-items.ensures refl)
      ∙ ap are_distinct_texts (mapped_twice (λ (e : CoreExportTree). e.name) core_export_tree c.args.exports.now);
  defs = λ made s r. rw c.new-items.ensures refl;
  numbered = λ made s r. rw c.new-items.ensures tt;
}

pub returns-in_default-clause-distinct : goal.returns-in_default-clause-distinct
returns-in_default-clause-distinct c = λ made s r e.
    let here = passes_here (is_export_there s) core_export_tree c.args.exports.now c.loop-export.export-index c.export-item.result c.loop-export-test.true c.export-item.is (c.loop-export.invariant.there made s r e) in
    let gone = export_there made s (core_export_tree c.export-item.result) c.item_at.result (c.item_at.ensures.def made s r) ∙ ap is_some c.in_default.is in
    absurd (cc (here.0, gone))

pub returns-then-not-branch-clause-distinct : goal.returns-then-not-branch-clause-distinct
returns-then-not-branch-clause-distinct c = λ made s r e.
    seen_again (λ x. string_bytes x.name) c.args.exports.now c.loop-export.export-index c.export-item.result c.as_str.result.now c.loop-export-test.true c.export-item.is c.as_str.ensures.value
    (has_name (entries_of c.loop-export.items)) _
    (was_seen (has_name (entries_of c.loop-export.items) c.as_str.result.now) _ c.in_ok-insert.ensures.told c.if-not-branch.true)
    c.loop-export.invariant.distinct

pub loop-export-preserved : goal.loop-export-preserved
loop-export-preserved c =
    let old = entries_of c.loop-export.items in
    let gone = was_new (has_name old c.as_str.result.now) _ c.in_ok-insert.ensures.told c.if-not-branch.false in
    let new = c.in_ok-insert.ensures.added gone in
    record {
      there = λ made s r e. (passes_here (is_export_there s) core_export_tree c.args.exports.now c.loop-export.export-index c.export-item.result c.loop-export-test.true c.export-item.is (c.loop-export.invariant.there made s r e)).1;
      distinct = seen_first (λ x. string_bytes x.name) c.args.exports.now c.loop-export.export-index c.export-item.result c.as_str.result.now c.loop-export-test.true c.export-item.is c.as_str.ensures.value
          (has_name old) _ (has_name (entries_of c.insert.new.self)) gone
          (name_more old (entries_of c.insert.new.self) (c.as_str.result, c.in-Some.item) new)
          c.loop-export.invariant.distinct;
      defs = λ made s r.
          let at : core_def_at s c.export-item.result.sort c.export-item.result.index ≡ Some (def_of made c.in-Some.item) = sym (c.item_at.ensures.def made s r) ∙ ap (option_map (def_of made)) c.in-Some.is in
          ap (map (named_def made)) new
          ∙ one_more_def (named_def made) (λ x. named_core_def s (core_export_tree x)) old (c.as_str.result, c.in-Some.item) c.args.exports.now c.loop-export.export-index c.export-item.result c.loop-export-test.true c.export-item.is
          (one_def s (core_export_tree c.export-item.result) (def_of made c.in-Some.item) at ∙ ap (λ (t : List ℕ). record { name = t; def = def_of made c.in-Some.item } ∷ []) (sym c.as_str.ensures.value))
          (c.loop-export.invariant.defs made s r);
      numbered = λ made s r.
          rw new
          (all_push (λ e. IsItemNumbered (memory_names_of c.args.self.now) e.1) old (c.as_str.result, c.in-Some.item) (c.loop-export.invariant.numbered made s r)
          (numbered_there (memory_names_of c.args.self.now) c.item_at.result c.in-Some.item c.in-Some.is (c.item_at.ensures.numbered made s r)));
    }

pub returns-clause-defs : goal.returns-clause-defs
returns-clause-defs c = λ made s r.
    c.loop-export.invariant.defs made s r
    ∙ no_more (named_core_def s) core_export_tree c.args.exports.now c.loop-export.export-index c.loop-export-test.false
