use Rattle.std.proofs.Common.{◌≡◌, ◌++◌, None, map, sym, ap, ◌∙◌, MatchOption, subst}
use Rattle.std.specs.List.{flat_map}
use Rattle.cm_validate_core.specs.NameMaps.{entries_of}
use Rattle.cm_types_arena.specs.Places.{funcs_of, types_of}
use Rattle.cm_validate_model.specs.Items.{instance_item}
use Rattle.cm_validate_model.specs.Reasons.{least}
use Rattle.cm_validate_model.specs.Rules.{broken}
use Rattle.cm_validate_model.specs.Spaces.{Spaces}
use Rattle.cm_validate_instances.specs.ItemSketches.{sketch_named}
use Rattle.cm_validate_entries.specs.ComponentSpaces.{AreTypesOf, IsComponentOf}
use Rattle.cm_validate_instances.specs.Members.{AreMembers, Stand, export_sketches}
use Rattle.cm_validate_instances.proofs.NameLaws.{all_fine, instance_fault, names_differ}
use Rattle.cm_validate_instances.proofs.instances.add_instance.Goals as goal
use Rattle.cm_lemmas.proofs.Options.{is_none}
use Rattle.cm_validate_entries.proofs.ImportLaws.{stays}

pub returns-then-is_some-clause-answer : goal.returns-then-is_some-clause-answer
returns-then-is_some-clause-answer c =
    let types = types_of c.args.arena.now in
    let funcs = funcs_of c.args.arena.now in
    let old = c.args.spaces.now in
    let es = c.args.exports.now in
    record {
      fault = λ s r t.
          let both : Stand types funcs old c.args.types.now s = record { component = r; types_of = t } in
          let joined = c.in_ok-broken.ensures.sketched s both ∙ ap (λ v. map sketch_named v ++ flat_map (export_sketches s) es) c.new-sketches.ensures.items in
          c.lesser-fault.ensures
          ∙ instance_fault c.least_of_both.ensures c.names_are_sketched.ensures.least s es c.in_ok-broken.broken c.in_ok-item_names_fault.field-0 (map sketch_named c.deref.result.now)
          (c.in_ok-broken.ensures.broken s both) c.in_ok-item_names_fault.ensures (ap (map sketch_named) c.deref.ensures.value ∙ joined);
      after = λ s r t. stays (IsComponentOf types funcs old) c.lesser-fault.result s (instance_item es) (sym c.is_some.ensures ∙ c.if-is_some.true) r;
    }

pub returns-in-None-clause-answer : goal.returns-in-None-clause-answer
returns-in-None-clause-answer c =
    let types = types_of c.args.arena.now in
    let funcs = funcs_of c.args.arena.now in
    let old = c.args.spaces.now in
    let es = c.args.exports.now in
    let wrong : (s : Spaces) → IsComponentOf types funcs old s → AreTypesOf types funcs c.args.types.now s → ⊥ = λ s r t.
    let both : Stand types funcs old c.args.types.now s = record { component = r; types_of = t } in
    let joined = c.in_ok-broken.ensures.sketched s both ∙ ap (λ v. map sketch_named v ++ flat_map (export_sketches s) es) c.new-sketches.ensures.items in
    let whole = c.lesser-fault.ensures
    ∙ instance_fault c.least_of_both.ensures c.names_are_sketched.ensures.least s es c.in_ok-broken.broken c.in_ok-item_names_fault.field-0 (map sketch_named c.deref.result.now)
    (c.in_ok-broken.ensures.broken s both) c.in_ok-item_names_fault.ensures (ap (map sketch_named) c.deref.ensures.value ∙ joined) in
    let none : least (broken s (instance_item es)) ≡ None = sym whole ∙ is_none c.lesser-fault.result (sym c.is_some.ensures ∙ c.if-is_some.false) in
    subst (λ o. MatchOption o ⊥ (λ m. AreMembers types funcs s es (entries_of m))) c.in-None.is (c.in_ok-gather.ensures types funcs s both (all_fine s es none) (names_differ s es none)) in
    record { fault = λ s r t. absurd (wrong s r t); after = λ s r t. absurd (wrong s r t) }

pub returns-clause-answer : goal.returns-clause-answer
returns-clause-answer c =
    let types = types_of c.args.arena.now in
    let funcs = funcs_of c.args.arena.now in
    let old = c.args.spaces.now in
    let es = c.args.exports.now in
    let none : (s : Spaces) → IsComponentOf types funcs old s → AreTypesOf types funcs c.args.types.now s → least (broken s (instance_item es)) ≡ None = λ s r t.
    let both : Stand types funcs old c.args.types.now s = record { component = r; types_of = t } in
    let joined = c.in_ok-broken.ensures.sketched s both ∙ ap (λ v. map sketch_named v ++ flat_map (export_sketches s) es) c.new-sketches.ensures.items in
    let whole = c.lesser-fault.ensures
    ∙ instance_fault c.least_of_both.ensures c.names_are_sketched.ensures.least s es c.in_ok-broken.broken c.in_ok-item_names_fault.field-0 (map sketch_named c.deref.result.now)
    (c.in_ok-broken.ensures.broken s both) c.in_ok-item_names_fault.ensures (ap (map sketch_named) c.deref.ensures.value ∙ joined) in
    sym whole ∙ is_none c.lesser-fault.result (sym c.is_some.ensures ∙ c.if-is_some.false) in
    record {
      fault = λ s r t. sym (none s r t);
      after = λ s r t.
          let both : Stand types funcs old c.args.types.now s = record { component = r; types_of = t } in
          let members : AreMembers types funcs s es (entries_of c.in-Some.members) =
          subst (λ o. MatchOption o ⊥ (λ m. AreMembers types funcs s es (entries_of m))) c.in-Some.is (c.in_ok-gather.ensures types funcs s both (all_fine s es (none s r t)) (names_differ s es (none s r t))) in
          c.in_ok-push_members-in-Some.ensures.added types funcs s es members.same members.there r;
    }
