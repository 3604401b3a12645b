use Rattle.std.proofs.Common.{◌≡◌, ◌∙◌, ap, sym}
use Rattle.std.specs.Prelude.{◌||◌}
use Rattle.cm_types.specs.Holds.{holds, is_list, is_string}
use Rattle.cm_types.specs.Types.{Ty}
use Rattle.cm_types_arena.specs.Replaced.{Standing, replaced}
use Rattle.cm_validate_model.specs.Options.{is_pointer}
use Rattle.cm_match.specs.Linked.{sections_in, set_in}
use Rattle.cm_machine_links.proofs.KnownLaws.{known}
use Rattle.cm_machine_links.proofs.PlanFacts.{plan_of, rows_planned, spelled_at}
use Rattle.cm_machine_links.proofs.PlanLaws.{each, is_plan, is_plan_of, one_type}
use Rattle.cm_machine_links.proofs.laws.core_functions_stand.Goals as goal

pub returns-clause-each : goal.returns-clause-each
returns-clause-each c =
    let set = set_in c.args.linked.now in
    let k = known (sections_in c.args.linked.now) (set_in c.args.linked.now).sees c.components.ensures.linked c.components_are_valid.ensures c.functions_are_as_imported.ensures c.what_functions_name_is_there.ensures c.destructors_are_guests.ensures
    c.imported_functions_reach_lifts.ensures c.targets_are_lifts.ensures c.links_lead_earlier.ensures c.origins_are_unique.ensures.one c.origins_follow_links.ensures.defined c.origins_lead_earlier.ensures.earlier c.origins_lead_earlier.ensures.there in
    each set k

pub returns-clause-plan : goal.returns-clause-plan
returns-clause-plan c = λ rows stand.
    let set = set_in c.args.linked.now in
    let k = known (sections_in c.args.linked.now) (set_in c.args.linked.now).sees c.components.ensures.linked c.components_are_valid.ensures c.functions_are_as_imported.ensures c.what_functions_name_is_there.ensures c.destructors_are_guests.ensures
    c.imported_functions_reach_lifts.ensures c.targets_are_lifts.ensures c.links_lead_earlier.ensures c.origins_are_unique.ensures.one c.origins_follow_links.ensures.defined c.origins_lead_earlier.ensures.earlier c.origins_lead_earlier.ensures.there in
    let pointer : (s : Standing) (t : Ty) → holds is_pointer (replaced s t) ≡ holds is_pointer t =
    λ s t.
    c.pointers.ensures (replaced s t) ∙ ap (λ b. b || holds is_list (replaced s t)) (c.what_stays.ensures.strings s t) ∙ ap (λ b. holds is_string t || b) (c.what_stays.ensures.lists s t) ∙ sym (c.pointers.ensures t) in (
      plan_of set,
      is_plan_of set k,
      is_plan set k c.what_stays.ensures.strings c.what_stays.ensures.borrows pointer c.passing_stays.ensures.kinds (λ i f d p at is. spelled_at set rows i f d p stand at is),
      rows_planned set 0 set.spaces rows (each set k) stand,
    )

pub returns-clause-one_type : goal.returns-clause-one_type
returns-clause-one_type c =
    let set = set_in c.args.linked.now in
    let k = known (sections_in c.args.linked.now) (set_in c.args.linked.now).sees c.components.ensures.linked c.components_are_valid.ensures c.functions_are_as_imported.ensures c.what_functions_name_is_there.ensures c.destructors_are_guests.ensures
    c.imported_functions_reach_lifts.ensures c.targets_are_lifts.ensures c.links_lead_earlier.ensures c.origins_are_unique.ensures.one c.origins_follow_links.ensures.defined c.origins_lead_earlier.ensures.earlier c.origins_lead_earlier.ensures.there in
    one_type set k
