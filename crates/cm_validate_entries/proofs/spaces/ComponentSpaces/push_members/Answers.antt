use Rattle.std.proofs.Common.{ap, ◌∙◌, map, length}
use Rattle.std.specs.List.{list_all}
use Rattle.cm_validate_core.specs.NameMaps.{entries_of}
use Rattle.cm_validate_entries.specs.Entries.{is_member_there, named_member}
use Rattle.cm_validate_entries.specs.declared.entries.InstanceEntry.TheVariants as instance
use Rattle.cm_validate_entries.proofs.StayLaws.{members_pushed}
use Rattle.cm_validate_entries.proofs.StepLaws.{on_ok}
use Rattle.cm_validate_entries.proofs.spaces.ComponentSpaces.push_members.Goals as goal

pub returns-clause-added : goal.returns-clause-added
returns-clause-added c = on_ok c.push_instance.result
    (λ pushed types funcs s es same there r.
    members_pushed types funcs c.args.self.now c.push_instance.new.self s es (instance.Exporting c.in_ok-shared.shared)
    (ap (λ m. map (named_member types funcs) (entries_of m)) c.in_ok-shared.ensures.ok ∙ same)
    (ap (λ m. list_all (λ e. is_member_there (length types) (length funcs) e.1) (entries_of m)) c.in_ok-shared.ensures.ok ∙ there) pushed r)
    c.push_instance.ensures.pushed
