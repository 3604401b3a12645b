use Rattle.std.proofs.Common.{ap}
use Rattle.cm_types.specs.Signatures.{equal_resource}
use Rattle.cm_types_arena.specs.Instances.{numbered}
use Rattle.cm_validate_model.specs.Spaces.{item_of_member}
use Rattle.cm_validate_entries.specs.Entries.{member_def}
use Rattle.cm_validate_entries.specs.declared.entries.MemberEntry.{MemberEntry}
use Rattle.cm_match_serving.proofs.items.fresh_item.Goals as goal

pub returns-in-Resource : goal.returns-in-Resource
returns-in-Resource c = λ set importer provider wanted types funcs.
    (equal_resource (numbered c.in-Resource.field-0), ap (λ (m : MemberEntry). item_of_member (member_def types funcs m)) c.in-Resource.is, tt)
