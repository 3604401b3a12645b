-- What the code's members of interfaces are.
use Rattle.cm_wit_reading.specs.SignatureViews.{func_tree}
use Rattle.cm_wit_reading.specs.Views.{resource_func_tree}
use Rattle.cm_wit_signature.specs.Members as spec
use Rattle.cm_wit_signature.specs.declared.members.Member.{Member}
use Rattle.cm_wit_signature.specs.declared.members.Member.TheVariants as member

abbrev pub member_view : Member → spec.Member
member_view (member.Used name) = spec.used name.now
member_view (member.Declared name) = spec.declared name.now
member_view (member.OfResource r f k) = spec.of_resource r.now (resource_func_tree f.now)
member_view (member.Function name f) = spec.function name.now (func_tree f.now)
