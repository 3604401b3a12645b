use Rattle.std.specs.List.{list_all}
use Rattle.cm_names.specs.Listed.{listed}
use Rattle.cm_wit_signature.specs.MemberViews.{member_view}
use Rattle.cm_wit_signature.specs.Tests as test
use Rattle.cm_wit_signature.proofs.RestLaws.{Rests}
use Rattle.cm_wit_signature.proofs.led_interfaces.members_led.Given as goal

abbrev pub invariant-loop-member : goal.invariant-loop-member
invariant-loop-member l = Rests member_view (λ i ms. list_all (test.member_led (listed l.names.keys.now) l.names.marks.now l.names.list) ms) l.members l.member-index
