use Rattle.std.proofs.Common.{sym}
use Rattle.std.proofs.lemmas.List.{append-nil}
use Rattle.cm_layout.specs.Layouts.{payload_of}
use Rattle.cm_types.specs.ValueTrees.{value_of}
use Rattle.cm_abi_model.specs.HandleLeaves.{leaves_of}
use Rattle.cm_abi_lower.proofs.LeafLemmas.{case_past, case_there}
use Rattle.cm_abi_lower.proofs.GivingSeenLayouts.{enum_has_none}
use Rattle.cm_abi_lower.proofs.leaves.+collecting.Goals as goal

pub collect-returns-in-Enum-default : goal.collect-returns-in-Enum-default
collect-returns-in-Enum-default t c = rw (enum_has_none c.args.layout.now _ _ (value_of c.args.value.now) c.in-Enum-default.is-0) (sym (append-nil (leaves_of c.args.leaves.now.items)))

pub collect_case-returns-in-Some : goal.collect_case-returns-in-Some
collect_case-returns-in-Some t c =
    rw (case_there payload_of c.args.payloads.now c.args.index (value_of c.args.value.now) c.in-Some.payload.now c.in-Some.ensures.lookup.3.0 c.in-Some.ensures.lookup.1) c.collect_payload.ensures

pub collect_case-returns-in-None : goal.collect_case-returns-in-None
collect_case-returns-in-None t c = rw (case_past payload_of c.args.payloads.now c.args.index (value_of c.args.value.now) c.in-None.ensures.lookup.3) (sym (append-nil (leaves_of c.args.leaves.now.items)))
