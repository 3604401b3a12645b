use Rattle.std.proofs.Common.{◌≤◌, ◌<◌, rules, subst}
use Rattle.cm_types.specs.Values.{HasType, parts}
use Rattle.cm_types.specs.ValueTrees.{values_of}
use Rattle.cm_layout.specs.Layouts.{layout_of}
use Rattle.cm_abi_model.specs.Requests.{tuple_of}
use Rattle.cm_abi_model.specs.Taken.{MAX_CONTENT}
use Rattle.cm_abi_requests.specs.Asking.{parts_by}
use Rattle.cm_host_values.specs.HostTypes.{types_in, way_in}
use Rattle.cm_host_values.specs.Content.{content_in}
use Rattle.cm_host_values.proofs.ContentLaws.{content_is}
use Rattle.cm_host_values.proofs.LoweringLaws.{fault_then, on_ok, passed_on}
use Rattle.cm_host_values.proofs.lowering.lower_values.Goals as goal

pub returns-then-not-is_small-clause-fault : goal.returns-then-not-is_small-clause-fault
returns-then-not-is_small-clause-fault c =
    let v = parts (values_of c.args.values.now) in
    let typed : HasType (tuple_of (types_in c.args.types.now)) v = search rules in
    let large : MAX_CONTENT < content_in (parts_by (layout_of c.in-Ok.layout).shape v) = search rules in
    (typed, subst (λ n. MAX_CONTENT < n) (content_is (layout_of c.in-Ok.layout) (types_in c.args.types.now) v c.in-Ok.ensures.layout typed) large)

pub lower_typed-requires-clause-small : goal.lower_typed-requires-clause-small
lower_typed-requires-clause-small c =
    let v = parts (values_of c.args.values.now) in
    let typed : HasType (tuple_of (types_in c.args.types.now)) v = search rules in
    let small : content_in (parts_by (layout_of c.in-Ok.layout).shape v) ≤ MAX_CONTENT = search rules in
    subst (λ n. n ≤ MAX_CONTENT) (content_is (layout_of c.in-Ok.layout) (types_in c.args.types.now) v c.in-Ok.ensures.layout typed) small

pub returns-clause-passed : goal.returns-clause-passed
returns-clause-passed c = λ all w v e sees. passed_on c.lower_typed.result _ _ _ all w v c.hosts_see_what_is_denoted.ensures.passed e sees (c.lower_typed.ensures.denoted all e)

pub returns-clause-small : goal.returns-clause-small
returns-clause-small c =
    let v = parts (values_of c.args.values.now) in
    let typed : HasType (tuple_of (types_in c.args.types.now)) v = search rules in
    let small : content_in (parts_by (layout_of c.in-Ok.layout).shape v) ≤ MAX_CONTENT = search rules in
    on_ok _ c.lower_typed.result (subst (λ n. n ≤ MAX_CONTENT) (content_is (layout_of c.in-Ok.layout) (types_in c.args.types.now) v c.in-Ok.ensures.layout typed) small)

pub returns-clause-fault : goal.returns-clause-fault
returns-clause-fault c =
    let v = parts (values_of c.args.values.now) in
    let typed : HasType (tuple_of (types_in c.args.types.now)) v = search rules in
    let small : content_in (parts_by (layout_of c.in-Ok.layout).shape v) ≤ MAX_CONTENT = search rules in
    let within = subst (λ n. n ≤ MAX_CONTENT) (content_is (layout_of c.in-Ok.layout) (types_in c.args.types.now) v c.in-Ok.ensures.layout typed) small in
    fault_then c.lower_typed.result c.args.regions.now (way_in c.args.types.now) (types_in c.args.types.now) v typed within c.lower_typed.ensures.err
