use Rattle.std.proofs.Common.{◌∙◌, ◌++◌, ap, sym}
use Rattle.cm_types.specs.Values.{parts}
use Rattle.cm_layout.specs.Layouts.{layout_of}
use Rattle.cm_layout.specs.Shapes.{LayoutTy}
use Rattle.cm_layout.specs.declared.heads.Head.{Head}
use Rattle.cm_types.specs.ValueTrees.{values_of}
use Rattle.cm_abi_model.specs.Ways.{way_of}
use Rattle.cm_abi_requests.specs.Asking.{ask_by, asking_of, parts_by, tuple_request}
use Rattle.cm_abi_requests.proofs.AlignedRequests.{requests_aligned}
use Rattle.cm_abi_requests.proofs.AskingLemmas.{all_requests, asking, small_by_layout}
use Rattle.cm_abi_requests.proofs.request_lists.requests.Goals as goal
use Rattle.cm_layout.proofs.LayoutLemmas.{seen_head}

pub ask_values-requires : goal.ask_values-requires
ask_values-requires c =
    record {
      small = small_by_layout c.args.encodings.source c.args.tags.now c.requires.0 (parts (values_of c.args.values.now)) (layout_of c.args.layout.now) c.requires.1 c.requires.2 c.requires.3;
    }

-- what is asked for, in the types
asked_of : goal.returns-clause-requests
asked_of c =
    λ types layout_is typed.
    let tuple_is = c.in_ok-ask_tuple.ensures ∙ (ap (λ rs. rs ++ tuple_request c.args.layout.now.head c.flat_limit.result) c.new.ensures.items
    ∙ ap (λ (h : Head). tuple_request h c.flat_limit.result) (sym (seen_head c.args.layout.now) ∙ ap (λ (l : LayoutTy). l.head) layout_is)) in
    let done = c.in_ok-ask_values.ensures ∙ ap (λ (l : LayoutTy). ask_by (record { source = c.args.encodings.source; target = c.args.encodings.target; tags = c.args.tags }) (parts_by l.shape (parts (values_of c.args.values.now))) (asking c.ask_tuple.new.requests.items c.args.tags.now)) layout_is in
    all_requests c.args.encodings.source c.args.encodings.target c.args.tags.now (way_of c.args.way) types (parts (values_of c.args.values.now)) c.flat_limit.result c.ask_tuple.new.requests.items
    (asking_of (record { source = c.args.encodings.source; target = c.args.encodings.target; tags = c.args.tags }) c.ask_values.new.asked) c.flat_limit.ensures typed tuple_is done

pub returns-clause-requests : goal.returns-clause-requests
returns-clause-requests = asked_of

pub returns-clause-aligned : goal.returns-clause-aligned
returns-clause-aligned c =
    requests_aligned (way_of c.args.way) c.requires.0 (parts (values_of c.args.values.now)) c.args.encodings.source c.args.encodings.target c.args.tags.now _ c.requires.2
    (asked_of c c.requires.0 c.requires.1 c.requires.2)
