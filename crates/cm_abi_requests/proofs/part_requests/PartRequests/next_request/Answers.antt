use Rattle.std.proofs.Common.{◌≡◌, ◌∙◌, ℕ, ◌<◌, Some, arith, length, subst, sym, ap}
use Rattle.std.specs.Prelude.{slice_get, vec_capacity}
use Rattle.std.specs.Option.{option_map}
use Rattle.cm_abi_model.specs.declared.request.Request.{Request}
use Rattle.cm_abi_model.specs.Answered.{IsAnswered, all_requests, next_of, with_last}
use Rattle.cm_abi_requests.specs.Sizes.{sizes_seen}
use Rattle.cm_abi_requests.proofs.StageLaws.{Stage}
use Rattle.cm_abi_requests.proofs.StageSeen.{next_seen, seen_aligned}
use Rattle.cm_abi_requests.proofs.part_requests.PartRequests.next_request.Goals as goal

pub returns-clause-next : goal.returns-clause-next
returns-clause-next c = λ answers h.
    let s : Stage = record { records = c.self.inside.records.items; source = c.self.inside.source; target = c.self.inside.target; places = c.self.inside.places.items; stage = c.self.inside.stage; last = c.self.inside.last } in
    let many : length c.self.inside.places.items ≡ c.len.result = omega (arith, c.len.ensures, c.self.inside.places.ok) in
    let is : slice_get c.self.inside.records.items (length c.self.inside.places.items) ≡ Some c.in-Some.part =
    ap (λ xs. slice_get xs (length c.self.inside.places.items)) (sym c.deref.ensures.value) ∙ (ap (slice_get c.deref.result.now) many ∙ (sym c.part_at.ensures ∙ c.in-Some.is)) in
    ap (λ x. Some x) c.with_old.ensures
    ∙ (ap (option_map (with_last c.self.inside.last)) (sym c.in-Some-request_at.is ∙ c.request_at.ensures)
    ∙ (next_seen s (sizes_seen c.self.inside.sizes) (vec_capacity c.self.inside.places) (vec_capacity c.self.inside.regions) c.self.invariant.0 answers c.in-Some.part (subst (λ p. IsAnswered p answers) (sym c.self.view_is) h) is
    ∙ ap (λ p. next_of (all_requests p) answers) c.self.view_is))

pub returns-clause-aligned : goal.returns-clause-aligned
returns-clause-aligned c =
    let s : Stage = record { records = c.self.inside.records.items; source = c.self.inside.source; target = c.self.inside.target; places = c.self.inside.places.items; stage = c.self.inside.stage; last = c.self.inside.last } in
    let many : length c.self.inside.places.items ≡ c.len.result = omega (arith, c.len.ensures, c.self.inside.places.ok) in
    let is : slice_get c.self.inside.records.items (length c.self.inside.places.items) ≡ Some c.in-Some.part =
    ap (λ xs. slice_get xs (length c.self.inside.places.items)) (sym c.deref.ensures.value) ∙ (ap (slice_get c.deref.result.now) many ∙ (sym c.part_at.ensures ∙ c.in-Some.is)) in
    subst (λ (x : Request × ℕ). 0 < x.0.align) (sym c.with_old.ensures)
    (seen_aligned s (sizes_seen c.self.inside.sizes) (vec_capacity c.self.inside.places) (vec_capacity c.self.inside.regions) c.self.invariant.0 c.in-Some.part c.in-Some-request_at.request is (sym c.request_at.ensures ∙ c.in-Some-request_at.is))
