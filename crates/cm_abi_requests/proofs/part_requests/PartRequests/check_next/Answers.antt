use Rattle.std.proofs.Common.{◌≡◌, ◌∙◌, ℕ, ◌∷◌, [], List, None, Some, arith, length, subst, sym, ap}
use Rattle.std.specs.Prelude.{slice_get, vec_capacity}
use Rattle.std.specs.Option.{IsSomeAnd}
use Rattle.std.proofs.lemmas.Result.{IfErr-weaker, on_ok_weaker}
use Rattle.cm_abi_model.specs.declared.request.Request.{Request}
use Rattle.cm_abi_model.specs.Answered.{IsAnswered, all_requests, next_of}
use Rattle.cm_abi_model.specs.Answering.{answer_fault}
use Rattle.cm_abi_model.specs.RecordRequests.{first_request}
use Rattle.cm_abi_requests.specs.Sizes.{sizes_seen}
use Rattle.cm_abi_requests.specs.Stages.{IsAtStage}
use Rattle.cm_abi_requests.proofs.StageLaws.{Stage}
use Rattle.cm_abi_requests.proofs.StageSeen.{one_aligned, one_next}
use Rattle.cm_abi_requests.proofs.part_requests.PartRequests.check_next.Goals as goal

pub check_first-requires : goal.check_first-requires
check_first-requires c =
    let s : Stage = record { records = c.self.inside.records.items; source = c.self.inside.source; target = c.self.inside.target; places = c.self.inside.places.items; stage = c.self.inside.stage; last = c.self.inside.last } in
    let room = vec_capacity c.self.inside.places in
    let space = vec_capacity c.self.inside.regions in
    let one : sizes_seen c.self.inside.sizes ≡ c.in-One.size ∷ [] = ap sizes_seen c.in-One.is in
    let at = subst (λ xs. IsAtStage s.records s.source s.target (length s.places) s.stage xs room space) one c.self.invariant.0 in
    let many : length c.self.inside.places.items ≡ c.len.result = omega (arith, c.len.ensures, c.self.inside.places.ok) in
    let is : slice_get c.self.inside.records.items (length c.self.inside.places.items) ≡ Some c.in-Some.part =
    ap (λ xs. slice_get xs (length c.self.inside.places.items)) (sym c.deref.ensures.value) ∙ (ap (slice_get c.deref.result.now) many ∙ (sym c.part_at.ensures ∙ c.in-Some.is)) in
    record { aligned = one_aligned s c.in-One.size room space at c.in-Some.part is }

pub returns-in-One-clause-fine : goal.returns-in-One-clause-fine
returns-in-One-clause-fine c =
    let s : Stage = record { records = c.self.inside.records.items; source = c.self.inside.source; target = c.self.inside.target; places = c.self.inside.places.items; stage = c.self.inside.stage; last = c.self.inside.last } in
    let room = vec_capacity c.self.inside.places in
    let space = vec_capacity c.self.inside.regions in
    let one : sizes_seen c.self.inside.sizes ≡ c.in-One.size ∷ [] = ap sizes_seen c.in-One.is in
    let at = subst (λ xs. IsAtStage s.records s.source s.target (length s.places) s.stage xs room space) one c.self.invariant.0 in
    let many : length c.self.inside.places.items ≡ c.len.result = omega (arith, c.len.ensures, c.self.inside.places.ok) in
    let is : slice_get c.self.inside.records.items (length c.self.inside.places.items) ≡ Some c.in-Some.part =
    ap (λ xs. slice_get xs (length c.self.inside.places.items)) (sym c.deref.ensures.value) ∙ (ap (slice_get c.deref.result.now) many ∙ (sym c.part_at.ensures ∙ c.in-Some.is)) in
    let next : (answers : List ℕ) → IsAnswered c.args.self.now answers → Some (first_request c.in-Some.part.align c.in-One.size, 0) ≡ next_of (all_requests c.args.self.now) answers =
    λ answers h. sym (one_next s c.in-One.size room space at answers c.in-Some.part (subst (λ p. IsAnswered p answers) (sym c.self.view_is) h) is) ∙ ap (λ p. next_of (all_requests p) answers) c.self.view_is in
    on_ok_weaker c.check_first.result
    (λ fine answers h. subst (λ o. IsSomeAnd o (λ (r : Request × ℕ). answer_fault c.args.memory_length r.0 c.args.at ≡ None)) (next answers h) fine)
    c.check_first.ensures.ok

pub returns-in-One-clause-fault : goal.returns-in-One-clause-fault
returns-in-One-clause-fault c =
    let s : Stage = record { records = c.self.inside.records.items; source = c.self.inside.source; target = c.self.inside.target; places = c.self.inside.places.items; stage = c.self.inside.stage; last = c.self.inside.last } in
    let room = vec_capacity c.self.inside.places in
    let space = vec_capacity c.self.inside.regions in
    let one : sizes_seen c.self.inside.sizes ≡ c.in-One.size ∷ [] = ap sizes_seen c.in-One.is in
    let at = subst (λ xs. IsAtStage s.records s.source s.target (length s.places) s.stage xs room space) one c.self.invariant.0 in
    let many : length c.self.inside.places.items ≡ c.len.result = omega (arith, c.len.ensures, c.self.inside.places.ok) in
    let is : slice_get c.self.inside.records.items (length c.self.inside.places.items) ≡ Some c.in-Some.part =
    ap (λ xs. slice_get xs (length c.self.inside.places.items)) (sym c.deref.ensures.value) ∙ (ap (slice_get c.deref.result.now) many ∙ (sym c.part_at.ensures ∙ c.in-Some.is)) in
    let next : (answers : List ℕ) → IsAnswered c.args.self.now answers → Some (first_request c.in-Some.part.align c.in-One.size, 0) ≡ next_of (all_requests c.args.self.now) answers =
    λ answers h. sym (one_next s c.in-One.size room space at answers c.in-Some.part (subst (λ p. IsAnswered p answers) (sym c.self.view_is) h) is) ∙ ap (λ p. next_of (all_requests p) answers) c.self.view_is in
    IfErr-weaker c.check_first.result (λ e. answer_fault c.args.memory_length (first_request c.in-Some.part.align c.in-One.size) c.args.at ≡ Some e)
    (λ e. (answers : List ℕ) → IsAnswered c.args.self.now answers → IsSomeAnd (next_of (all_requests c.args.self.now) answers) (λ (r : Request × ℕ). answer_fault c.args.memory_length r.0 c.args.at ≡ Some e))
    (λ e wrong answers h. subst (λ o. IsSomeAnd o (λ (r : Request × ℕ). answer_fault c.args.memory_length r.0 c.args.at ≡ Some e)) (next answers h) wrong)
    c.check_first.ensures.err
