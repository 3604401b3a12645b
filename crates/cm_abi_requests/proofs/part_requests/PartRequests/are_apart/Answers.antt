use Rattle.std.proofs.Common.{ap, arith, length, refl}
use Rattle.cm_abi_model.specs.Answered.{Requesting}
use Rattle.cm_abi_requests.proofs.FewLaws.{few_apart}
use Rattle.cm_abi_requests.proofs.StageSeen.{all_placed}
use Rattle.cm_abi_requests.proofs.part_requests.PartRequests.are_apart.Goals as goal

pub put_regions-requires-clause-placed : goal.put_regions-requires-clause-placed
put_regions-requires-clause-placed c =
    let placed = all_placed c.args.self.now c.requires.answered.0 c.requires.answered.1 in
    omega (arith, placed, ap length c.deref.ensures.value, ap length c.deref-2.ensures.value, ap (λ (p : Requesting). length p.records) c.self.view_is, ap (λ (p : Requesting). length p.places) c.self.view_is)

pub returns-then-len-lt2-clause-answer : goal.returns-then-len-lt2-clause-answer
returns-then-len-lt2-clause-answer c =
    let few = few_apart c.args.self.now.records c.args.self.now.places (omega (arith, c.if-len-lt2.true, c.len.ensures, ap (λ (p : Requesting). length p.records) c.self.view_is)) in
    (λ t. few, λ d. refl)
