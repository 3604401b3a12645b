use Rattle.std.proofs.Common.{◌≡◌, Bool, true, false, refl, rules}
use Rattle.std.specs.Prelude.{IsTrue}
use Rattle.std.proofs.lemmas.List.Sorted.{IsNonDecreasingBy-from_sort, answers_always}
use Rattle.cm_abi_model.specs.declared.region.Region.{Region}
use Rattle.cm_abi_requests.proofs.RegionLaws.{disjoint_back, disjoint_moved}
use Rattle.cm_abi_requests.proofs.regions.are_disjoint.Goals as goal

holds : (b : Bool) → b ≡ true → IsTrue b
holds true is = refl
holds false is = absurd (cc)

pub returns-then-are_in_turn-clause-answer : goal.returns-then-are_in_turn-clause-answer
returns-then-are_in_turn-clause-answer c = (λ told. c.are_in_turn.ensures.apart (holds c.are_in_turn.result c.if-are_in_turn.true), λ h. holds true refl)

pub returns-clause-answer : goal.returns-clause-answer
returns-clause-answer c =
    let up = IsNonDecreasingBy-from_sort (λ (r : Region). r.at) _ (c.sort_unstable_by_key.ensures.sorted (λ (r : Region). r.at) (answers_always _ _ _ (λ f a r g h. search rules))) in (
      (λ told. disjoint_moved _ _ c.sort_unstable_by_key.ensures.permutation (c.are_in_turn-2.ensures.apart told)),
      (λ h. c.are_in_turn-2.ensures.ascending up (disjoint_back _ _ c.sort_unstable_by_key.ensures.permutation h)),
    )
