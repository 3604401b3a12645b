-- What is answered, as the rules see it.
use Rattle.std.proofs.Common.{◌≡◌, ℕ, ◌<◌, ◌≤◌, List, [], ◌∷◌, ◌++◌, length, Option, Some, refl, sym, ap, subst, ◌∙◌, arith}
use Rattle.std.specs.Prelude.{option_map, slice_get}
use Rattle.std.specs.Option.{IsSomeAnd}
use Rattle.std.proofs.lemmas.Option.{slice_get_within}
use Rattle.cm_types.specs.declared.core_value.CoreValue.{CoreValue}
use Rattle.cm_abi_model.specs.Answered.{IsAnswered, Requesting, all_requests, next_of, with_old}
use Rattle.cm_abi_model.specs.Answering.{places_of}
use Rattle.cm_abi_model.specs.Scanned.{OnlyAsked, Scanned}
use Rattle.cm_abi_model.specs.declared.request.Request.{Request}
use Rattle.cm_machine_model.specs.Passages.{HasAnswers}
use Rattle.cm_machine_model.specs.Passages as rules
use Rattle.cm_machine_calls.specs.Lifting.{passage_in}

-- the answers of a passage are those of what is kept
pub answered_is : (slots : List CoreValue) (k : Scanned) (rs : List Request) (answers : List ℕ) → all_requests k.parts ≡ rs → length answers ≤ length rs
    → HasAnswers rs answers (passage_in slots k) → IsAnswered k.parts answers
answered_is slots k rs answers all few has = record {
  few = subst (λ (x : List Request). length answers ≤ length x) (sym all) few;
  count = has.count;
  places = has.places ∙ ap (λ (x : List Request). places_of x answers) (sym all);
  last = has.last;
}

pub has_answers : (slots : List CoreValue) (k : Scanned) (rs : List Request) (answers : List ℕ) → all_requests k.parts ≡ rs → IsAnswered k.parts answers → HasAnswers rs answers (passage_in slots k)
has_answers slots k rs answers all is = record {
  count = is.count;
  last = is.last;
  places = is.places ∙ ap (λ (x : List Request). places_of x answers) all;
}

-- there is a next request, this one
pub next_is : (rs : List Request) (answers : List ℕ) (r : Request) → slice_get rs (length answers) ≡ Some r → next_of rs answers ≡ Some (with_old answers r)
next_is rs answers r is = ap (option_map (with_old answers)) is

pub few_answers : (rs : List Request) (answers : List ℕ) (r : Request) → slice_get rs (length answers) ≡ Some r → length answers < length rs
few_answers rs answers r is = slice_get_within rs (length answers) r is

-- where answers are kept, what is asked for stays
pub asked_stays : (old new : Scanned) → OnlyAsked old new → all_requests new.parts ≡ all_requests old.parts
asked_stays old new only = ap all_requests only.parts

pub at_next : (P : Request × ℕ → Type 0) (rs : List Request) (answers : List ℕ) (r : Request) → slice_get rs (length answers) ≡ Some r → IsSomeAnd (next_of rs answers) P → P (with_old answers r)
at_next P rs answers r is some = subst (λ (o : Option (Request × ℕ)). IsSomeAnd o P) (next_is rs answers r is) some

-- the passage after one more answer
pub passage_answered : (slots : List CoreValue) (old new : Scanned) (rs : List Request) (answers : List ℕ) (r : Request) (at : ℕ) → all_requests old.parts ≡ rs
    → HasAnswers rs answers (passage_in slots old) → slice_get rs (length answers) ≡ Some r → OnlyAsked old new
    → ((before : List ℕ) → IsAnswered old.parts before → IsAnswered new.parts (before ++ at ∷ []))
    → rules.IsAnswered rs (passage_in slots old) at (passage_in slots new)
passage_answered slots old new rs answers r at all has next only kept = record {
  slots = refl;
  records = ap (λ (p : Requesting). p.records) only.parts;
  leaves = ap (λ (k : Scanned). k.handles) only.kept;
  answers = λ before there.
      has_answers slots new rs (before ++ at ∷ []) (asked_stays old new only ∙ all)
      (kept before (answered_is slots old rs before all (omega (arith, has.count, there.count, few_answers rs answers r next)) there));
}
