-- What an answer of an allocator, and a lifted result, say in the words of what goes on.
use Rattle.std.proofs.Common.{◌≡◌, ℕ, suc, ◌+◌, ◌<◌, ◌≤◌, Bool, List, [], ◌∷◌, ◌++◌, length, Option}
use Rattle.std.proofs.Common.{Some, refl, sym, ap, subst, ◌∙◌, arith}
use Rattle.std.specs.Prelude.{slice_get, if◌then◌else◌}
use Rattle.std.proofs.lemmas.Option.{same_Some}
use Rattle.cm_types.specs.declared.core_value.CoreValue.{CoreValue}
use Rattle.cm_types.specs.Values.{Val}
use Rattle.cm_abi_model.specs.declared.request.Request.{Request}
use Rattle.cm_abi_model.specs.Numbers.{slot_at}
use Rattle.cm_abi_model.specs.Requests.{is_spilled}
use Rattle.cm_abi_model.specs.Views.{Way, results}
use Rattle.cm_machine_model.specs.Memories.{memory_at}
use Rattle.cm_machine_model.specs.declared.frame.Call.{Call}
use Rattle.cm_machine_model.specs.declared.frame.Frame.{Frame}
use Rattle.cm_machine_model.specs.Cases.{HasPlace, IsPlaced, by_memory, in_values}
use Rattle.cm_machine_model.specs.Passages.{Carries, HasAnswers, IsAnswered, asked_for}
use Rattle.cm_machine_model.specs.Plan.{Link, Plan, types_of}
use Rattle.cm_machine_model.specs.State.{Passage, State}
use Rattle.cm_machine_model.specs.Step.{giver_of}
use Rattle.cm_machine_laws.proofs.Follow.{within}
use Rattle.cm_machine_model.proofs.PassagesLaws.{asked_on, carried_by}
use Rattle.cm_lemmas.proofs.Lists.{length_push}

-- One passage carries one value.
abbrev pub OneCarried : Type 0
OneCarried = (memory : List ℕ) (l : Link) (way : Way) (p : Passage) (v u : Val) → Carries memory l way p v → Carries memory l way p u → v ≡ u

-- ---- one more answer

-- what an answer says of the value that is known to be on its way
pub record IsTurn (memory : List ℕ) (k : Link) (way : Way) (rs : List Request) (mine : List ℕ) (a : ℕ) (p q : Passage) (v u : Val) (l : Link) (answers : List ℕ) : Type 0 where
  pub value_is : v ≡ u
  pub slots : q.slots ≡ p.slots
  pub leaves : q.leaves ≡ p.leaves
  pub carried : Carries memory k way q u
  pub requests_are : asked_for k way q u ≡ rs
  pub answered : HasAnswers rs (mine ++ a ∷ []) q
  pub within : length mine < length rs
  pub next : (o : Option Request) → slice_get (asked_for l way q v) (length (answers ++ a ∷ [])) ≡ o → slice_get rs (suc (length mine)) ≡ o

pub turn : OneCarried → (plan : Plan) (s : State) (top : Frame) (values : List CoreValue) (way : Way) (call : Call) (l : Link) (p : Passage) (v : Val) (answers : List ℕ) (q : Passage)
    → IsPlaced plan s top values way call l p v answers q
    → (k : Link) → k ≡ l → (o : Passage) → s.passage ≡ Some o → (u : Val) → Carries (memory_at s.memories (giver_of way l call)) k way o u
    → (rs : List Request) → asked_for k way o u ≡ rs → (mine : List ℕ) → HasAnswers rs mine o
    → IsTurn (memory_at s.memories (giver_of way l call)) k way rs mine (slot_at values 0) o q v u l answers
turn one plan s top values way call l p v answers q pl k same o at_top u carried rs asks mine has = record {
  value_is = value_is;
  slots = ans.slots;
  leaves = ans.leaves;
  carried = carried_by memory k way rs o a q u ans carried;
  requests_are = requests_are;
  answered = ans.answers mine has;
  within = within rs (length mine) pl.request (subst (λ (n : ℕ). slice_get rs n ≡ Some pl.request) count (subst (λ (xs : List Request). slice_get xs (length answers) ≡ Some pl.request) rs_is pl.asked));
  next = λ n e.
      let size : length (answers ++ a ∷ []) ≡ suc (length mine) = length_push answers a ∙ ap suc count in
      subst (λ (i : ℕ). slice_get rs i ≡ n) size
      (subst (λ (xs : List Request). slice_get xs (length (answers ++ a ∷ [])) ≡ n) (ap (λ (x : Val). asked_for l way q x) value_is ∙ (ap (λ (x : Link). asked_for x way q u) (sym same) ∙ requests_are)) e);
} where
  memory : List ℕ
  memory = memory_at s.memories (giver_of way l call)

  a : ℕ
  a = slot_at values 0

  passage_is : p ≡ o
  passage_is = same_Some p o (sym pl.passage_is ∙ at_top)

  value_is : v ≡ u
  value_is = one memory l way o v u (subst (λ (x : Passage). Carries memory l way x v) passage_is pl.carried) (subst (λ (x : Link). Carries memory x way o u) same carried)

  rs_is : asked_for l way p v ≡ rs
  rs_is = ap (λ (x : Passage). asked_for l way x v) passage_is ∙ (ap (λ (x : Val). asked_for l way o x) value_is ∙ (ap (λ (x : Link). asked_for x way o u) (sym same) ∙ asks))

  ans : IsAnswered rs o a q
  ans = subst (λ (x : Passage). IsAnswered rs x a q) passage_is (subst (λ (xs : List Request). IsAnswered xs p a q) rs_is pl.answered)

  requests_are : asked_for k way q u ≡ rs
  requests_are = asked_on k way rs o a q u ans ∙ asks

  count : length answers ≡ length mine
  count = sym pl.answered_before.count ∙ (ap (λ (x : Passage). x.answered) passage_is ∙ has.count)

-- ---- a result and its place

-- what the place of a result says: the answers that came before the first event
pub record IsSettled (s st : State) (l : Link) (p q : Passage) (v : Val) (answers before : List ℕ) : Type 0 where
  pub answers_are : answers ≡ before
  pub has : HasAnswers (asked_for l results p v) answers q
  pub slots : q.slots ≡ p.slots
  pub leaves : q.leaves ≡ p.leaves
  pub carried : (memory : List ℕ) → Carries memory l results p v → Carries memory l results q v
  pub requests_are : asked_for l results q v ≡ asked_for l results p v
  pub few : length answers ≤ length (asked_for l results p v)
  pub passage_is : st.passage ≡ Some q
  pub memories_are : st.memories ≡ s.memories

pub settled : (s : State) (l : Link) (call : Call) (p : Passage) (v : Val) (q : Passage) (answers : List ℕ) (st : State) (place : ℕ) → HasPlace s l call p v q answers st → s.passage ≡ Some p
    → HasAnswers (asked_for l results p v) [] p → call.result_at ≡ (if is_spilled results (types_of l results) then place else 0)
    → IsSettled s st l p q v answers (if is_spilled results (types_of l results) then place ∷ [] else [])
settled s l call p v _ _ _ place (in_values flat) at_top none result_at = record {
  answers_are = sym (ap (λ (b : Bool). if b then place ∷ [] else []) flat);
  has = none;
  slots = refl;
  leaves = refl;
  carried = λ memory c. c;
  requests_are = refl;
  few = omega arith;
  passage_is = at_top;
  memories_are = refl;
}
settled s l call p v _ _ _ place (by_memory r q spilled asked fine answered) at_top none result_at = record {
  answers_are = ap (λ (n : ℕ). n ∷ []) (result_at ∙ ap (λ (b : Bool). if b then place else 0) spilled) ∙ sym (ap (λ (b : Bool). if b then place ∷ [] else []) spilled);
  has = answered.answers [] none;
  slots = answered.slots;
  leaves = answered.leaves;
  carried = λ memory c. carried_by memory l results (asked_for l results p v) p call.result_at q v answered c;
  requests_are = asked_on l results (asked_for l results p v) p call.result_at q v answered;
  few = omega (arith, within (asked_for l results p v) 0 r asked);
  passage_is = refl;
  memories_are = refl;
}
