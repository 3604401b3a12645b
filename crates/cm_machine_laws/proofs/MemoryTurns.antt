-- What a value that is handed over changes, and what an answer and a lifted result say of the value
-- that is on its way.
use Rattle.std.proofs.Common.{◌≡◌, ℕ, zero, suc, ◌<◌, ◌≤◌, Bool, true, false, List, [], ◌∷◌}
use Rattle.std.proofs.Common.{◌++◌, length, Option, Some, None, refl, sym, ap, subst, ◌∙◌, arith}
use Rattle.std.proofs.Common.{append-nil}
use Rattle.std.specs.Prelude.{map, slice_get, if◌then◌else◌}
use Rattle.std.proofs.lemmas.Option.{none-some, same_Some}
use Rattle.cm_types.specs.CoreValues.{kind_of}
use Rattle.cm_types.specs.declared.core_value.CoreKind.{CoreKind}
use Rattle.cm_types.specs.declared.core_value.CoreKind.TheVariants as kind
use Rattle.cm_types.specs.declared.core_value.CoreValue.{CoreValue}
use Rattle.cm_types.specs.declared.core_value.CoreValue.TheVariants as core_value
use Rattle.cm_types.specs.Types.{Fields}
use Rattle.cm_types.specs.Values.{HasType, Val}
use Rattle.cm_layout.specs.Sizes.{align_of, size_of}
use Rattle.cm_abi_model.specs.declared.encoding.StringEncoding.{StringEncoding}
use Rattle.cm_abi_model.specs.declared.receiver.Receiver.{Receiver}
use Rattle.cm_abi_model.specs.declared.request.Request.{Request}
use Rattle.cm_abi_model.specs.Answering.{HaveScalars, places_of}
use Rattle.cm_abi_model.specs.Denotes.{Denotes}
use Rattle.cm_abi_model.specs.Numbers.{slot_at}
use Rattle.cm_abi_model.specs.Parts.{element_part, parts_in}
use Rattle.cm_abi_model.specs.Receives.{call_bytes}
use Rattle.cm_abi_model.specs.Regions.{AllAt, IsInPart}
use Rattle.cm_abi_model.specs.Requests.{call_parts, is_spilled, requests, stored_charset, tuple_of}
use Rattle.cm_abi_model.specs.Stores.{Given}
use Rattle.cm_abi_model.specs.Taken.{met, tags_of}
use Rattle.cm_abi_model.specs.Views.{View, Way, results}
use Rattle.cm_machine_model.specs.Memories.{memory_at}
use Rattle.cm_machine_model.specs.declared.frame.Call.{Call}
use Rattle.cm_machine_model.specs.declared.frame.Frame.{Frame}
use Rattle.cm_machine_model.specs.Cases.{HasPlace, IsPlaced, by_memory, in_values}
use Rattle.cm_machine_model.specs.Passages.{Carries, HasAnswers, IsAnswered, asked_for}
use Rattle.cm_machine_model.specs.Plan.{Link, Plan, receiver_side}
use Rattle.cm_machine_model.specs.Plan.{types_of}
use Rattle.cm_machine_model.specs.State.{Passage, State}
use Rattle.cm_machine_model.specs.Step.{AreOf, IsHanded, giver_of, given_to, one_i32}
use Rattle.cm_machine_laws.specs.Doing.{Asked, answer_of, with_answer}
use Rattle.cm_machine_laws.specs.Entries.{answered_by}
use Rattle.cm_machine_laws.specs.MemoryChanges.{ChangesBytes, ChangesInside}
use Rattle.cm_machine_laws.specs.Told.{answers_in, one_answer}
use Rattle.cm_machine_laws.specs.Following.{IsOneOpen}
use Rattle.cm_machine_laws.proofs.Regions.{EachAsked, EndsExact, outside_stays}
use Rattle.cm_machine_model.proofs.PassagesLaws.{asked_on}
use Rattle.cm_lemmas.proofs.Lists.{length_push}

-- ---- what is asked of the layers below

-- One passage carries one value.
abbrev pub OneCarried : Type 0
OneCarried = (memory : List ℕ) (l : Link) (way : Way) (p : Passage) (v u : Val)
    → Carries memory l way p v → Carries memory l way p u → v ≡ u

pub record Laws : Type 0 where
  pub carried : OneCarried
  pub exact : EndsExact
  pub each : EachAsked
  pub inside : (way : Way) (types : Fields) (g : Given) (v : Val) (target : StringEncoding)
      → HasType (tuple_of types) v → g.charset ≡ stored_charset target
      → AllAt (IsInPart target g 0 (call_parts way types v)) (call_bytes g way types v)
  pub spelled : (w : View) (way : Way) (types : Fields) (slots : List CoreValue) (v : Val)
      → Denotes w way types slots v
      → HaveScalars w.encoding (tags_of (met w way types slots v)) (parts_in (tuple_of types) v)

-- ---- requests

pub past_end : (rs : List Request) (n : ℕ) → slice_get rs n ≡ None → length rs ≤ n
past_end [] n e = omega arith
past_end (r ∷ rs) zero e = absurd (none-some r (sym e))
past_end (r ∷ rs) (suc n) e = omega (arith, past_end rs n e)

within : (rs : List Request) (n : ℕ) (r : Request) → slice_get rs n ≡ Some r → n < length rs
within [] n r e = absurd (none-some r e)
within (x ∷ rs) zero r e = omega arith
within (x ∷ rs) (suc n) r e = omega (arith, within rs n r e)

pub no_places : (rs : List Request) → [] ≡ places_of rs []
no_places [] = refl
no_places (r ∷ rs) = refl

-- ---- the latest answer, as it is told

one_value : (values : List CoreValue) → AreOf one_i32 values
    → answer_of values ≡ Some (slot_at values 0)
one_value [] e = absurd (differ e) where
  differ : [] ≡ kind.I32 ∷ [] → ⊥
  differ x = cc (x)
one_value (core_value.I32 n ∷ cs) e = refl
one_value (core_value.I64 n ∷ cs) e = absurd (differ (map kind_of cs) e) where
  differ : (ks : List CoreKind) → kind.I64 ∷ ks ≡ kind.I32 ∷ [] → ⊥
  differ ks x = cc (x)

open_answers : (a : Asked) (earlier : List Asked) → a.answer ≡ None
    → answers_in (a ∷ earlier) ≡ answers_in earlier
open_answers a earlier none =
    ap (λ (o : Option ℕ). answers_in earlier ++ one_answer o) none ∙ append-nil (answers_in earlier)

pub answers_with : (values : List CoreValue) (asked : List Asked) → AreOf one_i32 values
    → IsOneOpen asked → answers_in (with_answer values asked) ≡ answers_in asked ++ slot_at values 0 ∷ []
answers_with values [] of unanswered = absurd unanswered
answers_with values (a ∷ earlier) of unanswered =
    ap (λ (o : Option ℕ). answers_in earlier ++ one_answer o) (one_value values of)
    ∙ ap (λ (xs : List ℕ). xs ++ slot_at values 0 ∷ []) (sym (open_answers a earlier unanswered.0))

pub answers_by : (values : List CoreValue) (asked : List Asked) → IsOneOpen asked
    → answers_in (answered_by values asked) ≡ answers_in asked ++ slot_at values 0 ∷ []
answers_by values [] unanswered = absurd unanswered
answers_by values (a ∷ earlier) unanswered =
    ap (λ (xs : List ℕ). xs ++ slot_at values 0 ∷ []) (sym (open_answers a earlier unanswered.0))

-- ---- an answer

-- What an answer says of the value that is known to be on its way.
pub record IsTurn (l : Link) (way : Way) (rs : List Request) (mine : List ℕ) (a : ℕ)
    (o q : Passage) (v u : Val) (answers : List ℕ) : Type 0 where
  pub value_is : v ≡ u
  pub leaves : q.leaves ≡ o.leaves
  pub places : q.places ≡ places_of rs (mine ++ a ∷ [])
  pub all : slice_get (asked_for l way q v) (length (answers ++ a ∷ [])) ≡ None
      → length (mine ++ a ∷ []) ≡ length rs

pub turn : OneCarried → (plan : Plan) (s : State) (top : Frame) (values : List CoreValue) (way : Way)
    (call : Call) (l : Link) (p : Passage) (v : Val) (answers : List ℕ) (q : Passage)
    → IsPlaced plan s top values way call l p v answers q
    → (o : Passage) → s.passage ≡ Some o → (u : Val)
    → Carries (memory_at s.memories (giver_of way l call)) l way o u
    → (rs : List Request) → asked_for l way o u ≡ rs → (mine : List ℕ) → HasAnswers rs mine o
    → IsTurn l way rs mine (slot_at values 0) o q v u answers
turn one plan s top values way call l p v answers q pl o at_top u carried rs asks mine has = record {
  value_is = value_is;
  leaves = ans.leaves;
  places = (ans.answers mine has).places;
  all = λ none. omega (
    arith,
    length_push mine a,
    length_push answers a,
    count,
    within rs (length answers) pl.request (subst (λ (xs : List Request). slice_get xs (length answers) ≡ Some pl.request) rs_is pl.asked),
    past_end rs (length (answers ++ a ∷ []))
        (subst (λ (xs : List Request). slice_get xs (length (answers ++ a ∷ [])) ≡ None) (asked_on l way rs o a q v ans ∙ asks_v) none),
  );
} where
  a : ℕ
  a = slot_at values 0

  memory : List ℕ
  memory = memory_at s.memories (giver_of way l call)

  passage_is : p ≡ o
  passage_is = same_Some p o (sym pl.passage_is ∙ at_top)

  value_is : v ≡ u
  value_is = one memory l way o v u (subst (λ (x : Passage). Carries memory l way x v) passage_is pl.carried) carried

  asks_v : asked_for l way o v ≡ rs
  asks_v = ap (λ (x : Val). asked_for l way o x) value_is ∙ asks

  rs_is : asked_for l way p v ≡ rs
  rs_is = ap (λ (x : Passage). asked_for l way x v) passage_is ∙ asks_v

  ans : IsAnswered rs o a q
  ans = subst (λ (x : Passage). IsAnswered rs x a q) passage_is
      (subst (λ (xs : List Request). IsAnswered xs p a q) rs_is pl.answered)

  count : length answers ≡ length mine
  count = sym pl.answered_before.count ∙ (ap (λ (x : Passage). x.answered) passage_is ∙ has.count)

-- ---- a result and its place

-- What the place of a result says: the answers that came before the first event.
pub record IsSettled (s st : State) (l : Link) (p q : Passage) (v : Val)
    (answers before : List ℕ) : Type 0 where
  pub answers_are : answers ≡ before
  pub places : q.places ≡ places_of (asked_for l results p v) answers
  pub few : length answers ≤ length (asked_for l results p v)
  pub asks : asked_for l results q v ≡ asked_for l results p v
  pub memories : st.memories ≡ s.memories

pub settled : (s : State) (l : Link) (call : Call) (p : Passage) (v : Val) (q : Passage)
    (answers : List ℕ) (st : State) (place : ℕ) → HasPlace s l call p v q answers st
    → HasAnswers (asked_for l results p v) [] p
    → call.result_at ≡ (if is_spilled results (types_of l results) then place else 0)
    → IsSettled s st l p q v answers
    (if is_spilled results (types_of l results) then place ∷ [] else [])
settled s l call p v _ _ _ place (in_values flat) none result_at = record {
  answers_are = sym (ap (λ (b : Bool). if b then place ∷ [] else []) flat);
  places = none.places;
  few = omega arith;
  asks = refl;
  memories = refl;
}
settled s l call p v _ _ _ place (by_memory r q spilled asked fine answered) none result_at = record {
  answers_are = ap (λ (n : ℕ). n ∷ []) (result_at ∙ ap (λ (b : Bool). if b then place else 0) spilled)
      ∙ sym (ap (λ (b : Bool). if b then place ∷ [] else []) spilled);
  places = (answered.answers [] none).places;
  few = omega (arith, within (asked_for l results p v) 0 r asked);
  asks = asked_on l results (asked_for l results p v) p call.result_at q v answered;
  memories = refl;
}

-- ---- what is handed over

call_scalars : (way : Way) (types : Fields) (v : Val) (source : StringEncoding) (tags : List Bool)
    → HaveScalars source tags (parts_in (tuple_of types) v)
    → HaveScalars source tags (call_parts way types v)
call_scalars way types v source tags x = by (is_spilled way types) where
  by : (b : Bool) → HaveScalars source tags
      (if b then element_part 1 (size_of (tuple_of types)) (align_of (tuple_of types)) ∷ parts_in (tuple_of types) v
      else parts_in (tuple_of types) v)
  by true = (tt, x)
  by false = x

-- what the receiver's memory has of the value
pub record IsChanged (old memory : List ℕ) (way : Way) (types : Fields) (v : Val)
    (receiver : StringEncoding) (rs : List Request) (answers : List ℕ) : Type 0 where
  pub inside : ChangesInside old memory rs answers
  pub bytes : ChangesBytes old memory way types v receiver (places_of rs answers)

pub changed : Laws → (st : State) (l : Link) (way : Way) (to : Receiver) (q : Passage) (v : Val)
    (memory : List ℕ) (slots : List CoreValue) (w : View) (from : List CoreValue)
    (answers : List ℕ) → IsHanded st l way to q v memory slots
    → Denotes w way (types_of l way) from v
    → length answers
    ≡ length (requests way (types_of l way) v w.encoding (receiver_side l way).encoding (tags_of (met w way (types_of l way) from v)))
    → q.places ≡ places_of (requests way (types_of l way) v w.encoding (receiver_side l way).encoding (tags_of (met w way (types_of l way) from v))) answers
    → IsChanged (memory_at st.memories to.instance) memory way (types_of l way) v
    (receiver_side l way).encoding (requests way (types_of l way) v w.encoding (receiver_side l way).encoding (tags_of (met w way (types_of l way) from v))) answers
changed laws st l way to q v memory slots w from answers handed denoted all places = record {
  inside = record {
    same_length = handed.framed.length_stays;
    outside = λ a not. outside_stays laws.exact laws.each w.encoding (receiver_side l way).encoding tags
        (call_parts way (types_of l way) v) answers g (call_bytes g way (types_of l way) v)
        (memory_at st.memories to.instance) memory
        (call_scalars way (types_of l way) v w.encoding tags (laws.spelled w way (types_of l way) from v denoted)) all places
        (laws.inside way (types_of l way) g v (receiver_side l way).encoding handed.received.typed refl) handed.framed a not;
  };
  bytes = record { given = g; placed = places; stored_in = refl; framed = handed.framed };
} where
  g : Given
  g = given_to st l way to q

  tags : List Bool
  tags = tags_of (met w way (types_of l way) from v)
