-- What an allocator's answer may trap by, while arguments are placed and while a result is.
use Rattle.std.proofs.Common.{◌≡◌, ℕ, suc, ◌+◌, ◌<◌, List, [], ◌∷◌, ◌++◌, length, Option, Some, refl, sym, ap, subst, ◌∙◌, arith}
use Rattle.std.specs.Prelude.{slice_get}
use Rattle.std.proofs.lemmas.Option.{same_Some}
use Rattle.cm_types.specs.declared.core_value.CoreValue.{CoreValue}
use Rattle.cm_types.specs.Values.{Val}
use Rattle.cm_handles.specs.Handles.{indices_left}
use Rattle.cm_abi_model.specs.declared.request.Request.{Request}
use Rattle.cm_abi_model.specs.Answering.{regions_of}
use Rattle.cm_abi_model.specs.Denotes.{Denotes}
use Rattle.cm_abi_model.specs.Giving.{added_count}
use Rattle.cm_abi_model.specs.Numbers.{slot_at}
use Rattle.cm_abi_model.specs.Overlap.{AreDisjoint}
use Rattle.cm_abi_model.specs.Texts.{IsAligned}
use Rattle.cm_abi_model.specs.Views.{params, results}
use Rattle.cm_machine_model.specs.declared.event.Event.{Event}
use Rattle.cm_machine_model.specs.declared.event.Trap.TheVariants as trap
use Rattle.cm_machine_model.specs.Memories.{memory_at}
use Rattle.cm_machine_model.specs.declared.frame.Call.{Call}
use Rattle.cm_machine_model.specs.declared.frame.Frame.{Frame}
use Rattle.cm_machine_model.specs.declared.frame.Phase.TheVariants as phase
use Rattle.cm_machine_model.specs.Passages.{Carries}
use Rattle.cm_machine_model.specs.Plan.{Link, Plan, Reaches, types_of}
use Rattle.cm_machine_model.specs.Rows.{same_link}
use Rattle.cm_machine_model.specs.Stack.{below_top}
use Rattle.cm_machine_model.specs.State.{State, table_at}
use Rattle.cm_machine_model.specs.Step.{Answers, AreOf, ReturnsIn, one_i32, top_place}
use Rattle.cm_machine_laws.specs.Causes.{HandedCause, PlacedCause, align_asked, size_asked}
use Rattle.cm_machine_laws.specs.Doing.{Asked, BodyReturn, LoweredCall}
use Rattle.cm_machine_laws.specs.Matching.{IsCallOf}
use Rattle.cm_machine_laws.specs.Told.{AsksFor, answered_before, answers_back, answers_in, args_receiver, one_answer, result_receiver, returned_leaves, returned_requests, returner_view, sender_view, sent_leaves, sent_requests, sent_slots}
use Rattle.cm_machine_laws.specs.Following.{IsHanding, IsOneOpen, IsPlacing}
use Rattle.cm_machine_laws.proofs.AnswerRows.{AnswerCauses, IsAll, OneCarried, answer_judged}
use Rattle.cm_machine_laws.proofs.Judging.{Judged, check}
use Rattle.cm_machine_laws.proofs.Lifting.{Laws, OneDenoted}

-- ---- what was asked last

none_more : (xs : List ℕ) → length (xs ++ []) ≡ length xs
none_more [] = refl
none_more (x ∷ xs) = ap suc (none_more xs)

joined : (xs ys : List ℕ) → length (xs ++ ys) ≡ length xs + length ys
joined [] ys = omega arith
joined (x ∷ xs) ys = more (length (xs ++ ys)) (length xs) (length ys) (joined xs ys) where
  more : (a b c : ℕ) → a ≡ b + c → suc a ≡ suc b + c
  more a b c e = omega (arith, e)

pub record Latest (asked : List Asked) (r : Request) : Type 0 where
  pub align : align_asked asked ≡ r.align
  pub size : size_asked asked ≡ r.size

pub latest : (rs : List Request) (before : List ℕ) (asked : List Asked) → AsksFor rs before asked → IsOneOpen asked → (r : Request)
    → slice_get rs (length (before ++ answers_in asked)) ≡ Some r → Latest asked r
latest rs before [] asks opened r is = absurd opened
latest rs before (a ∷ earlier) asks opened r is = record {
  align = ap (λ (cs : List CoreValue). slot_at cs 2) asks.1.2 ∙ ap (λ (q : Request). q.align) same;
  size = ap (λ (cs : List CoreValue). slot_at cs 3) asks.1.2 ∙ ap (λ (q : Request). q.size) same;
} where
  mine : length (answers_in (a ∷ earlier)) ≡ length earlier
  mine = ap (λ (o : Option ℕ). length (answers_in earlier ++ one_answer o)) opened.0 ∙ (none_more (answers_in earlier) ∙ opened.1)

  place : length (before ++ answers_in (a ∷ earlier)) ≡ length before + length earlier
  place = joined before (answers_in (a ∷ earlier)) ∙ ap (λ (n : ℕ). length before + n) mine

  same : asks.1.0 ≡ r
  same = same_Some asks.1.0 r (sym asks.1.1 ∙ (ap (λ (n : ℕ). slice_get rs n) (sym place) ∙ is))

-- ---- arguments

placed_causes : (one : OneDenoted) (s : State) (x : LoweredCall) (asked : List Asked) (values : List CoreValue) (p : IsPlacing s x asked)
    → AnswerCauses s (sent_requests x p.v) (answers_in asked) (slot_at values 0) (memory_at s.memories x.link.instance) (args_receiver x) (sent_leaves x p.v) values
    (PlacedCause s x asked values) (AreOf one_i32 values)
placed_causes one s x asked values p = record {
  shape_if = λ f. f;
  shape_only = λ f of. f of;
  misaligned_if = λ r is wrong aligned. wrong (subst (λ (n : ℕ). IsAligned n at) (last r is).align aligned);
  misaligned_only = λ r is c aligned. c (subst (λ (n : ℕ). IsAligned n at) (sym (last r is).align) aligned);
  beyond_if = λ r is aligned lt. (subst (λ (n : ℕ). IsAligned n at) (sym (last r is).align) aligned, subst (λ (n : ℕ). length (memory_at s.memories x.link.instance) < at + n) (sym (last r is).size) lt);
  beyond_only = λ r is c. subst (λ (n : ℕ). length (memory_at s.memories x.link.instance) < at + n) (last r is).size c.1;
  overlap_if = λ all f. (p.v, record { sent = p.sent; all = all }, f);
  overlap_only = λ c. (
    subst (λ (u : Val). IsAll (sent_requests x u) (answers_in asked) at) (same c.0 c.1.sent.denoted) c.1.all,
    subst (λ (u : Val). AreDisjoint (regions_of (sent_requests x u) (answers_in asked ++ at ∷ [])) → ⊥) (same c.0 c.1.sent.denoted) c.2,
  );
  full_if = λ all lt. (p.v, record { sent = p.sent; all = all }, lt);
  full_only = λ c. (
    subst (λ (u : Val). IsAll (sent_requests x u) (answers_in asked) at) (same c.0 c.1.sent.denoted) c.1.all,
    subst (λ (u : Val). indices_left (table_at s.tables x.link.instance) < added_count (args_receiver x) (sent_leaves x u)) (same c.0 c.1.sent.denoted) c.2,
  );
  wants = λ all some. (p.v, record { sent = p.sent; all = all }, some);
} where
  at : ℕ
  at = slot_at values 0

  last : (r : Request) → slice_get (sent_requests x p.v) (length (answers_in asked)) ≡ Some r → Latest asked r
  last r is = latest (sent_requests x p.v) [] asked p.so_far p.one_open r is

  same : (u : Val) → Denotes (sender_view x) params (types_of x.link params) (sent_slots x) u → u ≡ p.v
  same u d = one (sender_view x) params (types_of x.link params) (sent_slots x) u p.v d p.sent.denoted

pub placing_judged : (laws : Laws) (carried : OneCarried) (plan : Plan) (s : State) (top : Frame) (fs : List Frame) (call : Call) (x : LoweredCall) (asked : List Asked) (values : List CoreValue)
    → s.stack ≡ top ∷ fs → IsCallOf plan top.instance call (length fs) x → (p : IsPlacing s x asked) → (l : Link) → Reaches plan call.caller call.func l
    → (e : Event) (new : State) → ReturnsIn phase.Arguments s l call values e new
    → Judged (trap.CoreShape ∷ trap.Misaligned ∷ trap.PointerBounds ∷ trap.Overlap ∷ trap.TableFull ∷ []) [] (PlacedCause s x asked values) e
placing_judged laws carried plan s top fs call x asked values stack of p l reach e new row =
    check s (trap.Misaligned ∷ trap.PointerBounds ∷ trap.Overlap ∷ trap.TableFull ∷ []) [] (PlacedCause s x asked values) e new trap.CoreShape (λ f. f) (λ o f. f o) row
    (λ o y. answer_judged carried s x.link params call values (sent_requests x p.v) (answers_in asked) p.v (PlacedCause s x asked values) (AreOf one_i32 values)
    (record {
      passage = p.passage;
      passage_is = p.passage_is;
      carried = subst (λ (i : ℕ). Carries (memory_at s.memories i) x.link params p.passage p.v) of.caller p.carried;
      requests_are = p.requests_are;
      answered = p.answered;
    })
    (subst (λ (n : ℕ). AnswerCauses s (sent_requests x p.v) (answers_in asked) (slot_at values 0) (memory_at s.memories x.link.instance) (record { instance = x.link.instance; call = n })
    (sent_leaves x p.v) values (PlacedCause s x asked values) (AreOf one_i32 values)) (of.placed ∙ place) (placed_causes laws.denoted s x asked values p))
    e new (subst (λ (k : Link). Answers s k params call values e new) (same_link plan call.caller call.func l x.link reach of.link) y)) where
      place : length fs ≡ top_place s
      place = ap (λ (gs : List Frame). length (below_top gs)) (sym stack)

-- ---- a result

handed_causes : (one : OneDenoted) (s : State) (x : LoweredCall) (r : BodyReturn) (more : List Asked) (values : List CoreValue) (p : IsHanding s x r more)
    → AnswerCauses s (returned_requests x r p.v) (answers_back x more) (slot_at values 0) (memory_at s.memories x.caller) (result_receiver x) (returned_leaves x p.v) values
    (HandedCause s x r more values) (AreOf one_i32 values)
handed_causes one s x r more values p = record {
  shape_if = λ f. f;
  shape_only = λ f of. f of;
  misaligned_if = λ q is wrong aligned. wrong (subst (λ (n : ℕ). IsAligned n at) (last q is).align aligned);
  misaligned_only = λ q is c aligned. c (subst (λ (n : ℕ). IsAligned n at) (sym (last q is).align) aligned);
  beyond_if = λ q is aligned lt. (subst (λ (n : ℕ). IsAligned n at) (sym (last q is).align) aligned, subst (λ (n : ℕ). length (memory_at s.memories x.caller) < at + n) (sym (last q is).size) lt);
  beyond_only = λ q is c. subst (λ (n : ℕ). length (memory_at s.memories x.caller) < at + n) (last q is).size c.1;
  overlap_if = λ all f. (p.v, record { returned = p.returned; all = all }, f);
  overlap_only = λ c. (
    subst (λ (u : Val). IsAll (returned_requests x r u) (answers_back x more) at) (same c.0 c.1.returned.denoted) c.1.all,
    subst (λ (u : Val). AreDisjoint (regions_of (returned_requests x r u) (answers_back x more ++ at ∷ [])) → ⊥) (same c.0 c.1.returned.denoted) c.2,
  );
  full_if = λ all lt. (p.v, record { returned = p.returned; all = all }, lt);
  full_only = λ c. (
    subst (λ (u : Val). IsAll (returned_requests x r u) (answers_back x more) at) (same c.0 c.1.returned.denoted) c.1.all,
    subst (λ (u : Val). indices_left (table_at s.tables x.caller) < added_count (result_receiver x) (returned_leaves x u)) (same c.0 c.1.returned.denoted) c.2,
  );
  wants = λ all some. (p.v, record { returned = p.returned; all = all }, some);
} where
  at : ℕ
  at = slot_at values 0

  last : (q : Request) → slice_get (returned_requests x r p.v) (length (answers_back x more)) ≡ Some q → Latest more q
  last q is = latest (returned_requests x r p.v) (answered_before x) more p.so_far p.one_open q is

  same : (u : Val) → Denotes (returner_view x r) results (types_of x.link results) r.values u → u ≡ p.v
  same u d = one (returner_view x r) results (types_of x.link results) r.values u p.v d p.returned.denoted

pub handing_judged : (laws : Laws) (carried : OneCarried) (plan : Plan) (s : State) (top : Frame) (fs : List Frame) (call : Call) (x : LoweredCall) (r : BodyReturn) (more : List Asked) (values : List CoreValue)
    → s.stack ≡ top ∷ fs → IsCallOf plan top.instance call (length fs) x → (p : IsHanding s x r more) → (l : Link) → Reaches plan call.caller call.func l
    → (e : Event) (new : State) → ReturnsIn phase.Results s l call values e new
    → Judged (trap.CoreShape ∷ trap.Misaligned ∷ trap.PointerBounds ∷ trap.Overlap ∷ trap.TableFull ∷ []) [] (HandedCause s x r more values) e
handing_judged laws carried plan s top fs call x r more values stack of p l reach e new row =
    check s (trap.Misaligned ∷ trap.PointerBounds ∷ trap.Overlap ∷ trap.TableFull ∷ []) [] (HandedCause s x r more values) e new trap.CoreShape (λ f. f) (λ o f. f o) row
    (λ o y. answer_judged carried s x.link results call values (returned_requests x r p.v) (answers_back x more) p.v (HandedCause s x r more values) (AreOf one_i32 values)
    (record { passage = p.passage; passage_is = p.passage_is; carried = p.carried; requests_are = p.requests_are; answered = p.answered })
    (subst (λ (i : ℕ). AnswerCauses s (returned_requests x r p.v) (answers_back x more) (slot_at values 0) (memory_at s.memories i) (record { instance = i; call = top_place s })
    (returned_leaves x p.v) values (HandedCause s x r more values) (AreOf one_i32 values)) of.caller
    (subst (λ (n : ℕ). AnswerCauses s (returned_requests x r p.v) (answers_back x more) (slot_at values 0) (memory_at s.memories x.caller) (record { instance = x.caller; call = n })
    (returned_leaves x p.v) values (HandedCause s x r more values) (AreOf one_i32 values)) (of.placed ∙ place) (handed_causes laws.denoted s x r more values p)))
    e new (subst (λ (k : Link). Answers s k results call values e new) (same_link plan call.caller call.func l x.link reach of.link) y)) where
      place : length fs ≡ top_place s
      place = ap (λ (gs : List Frame). length (below_top gs)) (sym stack)
