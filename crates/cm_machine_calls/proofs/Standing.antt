-- What a valid state says of the frame on top, of its instance and of its lends.
use Rattle.std.proofs.Common.{◌≡◌, ℕ, suc, ◌<◌, ◌≤◌, ◌^◌, Bool, true, false, List, [], ◌∷◌, length, take, Option, Some, None, refl, sym, ap, subst, ◌∙◌, arith}
use Rattle.std.specs.Prelude.{if◌then◌else◌, slice_get, unwrap_or, ◌==◌, ◌&&◌}
use Rattle.std.proofs.lemmas.List.{length-take}
use Rattle.std.proofs.lemmas.Option.{none-some, same_Some, slice_get_within}
use Rattle.cm_types.specs.declared.core_value.CoreValue.{CoreValue}
use Rattle.cm_types.specs.declared.limits.TheConstants.{MAX_FLAT_PARAMS}
use Rattle.cm_abi_model.specs.Lifts.{LendsBelow}
use Rattle.cm_abi_model.specs.Views.{params}
use Rattle.cm_machine_model.specs.declared.frame.Call.{Call}
use Rattle.cm_machine_model.specs.declared.frame.Frame.{Frame}
use Rattle.cm_machine_model.specs.declared.frame.Lend.{Lend}
use Rattle.cm_machine_model.specs.declared.frame.Phase.{Phase}
use Rattle.cm_machine_model.specs.declared.frame.Phase.TheVariants as phase
use Rattle.cm_machine_model.specs.declared.frame.Purpose.{Purpose}
use Rattle.cm_machine_model.specs.declared.frame.Purpose.TheVariants as purpose
use Rattle.cm_machine_model.specs.Owning.{AreCounted, count_lends}
use Rattle.cm_machine_model.specs.Plan.{CoreFunc, Link, Plan, Reaches, entered_kinds, lowered, types_of}
use Rattle.cm_machine_model.specs.Plans.{IsLink, IsPlan}
use Rattle.cm_machine_model.specs.Rows.{same_link}
use Rattle.cm_machine_model.specs.Stack.{below_top, top_of}
use Rattle.cm_machine_model.specs.State.{Passage, State, table_at}
use Rattle.cm_machine_model.specs.Step.{MayLeave, MayLeaveIn, arg_slots}
use Rattle.cm_machine_model.specs.Valid.{IsStack, PassesAtTop, PassesFor, PassesIn, StandsOn}
use Rattle.cm_abi_model.proofs.ReceivesLaws.{few_kinds}

-- ---- the plan

row_there : (o : Option (List CoreFunc)) (plan : Plan) (i f : ℕ) (c : CoreFunc) → slice_get plan i ≡ o → slice_get (unwrap_or o []) f ≡ Some c → i < length plan
row_there None plan i f c is there = absurd (omega (arith, slice_get_within [] f c there))
row_there (Some row) plan i f c is there = slice_get_within plan i row is

-- an instance with a core function is there
pub has_funcs : (plan : Plan) (i f : ℕ) (l : Link) → Reaches plan i f l → i < length plan
has_funcs plan i f l there = row_there (slice_get plan i) plan i f (lowered l) refl there

pub link_of : (plan : Plan) (i f : ℕ) (l : Link) → IsPlan plan → Reaches plan i f l → IsLink plan i l
link_of plan i f l fine reaches = fine.core_funcs i f (lowered l) reaches

-- ---- the frame on top

pub top_parts : (fs : List Frame) (top : Frame) → top_of fs ≡ Some top → fs ≡ top ∷ below_top fs
top_parts [] top is = absurd (none-some top is)
top_parts (f ∷ fs) top is = ap (λ (g : Frame). g ∷ fs) (same_Some f top is)

idle_in : (ph : Phase) (s : State) (l : Link) (call : Call) (o : Option Passage) → MayLeaveIn ph → PassesIn ph s l call o → o ≡ None
idle_in phase.Arguments s l call o leaves x = absurd leaves
idle_in phase.Body s l call o leaves x = x
idle_in phase.Results s l call o leaves x = absurd leaves
idle_in (phase.PostReturn r) s l call o leaves x = absurd leaves

idle_for : (plan : Plan) (s : State) (p : Purpose) (instance : ℕ) (below : List Frame) → StandsOn plan p instance below → MayLeave p → PassesFor plan s p → s.passage ≡ None
idle_for plan s purpose.Root instance below stands leaves x = x
idle_for plan s (purpose.Call call) instance below stands leaves x = idle_in call.phase s stands.0.0 call s.passage leaves (x stands.0.0 stands.0.1)
idle_for plan s (purpose.Destructor d) instance below stands leaves x = x

-- nothing is on its way where the frame on top may call out
pub idle_at : (plan : Plan) (s : State) (fs : List Frame) (top : Frame) → top_of fs ≡ Some top → IsStack plan fs → PassesAtTop plan s fs → MayLeave top.purpose → s.passage ≡ None
idle_at plan s [] top is stack x leaves = absurd (none-some top is)
idle_at plan s (f ∷ fs) top is stack x leaves =
    idle_for plan s f.purpose f.instance fs stack.1 (subst (λ (g : Frame). MayLeave g.purpose) (sym (same_Some f top is)) leaves) x

-- what passes, where this frame is on top
pub passes_at : (plan : Plan) (s : State) (fs : List Frame) (top : Frame) → top_of fs ≡ Some top → PassesAtTop plan s fs → PassesFor plan s top.purpose
passes_at plan s [] top is x = absurd (none-some top is)
passes_at plan s (f ∷ fs) top is x = subst (λ (g : Frame). PassesFor plan s g.purpose) (same_Some f top is) x

pub not_passing : (b : Bool) (p : Passage) → (if b then Some p else None) ≡ None → b ≡ false
not_passing true p is = absurd (none-some p (sym is))
not_passing false p is = refl

-- what is on its way is that of the code
pub is_passing : (b : Bool) (p q : Passage) → (if b then Some p else None) ≡ Some q → (b ≡ true) × (p ≡ q)
is_passing true p q is = (refl, same_Some p q is)
is_passing false p q is = absurd (none-some q is)

-- how the frame on top stands
pub record TopCall (plan : Plan) (l : Link) (call : Call) (top : Frame) (below : List Frame) : Type 0 where
  pub there : l.instance < length plan
  pub instance : top.instance ≡ l.instance
  pub stands : StandsOn plan (purpose.Call call) l.instance below
  pub below_stands : IsStack plan below

-- ---- lends

one_at_most : (b : Bool) → (if b then 1 else 0) ≤ 1
one_at_most true = omega arith
one_at_most false = omega arith

count_few : (i index : ℕ) (ls : List Lend) → count_lends i index ls ≤ length ls
count_few i index [] = omega arith
count_few i index (l ∷ ls) = omega (arith, one_at_most ((l.instance == i) && (l.index == index)), count_few i index ls)

pub lends_below : (s : State) (i : ℕ) → AreCounted s → length s.lends < 2 ^ 64 → LendsBelow (2 ^ 100) (table_at s.tables i)
lends_below s i counted few = λ index h at. omega (arith, counted.counted i index h at, count_few i index s.lends, few)

-- ---- arguments

pub few_values : (xs : List CoreValue) (n : ℕ) → n ≤ MAX_FLAT_PARAMS → length (take n xs) ≤ MAX_FLAT_PARAMS
few_values xs n few = omega (arith, length-take n xs, few)

pub few_slots : (l : Link) (args : List CoreValue) → length (arg_slots l args) ≤ MAX_FLAT_PARAMS
few_slots l args = few_values args (length (entered_kinds l)) (few_kinds params (types_of l params))

-- ---- a call on top

pub top_call : (plan : Plan) (l : Link) (call : Call) (fs : List Frame) (top : Frame) → IsStack plan fs → top_of fs ≡ Some top → top.purpose ≡ purpose.Call call → Reaches plan call.caller call.func l
    → TopCall plan l call top (below_top fs)
top_call plan l call [] top stack is is_call reaches = absurd (none-some top is)
top_call plan l call (f ∷ fs) top stack is is_call reaches =
    let same : f ≡ top = same_Some f top is in
    let x : StandsOn plan (purpose.Call call) top.instance fs =
    subst (λ (p : Purpose). StandsOn plan p top.instance fs) is_call (subst (λ (g : Frame). StandsOn plan g.purpose g.instance fs) same stack.1) in
    let one : x.0.0 ≡ l = same_link plan call.caller call.func x.0.0 l x.0.1 reaches in
    let at : top.instance ≡ l.instance = sym x.0.2 ∙ ap (λ (m : Link). m.instance) one in
    record {
      there = omega (arith, stack.0, ap (λ (g : Frame). g.instance) same, at);
      instance = at;
      stands = ((l, reaches, refl), x.1);
      below_stands = stack.2;
    }

pub top_high : (fs : List Frame) (top : Frame) → top_of fs ≡ Some top → length fs ≡ suc (length (below_top fs))
top_high fs top is = ap (λ (x : List Frame). length x) (top_parts fs top is)
