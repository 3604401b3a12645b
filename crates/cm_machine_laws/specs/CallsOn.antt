-- Lemmas: which call goes on where a frame is one of a call in some phase, and where it leads.
use Rattle.std.proofs.Common.{◌≡◌, ℕ, ◌<◌, inl, inr, List, [], ◌∷◌, length, Option, refl, sym, ap}
use Rattle.std.proofs.Common.{subst, ◌∙◌, arith}
use Rattle.std.specs.Prelude.{slice_get, unwrap_or}
use Rattle.std.proofs.lemmas.Bool.{cases_lt}
use Rattle.std.proofs.lemmas.Option.{none-some, slice_get_past}
use Rattle.cm_types.specs.declared.core_value.CoreValue.{CoreValue}
use Rattle.cm_machine_model.specs.declared.frame.Call.{Call}
use Rattle.cm_machine_model.specs.declared.frame.Frame.{Frame}
use Rattle.cm_machine_model.specs.declared.frame.Phase.{Phase}
use Rattle.cm_machine_model.specs.declared.frame.Phase.TheVariants as phase
use Rattle.cm_machine_model.specs.declared.frame.Purpose.{Purpose}
use Rattle.cm_machine_model.specs.declared.frame.Purpose.TheVariants as purpose
use Rattle.cm_machine_model.specs.Plan.{CoreFunc, Link, Plan, Reaches, lowered}
use Rattle.cm_machine_model.specs.Plans.{IsPlan}
use Rattle.cm_machine_model.specs.Rows.{same_link}
use Rattle.cm_machine_laws.specs.Doing.{Asked, BodyReturn, Doing, LoweredCall, body, handing}
use Rattle.cm_machine_laws.specs.Doing.{placing, tidying}
use Rattle.cm_machine_laws.specs.Matching.{AllMatch, IsCallOf, MatchIn, MatchOne}

-- the latest that goes on is a call whose arguments are being placed, that of a frame
pub record IsPlacingCall (plan : Plan) (i : ℕ) (call : Call) (n : ℕ) (ds : List Doing) : Type 0
  where
    pub x : LoweredCall
    pub asked : List Asked
    pub rest : List Doing
    pub is : ds ≡ placing x asked ∷ rest
    pub of : IsCallOf plan i call n x

-- the call of a frame is one whose body runs
pub record IsBodyCall (plan : Plan) (i : ℕ) (call : Call) (n : ℕ) (ds : List Doing) : Type 0 where
  pub x : LoweredCall
  pub asked : List Asked
  pub rest : List Doing
  pub is : ds ≡ body x asked ∷ rest
  pub of : IsCallOf plan i call n x

-- the call of a frame is one whose result is being placed
pub record IsHandingCall (plan : Plan) (i : ℕ) (call : Call) (n : ℕ) (ds : List Doing) : Type 0
  where
    pub x : LoweredCall
    pub asked : List Asked
    pub back : BodyReturn
    pub more : List Asked
    pub rest : List Doing
    pub is : ds ≡ handing x asked back more ∷ rest
    pub of : IsCallOf plan i call n x

-- the call of a frame is one that is tidied up
pub record IsTidyingCall (plan : Plan) (i : ℕ) (call : Call) (n : ℕ) (ds : List Doing) : Type 0
  where
    pub x : LoweredCall
    pub asked : List Asked
    pub back : BodyReturn
    pub more : List Asked
    pub rest : List Doing
    pub is : ds ≡ tidying x asked back more ∷ rest
    pub of : IsCallOf plan i call n x

tidying_one : (plan : Plan) (i : ℕ) (call : Call) (n : ℕ) (v : Option CoreValue) (d : Doing) (ds :
    List Doing) → MatchIn (phase.PostReturn v) plan i call n d
    → IsTidyingCall plan i call n (d ∷ ds)
tidying_one plan i call n v (tidying x asked r more) ds m = record {
  x = x;
  asked = asked;
  back =
      r;
  more = more;
  rest = ds;
  is = refl;
  of = m;
}
tidying_one plan i call n v d ds m = absurd m

placing_one : (plan : Plan) (i : ℕ) (call : Call) (n : ℕ) (d : Doing) (ds : List Doing)
    → MatchIn phase.Arguments plan i call n d → IsPlacingCall plan i call n (d ∷ ds)
placing_one plan i call n (placing x asked) ds m = record {
  x = x;
  asked = asked;
  rest = ds;
  is =
      refl;
  of = m;
}
placing_one plan i call n d ds m = absurd m

body_one : (plan : Plan) (i : ℕ) (call : Call) (n : ℕ) (d : Doing) (ds : List Doing)
    → MatchIn phase.Body plan i call n d → IsBodyCall plan i call n (d ∷ ds)
body_one plan i call n (body x asked) ds m = record {
  x = x;
  asked = asked;
  rest = ds;
  is = refl;
  of = m;
}
body_one plan i call n d ds m = absurd m

handing_one : (plan : Plan) (i : ℕ) (call : Call) (n : ℕ) (d : Doing) (ds : List Doing)
    → MatchIn phase.Results plan i call n d → IsHandingCall plan i call n (d ∷ ds)
handing_one plan i call n (handing x asked r more) ds m = record {
  x = x;
  asked = asked;
  back = r;
  more = more;
  rest = ds;
  is = refl;
  of = m;
}
handing_one plan i call n d ds m = absurd m

matched_call : (plan : Plan) (top : Frame) (n : ℕ) (call : Call) (ph : Phase) (d : Doing)
    → top.purpose ≡ purpose.Call call → call.phase ≡ ph
    → MatchOne top.purpose plan top.instance n d → MatchIn ph plan top.instance call n d
matched_call plan top n call ph d is phase_is m =
    subst (λ (p : Phase). MatchIn p plan top.instance call n d) phase_is (subst (λ (pu : Purpose).
    MatchOne pu plan top.instance n d) is m)

pub placing_call : (plan : Plan) (top : Frame) (fs : List Frame) (ds : List Doing) (call : Call)
    → top.purpose ≡ purpose.Call call → call.phase ≡ phase.Arguments
    → AllMatch plan (top ∷ fs) ds → IsPlacingCall plan top.instance call (length fs) ds
placing_call plan top fs [] call is phase_is m = absurd m
placing_call plan top fs (d ∷ ds) call is phase_is m = placing_one plan top.instance call (length
    fs) d ds (matched_call plan top (length fs) call phase.Arguments d is phase_is m.0)

pub body_call : (plan : Plan) (top : Frame) (fs : List Frame) (ds : List Doing) (call : Call)
    → top.purpose ≡ purpose.Call call → call.phase ≡ phase.Body → AllMatch plan (top ∷ fs) ds
    → IsBodyCall plan top.instance call (length fs) ds
body_call plan top fs [] call is phase_is m = absurd m
body_call plan top fs (d ∷ ds) call is phase_is m = body_one plan top.instance call (length fs) d
    ds (matched_call plan top (length fs) call phase.Body d is phase_is m.0)

pub handing_call : (plan : Plan) (top : Frame) (fs : List Frame) (ds : List Doing) (call : Call)
    → top.purpose ≡ purpose.Call call → call.phase ≡ phase.Results → AllMatch plan (top ∷ fs) ds
    → IsHandingCall plan top.instance call (length fs) ds
handing_call plan top fs [] call is phase_is m = absurd m
handing_call plan top fs (d ∷ ds) call is phase_is m = handing_one plan top.instance call (length
    fs) d ds (matched_call plan top (length fs) call phase.Results d is phase_is m.0)

pub tidying_call : (plan : Plan) (top : Frame) (fs : List Frame) (ds : List Doing) (call : Call) (v
    : Option CoreValue) → top.purpose ≡ purpose.Call call → call.phase ≡ phase.PostReturn v
    → AllMatch plan (top ∷ fs) ds → IsTidyingCall plan top.instance call (length fs) ds
tidying_call plan top fs [] call v is phase_is m = absurd m
tidying_call plan top fs (d ∷ ds) call v is phase_is m = tidying_one plan top.instance call (length
    fs) v d ds (matched_call plan top (length fs) call (phase.PostReturn v) d is phase_is m.0)

-- ---- the call of a frame, as the events have it

-- a call that goes on, with this caller, link and place
abbrev pub framed : ℕ → Link → LoweredCall → ℕ → LoweredCall
framed caller l x place =
    record { caller = caller; link = l; args = x.args; state = x.state; place = place }

-- it is the one that its frame says
pub as_framed : (plan : Plan) (i : ℕ) (call : Call) (n k : ℕ) (x : LoweredCall) (l : Link)
    → IsCallOf plan i call n x → Reaches plan call.caller call.func l → k ≡ n
    → x ≡ framed call.caller l x k
as_framed plan i call n k x l of reach place =
    ap (λ (c : ℕ). framed c x.link x x.place) of.caller
    ∙ (ap (λ (j : Link). framed call.caller j x x.place)
    (same_link plan call.caller call.func x.link l of.link reach)
    ∙ ap (λ (m : ℕ). framed call.caller l x m) (of.placed ∙ sym place))

-- an instance that has a lowered function is there
pub caller_there : (plan : Plan) (c func : ℕ) (l : Link) → Reaches plan c func l → c < length plan
caller_there plan c func l reach = elim (cases_lt c (length plan)) [
  | inl lt ↦ lt
  | inr le ↦ absurd (none-some (lowered l)
      (sym (ap (λ (o : Option (List CoreFunc)). slice_get (unwrap_or o []) func)
      (slice_get_past plan c le)) ∙ reach))
]

-- and so is the one that the function reaches, which is another
pub callee_there : (plan : Plan) → IsPlan plan → (c func : ℕ) (l : Link) → Reaches plan c func l
    → l.instance < length plan
callee_there plan linked c func l reach =
    omega (
      arith,
      caller_there plan c func l reach,
      (linked.core_funcs c func (lowered l) reach).earlier,
    )

pub callee_apart : (plan : Plan) → IsPlan plan → (c func : ℕ) (l : Link) → Reaches plan c func l
    → l.instance ≡ c → ⊥
callee_apart plan linked c func l reach same =
    omega (arith, same, (linked.core_funcs c func (lowered l) reach).earlier)
