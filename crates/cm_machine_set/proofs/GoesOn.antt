-- Where an event is not a last one, a frame stands.
use Rattle.std.proofs.Common.{arith, ◌≡◌, ℕ, ◌<◌, false, List, [], ◌∷◌, length, Some, sym, ap, subst}
use Rattle.std.specs.Prelude.{⊤}
use Rattle.std.proofs.lemmas.Option.{none-some, same_Some}
use Rattle.cm_machine_model.specs.declared.event.Event.{Event}
use Rattle.cm_machine_model.specs.declared.moves.Move.{Move}
use Rattle.cm_machine_model.specs.declared.frame.Call.{Call}
use Rattle.cm_machine_model.specs.declared.frame.Frame.{Frame}
use Rattle.cm_machine_model.specs.declared.frame.Purpose.{Purpose}
use Rattle.cm_machine_model.specs.declared.frame.Purpose.TheVariants as purpose
use Rattle.cm_machine_model.specs.Cases.{Cases, case_of, trapped, wrote, stayed, grew, made, represented, dropped, destroyed, given_back, call_asks, call_enters, answer_asks, answer_enters, answer_tidies, answer_ends, return_asks, return_tidies, return_ends, tidied, root_ended, destructor_ended, place_changes}
use Rattle.cm_machine_model.specs.Plan.{Plan}
use Rattle.cm_machine_model.specs.Events.{is_last}
use Rattle.cm_machine_model.specs.Stack.{below_top, top_of}
use Rattle.cm_machine_model.specs.State.{State}
use Rattle.cm_machine_model.specs.Step.{Step}
use Rattle.cm_machine_model.specs.Valid.{IsStack, StandsOn}
use Rattle.cm_machine_model.proofs.StackLaws.{some_stand}

-- what stands on a frame that is not a root
abbrev Stands : Purpose → List Frame → Type 0
Stands purpose.Root below = ⊤
Stands (purpose.Call call) below = 0 < length below
Stands (purpose.Destructor dropper) below = 0 < length below

stands_by : (plan : Plan) (p : Purpose) (instance : ℕ) (below : List Frame) → StandsOn plan p instance below → Stands p below
stands_by plan purpose.Root instance below stands = tt
stands_by plan (purpose.Call call) instance below stands = some_stand below stands.1.0 stands.1.1
stands_by plan (purpose.Destructor dropper) instance below stands = some_stand below stands.1.0 stands.1.1

pub below_stands : (plan : Plan) (fs : List Frame) (top : Frame) → IsStack plan fs → top_of fs ≡ Some top → Stands top.purpose (below_top fs)
below_stands plan [] top stack is = absurd (none-some top is)
below_stands plan (f ∷ fs) top stack is = subst (λ (g : Frame). Stands g.purpose fs) (same_Some f top is) (stands_by plan f.purpose f.instance fs stack.1)

below_call : (p : Purpose) (call : Call) (below : List Frame) → p ≡ purpose.Call call → Stands p below → 0 < length below
below_call p call below is stands = subst (λ (q : Purpose). Stands q below) is stands

below_destructor : (p : Purpose) (dropper : ℕ) (below : List Frame) → p ≡ purpose.Destructor dropper → Stands p below → 0 < length below
below_destructor p dropper below is stands = subst (λ (q : Purpose). Stands q below) is stands

-- a frame on another
more : (f : Frame) (fs : List Frame) → 0 < length (f ∷ fs)
more f fs = omega arith

pub goes_on : (plan : Plan) (s : State) (top : Frame) (m : Move) (e : Event) (new : State) → 0 < length s.stack → Stands top.purpose (below_top s.stack) → Cases plan s top m e new → is_last e ≡ false → 0 < length new.stack
goes_on plan s top _ _ _ some below (trapped m t st from) last = absurd (cc (last))
goes_on plan s top _ _ _ some below (wrote at bytes inside) last = some
goes_on plan s top _ _ _ some below (stayed pages out) last = some
goes_on plan s top _ _ _ some below (grew pages fits) last = some
goes_on plan s top _ _ _ some below (made func args r reach are may can) last = some
goes_on plan s top _ _ _ some below (represented func args r h reach are found) last = some
goes_on plan s top _ _ _ some below (dropped func args r h found owned) last = some
goes_on plan s top _ _ _ some below (destroyed func args r f h found owned opened room) last = omega arith
goes_on plan s top _ _ _ some below (given_back func args r d h call found borrowed) last = some
goes_on plan s top _ _ _ some below (call_asks func args l v p f request called next) last = omega arith
goes_on plan s top _ _ _ some below (call_enters func args l v p memory slots called given) last = omega arith
goes_on plan s top _ _ _ some below (answer_asks values way call l p v answers q f request placed next) last = some
goes_on plan s top _ _ _ some below (answer_enters values call l p v answers q memory slots placed given) last = omega arith
goes_on plan s top _ _ _ some below (answer_tidies values call l p v answers q memory slots f placed given tidies) last = omega arith
goes_on plan s top _ _ _ some below (answer_ends values call l p v answers q memory slots placed given ends) last = below_call top.purpose call (below_top s.stack) placed.purpose_is below
goes_on plan s top _ _ _ some below (return_asks values call l v p q answers st f request returned place next) last =
    let o = place_changes _ l call p v q answers st place in
    subst (λ (x : State). 0 < length x.stack) (sym o.1) (omega arith)
goes_on plan s top _ _ _ some below (return_tidies values call l v p q answers st memory slots f returned place given tidies) last = omega arith
goes_on plan s top _ _ _ some below (return_ends values call l v p q answers st memory slots returned place given ends) last =
    let o = place_changes _ l call p v q answers st place in
    subst (λ (x : State). 0 < length (below_top x.stack)) (sym o.1) (below_call top.purpose call (below_top s.stack) returned.purpose_is below)
goes_on plan s top _ _ _ some below (tidied values call l result purpose_is phase_is reach none) last = below_call top.purpose call (below_top s.stack) purpose_is below
goes_on plan s top _ _ _ some below (root_ended values purpose_is none) last = absurd (cc (last))
goes_on plan s top _ _ _ some below (destructor_ended values dropper purpose_is none) last = below_destructor top.purpose dropper (below_top s.stack) purpose_is below

-- the same of a step from a valid state
pub step_goes_on : (plan : Plan) (s : State) (m : Move) (e : Event) (new : State) → IsStack plan s.stack → Step plan s m e new → is_last e ≡ false → 0 < length new.stack
step_goes_on plan s m e new stack step last =
    let c = case_of plan s m e new step in
    let top : top_of s.stack ≡ Some c.top = ap top_of c.stack in
    goes_on plan s c.top m e new (some_stand s.stack c.top top) (below_stands plan s.stack c.top stack top) c.case last
