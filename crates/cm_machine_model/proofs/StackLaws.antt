-- Laws of what Stack defines, for this crate and those above it.
use Rattle.std.proofs.Common.{List, ◌≡◌, Some, ◌<◌, length, [], ◌∷◌, arith, ℕ, subst}
use Rattle.std.proofs.lemmas.Option.{none-some}
use Rattle.cm_machine_model.specs.Plan.{Plan}
use Rattle.cm_machine_model.specs.Stack.{top_of, actor_in, actor, actor_of}
use Rattle.cm_machine_model.specs.Valid.{StandsOn}
use Rattle.cm_machine_model.specs.declared.frame.Frame.{Frame}
use Rattle.cm_machine_model.specs.declared.frame.Phase.{Phase}
use Rattle.cm_machine_model.specs.declared.frame.Phase.TheVariants as phase
use Rattle.cm_machine_model.specs.declared.frame.Purpose.{Purpose}
use Rattle.cm_machine_model.specs.declared.frame.Purpose.TheVariants as purpose

pub some_stand : (fs : List Frame) (f : Frame) → top_of fs ≡ Some f → 0 < length fs
some_stand [] f e = absurd (none-some f e)
some_stand (g ∷ fs) f e = omega arith

pub acts_in : (ph : Phase) (i c n : ℕ) → i < n → c < n → actor_in ph i c < n
acts_in phase.Arguments i c n a b = a
acts_in phase.Body i c n a b = a
acts_in phase.Results i c n a b = b
acts_in (phase.PostReturn r) i c n a b = a

pub acts_for : (plan : Plan) (pu : Purpose) (i : ℕ) (fs : List Frame) → i < length plan → StandsOn plan pu i fs → ((g : Frame) → top_of fs ≡ Some g → actor g < length plan) → actor_of pu i < length plan
acts_for plan purpose.Root i fs lt st below = lt
acts_for plan (purpose.Call call) i fs lt st below =
    acts_in call.phase i call.caller (length plan) lt (subst (λ (n : ℕ). n < length plan) st.1.2 (below st.1.0 st.1.1))
acts_for plan (purpose.Destructor d) i fs lt st below = lt
