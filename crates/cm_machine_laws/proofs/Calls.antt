-- The call that goes on in the words of its frame, and the handles of what is on its way.
use Rattle.std.proofs.Common.{◌≡◌, ℕ, List, Some}
use Rattle.std.proofs.Common.{sym, ap, subst, ◌∙◌}
use Rattle.std.proofs.lemmas.Option.{same_Some}
use Rattle.cm_types.specs.declared.core_value.CoreValue.{CoreValue}
use Rattle.cm_types.specs.Types.{Fields}
use Rattle.cm_types.specs.Values.{Val}
use Rattle.cm_abi_model.specs.Denotes.{Denotes}
use Rattle.cm_abi_model.specs.Receives.{leaves_in}
use Rattle.cm_abi_model.specs.Requests.{tuple_of}
use Rattle.cm_abi_model.specs.Taken.{AllThere, met}
use Rattle.cm_abi_model.specs.Views.{View, Way}
use Rattle.cm_machine_model.specs.Memories.{memory_at}
use Rattle.cm_machine_model.specs.declared.frame.Call.{Call}
use Rattle.cm_machine_model.specs.declared.frame.Frame.{Frame}
use Rattle.cm_machine_model.specs.Cases.{IsPlaced}
use Rattle.cm_machine_model.specs.Passages.{Carries}
use Rattle.cm_machine_model.specs.Plan.{Link, Plan, types_of}
use Rattle.cm_machine_model.specs.State.{Passage, State}
use Rattle.cm_machine_model.specs.Step.{giver_of}
use Rattle.cm_machine_laws.proofs.Tables.{Adds, HandsOver, Releases}

-- One passage carries one value.
abbrev pub OneCarried : Type 0
OneCarried = (memory : List ℕ) (l : Link) (way : Way) (p : Passage) (v u : Val)
    → Carries memory l way p v → Carries memory l way p u → v ≡ u

pub record Laws : Type 0 where
  pub carried : OneCarried
  pub adds : Adds
  pub releases : Releases
  pub hands : HandsOver
  pub there : (w : View) (way : Way) (types : Fields) (slots : List CoreValue) (v : Val)
      → Denotes w way types slots v → AllThere w.table (met w way types slots v)

-- What an answer says of the value that is known to be on its way.
pub record IsTurn (l : Link) (way : Way) (q : Passage) (v u : Val) : Type 0 where
  pub value_is : v ≡ u
  pub leaves : q.leaves ≡ leaves_in (tuple_of (types_of l way)) u

pub turn : OneCarried → (plan : Plan) (s : State) (top : Frame) (values : List CoreValue) (way : Way)
    (call : Call) (l : Link) (p : Passage) (v : Val) (answers : List ℕ) (q : Passage)
    → IsPlaced plan s top values way call l p v answers q
    → (o : Passage) → s.passage ≡ Some o → (u : Val)
    → Carries (memory_at s.memories (giver_of way l call)) l way o u → IsTurn l way q v u
turn one plan s top values way call l p v answers q pl o at_top u carried = record {
  value_is = value_is;
  leaves = pl.answered.leaves ∙ (pl.carried.handles ∙ ap (λ (x : Val). leaves_in (tuple_of (types_of l way)) x) value_is);
} where
  memory : List ℕ
  memory = memory_at s.memories (giver_of way l call)

  value_is : v ≡ u
  value_is = one memory l way o v u
      (subst (λ (x : Passage). Carries memory l way x v) (same_Some p o (sym pl.passage_is ∙ at_top)) pl.carried) carried
