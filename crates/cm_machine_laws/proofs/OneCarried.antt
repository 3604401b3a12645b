-- One passage carries one value.
use Rattle.std.proofs.Common.{◌≡◌, List, ℕ, sym, ◌∙◌}
use Rattle.cm_types.specs.declared.core_value.CoreValue.{CoreValue}
use Rattle.cm_types.specs.Types.{Fields}
use Rattle.cm_types.specs.Values.{Val}
use Rattle.cm_abi_model.specs.Denotes.{Denotes}
use Rattle.cm_abi_model.specs.Receives.{leaves_in}
use Rattle.cm_abi_model.specs.Requests.{tuple_of}
use Rattle.cm_abi_model.specs.Views.{View, Way}
use Rattle.cm_machine_model.specs.Passages.{Carries}
use Rattle.cm_machine_model.specs.Plan.{Link, types_of}
use Rattle.cm_machine_model.specs.State.{Passage}

-- Two values that the same memory shows, with the same handles, are one.
abbrev pub OneCarried : Type 0
OneCarried = (memory : List ℕ) (l : Link) (way : Way) (p : Passage) (v u : Val)
    → Carries memory l way p v → Carries memory l way p u → v ≡ u

-- Of a memory and of handles there is one value that core values denote.
abbrev pub OneOnItsWay : Type 0
OneOnItsWay = (w u : View) (way : Way) (types : Fields) (slots : List CoreValue) (v x : Val)
    → w.memory ≡ u.memory → w.encoding ≡ u.encoding → Denotes w way types slots v
    → Denotes u way types slots x
    → leaves_in (tuple_of types) v ≡ leaves_in (tuple_of types) x → v ≡ x

pub one_carried : OneOnItsWay → OneCarried
one_carried one memory l way p v u a b =
    one a.view b.view way (types_of l way) p.slots v u (a.memory_is ∙ sym b.memory_is)
    (a.encoding_is ∙ sym b.encoding_is) a.denoted b.denoted (sym a.handles ∙ b.handles)
