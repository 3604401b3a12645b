-- What is read of a file without shims.
use Rattle.std.proofs.Common.{◌≡◌, ℕ, List, [], map, Ok, refl, sym, arith, inl}
use Rattle.cm_binary_model.specs.Trees.{SectionTree}
use Rattle.cm_binary_forms.specs.File.{Spells}
use Rattle.cm_shims_plain.specs.Plain.{Plain, nothing, plain}
use Rattle.cm_shims_plain.specs.Reading.{IsReadAs, component_of}
use Rattle.cm_shims_plain.specs.Widened.{widened, own_component, own_origins}
use Rattle.cm_shims_plain.proofs.SameLaws.{IsSame}
use Rattle.cm_shims_plain.proofs.PlainSame.{ends}
use Rattle.cm_shims_plain.proofs.WideSpelled.{file_spelled}

nothing_same : IsSame nothing.types
nothing_same = record { count = refl; at = λ i d lt. absurd (omega (arith, lt)) }

comes : (c : List SectionTree) (end : Plain) → plain (map widened c) ≡ Ok end → end.sections ≡ c → end.wants ≡ [] → end.origins ≡ own_origins 0 c → component_of (map widened c) ≡ own_component c
comes c end p s w o = rw (p, s, w, o) refl

pub read_as_before : (bytes : List ℕ) (c : List SectionTree) → Spells c bytes → IsReadAs bytes (own_component c)
read_as_before bytes c h =
    let e = ends c 0 nothing nothing_same in
    inl (map widened c, file_spelled c bytes h, sym (comes c e.end e.steps e.sections e.wants e.origins))
