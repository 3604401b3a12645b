-- Laws of what Valid defines, for this crate and those above it.
use Rattle.std.proofs.Common.{List, ℕ, ◌≡◌, Some, ◌<◌, length, [], ◌∷◌, inl, arith, inr, sym, ap, Bool, ◌∙◌}
use Rattle.std.proofs.lemmas.Bool.{cases_eq, ne_eqb}
use Rattle.std.proofs.lemmas.Option.{none-some}
use Rattle.std.specs.Prelude.{if◌then◌else◌}
use Rattle.cm_machine_model.specs.Valid.{frame_at}
use Rattle.cm_machine_model.specs.declared.frame.Frame.{Frame}

pub frame_within : (fs : List Frame) (n : ℕ) (f : Frame) → frame_at fs n ≡ Some f → n < length fs
frame_within [] n f e = absurd (none-some f e)
frame_within (g ∷ fs) n f e = elim (cases_eq n (length fs)) as (λ r. n < length (g ∷ fs)) [
  | inl same ↦ omega (arith, same)
  | inr ne ↦
      let rest : frame_at fs n ≡ Some f = sym (ap (λ (b : Bool). if b then Some g else frame_at fs n) (ne_eqb n (length fs) ne)) ∙ e in
      omega (arith, frame_within fs n f rest)
]
