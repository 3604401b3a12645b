-- The limit on bytes, seen from behind what was read.
use Rattle.std.proofs.Common.{◌≡◌, ℕ, ◌+◌, ◌-◌, ◌<◌, ◌≤◌, List, ◌++◌, length, take, drop, Result, Ok, Err, refl, sym, ap, ◌∙◌, subst, arith, inl, inr}
use Rattle.std.proofs.Math.Seq.{take-append-add}
use Rattle.std.proofs.lemmas.List.{length-append, length-drop}
use Rattle.cm_binary_grammar.specs.declared.fault.Fault.{Fault}
use Rattle.cm_binary_grammar.specs.declared.fault.End.{End}
use Rattle.cm_binary_grammar.specs.declared.fault.End.TheVariants as end
use Rattle.cm_binary_grammar.specs.Whole.{Whole, too_many, and_behind, at_most}
use Rattle.cm_binary_grammar.proofs.Tools.{IsBytes-take}
use Rattle.cm_binary_grammar.proofs.PartLaws.{cases_le}
use Rattle.cm_binary_grammar.proofs.EndLaws.{at_most_all, at_most_cut}
use Rattle.cm_binary_model.specs.Trees.{SectionTree}
use Rattle.cm_binary_model.specs.declared.limits.TheConstants.{MAX_FILE_BYTES}
use Rattle.cm_binary_forms.specs.declared.fault.DecodeReason.{DecodeReason}
use Rattle.cm_binary_forms.specs.declared.fault.DecodeReason.TheVariants.{Truncated, TooLong}
use Rattle.cm_binary.specs.Progress.{Progress, behind, with_sections, HasRead, Reaches}
use Rattle.cm_binary.specs.After.{rest_of_file}
use Rattle.cm_lemmas.proofs.Lists.{IsBytes}

-- Where so many bytes more may stand behind these.
pub limited_fits : {R A : Type 0} (w : Whole R A) (reason : R) (e : End R) (limit room : ℕ) (bytes more : List ℕ) → limit ≡ length bytes + room → length more ≤ room → (at_most limit reason w).reads e (bytes ++ more) ≡ w.reads e (bytes ++ more)
limited_fits w reason e limit room bytes more same le = at_most_all limit reason w e (bytes ++ more) (omega (arith, length-append bytes more))

pub limited_cut : {R A : Type 0} (w : Whole R A) (reason : R) (e : End R) (limit room : ℕ) (bytes more : List ℕ) → limit ≡ length bytes + room → room < length more → (at_most limit reason w).reads e (bytes ++ more) ≡ and_behind (length more - room) (too_many reason (w.reads (end.Cut reason) (bytes ++ take room more)))
limited_cut w reason e limit room bytes more same lt =
    let front : take limit (bytes ++ more) ≡ bytes ++ take room more = rw same (take-append-add bytes more room) in
    let rest : length (drop limit (bytes ++ more)) ≡ length more - room = omega (arith, length-drop limit (bytes ++ more), length-append bytes more) in
    rw (← front, ← rest) (at_most_cut limit reason w e (bytes ++ more) (omega (arith, length-append bytes more)))

pub with_behind : (read : List SectionTree) (more : ℕ) (reason : DecodeReason) (t : Result (List SectionTree) (Fault DecodeReason)) → with_sections read (and_behind more (too_many reason t)) ≡ and_behind more (too_many reason (with_sections read t))
with_behind read more reason (Ok x) = refl
with_behind read more reason (Err f) = refl

bytes_cut : (bytes more : List ℕ) (n : ℕ) → IsBytes (bytes ++ more) → IsBytes (bytes ++ take n more)
bytes_cut bytes more n fits = subst IsBytes (take-append-add bytes more n) (IsBytes-take (length bytes + n) (bytes ++ more) fits)

-- Within the limit too, reading on comes to what reading from the beginning comes to.
pub limited_same : (old new : Progress) (bytes rest more : List ℕ) → Reaches old bytes rest new → HasRead old → old.offset + length bytes ≤ MAX_FILE_BYTES → IsBytes (bytes ++ more) → with_sections old.sections ((rest_of_file old).reads (end.Cut Truncated) (bytes ++ more)) ≡ with_sections new.sections ((rest_of_file new).reads (end.Cut Truncated) (rest ++ more))
limited_same old new bytes rest more r h few fits =
    let room : ℕ = MAX_FILE_BYTES - (old.offset + length bytes) in
    let from_old : MAX_FILE_BYTES - old.offset ≡ length bytes + room = omega arith in
    let from_new : MAX_FILE_BYTES - new.offset ≡ length rest + room = omega (arith, r.counted, ap length r.parts, length-append r.taken rest) in
    elim (cases_le (length more) room) [
      | inl le ↦
          rw (limited_fits (behind old) TooLong (end.Cut Truncated) (MAX_FILE_BYTES - old.offset) room bytes more from_old le, limited_fits (behind new) TooLong (end.Cut Truncated) (MAX_FILE_BYTES - new.offset) room rest more from_new le) (r.same h (end.Cut Truncated) more fits)
      | inr lt ↦
          let inner = r.same h (end.Cut TooLong) (take room more) (bytes_cut bytes more room fits) in
          rw (limited_cut (behind old) TooLong (end.Cut Truncated) (MAX_FILE_BYTES - old.offset) room bytes more from_old lt, limited_cut (behind new) TooLong (end.Cut Truncated) (MAX_FILE_BYTES - new.offset) room rest more from_new lt)
          (with_behind old.sections (length more - room) TooLong ((behind old).reads (end.Cut TooLong) (bytes ++ take room more)) ∙ ap (λ (t : Result (List SectionTree) (Fault DecodeReason)). and_behind (length more - room) (too_many TooLong t)) inner ∙ sym (with_behind new.sections (length more - room) TooLong ((behind new).reads (end.Cut TooLong) (rest ++ take room more))))
    ]
