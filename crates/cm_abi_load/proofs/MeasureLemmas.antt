-- What a reader of a text that is not made answers.
use Rattle.std.proofs.Common.{◌≡◌, ℕ, List, length, Option, Some, None, refl, ap, Err, IfErr, IfOk, Ok, Result}
use Rattle.std.proofs.Math.Seq.{take-length}
use Rattle.cm_text.specs.Fault.{IsIllFormed}
use Rattle.cm_text.specs.declared.fault.TextFault.{TextFault}
use Rattle.cm_text.specs.declared.fault.TextFault.TheVariants as text_fault
use Rattle.cm_text.specs.Text.{IsText, IsTextOfSize, IsTextUpTo}
use Rattle.cm_abi_model.specs.Texts.{Charset, spell}
use Rattle.cm_abi_load.specs.declared.stop.Stop.{Stop}
use Rattle.cm_abi_load.specs.declared.stop.Stop.TheVariants as stop
use Rattle.cm_abi_load.specs.Outcomes.{Outcome, Reads, State, Stops, mapped}
use Rattle.cm_abi_load.specs.Texts.{text_value}
use Rattle.cm_abi_load.specs.TextReads.{StopsAtText}
use Rattle.cm_abi_load.specs.TextSizes.{text_length}

abbrev counted : ℕ → State → Outcome ℕ
counted n s = Ok (n, s)

pub measured : (has : ℕ → Type 0) (from : ℕ → List ℕ) (to : Charset) (bytes : List ℕ) (size : ℕ) (d : Option (List ℕ)) (s : State)
    → ((cs : List ℕ) → IsText has from cs bytes → d ≡ Some cs) → IsTextOfSize has from (spell to) bytes size
    → mapped (text_length to) (text_value d s) ≡ Ok (size, s)
measured has from to bytes size d s found t = rw (found t.scalars t.text) (ap (λ n. counted n s) t.size_is)

pub unmeasured : (has : ℕ → Type 0) (from : ℕ → List ℕ) (to : Charset) (bytes : List ℕ) (d : Option (List ℕ)) (e : Stop) (s : State)
    → (((cs : List ℕ) → IsText has from cs bytes → ⊥) → d ≡ None) → StopsAtText has from bytes e
    → Stops e s (mapped (text_length to) (text_value d s))
unmeasured has from to bytes d stop.Memory s none is = tt
unmeasured has from to bytes d (stop.Fault f) s none is = rw (none is.1, is.0) refl

-- what is told of the size of a text, or of why it has none, is what measuring it comes to
pub measures : (has : ℕ → Type 0) (from : ℕ → List ℕ) (to : Charset) (bytes : List ℕ) (d : Option (List ℕ)) (r : Result ℕ Stop) (s : State)
    → ((cs : List ℕ) → IsText has from cs bytes → d ≡ Some cs) → (((cs : List ℕ) → IsText has from cs bytes → ⊥) → d ≡ None)
    → IfOk r (IsTextOfSize has from (spell to) bytes) → IfErr r (λ e. StopsAtText has from bytes e)
    → Reads (λ (n : ℕ). n) r s (mapped (text_length to) (text_value d s))
measures has from to bytes d (Ok size) s found none ok err = measured has from to bytes size d s found ok
measures has from to bytes d (Err e) s found none ok err = unmeasured has from to bytes d e s none err

-- bytes of which less is the longest beginning that is a text are none
pub no_text : (has : ℕ → Type 0) (from : ℕ → List ℕ) (bytes : List ℕ) (n : ℕ) → IsTextUpTo has from bytes n → (cs : List ℕ) → IsText has from cs bytes → ⊥
no_text has from bytes n up cs t = up.longest (length bytes) cs up.short (rw (take-length bytes) t)

pub ill_formed : (has : ℕ → Type 0) (from : ℕ → List ℕ) (bytes : List ℕ) (e : TextFault) → IsIllFormed e (IsTextUpTo has from bytes) → (cs : List ℕ) → IsText has from cs bytes → ⊥
ill_formed has from bytes (text_fault.IllFormed n) up cs t = no_text has from bytes n up cs t
ill_formed has from bytes text_fault.Memory up cs t = up
