-- What a reader of a text answers.
use Rattle.std.proofs.Common.{◌≡◌, ℕ, Bool, true, false, ◌&&◌, List, Option, Some, None, refl, ◌∙◌, nat_lt}
use Rattle.std.specs.Prelude.{if◌then◌else◌, Ok}
use Rattle.std.proofs.lemmas.Bool.{and_parts}
use Rattle.std.proofs.lemmas.Slice.Eq.{bytes_eq-Decides}
use Rattle.std.specs.Char.{IsScalar}
use Rattle.std.specs.List.{AllByRecursion, list_all}
use Rattle.std.specs.Str.{IsUtf8, all_scalars, bytes_eq, chars}
use Rattle.cm_text.specs.Text.{IsText}
use Rattle.cm_text.specs.Utf8.{spell_utf8}
use Rattle.cm_text.specs.Utf16.{spell_utf16, units}
use Rattle.cm_text.specs.Latin1.{HasLatin1, spell_latin1}
use Rattle.cm_types.specs.Values.{text}
use Rattle.cm_abi_model.specs.Texts.{Charset, utf8, utf16, latin1}
use Rattle.cm_abi_model.specs.Requests.{text_bytes}
use Rattle.cm_abi_load.specs.declared.stop.Stop.{Stop}
use Rattle.cm_abi_load.specs.declared.stop.Stop.TheVariants as stop
use Rattle.cm_abi_load.specs.Decoded.{decoded, if_text, unpaired}
use Rattle.cm_abi_load.specs.Decoding.{all_of, bytes_all, from_all, same_bytes, spelled}
use Rattle.cm_abi_load.specs.Outcomes.{State, Stops}
use Rattle.cm_abi_load.specs.Texts.{text_value}
use Rattle.cm_abi_load.specs.TextReads.{StopsAtText}

-- ---- bytes that are no text

no_choice : (b : Bool) (cs : List ℕ) → (b ≡ true → ⊥) → (if b then Some cs else None) ≡ None
no_choice true cs never = absurd (never refl)
no_choice false cs never = refl

-- the bytes are no text
is_none : (s : Charset) (bytes found : List ℕ) → ((cs : List ℕ) → AllByRecursion IsScalar cs → text_bytes s cs ≡ bytes → ⊥) → if_text s bytes found ≡ None
is_none s bytes found never = no_choice (all_scalars found && bytes_eq (text_bytes s found) bytes) found (λ e.
    let both = and_parts _ _ e in never found (all_of found both.0) ((bytes_eq-Decides (text_bytes s found) bytes).0 both.1))

pub none_8 : (bytes : List ℕ) → ((cs : List ℕ) → IsText IsScalar spell_utf8 cs bytes → ⊥) → decoded utf8 bytes ≡ None
unfolding decoded
none_8 bytes never = is_none utf8 bytes (chars bytes) (λ cs all is. never cs (record { all = all; is = is }))

pub utf8_of : (cs bytes : List ℕ) → IsText IsScalar spell_utf8 cs bytes → IsUtf8 bytes
utf8_of cs bytes t = (cs, (from_all cs t.all, spelled cs ∙ t.is))

pub none_16 : (bytes : List ℕ) → ((cs : List ℕ) → IsText IsScalar spell_utf16 cs bytes → ⊥) → decoded utf16 bytes ≡ None
unfolding decoded
none_16 bytes never = is_none utf16 bytes (unpaired (units bytes)) (λ cs all is. never cs (record { all = all; is = is }))

pub none_1 : (bytes : List ℕ) → ((cs : List ℕ) → IsText HasLatin1 spell_latin1 cs bytes → ⊥) → decoded latin1 bytes ≡ None
unfolding decoded
none_1 bytes never = no_choice (list_all (λ b. nat_lt b 0x100) bytes) bytes (λ e. never bytes (record { all = bytes_all bytes e; is = same_bytes bytes }))

-- ---- what a reader of a text answers

pub stops_at : (has : ℕ → Type 0) (spell : ℕ → List ℕ) (bytes : List ℕ) (t : Option (List ℕ)) (e : Stop) (s : State)
    → (((cs : List ℕ) → IsText has spell cs bytes → ⊥) → t ≡ None) → StopsAtText has spell bytes e → Stops e s (text_value t s)
stops_at has spell bytes t stop.Memory s none is = tt
stops_at has spell bytes t (stop.Fault f) s none is = rw (none is.1, is.0) refl

pub reads_text : (t : Option (List ℕ)) (cs : List ℕ) (s : State) → t ≡ Some cs → text_value t s ≡ Ok (text cs, s)
reads_text t cs s e = rw e refl
