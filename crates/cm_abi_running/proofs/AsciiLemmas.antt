-- What looking at a string of ASCII comes to.
use Rattle.std.proofs.Common.{◌≡◌, ℕ, ◌+◌, ◌*◌, ◌-◌, ◌≤◌, List, [], ◌∷◌, ◌++◌, append-nil, length, refl, sym, ap, subst, ◌∙◌, arith}
use Rattle.std.proofs.Math.Nat.{mod-one}
use Rattle.std.proofs.lemmas.Bool.{le-ltb}
use Rattle.std.specs.Prelude.{false, IfErr, OnOk, Result, Ok, Err, ⊤}
use Rattle.std.specs.Char.{IsScalar}
use Rattle.cm_text.specs.Ascii.{ascii_run}
use Rattle.cm_text.specs.Text.{IsTextOfSize}
use Rattle.cm_text.specs.Utf8.{spell_utf8}
use Rattle.cm_text.proofs.TightLemmas.{ascii_of_own_size}
use Rattle.cm_abi_model.specs.declared.encoding.StringEncoding.{StringEncoding}
use Rattle.cm_abi_model.specs.declared.encoding.StringEncoding.TheVariants as encoding
use Rattle.cm_abi_model.specs.declared.record.PartKind.TheVariants as kind
use Rattle.cm_abi_model.specs.declared.record.PartRecord.{PartRecord}
use Rattle.cm_abi_model.specs.Texts.{bytes_from, utf8}
use Rattle.cm_abi_load.specs.declared.stop.Stop.{Stop}
use Rattle.cm_abi_load.specs.declared.stop.Stop.TheVariants as stop
use Rattle.cm_abi_load.specs.Decoded.{decoded}
use Rattle.cm_abi_load.specs.Decoding.{text_decoded}
use Rattle.cm_abi_load.specs.Making.{HasMore}
use Rattle.cm_abi_load.specs.Outcomes.{State, mapped}
use Rattle.cm_abi_load.specs.Reading.{Source, read_text, region}
use Rattle.cm_abi_load.specs.Records.{text_record}
use Rattle.cm_abi_load.specs.Texts.{text_value}
use Rattle.cm_abi_running.specs.Checking.{Looked, text_checked}
use Rattle.cm_lemmas.proofs.Lists.{taken_length}
use Rattle.cm_abi_running.specs.Looks.{IsAscii, Looks, StopsLooking}

-- the record of so many bytes of ASCII, and what may still come behind them
abbrev pub ascii_record : ℕ → ℕ → PartRecord
ascii_record at n = record { at = at; count = n; size = n; align = 1; kind = kind.Text false }

abbrev pub past_ascii : ℕ → State → State
past_ascii n s = record s { left = s.left - n }

-- its region is in order
ascii_region : (memory : List ℕ) (at n : ℕ) (s : State) → at + n ≤ length memory → n ≤ s.left → region memory 1 at n s ≡ Ok (tt, past_ascii n s)
unfolding region
ascii_region memory at n s inside few = rw (mod-one at, le-ltb (length memory) (at + n) inside, le-ltb s.left n few) refl

-- it is a text of as many bytes
ascii_text : (bytes : List ℕ) (at n : ℕ) (s t : State) → IsTextOfSize IsScalar spell_utf8 spell_utf8 bytes n → t ≡ s
    → mapped (λ v. text_record encoding.Utf8 encoding.Utf8 at n v ∷ []) (text_value (decoded utf8 bytes) t) ≡ Ok (ascii_record at n ∷ [], s)
ascii_text bytes at n s t whole same =
    rw (text_decoded utf8 whole.scalars bytes whole.text, same) (ap (λ k. kept k) whole.size_is)
  where
    kept : ℕ → Looked
    kept k = Ok (record { at = at; count = n; size = k; align = 1; kind = kind.Text false } ∷ [], s)

ascii_whole : (memory : List ℕ) (at n : ℕ) → at + n ≤ length memory → ascii_run (bytes_from memory at n) ≡ n → IsTextOfSize IsScalar spell_utf8 spell_utf8 (bytes_from memory at n) n
ascii_whole memory at n inside ascii =
    let size : length (bytes_from memory at n) ≡ n = taken_length memory at n inside in
    subst (λ k. IsTextOfSize IsScalar spell_utf8 spell_utf8 (bytes_from memory at n) k) size (ascii_of_own_size (bytes_from memory at n) (ascii ∙ sym size))

ascii_read : (memory : List ℕ) (at n : ℕ) (s : State) → at + n ≤ length memory → n ≤ s.left → ascii_run (bytes_from memory at n) ≡ n
    → mapped (λ v. text_record encoding.Utf8 encoding.Utf8 at n v ∷ []) (read_text memory encoding.Utf8 at n s) ≡ Ok (ascii_record at n ∷ [], past_ascii n s)
unfolding read_text
ascii_read memory at n s inside few ascii =
    let once : 1 * n ≡ n = omega arith in
    rw (once, ascii_region memory at n s inside few)
    (ascii_text (bytes_from memory at n) at n (past_ascii n s) (record (past_ascii n s) { tags = s.tags ++ [] }) (ascii_whole memory at n inside ascii)
    (ap (λ ts. record (past_ascii n s) { tags = ts }) (append-nil s.tags)))

pub ascii_checked : (w : Source) (target : StringEncoding) (at n : ℕ) (s : State) → IsAscii w target at n s.left → text_checked w target at n s ≡ Ok (ascii_record at n ∷ [], past_ascii n s)
ascii_checked w target at n s h =
    subst (λ t. mapped (λ v. text_record w.encoding t at n v ∷ []) (read_text w.memory w.encoding at n s) ≡ Ok (ascii_record at n ∷ [], past_ascii n s)) (sym h.to)
    (subst (λ e. mapped (λ v. text_record e encoding.Utf8 at n v ∷ []) (read_text w.memory e at n s) ≡ Ok (ascii_record at n ∷ [], past_ascii n s)) (sym h.from)
    (ascii_read w.memory at n s h.inside h.few h.ascii))

-- its record was kept behind others, or there was no memory for it
pub ascii_looks : (w : Source) (target : StringEncoding) (at n : ℕ) (old new : List PartRecord) (s : State) (r : Result ⊤ Stop) → IsAscii w target at n s.left
    → OnOk r (new ≡ old ++ ascii_record at n ∷ []) → IfErr r (λ e. e ≡ stop.Memory) → Looks (text_checked w target at n s) old new s (past_ascii n s) r
ascii_looks w target at n old new s (Ok u) h kept err = (ascii_record at n ∷ [], ascii_checked w target at n s h, kept)
ascii_looks w target at n old new s (Err e) h kept err =
    subst (λ f. StopsLooking (text_checked w target at n s) s (past_ascii n s) f) (sym err)
    (subst (λ q. HasMore (λ (rs : List PartRecord). rs) s q) (sym (ascii_checked w target at n s h)) (omega arith))
