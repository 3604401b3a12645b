-- Records that tell parts tell what the memory reads.
use Rattle.std.proofs.Common.{◌≡◌, ℕ, ◌+◌, ◌<◌, Bool, List, [], ◌∷◌, length, slice_index, refl, sym, ap, subst, ◌∙◌, arith}
use Rattle.cm_text.specs.Text.{IsText}
use Rattle.cm_abi_model.specs.declared.encoding.StringEncoding.{StringEncoding}
use Rattle.cm_abi_model.specs.Parts.{Part, text_part, element_part}
use Rattle.cm_abi_model.specs.Requests.{read_charset, text_bytes, text_units}
use Rattle.cm_abi_model.specs.Texts.{Charset, Has, bytes_from, latin1, spell, utf8, utf16}
use Rattle.cm_abi_model.specs.Views.{View}
use Rattle.cm_abi_model.specs.Telling.{TellAll, Tells, TellsSource, TellsText}
use Rattle.cm_abi_model.specs.declared.record.PartKind.{PartKind}
use Rattle.cm_abi_model.specs.declared.record.PartKind.TheVariants as kind
use Rattle.cm_abi_model.specs.declared.record.PartRecord.{PartRecord}
use Rattle.cm_abi.specs.Reads.{AreAlike, AreAllAlike, ReadsBytes}
use Rattle.cm_text.proofs.Utf16Laws.{even}
use Rattle.cm_lemmas.proofs.Lists.{taken_at}

-- ---- what is told is read

text_reads : (w : View) (s : Charset) (r : PartRecord) (cs : List ℕ) → TellsText w s r cs → ReadsBytes w.memory r.at (text_bytes s cs)
text_reads w s r cs h i lt = sym (taken_at w.memory r.at (length (text_bytes s cs)) i lt) ∙ ap (λ bs. slice_index bs i) (sym h.text.is)

pub told_reads : (w : View) (target : StringEncoding) (r : PartRecord) (tag : Bool) (cs : List ℕ) (at : ℕ) → r.kind ≡ kind.Text tag → Tells w target r (text_part cs) at
    → ReadsBytes w.memory at (text_bytes (read_charset w.encoding tag) cs)
told_reads w target r tag cs at is h =
    subst (λ p. ReadsBytes w.memory p (text_bytes (read_charset w.encoding tag) cs)) h.place
    (text_reads w (read_charset w.encoding tag) r cs (subst (λ k. TellsSource w r k (text_part cs)) is h.source))

pub told_of_no_other : (w : View) (target : StringEncoding) (r : PartRecord) (tag : Bool) (cs : List ℕ) (at i : ℕ) → r.kind ≡ kind.Text tag
    → i < length (text_bytes (read_charset w.encoding tag) cs) → (slice_index w.memory (at + i) ≡ slice_index (text_bytes (read_charset w.encoding tag) cs) i → ⊥)
    → Tells w target r (text_part cs) at → ⊥
told_of_no_other w target r tag cs at i is lt otherwise h = otherwise (told_reads w target r tag cs at is h i lt)

-- ---- one list of parts

-- a text has as many bytes as its units tell
same_size : (s : Charset) (cs ds : List ℕ) → text_units s cs ≡ text_units s ds → length (text_bytes s cs) ≡ length (text_bytes s ds)
same_size utf8 cs ds e = omega (arith, e)
same_size utf16 cs ds e = omega (arith, e, (even cs).1, (even ds).1)
same_size latin1 cs ds e = omega (arith, e)

abbrev pub OneText : Type 0
OneText = (s : Charset) (cs ds bytes : List ℕ) → IsText (Has s) (spell s) cs bytes → IsText (Has s) (spell s) ds bytes → cs ≡ ds

text_alike : OneText → (w : View) (s : Charset) (r : PartRecord) (cs ds : List ℕ) → TellsText w s r cs → TellsText w s r ds → cs ≡ ds
text_alike one w s r cs ds h k =
    let size = same_size s cs ds (sym h.units ∙ k.units) in
    one s cs ds (bytes_from w.memory r.at (length (text_bytes s cs))) h.text
    (subst (λ n. IsText (Has s) (spell s) ds (bytes_from w.memory r.at n)) (sym size) k.text)

alike : OneText → (w : View) (target : StringEncoding) (r : PartRecord) (x : PartKind) (p q : Part) (at to : ℕ) → TellsSource w r x p → TellsSource w r x q
    → Tells w target r p at → Tells w target r q to → AreAlike p q
alike one w target r (kind.Text tag) (text_part cs) (text_part ds) at to a b h k = text_alike one w (read_charset w.encoding tag) r cs ds a b
alike one w target r (kind.Text tag) (text_part cs) (element_part n s a') at to a b h k = absurd b
alike one w target r (kind.Text tag) (element_part n s a') q at to a b h k = absurd a
alike one w target r kind.Elements (text_part cs) q at to a b h k = absurd a
alike one w target r kind.Elements (element_part n s x) (text_part ds) at to a b h k = absurd b
alike one w target r kind.Elements (element_part n s x) (element_part m t y) at to a b h k = (sym a ∙ b, sym h.size ∙ k.size, sym h.align ∙ k.align)

pub parts_alike : OneText → (w : View) (target : StringEncoding) (rs : List PartRecord) (ps qs : List Part) (xs ys : List ℕ) → TellAll w target rs ps xs → TellAll w target rs qs ys
    → AreAllAlike ps qs
parts_alike one w target [] [] [] [] [] h k = tt {0}
parts_alike one w target (r ∷ rs) (p ∷ ps) (q ∷ qs) (x ∷ xs) (y ∷ ys) h k =
    (alike one w target r r.kind p q x y h.0.source k.0.source h.0 k.0, parts_alike one w target rs ps qs xs ys h.1 k.1)
parts_alike one w target [] [] [] [] (y ∷ ys) h k = absurd k
parts_alike one w target [] [] [] (x ∷ xs) ys h k = absurd h
parts_alike one w target [] [] (q ∷ qs) xs ys h k = absurd k
parts_alike one w target [] (p ∷ ps) qs xs ys h k = absurd h
parts_alike one w target (r ∷ rs) [] qs xs ys h k = absurd h
parts_alike one w target (r ∷ rs) (p ∷ ps) [] xs ys h k = absurd k
parts_alike one w target (r ∷ rs) (p ∷ ps) (q ∷ qs) [] ys h k = absurd h
parts_alike one w target (r ∷ rs) (p ∷ ps) (q ∷ qs) (x ∷ xs) [] h k = absurd k

pub places_alike : (w : View) (target : StringEncoding) (rs : List PartRecord) (ps qs : List Part) (xs ys : List ℕ) → TellAll w target rs ps xs → TellAll w target rs qs ys → xs ≡ ys
places_alike w target [] [] [] [] [] h k = refl
places_alike w target (r ∷ rs) (p ∷ ps) (q ∷ qs) (x ∷ xs) (y ∷ ys) h k =
    ap (λ z. z ∷ xs) (sym h.0.place ∙ k.0.place) ∙ ap (λ zs. y ∷ zs) (places_alike w target rs ps qs xs ys h.1 k.1)
places_alike w target [] [] [] [] (y ∷ ys) h k = absurd k
places_alike w target [] [] [] (x ∷ xs) ys h k = absurd h
places_alike w target [] [] (q ∷ qs) xs ys h k = absurd k
places_alike w target [] (p ∷ ps) qs xs ys h k = absurd h
places_alike w target (r ∷ rs) [] qs xs ys h k = absurd h
places_alike w target (r ∷ rs) (p ∷ ps) [] xs ys h k = absurd k
places_alike w target (r ∷ rs) (p ∷ ps) (q ∷ qs) [] ys h k = absurd h
places_alike w target (r ∷ rs) (p ∷ ps) (q ∷ qs) (x ∷ xs) [] h k = absurd k
