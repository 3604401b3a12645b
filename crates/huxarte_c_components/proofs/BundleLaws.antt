-- The files of a bundle and its links, handed out.
use Rattle.std.proofs.Common.{◌≡◌, ◌∙◌, ◌+◌, ◌<◌, ◌++◌, ◌∷◌, [], ℕ, List, Some, ap, append_assoc, arith, get_or, length, map, refl, slice_get, subst, suc, sym, take, Result, Ok, Err, IfErr, IfOk}
use Rattle.std.proofs.lemmas.List.{append-nil, length-append, map-append}
use Rattle.std.specs.List.{AllByRecursion, flat_map}
use Rattle.cm_lemmas.proofs.Lists.{long_enough, map_length, take_one}
use Rattle.cm_bundle_links.specs.Links.{AreLinks, IsLinksFault}
use Rattle.cm_bundle_links.specs.cm_bundle.Trees.{BundleTree, part_tree}
use Rattle.cm_bundle_links.specs.cm_bundle.declared.form.Part.{Part}
use Rattle.cm_match_model.specs.declared.component.Link.{Link}
use Rattle.cm_match_serving.specs.Candidates.{each_from}
use Rattle.cm_shims.specs.Files.{AreRead, IsSound, Reading}
use Rattle.cm_validate_model.specs.Spaces.{Spaces}
use Rattle.huxarte_c_calls.specs.Texts.{written}
use Rattle.huxarte_c_calls.specs.declared.spans.HuxSpan.{HuxSpan}
use Rattle.huxarte_c_components.specs.declared.choosing.HuxChoice.{HuxChoice}
use Rattle.huxarte_c_components.specs.declared.unbundled.HuxBundle.{HuxBundle}
use Rattle.huxarte_c_components.specs.declared.unbundling.BundleRefusal.{BundleRefusal}
use Rattle.huxarte_c_components.specs.declared.unbundling.BundleRefusal.TheVariants as refusal
use Rattle.huxarte_c_components.specs.Linking.{AreSound, spaces_read}
use Rattle.huxarte_c_components.specs.Unbundling.{IsHandedOut, IsLinkedBy, IsLinksRefusal, IsNotLinked, IsNotUnbundled, IsSpelled, IsUnbundled, bytes_of, choice_of, choices_from, files_in, spans_from}

-- ---- one more of each

choices_last : (n : ℕ) (rows : List (List Link)) (row : List Link) → choices_from n (rows ++ row ∷ []) ≡ choices_from n rows ++ each_from (choice_of (n + length rows)) 0 row
choices_last n [] row =
    let same : n ≡ n + 0 = omega arith in
    append-nil (each_from (choice_of n) 0 row) ∙ ap (λ k. each_from (choice_of k) 0 row) same
choices_last n (r ∷ rows) row =
    let same : (n + 1) + length rows ≡ n + length (r ∷ rows) = omega arith in
    ap (λ cs. each_from (choice_of n) 0 r ++ cs) (choices_last (n + 1) rows row)
    ∙ sym (append_assoc (each_from (choice_of n) 0 r) (choices_from (n + 1) rows) (each_from (choice_of ((n + 1) + length rows)) 0 row))
    ∙ ap (λ k. (each_from (choice_of n) 0 r ++ choices_from (n + 1) rows) ++ each_from (choice_of k) 0 row) same

pub choices_next : {A : Type 0} (view : A → List Link) (rows : List A) (n : ℕ) (row : A) → slice_get rows n ≡ Some row
    → choices_from 0 (map view (take (n + 1) rows)) ≡ choices_from 0 (map view (take n rows)) ++ each_from (choice_of n) 0 (view row)
choices_next view rows n row there =
    let places : 0 + length (map view (take n rows)) ≡ n = omega (arith, map_length view (take n rows), long_enough rows n row there) in
    ap (λ rs. choices_from 0 (map view rs)) (take_one rows n row there)
    ∙ ap (choices_from 0) (map-append view (take n rows) (row ∷ []))
    ∙ choices_last 0 (map view (take n rows)) (view row)
    ∙ ap (λ k. choices_from 0 (map view (take n rows)) ++ each_from (choice_of k) 0 (view row)) places

abbrev two : ℕ → ℕ → HuxSpan
two at long = record { at = at; length = long }

abbrev span : ℕ → List ℕ → HuxSpan
span at file = two at (length file)

bytes_last : (files : List (List ℕ)) (file : List ℕ) → bytes_of (files ++ file ∷ []) ≡ bytes_of files ++ file
bytes_last [] file = append-nil file
bytes_last (f ∷ fs) file = ap (λ (xs : List ℕ). f ++ xs) (bytes_last fs file) ∙ sym (append_assoc f (bytes_of fs) file)

spans_last : (at : ℕ) (files : List (List ℕ)) (file : List ℕ) → spans_from at (files ++ file ∷ []) ≡ spans_from at files ++ span (at + length (bytes_of files)) file ∷ []
spans_last at [] file =
    let same : at ≡ at + 0 = omega arith in
    ap (λ k. span k file ∷ []) same
spans_last at (f ∷ fs) file =
    let same : (at + length f) + length (bytes_of fs) ≡ at + length (f ++ bytes_of fs) = omega (arith, length-append f (bytes_of fs)) in
    ap (λ ss. span at f ∷ ss) (spans_last (at + length f) fs file)
    ∙ ap (λ k. span at f ∷ (spans_from (at + length f) fs ++ span k file ∷ [])) same

pub files_next : {A : Type 0} (view : A → List ℕ) (parts : List A) (n : ℕ) (p : A) → slice_get parts n ≡ Some p → map view (take (n + 1) parts) ≡ map view (take n parts) ++ view p ∷ []
files_next view parts n p there = ap (map view) (take_one parts n p there) ∙ map-append view (take n parts) (p ∷ [])

pub bytes_next : (files : List (List ℕ)) (bytes file : List ℕ) → bytes ≡ bytes_of files → bytes ++ file ≡ bytes_of (files ++ file ∷ [])
bytes_next files bytes file are = ap (λ (xs : List ℕ). xs ++ file) are ∙ sym (bytes_last files file)

pub spans_next : (files : List (List ℕ)) (bytes file : List ℕ) (spans : List HuxSpan) (s : HuxSpan) → bytes ≡ bytes_of files → spans ≡ spans_from 0 files
    → s.at ≡ length bytes → s.length ≡ length file → spans ++ s ∷ [] ≡ spans_from 0 (files ++ file ∷ [])
spans_next files bytes file spans s are stand at long =
    let begins : s.at ≡ 0 + length (bytes_of files) = omega (arith, at, ap length are) in
    let same : s ≡ span (0 + length (bytes_of files)) file =
    ap (λ k. two k s.length) begins ∙ ap (two (0 + length (bytes_of files))) long in
    ap (λ ss. ss ++ s ∷ []) stand ∙ ap (λ x. spans_from 0 files ++ x ∷ []) same ∙ sym (spans_last 0 files file)

-- ---- files and their links

pub linked_by : {R E : Type 0} (view : R → List (List Link)) (b : BundleTree) (rs : List Reading) (set : List Spaces) (r : Result R E)
    → AreRead (files_in b) rs → AllByRecursion IsSound rs → set ≡ spaces_read rs → IfOk r (λ rows. AreLinks b set (view rows)) → IfOk r (λ rows. IsLinkedBy b (view rows))
linked_by view b rs set (Ok rows) read sound is links =
    (rs, record { read = read; sound = sound }, subst (λ (s : List Spaces). AreLinks b s (view rows)) is links)
linked_by view b rs set (Err f) read sound is links = tt

pub refused_by : {R : Type 0} (b : BundleTree) (rs : List Reading) (set : List Spaces) (r : Result R BundleRefusal)
    → AreRead (files_in b) rs → AllByRecursion IsSound rs → set ≡ spaces_read rs → IfErr r (IsLinksRefusal b set) → IfErr r (IsNotLinked b)
refused_by b rs set (Ok rows) read sound is why = tt
refused_by b rs set (Err (refusal.Bundle f)) read sound is why = absurd why
refused_by b rs set (Err (refusal.Files f)) read sound is why = absurd why
refused_by b rs set (Err (refusal.Links f)) read sound is why =
    (rs, record { read = read; sound = sound }, subst (λ (s : List Spaces). IsLinksFault b s f) is why)
refused_by b rs set (Err refusal.Memory) read sound is why = absurd why

-- why the files of a bundle do not link is why it is not handed out
pub not_unbundled : (bytes : List ℕ) (b : BundleTree) (r : BundleRefusal) → IsSpelled bytes b → IsNotLinked b r → IsNotUnbundled bytes r
not_unbundled bytes b (refusal.Bundle f) is why = absurd why
not_unbundled bytes b (refusal.Files f) is why = (b, is, why)
not_unbundled bytes b (refusal.Links f) is why = (b, is, why)
not_unbundled bytes b refusal.Memory is why = tt

-- ---- what is written

spans_length : (at : ℕ) (files : List (List ℕ)) → length (spans_from at files) ≡ length files
spans_length at [] = refl
spans_length at (f ∷ fs) = ap suc (spans_length (at + length f) fs)

pub handed_out : (files : List (List ℕ)) (rows : List (List Link)) (seen : HuxBundle) (spans room after : List HuxSpan) (bytes texts texts_after : List ℕ) (chosen choices choices_after : List HuxChoice)
    → spans ≡ spans_from 0 files → bytes ≡ bytes_of files → chosen ≡ choices_from 0 rows
    → seen.files ≡ length spans → seen.bytes ≡ length bytes → seen.choices ≡ length chosen
    → after ≡ written room spans → texts_after ≡ written texts bytes → choices_after ≡ written choices chosen
    → IsHandedOut files rows seen room after texts texts_after choices choices_after
handed_out files rows seen spans room after bytes texts texts_after chosen choices choices_after stand are chosen_are count size imports put put_bytes put_choices = record {
  files_are = count ∙ ap length stand ∙ spans_length 0 files;
  bytes_are = size ∙ ap length are;
  choices_are = imports ∙ ap length chosen_are;
  spans_written = put ∙ ap (written room) stand;
  texts_written = put_bytes ∙ ap (written texts) are;
  choices_written = put_choices ∙ ap (written choices) chosen_are;
}

-- the files of parts, as the code has them
pub files_of_parts : (parts : List Part) → map (λ p. p.file.now) parts ≡ map (λ p. p.file) (map part_tree parts)
files_of_parts [] = refl
files_of_parts (p ∷ ps) = ap (λ fs. p.file.now ∷ fs) (files_of_parts ps)

pub unbundled : (bytes : List ℕ) (b : BundleTree) (rows rows_ : List (List Link)) (files : List (List ℕ)) (seen : HuxBundle) (spans spans_after : List HuxSpan) (texts texts_after : List ℕ) (choices choices_after : List HuxChoice)
    → IsSpelled bytes b → IsLinkedBy b rows → files ≡ files_in b → rows_ ≡ rows → IsHandedOut files rows_ seen spans spans_after texts texts_after choices choices_after
    → IsUnbundled bytes seen spans spans_after texts texts_after choices choices_after
unbundled bytes b rows rows_ files seen spans spans_after texts texts_after choices choices_after is linked same links out = record {
  bundle = b;
  spelled = is;
  rows = rows;
  linked = linked;
  out = subst (λ (fs : List (List ℕ)). IsHandedOut fs rows seen spans spans_after texts texts_after choices choices_after) same
      (subst (λ (rs : List (List Link)). IsHandedOut files rs seen spans spans_after texts texts_after choices choices_after) links out);
}
