-- The names that are written are those that are read.
use Rattle.std.proofs.Common.{◌≡◌, ℕ, suc, ◌<◌, ◌^◌, List, [], ◌∷◌, ◌++◌, length, true, Result, Ok, Err, refl, ap, ◌∙◌, arith}
use Rattle.std.proofs.lemmas.List.{length-append, append-nil}
use Rattle.std.specs.List.{AllByRecursion, flat_map}
use Rattle.std.specs.Prelude.{OnOk}
use Rattle.std.specs.Str.{is_utf8}
use Rattle.std.proofs.lemmas.Bool.Decides.{nat_tests}
use Rattle.cm_leb.specs.NumbersWritten.{shortest_unsigned, unsigned_length}
use Rattle.cm_leb.proofs.ShortestLaws.{shortest_unsigned-length}
use Rattle.cm_binary_grammar.specs.declared.fault.End.TheVariants as end
use Rattle.cm_binary_grammar.specs.Spelling.{vec_spelling, blob_spelling}
use Rattle.cm_binary_grammar.proofs.WrittenLaws.{Spelled, bind_written, last_written, fixed_written, chain_written}
use Rattle.cm_lemmas.proofs.Lists.{all_spelled}
use Rattle.cm_bundle.specs.Bundles.{IsBundle, spelled}
use Rattle.cm_bundle.specs.declared.form.TheConstants.{BUNDLE_PREAMBLE, NAMES_HEAD}
use Rattle.cm_bundle.specs.declared.fault.BundleReason.TheVariants as reasons
use Rattle.cm_bundle.specs.Trees.{BundleTree, NameTree}
use Rattle.cm_bundle.specs.Spelled.{body_spelled, custom_spelled}
use Rattle.cm_bundle.specs.Fronts.{front_spelled, spaces_behind}
use Rattle.cm_bundle.specs.Names.{part_name, name_map, name_section, name_data, if_read, names_in, names_of, name_spelled, names_spelled, name_sections, IsName}
use Rattle.cm_bundle.proofs.LawfulBundle.{name_data_lawful}
use Rattle.cm_bundle.proofs.Shortest.{short_written}
use Rattle.cm_bundle.proofs.WrittenBundle.{blob_longer, sized_written, text_written}

part_name_written : (n : NameTree) → IsName n → length (name_spelled n) < 2 ^ 32 → Spelled part_name n (name_spelled n)
unfolding part_name
part_name_written n is lt =
    let lengths = length-append (shortest_unsigned n.part) (blob_spelling n.name) in
    bind_written _ (short_written n.part is.part) (last_written (λ name. record { part = n.part; name = name }) (text_written n.name is.text (omega (arith, lengths, lt)))) refl

abbrev AreNames : Unit {0} → List NameTree → Type 0
AreNames s ns = AllByRecursion IsName ns × (length (flat_map name_spelled ns) < 2 ^ 32)

name_step : (s : Unit {0}) (n : NameTree) (ns : List NameTree) → AreNames s (n ∷ ns) → Spelled part_name n (name_spelled n) × AreNames s ns
name_step s n ns h =
    let lengths = length-append (name_spelled n) (flat_map name_spelled ns) in
    (part_name_written n h.0.0 (omega (arith, lengths, h.1)), (h.0.1, omega (arith, lengths, h.1)))

some_digits : (n : ℕ) → 0 < length (shortest_unsigned n)
some_digits n =
    let some : 0 < unsigned_length n = grind (arith, nat_tests) in
    omega (arith, shortest_unsigned-length n, some)

some_spelled : (n : NameTree) → 0 < length (name_spelled n)
some_spelled n = omega (arith, length-append (shortest_unsigned n.part) (blob_spelling n.name), some_digits n.part)

name_map_written : (ns : List NameTree) → AllByRecursion IsName ns → length (vec_spelling name_spelled ns) < 2 ^ 32 → Spelled name_map ns (0x04 ∷ vec_spelling name_spelled ns)
unfolding name_map
name_map_written ns are lt =
    let lengths = length-append (shortest_unsigned (length ns)) (flat_map name_spelled ns) in
    let count = all_spelled name_spelled some_spelled ns in
    let each = chain_written (λ (s : Unit {0}). part_name) (λ s x. s) name_spelled AreNames name_step tt ns (are, omega (arith, lengths, lt)) in
    bind_written _ fixed_written (bind_written _ (short_written (length ns) (omega (arith, lengths, count, lt))) each refl) refl

name_data_written : (ns : List NameTree) → AllByRecursion IsName ns → length (names_spelled ns) < 2 ^ 32 → name_data.Spells ns (names_spelled ns)
unfolding name_data name_section
name_data_written ns are lt =
    let map_ : List ℕ = 0x04 ∷ vec_spelling name_spelled ns in
    let lengths = length-append NAMES_HEAD (blob_spelling map_) in
    let one : length map_ ≡ suc (length (vec_spelling name_spelled ns)) = refl in
    let inner = name_map_written ns are (omega (arith, lengths, one, blob_longer map_, lt)) in
    let whole : Spelled name_section ns (names_spelled ns) = bind_written _ fixed_written (sized_written name_map ns map_ (omega (arith, lengths, lt)) inner) refl in
    whole.spells

pub names_kept : (ns : List NameTree) → AllByRecursion IsName ns → length (names_spelled ns) < 2 ^ 32 → names_in (names_spelled ns) ≡ ns
names_kept ns are lt = ap if_read (name_data_lawful.again (end.Whole reasons.SizeMismatch) ns (names_spelled ns) (name_data_written ns are lt))

-- A bundle is longer than the one custom section that it has.
section_short : (b : BundleTree) (contents : List ℕ) → b.customs ≡ contents ∷ [] → IsBundle b → length contents < 2 ^ 32
unfolding spelled
section_short b contents is h =
    let front : List ℕ = front_spelled b.front in
    let body : List ℕ = body_spelled (spaces_behind b.front) b.parts b.exports in
    let sections : List ℕ = flat_map custom_spelled b.customs in
    let same : length sections ≡ length (custom_spelled contents) = ap (λ (cs : List (List ℕ)). length (flat_map custom_spelled cs)) is ∙ ap length (append-nil (custom_spelled contents)) in
    let whole = length-append BUNDLE_PREAMBLE (front ++ (body ++ sections)) in
    let inner = length-append front (body ++ sections) in
    let both = length-append body sections in
    let one : length (custom_spelled contents) ≡ suc (length (blob_spelling contents)) = refl in
    let short : length (BUNDLE_PREAMBLE ++ (front ++ (body ++ sections))) < 2 ^ 32 = h.short in
    omega (arith, same, whole, inner, both, one, blob_longer contents, short)

-- So are those of a bundle that has a section of them alone.
pub names_read : (b : BundleTree) (ns : List NameTree) → b.customs ≡ name_sections ns → IsBundle b → AllByRecursion IsName ns → names_of b ≡ ns
names_read b [] is h are = rw is refl
names_read b (n ∷ ns) is h are =
    let kept = names_kept (n ∷ ns) are (section_short b (names_spelled (n ∷ ns)) is h) in
    ap (λ (cs : List (List ℕ)). flat_map names_in cs) is ∙ append-nil (names_in (names_spelled (n ∷ ns))) ∙ kept

pub named : {E : Type 0} (r : Result (Unit {0}) E) (n : NameTree) → n.part < 2 ^ 32 → is_utf8 n.name ≡ true → OnOk r (IsName n)
named (Ok u) n lt text = record { part = lt; text = text }
named (Err e) n lt text = tt {0}

-- Where there are names there is one section of them.
pub one_section : (ns : List NameTree) → 0 < length ns → names_spelled ns ∷ [] ≡ name_sections ns
one_section [] some = absurd (omega (arith, some))
one_section (n ∷ ns) some = refl
