-- The spelling of a front is what the grammar takes as that front.
use Rattle.std.proofs.Common.{◌≡◌, ℕ, zero, suc, ◌+◌, ◌<◌, ◌≤◌, ◌^◌, List, [], ◌∷◌, ◌++◌, length, refl, sym, ap, ◌∙◌, append_assoc, arith}
use Rattle.std.proofs.lemmas.List.{length-append}
use Rattle.std.specs.List.{AllByRecursion, flat_map}
use Rattle.std.specs.Prelude.{slice_index, ◌==◌}
use Rattle.cm_leb.specs.NumbersWritten.{shortest_unsigned}
use Rattle.cm_binary_grammar.specs.Spelling.{blob_spelling}
use Rattle.cm_binary_grammar.proofs.WrittenLaws.{Spelled, ahead_written, done_written, bind_written, last_written, code_written, fixed_written, check_written}
use Rattle.cm_bundle.specs.declared.codes.InFront.TheVariants as in_front
use Rattle.cm_bundle.specs.declared.form.TheConstants.{BUNDLE_PREAMBLE, MAX_PARTS}
use Rattle.cm_bundle.specs.Trees.{GroupTree, SupplyTree, PartTree, ContentTree, BundleTree}
use Rattle.cm_bundle.specs.Spelled.{Spaces, no_spaces, all_counted, exports_of, body_spelled, supplies_spelled, custom_spelled, AreSupplied}
use Rattle.cm_bundle.specs.Fronts.{imports_section, aliases_section, group, groups, front, front_counts, front_spaces, front_spelled, spaces_behind, all_passed_on, imported_spelled, group_spelled, IsGroup}
use Rattle.cm_bundle.specs.Bundles.{behind_front, open_content, content_of, content, bundle, spelled, IsBundle}
use Rattle.cm_bundle.proofs.FrontIs.{whole_front}
use Rattle.cm_bundle.proofs.WrittenBundle.{blob_longer, bytes_written, body_written, counted_up, customs_written, supplies_count, IsReady}

-- The lengths of the sections of a group.
record GroupLengths (g : GroupTree) : Type 0 where
  types : length (blob_spelling g.types) < length (group_spelled g)
  imports : length (blob_spelling g.imports) < length (group_spelled g)
  aliases : length (blob_spelling g.aliases) < length (group_spelled g)

group_lengths : (g : GroupTree) → GroupLengths g
group_lengths g =
    let all = length-append (0x07 ∷ blob_spelling g.types) ((0x0a ∷ blob_spelling g.imports) ++ (0x06 ∷ blob_spelling g.aliases)) in
    let rest = length-append (0x0a ∷ blob_spelling g.imports) (0x06 ∷ blob_spelling g.aliases) in
    record { types = omega (arith, all, rest); imports = omega (arith, all, rest); aliases = omega (arith, all, rest) }

group_written : (g : GroupTree) → IsGroup g → length (group_spelled g) < 2 ^ 32 → (rest : List ℕ) × (group_spelled g ≡ 0x07 ∷ rest) × Spelled group g rest
unfolding group imports_section aliases_section
group_written g is lt =
    let lengths = group_lengths g in
    let types = bytes_written g.types (omega (arith, lengths.types, lt)) in
    let imports = check_written _ _ is.imports (bytes_written g.imports (omega (arith, lengths.imports, lt))) in
    let aliases = check_written _ _ is.aliases (bytes_written g.aliases (omega (arith, lengths.aliases, lt))) in
    (_, refl, bind_written _ types (bind_written _ fixed_written (bind_written _ imports (bind_written _ fixed_written (last_written (λ xs. record { types = g.types; imports = g.imports; aliases = xs }) aliases) refl) refl) refl) refl)

pub groups_written : (room : ℕ) (gs : List GroupTree) → AllByRecursion IsGroup gs → length gs < room → length (flat_map group_spelled gs) < 2 ^ 32 → Spelled (groups room) gs (flat_map group_spelled gs ++ (0x05 ∷ []))
unfolding groups
groups_written zero gs are few lt = absurd (omega (arith, few))
groups_written (suc room) [] are few lt = bind_written _ (code_written {k = in_front.Instance} 0x05 refl) (done_written []) refl
groups_written (suc room) (g ∷ gs) are few lt =
    let others : List ℕ = flat_map group_spelled gs in
    let lengths = length-append (group_spelled g) others in
    let one = group_written g are.0 (omega (arith, lengths, lt)) in
    let rest = groups_written room gs are.1 (omega (arith, few)) (omega (arith, lengths, lt)) in
    bind_written _ (code_written {k = in_front.Group} 0x07 refl) (bind_written _ one.2 (last_written (λ hs. g ∷ hs) rest) refl)
    (append_assoc (group_spelled g) others (0x05 ∷ []) ∙ ap (λ (b : List ℕ). b ++ (others ++ (0x05 ∷ []))) one.1)

front_written : (gs : List GroupTree) → AllByRecursion IsGroup gs → length gs < MAX_PARTS + 1 → length (flat_map group_spelled gs) < 2 ^ 32 → Spelled front gs (whole_front gs)
unfolding front
front_written gs are few lt =
    bind_written _ (groups_written (MAX_PARTS + 1) gs are few lt) (last_written (λ i. gs) fixed_written)
    (sym (append_assoc (flat_map group_spelled gs) (0x05 ∷ []) (imported_spelled (all_passed_on gs))))

-- What is imported takes no more functions and instances than bytes.
imported_count : (xs : List SupplyTree) → length xs ≤ length (imported_spelled xs)
imported_count xs =
    let body_ : List ℕ = supplies_spelled (0x00 ∷ []) [] front_counts xs in
    let contents : List ℕ = 0x01 ∷ 0x01 ∷ (shortest_unsigned (length xs) ++ body_) in
    omega (arith, supplies_count (0x00 ∷ []) [] front_counts xs, length-append (shortest_unsigned (length xs)) body_, blob_longer contents)

exports_length : (xs : List SupplyTree) → length (exports_of xs) ≡ length xs
exports_length [] = refl
exports_length (x ∷ xs) = ap suc (exports_length xs)

one_place : (here k : ℕ) → k < 1 → slice_index (here ∷ []) k < here + 1
one_place here zero in_ = omega arith
one_place here (suc k) in_ = absurd (omega (arith, in_))

-- The index spaces behind a front leave room for what stands behind it.
open_ready : (gs : List GroupTree) (left : ℕ) → length (whole_front gs) + left < 2 ^ 32 → IsReady (front_spaces (all_passed_on gs)) left
open_ready gs left lt =
    let xs : List SupplyTree = all_passed_on gs in
    let up = counted_up front_counts (exports_of xs) in
    let count = imported_count xs in
    let lengths = length-append (flat_map group_spelled gs) (0x05 ∷ imported_spelled xs) in
    record {
      room = (omega (arith, up.functions, exports_length xs, count, lengths, lt), omega (arith, up.most, exports_length xs, count, lengths, lt));
      ordered = λ j k below in_. absurd (omega (arith, below, in_));
      below = λ k in_. one_place (all_counted front_counts (exports_of xs)).instances k in_;
      few = omega arith;
    }

-- ---- what code appends

pub front_appended : (gs : List GroupTree) (xs : List SupplyTree) (old groups_ pushed whole : List ℕ) → 0 < length gs → xs ≡ all_passed_on gs → groups_ ≡ old ++ flat_map group_spelled gs → pushed ≡ groups_ ++ 0x05 ∷ [] → whole ≡ pushed ++ imported_spelled xs → whole ≡ old ++ front_spelled gs
front_appended [] xs old groups_ pushed whole some is a b c = absurd (omega (arith, some))
front_appended (g ∷ gs) xs old groups_ pushed whole some is a b c =
    let sections : List ℕ = flat_map group_spelled (g ∷ gs) in
    let instance_ : List ℕ = imported_spelled (all_passed_on (g ∷ gs)) in
    c ∙ ap (λ (t : List ℕ). t ++ imported_spelled xs) (b ∙ ap (λ (t : List ℕ). t ++ 0x05 ∷ []) a)
    ∙ ap (λ (ys : List SupplyTree). ((old ++ sections) ++ 0x05 ∷ []) ++ imported_spelled ys) is
    ∙ append_assoc (old ++ sections) (0x05 ∷ []) instance_
    ∙ append_assoc old sections (0x05 ∷ instance_)

pub front_spaced : (gs : List GroupTree) (xs : List SupplyTree) (s : Spaces) → 0 < length gs → xs ≡ all_passed_on gs → s ≡ front_spaces xs → s ≡ spaces_behind gs
front_spaced [] xs s some is so = absurd (omega (arith, some))
front_spaced (g ∷ gs) xs s some is so = so ∙ ap front_spaces is

-- ---- what is written

behind_written : (gs : List GroupTree) (ps : List PartTree) (ys : List SupplyTree) (left : ℕ) → IsReady (spaces_behind gs) left → length (body_spelled (spaces_behind gs) ps ys) ≤ left → length (spaces_behind gs).places + length ps ≤ MAX_PARTS + 1 → length ps ≤ MAX_PARTS → AreSupplied (length (spaces_behind gs).places) ps ys → Spelled (behind_front gs) (record { front = gs; body = record { parts = ps; exports = ys } }) (body_spelled (spaces_behind gs) ps ys)
unfolding behind_front
behind_written gs ps ys left ready le places few supplied =
    last_written (λ b. record { front = gs; body = b }) (body_written (MAX_PARTS + 1) (spaces_behind gs) ps ys left ready le places (omega (arith, few)) supplied)

-- ---- what stands in a bundle

-- Of the index spaces in front of the parts so much is known, where so many bytes are left to come.
ready_behind : (gs : List GroupTree) (left : ℕ) → length (front_spelled gs) + left < 2 ^ 32 → IsReady (spaces_behind gs) left
ready_behind [] left lt = record { room = (omega (arith, lt), omega (arith, lt)); ordered = λ j k below in_. absurd (omega (arith, in_)); below = λ k in_. absurd (omega (arith, in_)); few = omega arith }
ready_behind (g ∷ gs) left lt = open_ready (g ∷ gs) left lt

few_places : (gs : List GroupTree) → length (spaces_behind gs).places ≤ 1
few_places [] = omega arith
few_places (g ∷ gs) = omega arith

-- A closed bundle does not begin with a section of types.
closed_written : (ps : List PartTree) (ys : List SupplyTree) (c : ContentTree) → Spelled (behind_front []) c (body_spelled no_spaces ps ys) → Spelled content c (body_spelled no_spaces ps ys)
unfolding content
closed_written [] ys c s = ahead_written (λ b. content_of (b == 0x07)) 0x06 _ refl s
closed_written (p ∷ ps) ys c s = ahead_written (λ b. content_of (b == 0x07)) 0x04 _ refl s

content_written : (gs : List GroupTree) (ps : List PartTree) (ys : List SupplyTree) → AllByRecursion IsGroup gs → length gs ≤ MAX_PARTS → length ps ≤ MAX_PARTS → AreSupplied (length (spaces_behind gs).places) ps ys → length (front_spelled gs ++ body_spelled (spaces_behind gs) ps ys) < 2 ^ 32 → Spelled content (record { front = gs; body = record { parts = ps; exports = ys } }) (front_spelled gs ++ body_spelled (spaces_behind gs) ps ys)
unfolding content open_content
content_written [] ps ys are small few supplied lt =
    let ready = ready_behind [] (length (body_spelled no_spaces ps ys)) (omega (arith, lt)) in
    closed_written ps ys _ (behind_written [] ps ys (length (body_spelled no_spaces ps ys)) ready (omega arith) (omega (arith, few)) few supplied)
content_written (g ∷ gs) ps ys are small few supplied lt =
    let all : List GroupTree = g ∷ gs in
    let rest : List ℕ = body_spelled (spaces_behind all) ps ys in
    let lengths = length-append (front_spelled all) rest in
    let groups_ = length-append (flat_map group_spelled all) (0x05 ∷ imported_spelled (all_passed_on all)) in
    let ready = ready_behind all (length rest) (omega (arith, lengths, lt)) in
    let behind = behind_written all ps ys (length rest) ready (omega arith) (omega (arith, few, few_places all)) few supplied in
    let one = front_written all are (omega (arith, small)) (omega (arith, lengths, groups_, lt)) in
    ahead_written (λ b. content_of (b == 0x07)) 0x07 _ refl (bind_written _ one behind refl)

pub bundle_written : (b : BundleTree) → IsBundle b → bundle.Spells b (spelled b)
unfolding bundle spelled
bundle_written b h =
    let front_ : List ℕ = front_spelled b.front in
    let body_ : List ℕ = body_spelled (spaces_behind b.front) b.parts b.exports in
    let sections : List ℕ = flat_map custom_spelled b.customs in
    let lengths = length-append BUNDLE_PREAMBLE (front_ ++ (body_ ++ sections)) in
    let both = length-append front_ (body_ ++ sections) in
    let last = length-append body_ sections in
    let first = length-append front_ body_ in
    let short_ : length (BUNDLE_PREAMBLE ++ (front_ ++ (body_ ++ sections))) < 2 ^ 32 = h.short in
    let content_ = content_written b.front b.parts b.exports h.front.each h.front.few h.few h.supplied (omega (arith, lengths, both, last, first, short_)) in
    let customs_ = customs_written b.customs (omega (arith, lengths, both, last, short_)) in
    (tt, BUNDLE_PREAMBLE, front_ ++ (body_ ++ sections), refl, (record { front = b.front; body = record { parts = b.parts; exports = b.exports } }, front_ ++ body_, sections, content_.spells, (b.customs, customs_, refl), sym (append_assoc front_ body_ sections)), refl)
