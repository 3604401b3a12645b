-- Bytes that the grammar takes as a bundle are its spelling, and it is a bundle.
use Rattle.std.proofs.Common.{◌≡◌, ℕ, zero, suc, ◌+◌, ◌<◌, ◌^◌, List, [], ◌∷◌, ◌++◌, length, get_or, Bool, true, false, Ok, refl, sym, ap, subst, ◌∙◌, append_assoc, arith, inl, inr}
use Rattle.std.specs.Prelude.{◌==◌}
use Rattle.cm_lemmas.proofs.Numbers.{eq_of}
use Rattle.std.proofs.lemmas.List.{append-nil, length-append}
use Rattle.std.specs.List.{flat_map}
use Rattle.cm_binary_grammar.specs.Spelling.{blob_spelling}
use Rattle.cm_binary_grammar.specs.Whole.{SpellsEach}
use Rattle.cm_bundle.specs.Bundles.{IsBundle, behind_front, open_content, content_of, content, bundle, spelled}
use Rattle.cm_bundle.specs.declared.form.TheConstants.{BUNDLE_PREAMBLE, MAX_PARTS}
use Rattle.cm_bundle.specs.declared.codes.Next.{Next}
use Rattle.cm_bundle.specs.declared.codes.Next.TheVariants as next
use Rattle.cm_bundle.specs.Trees.{GroupTree, BodyTree, ContentTree, BundleTree}
use Rattle.cm_bundle.specs.Fronts.{front_spelled, spaces_behind, AreGroups}
use Rattle.cm_bundle.specs.Spelled.{Spaces, exports_of, all_counted, part_spelled, body_spelled, after_part, custom_spelled, AreSupplied}
use Rattle.cm_bundle.specs.Grammar.{next_of, behind, body, custom, customs}
use Rattle.cm_bundle.specs.declared.fault.BundleReason.TheVariants as reasons
use Rattle.cm_bundle.proofs.EitherCode.{either_code}
use Rattle.cm_bundle.proofs.FrontIs.{whole_front, front_is}
use Rattle.cm_bundle.proofs.SpellingIs.{two, last, bytes_is, part_is, exports_are}

-- What a body is known to be.
pub record IsBody (s : Spaces) (b : BodyTree) (room : ℕ) (bytes : List ℕ) : Type 0 where
  pub spelled : bytes ≡ body_spelled s b.parts b.exports
  pub supplied : AreSupplied (length s.places) b.parts b.exports
  pub few : length b.parts < room

part_begins : (b : ℕ) → next_of b ≡ Ok next.Part → b ≡ 0x04
part_begins b h =
    elim (either_code b 0x04 0x06 next.Part next.Exports next.Part reasons.UnknownCode h) [ inl p ↦ p.0 | inr p ↦ let q = p.1 in absurd cc ]

exports_begin : (b : ℕ) → next_of b ≡ Ok next.Exports → b ≡ 0x06
exports_begin b h =
    elim (either_code b 0x04 0x06 next.Part next.Exports next.Exports reasons.UnknownCode h) [ inl p ↦ let q = p.1 in absurd cc | inr p ↦ p.0 ]

-- What stands behind the id of a section, and the id.
behind_is : (room : ℕ) → ((t : Spaces) (b : BodyTree) (bytes : List ℕ) → (body room t).Spells b bytes → IsBody t b room bytes) → (s : Spaces) (b : BodyTree) (n : Next) (id : ℕ) (rest : List ℕ) → next_of id ≡ Ok n → (behind s (body room) n).Spells b rest → IsBody s b (suc room) (id ∷ rest)
behind_is room below s b next.Exports id rest i h =
    let all = exports_are s h.0 h.1 h.3 in
    let bytes : rest ≡ h.1 = h.5 ∙ ap (λ (r : List ℕ). h.1 ++ r) h.4.1 ∙ append-nil h.1 in
    rw h.4.0 (record {
      spelled = ap (λ (c : ℕ). c ∷ rest) (exports_begin id i) ∙ ap (λ (r : List ℕ). 0x06 ∷ r) bytes ∙ all.0;
      supplied = all.1;
      few = omega arith;
    })
behind_is room below s b next.Part id rest i h =
    let more = h.4 in
    let one = part_is s h.0 h.1 h.3 in
    let all = below (after_part s h.0) more.0 more.1 more.3 in
    let behind_part : h.2 ≡ body_spelled (after_part s h.0) more.0.parts more.0.exports = last h.2 more.1 more.2 (body_spelled (after_part s h.0) more.0.parts more.0.exports) more.5 all.spelled more.4.1 in
    let begins : id ∷ rest ≡ (0x04 ∷ h.1) ++ h.2 = ap (λ (c : ℕ). c ∷ rest) (part_begins id i) ∙ ap (λ (r : List ℕ). 0x04 ∷ r) h.5 in
    let places : length (after_part s h.0).places ≡ length s.places + 1 = length-append s.places ((all_counted s.counts (exports_of h.0.arguments)).instances ∷ []) in
    rw more.4.0 (record {
      spelled = two (id ∷ rest) (0x04 ∷ h.1) h.2 (part_spelled s h.0) (body_spelled (after_part s h.0) more.0.parts more.0.exports) begins one.0 behind_part;
      supplied = (one.1, subst (λ (n : ℕ). AreSupplied n more.0.parts more.0.exports) places all.supplied);
      few = omega (arith, all.few);
    })

pub body_is : (room : ℕ) (s : Spaces) (b : BodyTree) (bytes : List ℕ) → (body room s).Spells b bytes → IsBody s b room bytes
unfolding body
body_is zero s b bytes h = absurd h
body_is (suc room) s b bytes h =
    let all = behind_is room (body_is room) s b h.0 h.3.0 h.2 h.3.2 h.4 in
    let same : bytes ≡ h.3.0 ∷ h.2 = h.5 ∙ ap (λ (f : List ℕ). f ++ h.2) h.3.1 in
    subst (λ (t : List ℕ). IsBody s b (suc room) t) (sym same) all

-- ---- custom sections

custom_is : (x bytes : List ℕ) → custom.Spells x bytes → bytes ≡ custom_spelled x
unfolding custom
custom_is x bytes s = two bytes s.1 s.2 (0x00 ∷ []) (blob_spelling x) s.5 s.3 (bytes_is x s.2 s.4)

each_is : (xs : List (List ℕ)) (bytes : List ℕ) → SpellsEach (λ (s : Unit {0}). custom) (λ s x. s) tt xs bytes → bytes ≡ flat_map custom_spelled xs
each_is [] bytes h = h
each_is (x ∷ xs) bytes h = two bytes h.0 h.1 (custom_spelled x) (flat_map custom_spelled xs) h.4 (custom_is x h.0 h.2) (each_is xs h.1 h.3)

customs_are : (xs : List (List ℕ)) (bytes : List ℕ) → customs.Spells xs bytes → bytes ≡ flat_map custom_spelled xs
unfolding customs
customs_are xs bytes h = each_is xs bytes h

-- ---- what stands in a bundle

-- What is imported, and what stands behind it, are known to be this.
pub record IsContent (c : ContentTree) (bytes : List ℕ) : Type 0 where
  pub spelled : bytes ≡ front_spelled c.front ++ body_spelled (spaces_behind c.front) c.body.parts c.body.exports
  pub groups : AreGroups c.front
  pub supplied : AreSupplied (length (spaces_behind c.front).places) c.body.parts c.body.exports
  pub few : length c.body.parts < MAX_PARTS + 1

behind_is_content : (gs : List GroupTree) (c : ContentTree) (bytes front rest : List ℕ) → AreGroups gs → front ≡ front_spelled gs → bytes ≡ front ++ rest → (behind_front gs).Spells c rest → IsContent c bytes
unfolding behind_front
behind_is_content gs c bytes front rest are is parts h =
    let all = body_is (MAX_PARTS + 1) (spaces_behind gs) h.0 h.1 h.3 in
    let body_ : List ℕ = body_spelled (spaces_behind gs) h.0.parts h.0.exports in
    let behind_ : rest ≡ body_ = last rest h.1 h.2 body_ h.5 all.spelled h.4.1 in
    rw h.4.0 (record {
      spelled = two bytes front rest (front_spelled gs) body_ parts is behind_;
      groups = are;
      supplied = all.supplied;
      few = all.few;
    })

-- What begins with a section of types has groups.
front_same : (gs : List GroupTree) (b : ℕ) (rest bytes front behind_ : List ℕ) → bytes ≡ b ∷ rest → b ≡ 0x07 → bytes ≡ front ++ behind_ → front ≡ whole_front gs → front ≡ front_spelled gs
front_same [] b rest bytes front behind_ begins seven parts is =
    let heads : b ≡ 0x05 = ap (λ (xs : List ℕ). get_or xs 0 0) (sym begins ∙ parts ∙ ap (λ (t : List ℕ). t ++ behind_) is) in
    absurd (omega (arith, heads, seven))
front_same (g ∷ gs) b rest bytes front behind_ begins seven parts is = is

content_of_is : (t : Bool) (b : ℕ) (rest : List ℕ) (c : ContentTree) (bytes : List ℕ) → (b == 0x07) ≡ t → bytes ≡ b ∷ rest → (content_of t).Spells c bytes → IsContent c bytes
unfolding open_content
content_of_is true b rest c bytes test begins h =
    let f = front_is h.0 h.1 h.3 in
    let same = front_same h.0 b rest bytes h.1 h.2 begins (eq_of b 0x07 test) h.5 f.0 in
    behind_is_content h.0 c bytes h.1 h.2 (record { few = omega (arith, f.2); each = f.1 }) same h.5 h.4
content_of_is false b rest c bytes test begins h =
    behind_is_content [] c bytes [] bytes (record { few = omega arith; each = tt {0} }) refl refl h

pub content_is : (c : ContentTree) (bytes : List ℕ) → content.Spells c bytes → IsContent c bytes
unfolding content
content_is c bytes h = content_of_is (h.0 == 0x07) h.0 h.1 c bytes refl h.2 h.3

-- ---- the whole

pub bundle_is : (b : BundleTree) (bytes : List ℕ) → length bytes < 2 ^ 32 → bundle.Spells b bytes → IsBundle b × (bytes ≡ spelled b)
unfolding bundle spelled
bundle_is b bytes lt h =
    let behind_ = h.4 in
    let made = behind_.4 in
    let all = content_is behind_.0 behind_.1 behind_.3 in
    let front : List ℕ = front_spelled behind_.0.front in
    let body_ : List ℕ = body_spelled (spaces_behind behind_.0.front) behind_.0.body.parts behind_.0.body.exports in
    let sections : List ℕ = flat_map custom_spelled made.0 in
    let rest : h.2 ≡ front ++ (body_ ++ sections) = two h.2 behind_.1 behind_.2 (front ++ body_) sections behind_.5 all.spelled (customs_are made.0 behind_.2 made.1) ∙ append_assoc front body_ sections in
    let whole : bytes ≡ BUNDLE_PREAMBLE ++ (front ++ (body_ ++ sections)) = two bytes h.1 h.2 BUNDLE_PREAMBLE (front ++ (body_ ++ sections)) h.5 h.3 rest in
    rw made.2 (record { few = omega (arith, all.few); front = all.groups; supplied = all.supplied; short = subst (λ (t : List ℕ). length t < 2 ^ 32) whole lt }, whole)
