-- What the grammar of fronts spells is the one spelling of a front.
use Rattle.std.proofs.Common.{◌≡◌, ℕ, zero, suc, ◌<◌, ◌+◌, List, [], ◌∷◌, ◌++◌, length, true, Ok, sym, ap, subst, ◌∙◌, append_assoc, arith, inl, inr}
use Rattle.std.specs.List.{AllByRecursion, flat_map}
use Rattle.cm_binary_grammar.specs.Spelling.{blob_spelling}
use Rattle.cm_bundle.specs.declared.codes.InFront.{InFront}
use Rattle.cm_bundle.specs.declared.codes.InFront.TheVariants as in_front
use Rattle.cm_bundle.specs.declared.form.TheConstants.{MAX_PARTS}
use Rattle.cm_bundle.specs.declared.fault.BundleReason.TheVariants as reasons
use Rattle.cm_bundle.specs.Trees.{GroupTree}
use Rattle.cm_bundle.specs.Fronts.{are_imports, are_type_aliases, imports_section, aliases_section, group, in_front_of, behind_id, groups, front, all_passed_on, imported_spelled, group_spelled, IsGroup}
use Rattle.cm_bundle.proofs.EitherCode.{either_code}
use Rattle.cm_bundle.proofs.SpellingIs.{two, last, bytes_is}

imports_are : (x bytes : List ℕ) → imports_section.Spells x bytes → (bytes ≡ blob_spelling x) × (are_imports x ≡ true)
unfolding imports_section
imports_are x bytes s = (bytes_is x bytes s.0, s.1)

aliases_are : (x bytes : List ℕ) → aliases_section.Spells x bytes → (bytes ≡ blob_spelling x) × (are_type_aliases x ≡ true)
unfolding aliases_section
aliases_are x bytes s = (bytes_is x bytes s.0, s.1)

pub group_is : (g : GroupTree) (bytes : List ℕ) → group.Spells g bytes → (0x07 ∷ bytes ≡ group_spelled g) × IsGroup g
unfolding group
group_is g bytes h =
    let a = h.4 in
    let i = a.4 in
    let b = i.4 in
    let y = b.4 in
    let types = bytes_is h.0 h.1 h.3 in
    let imports = imports_are i.0 i.1 i.3 in
    let aliases = aliases_are y.0 y.1 y.3 in
    let section : List ℕ = 0x06 ∷ blob_spelling y.0 in
    let importing : List ℕ = 0x0a ∷ blob_spelling i.0 in
    let ends : b.2 ≡ blob_spelling y.0 = last b.2 y.1 y.2 (blob_spelling y.0) y.5 aliases.0 y.4.1 in
    let aliased : i.2 ≡ section = two i.2 b.1 b.2 (0x06 ∷ []) (blob_spelling y.0) b.5 b.3 ends in
    let listed : a.2 ≡ blob_spelling i.0 ++ section = two a.2 i.1 i.2 (blob_spelling i.0) section i.5 imports.0 aliased in
    let behind : h.2 ≡ importing ++ section = two h.2 a.1 a.2 (0x0a ∷ []) (blob_spelling i.0 ++ section) a.5 a.3 listed in
    rw y.4.0 (
      ap (λ (t : List ℕ). 0x07 ∷ t) (two bytes h.1 h.2 (blob_spelling h.0) (importing ++ section) h.5 types behind),
      record { imports = imports.1; aliases = aliases.1 },
    )

-- What groups, and the id behind them, are known to be.
pub record AreRead (gs : List GroupTree) (room : ℕ) (bytes : List ℕ) : Type 0 where
  pub spelled : bytes ≡ flat_map group_spelled gs ++ (0x05 ∷ [])
  pub each : AllByRecursion IsGroup gs
  pub few : length gs < room

group_begins : (b : ℕ) → in_front_of b ≡ Ok in_front.Group → b ≡ 0x07
group_begins b h =
    elim (either_code b 0x07 0x05 in_front.Group in_front.Instance in_front.Group reasons.UnknownCode h) [ inl p ↦ p.0 | inr p ↦ let q = p.1 in absurd cc ]

instance_begins : (b : ℕ) → in_front_of b ≡ Ok in_front.Instance → b ≡ 0x05
instance_begins b h =
    elim (either_code b 0x07 0x05 in_front.Group in_front.Instance in_front.Instance reasons.UnknownCode h) [ inl p ↦ let q = p.1 in absurd cc | inr p ↦ p.0 ]

-- What stands behind the id of a section, and the id.
behind_id_is : (room : ℕ) → ((gs : List GroupTree) (bytes : List ℕ) → (groups room).Spells gs bytes → AreRead gs room bytes) → (gs : List GroupTree) (n : InFront) (id : ℕ) (rest : List ℕ) → in_front_of id ≡ Ok n → (behind_id (groups room) n).Spells gs rest → AreRead gs (suc room) (id ∷ rest)
behind_id_is room below gs in_front.Instance id rest i h =
    rw h.0 (record {
      spelled = ap (λ (c : ℕ). c ∷ rest) (instance_begins id i) ∙ ap (λ (r : List ℕ). 0x05 ∷ r) h.1;
      each = tt {0};
      few = omega arith;
    })
behind_id_is room below gs in_front.Group id rest i h =
    let more = h.4 in
    let one = group_is h.0 h.1 h.3 in
    let all = below more.0 more.1 more.3 in
    let others : List ℕ = flat_map group_spelled more.0 ++ (0x05 ∷ []) in
    let behind : h.2 ≡ others = last h.2 more.1 more.2 others more.5 all.spelled more.4.1 in
    let begins : id ∷ rest ≡ (0x07 ∷ h.1) ++ h.2 = ap (λ (c : ℕ). c ∷ rest) (group_begins id i) ∙ ap (λ (r : List ℕ). 0x07 ∷ r) h.5 in
    rw more.4.0 (record {
      spelled = two (id ∷ rest) (0x07 ∷ h.1) h.2 (group_spelled h.0) others begins one.0 behind ∙ sym (append_assoc (group_spelled h.0) (flat_map group_spelled more.0) (0x05 ∷ []));
      each = (one.1, all.each);
      few = omega (arith, all.few);
    })

pub groups_are : (room : ℕ) (gs : List GroupTree) (bytes : List ℕ) → (groups room).Spells gs bytes → AreRead gs room bytes
unfolding groups
groups_are zero gs bytes h = absurd h
groups_are (suc room) gs bytes h =
    let all = behind_id_is room (groups_are room) gs h.0 h.3.0 h.2 h.3.2 h.4 in
    let same : bytes ≡ h.3.0 ∷ h.2 = h.5 ∙ ap (λ (f : List ℕ). f ++ h.2) h.3.1 in
    subst (λ (t : List ℕ). AreRead gs (suc room) t) (sym same) all

-- The groups, and the instance of what they import.
abbrev pub whole_front : List GroupTree → List ℕ
whole_front gs = flat_map group_spelled gs ++ (0x05 ∷ imported_spelled (all_passed_on gs))

pub front_is : (gs : List GroupTree) (bytes : List ℕ) → front.Spells gs bytes → (bytes ≡ whole_front gs) × AllByRecursion IsGroup gs × (length gs < MAX_PARTS + 1)
unfolding front
front_is gs bytes h =
    let i = h.4 in
    let all = groups_are (MAX_PARTS + 1) h.0 h.1 h.3 in
    let instance_ : List ℕ = imported_spelled (all_passed_on h.0) in
    let behind : h.2 ≡ instance_ = last h.2 i.1 i.2 instance_ i.5 i.3 i.4.1 in
    let spelled : bytes ≡ whole_front h.0 = two bytes h.1 h.2 (flat_map group_spelled h.0 ++ (0x05 ∷ [])) instance_ h.5 all.spelled behind ∙ append_assoc (flat_map group_spelled h.0) (0x05 ∷ []) instance_ in
    rw i.4.0 (spelled, all.each, all.few)
