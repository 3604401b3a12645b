-- The loops that read.
use Rattle.std.proofs.Common.{◌≡◌, ℕ, suc, List, [], ◌∷◌, ◌++◌, length, Result, Ok, Err, refl, sym, ap, ◌∙◌, append_assoc}
use Rattle.std.proofs.lemmas.List.{append-nil}
use Rattle.cm_binary_grammar.specs.declared.fault.Fault.{Fault}
use Rattle.cm_binary_grammar.specs.declared.fault.End.{End}
use Rattle.cm_binary_grammar.specs.declared.fault.ReadError.{ReadError}
use Rattle.cm_binary_grammar.specs.declared.fault.ReadError.TheVariants as errors
use Rattle.cm_binary_grammar.specs.Faults.{flaw, and_then, Fails}
use Rattle.cm_binary_grammar.specs.Grammar.{code}
use Rattle.cm_binary_grammar.proofs.ReadingLaws.{with_front}
use Rattle.cm_lemmas.proofs.Results.{ok_of}
use Rattle.cm_bundle.specs.declared.form.Sort.TheVariants as sorts
use Rattle.cm_bundle.specs.declared.codes.Next.TheVariants as next
use Rattle.cm_bundle.specs.declared.fault.BundleReason.{BundleReason}
use Rattle.cm_bundle.specs.declared.fault.BundleReason.TheVariants as reasons
use Rattle.cm_bundle.specs.declared.spaces.Counts.{Counts}
use Rattle.cm_bundle.specs.Trees.{ExportTree, SupplyTree, PartTree, BodyTree}
use Rattle.cm_bundle.specs.Spelled.{Spaces, counted, all_counted, exports_of, after_part}
use Rattle.cm_bundle.specs.Grammar.{supply, supplies, part, exports, next_of, body}

-- ---- what is passed on

pub regroup : {A E : Type 0} (front : List A) (x : A) (t : Result (List A × List ℕ) E) → with_front front (and_then t (λ xs. Ok (x ∷ xs.0, xs.1))) ≡ with_front (front ++ x ∷ []) t
regroup {A} {E} front x (Ok xs) = ap (λ (ys : List A). ok_of E (ys, xs.1)) (sym (append_assoc front (x ∷ []) xs.0))
regroup front x (Err f) = refl

abbrev pub Supplies : Type 0
Supplies = Result (List SupplyTree × List ℕ) (Fault BundleReason)

pub supplies_turn : (lead tail : List ℕ) (c behind_c : Counts) (all xs : List ExportTree) (x : ExportTree) (front pushed : List SupplyTree) (y : SupplyTree) (e behind_e : End BundleReason) (bytes behind : List ℕ) (total : Supplies)
    → all ≡ x ∷ xs → behind_c ≡ counted c x.sort → pushed ≡ front ++ y ∷ [] → behind_e ≡ e
    → (supply lead tail c x).reads e bytes ≡ Ok (y, behind)
    → with_front front ((supplies lead tail c all).reads e bytes) ≡ total
    → with_front pushed ((supplies lead tail behind_c xs).reads behind_e behind) ≡ total
unfolding supplies
supplies_turn lead tail c behind_c all xs x front pushed y e behind_e bytes behind total p q push same h so_far =
    let one : with_front front ((supplies lead tail c all).reads e bytes) ≡ with_front (front ++ y ∷ []) ((supplies lead tail (counted c x.sort) xs).reads e behind) = rw (p, h) (regroup front y ((supplies lead tail (counted c x.sort) xs).reads e behind)) in
    rw (q, push, same) (sym one ∙ so_far)

pub supplies_fail : (lead tail : List ℕ) (c : Counts) (all xs : List ExportTree) (x : ExportTree) (front : List SupplyTree) (e : End BundleReason) (bytes : List ℕ) (err : ReadError BundleReason) (total : Supplies)
    → all ≡ x ∷ xs → Fails err ((supply lead tail c x).reads e bytes)
    → with_front front ((supplies lead tail c all).reads e bytes) ≡ total → Fails err total
unfolding supplies
supplies_fail lead tail c all xs x front e bytes errors.Memory total p h so_far = tt {0}
supplies_fail lead tail c all xs x front e bytes (errors.Fault f) total p h so_far =
    let one : with_front front ((supplies lead tail c all).reads e bytes) ≡ Err f = rw (p, h) refl in
    sym so_far ∙ one

pub supplies_end : (lead tail : List ℕ) (c : Counts) (all : List ExportTree) (front : List SupplyTree) (e : End BundleReason) (bytes : List ℕ) (total : Supplies)
    → all ≡ [] → with_front front ((supplies lead tail c all).reads e bytes) ≡ total → total ≡ Ok (front, bytes)
unfolding supplies
supplies_end lead tail c all front e bytes total p so_far =
    let one : with_front front ((supplies lead tail c all).reads e bytes) ≡ Ok (front, bytes) = rw p (ap (λ (ys : List SupplyTree). ok_of (Fault BundleReason) (ys, bytes)) (append-nil front)) in
    sym so_far ∙ one

-- ---- parts

abbrev pub Bodies : Type 0
Bodies = Result (BodyTree × List ℕ) (Fault BundleReason)

-- The body with these parts in front.
abbrev pub behind_parts : List PartTree → BodyTree → BodyTree
behind_parts ps b = record { parts = ps ++ b.parts; exports = b.exports }

abbrev pub with_parts : List PartTree → Bodies → Bodies
with_parts ps t = and_then t (λ x. Ok (behind_parts ps x.0, x.1))

regroup_parts : (ps : List PartTree) (p : PartTree) (t : Bodies) → with_parts ps (and_then t (λ x. Ok (record { parts = p ∷ x.0.parts; exports = x.0.exports }, x.1))) ≡ with_parts (ps ++ p ∷ []) t
regroup_parts ps p (Ok x) = ap (λ (qs : List PartTree). ok_of (Fault BundleReason) (record { parts = qs; exports = x.0.exports }, x.1)) (sym (append_assoc ps (p ∷ []) x.0.parts))
regroup_parts ps p (Err f) = refl

pub body_part : (room less : ℕ) (s after : Spaces) (ps pushed : List PartTree) (p : PartTree) (e end_ behind_e : End BundleReason) (bytes inner behind : List ℕ) (total : Bodies)
    → room ≡ suc less → after ≡ after_part s p → pushed ≡ ps ++ p ∷ [] → end_ ≡ e → behind_e ≡ e
    → (code next_of).reads e bytes ≡ Ok (next.Part, inner) → (part s).reads end_ inner ≡ Ok (p, behind)
    → with_parts ps ((body room s).reads e bytes) ≡ total
    → with_parts pushed ((body less after).reads behind_e behind) ≡ total
unfolding body
body_part room less s after ps pushed p e end_ behind_e bytes inner behind total r a push same also h k so_far =
    let one : with_parts ps ((body room s).reads e bytes) ≡ with_parts (ps ++ p ∷ []) ((body less (after_part s p)).reads e behind) = rw (r, h, rw same at k) (regroup_parts ps p ((body less (after_part s p)).reads e behind)) in
    rw (a, push, also) (sym one ∙ so_far)

pub body_exports : (room less : ℕ) (s : Spaces) (ps : List PartTree) (xs : List SupplyTree) (e end_ : End BundleReason) (bytes inner behind : List ℕ) (total : Bodies)
    → room ≡ suc less → end_ ≡ e
    → (code next_of).reads e bytes ≡ Ok (next.Exports, inner) → (exports s).reads end_ inner ≡ Ok (xs, behind)
    → with_parts ps ((body room s).reads e bytes) ≡ total
    → total ≡ Ok (record { parts = ps; exports = xs }, behind)
unfolding body
body_exports room less s ps xs e end_ bytes inner behind total r same h k so_far =
    let one : with_parts ps ((body room s).reads e bytes) ≡ Ok (record { parts = ps; exports = xs }, behind) = rw (r, h, rw same at k) (ap (λ (qs : List PartTree). ok_of (Fault BundleReason) (record { parts = qs; exports = xs }, behind)) (append-nil ps)) in
    sym so_far ∙ one

pub body_fails : (room less : ℕ) (s : Spaces) (ps : List PartTree) (e : End BundleReason) (bytes : List ℕ) (err : ReadError BundleReason) (total : Bodies)
    → room ≡ suc less → Fails err ((code next_of).reads e bytes)
    → with_parts ps ((body room s).reads e bytes) ≡ total → Fails err total
unfolding body
body_fails room less s ps e bytes errors.Memory total r h so_far = tt {0}
body_fails room less s ps e bytes (errors.Fault f) total r h so_far =
    let one : with_parts ps ((body room s).reads e bytes) ≡ Err f = rw (r, h) refl in
    sym so_far ∙ one

pub body_part_fails : (room less : ℕ) (s : Spaces) (ps : List PartTree) (e end_ : End BundleReason) (bytes inner : List ℕ) (err : ReadError BundleReason) (total : Bodies)
    → room ≡ suc less → end_ ≡ e → (code next_of).reads e bytes ≡ Ok (next.Part, inner) → Fails err ((part s).reads end_ inner)
    → with_parts ps ((body room s).reads e bytes) ≡ total → Fails err total
unfolding body
body_part_fails room less s ps e end_ bytes inner errors.Memory total r same h k so_far = tt {0}
body_part_fails room less s ps e end_ bytes inner (errors.Fault f) total r same h k so_far =
    let one : with_parts ps ((body room s).reads e bytes) ≡ Err f = rw (r, h, rw same at k) refl in
    sym so_far ∙ one

pub body_exports_fail : (room less : ℕ) (s : Spaces) (ps : List PartTree) (e end_ : End BundleReason) (bytes inner : List ℕ) (err : ReadError BundleReason) (total : Bodies)
    → room ≡ suc less → end_ ≡ e → (code next_of).reads e bytes ≡ Ok (next.Exports, inner) → Fails err ((exports s).reads end_ inner)
    → with_parts ps ((body room s).reads e bytes) ≡ total → Fails err total
unfolding body
body_exports_fail room less s ps e end_ bytes inner errors.Memory total r same h k so_far = tt {0}
body_exports_fail room less s ps e end_ bytes inner (errors.Fault f) total r same h k so_far =
    let one : with_parts ps ((body room s).reads e bytes) ≡ Err f = rw (r, h, rw same at k) refl in
    sym so_far ∙ one

pub body_ends : (room : ℕ) (s : Spaces) (ps : List PartTree) (e : End BundleReason) (bytes : List ℕ) (total : Bodies)
    → room ≡ 0 → with_parts ps ((body room s).reads e bytes) ≡ total → total ≡ Err (flaw (length bytes) reasons.TooManyParts)
unfolding body
body_ends room s ps e bytes total r so_far =
    let one : with_parts ps ((body room s).reads e bytes) ≡ Err (flaw (length bytes) reasons.TooManyParts) = rw r refl in
    sym so_far ∙ one

-- ---- index spaces

pub after_is : (s : Spaces) (p : PartTree) (aliased behind_ : Counts) (places : List ℕ) → aliased ≡ all_counted s.counts (exports_of p.arguments) → behind_ ≡ counted aliased sorts.Instance → places ≡ s.places ++ aliased.instances ∷ [] → record { counts = behind_; places = places } ≡ after_part s p
after_is s p aliased behind_ places a b c = rw (c, b, a) refl
