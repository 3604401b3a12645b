-- The loop that reads the groups of a front.
use Rattle.std.proofs.Common.{◌≡◌, ℕ, suc, List, [], ◌∷◌, ◌++◌, length, Bool, Option, Some, None, slice_get, Result, Ok, Err, refl, sym, ap, ◌∙◌}
use Rattle.std.specs.Prelude.{◌==◌}
use Rattle.std.specs.Option.{unwrap_or}
use Rattle.std.proofs.lemmas.List.{append-nil}
use Rattle.cm_binary_grammar.specs.declared.fault.Fault.{Fault}
use Rattle.cm_binary_grammar.specs.declared.fault.End.{End}
use Rattle.cm_binary_grammar.specs.declared.fault.ReadError.{ReadError}
use Rattle.cm_binary_grammar.specs.declared.fault.ReadError.TheVariants as errors
use Rattle.cm_binary_grammar.specs.Faults.{flaw, want, Fails}
use Rattle.cm_binary_grammar.specs.Grammar.{code}
use Rattle.cm_binary_grammar.proofs.ReadingLaws.{with_front}
use Rattle.cm_lemmas.proofs.Results.{ok_of}
use Rattle.cm_bundle.specs.declared.codes.InFront.TheVariants as in_front
use Rattle.cm_bundle.specs.declared.fault.BundleReason.{BundleReason}
use Rattle.cm_bundle.specs.declared.fault.BundleReason.TheVariants as reasons
use Rattle.cm_bundle.specs.Trees.{GroupTree}
use Rattle.cm_bundle.specs.Fronts.{group, groups, in_front_of}
use Rattle.cm_bundle.specs.Bundles.{content_of, content}
use Rattle.cm_bundle.proofs.ReadingLoops.{regroup}

abbrev pub Groups : Type 0
Groups = Result (List GroupTree × List ℕ) (Fault BundleReason)

pub groups_more : (room less : ℕ) (gs pushed : List GroupTree) (g : GroupTree) (e end_ behind_e : End BundleReason) (bytes inner behind : List ℕ) (total : Groups)
    → room ≡ suc less → pushed ≡ gs ++ g ∷ [] → end_ ≡ e → behind_e ≡ e
    → (code in_front_of).reads e bytes ≡ Ok (in_front.Group, inner) → group.reads end_ inner ≡ Ok (g, behind)
    → with_front gs ((groups room).reads e bytes) ≡ total
    → with_front pushed ((groups less).reads behind_e behind) ≡ total
unfolding groups
groups_more room less gs pushed g e end_ behind_e bytes inner behind total r push same also h k so_far =
    let one : with_front gs ((groups room).reads e bytes) ≡ with_front (gs ++ g ∷ []) ((groups less).reads e behind) = rw (r, h, rw same at k) (regroup gs g ((groups less).reads e behind)) in
    rw (push, also) (sym one ∙ so_far)

pub groups_done : (room less : ℕ) (gs : List GroupTree) (e : End BundleReason) (bytes inner : List ℕ) (total : Groups)
    → room ≡ suc less → (code in_front_of).reads e bytes ≡ Ok (in_front.Instance, inner)
    → with_front gs ((groups room).reads e bytes) ≡ total → total ≡ Ok (gs, inner)
unfolding groups
groups_done room less gs e bytes inner total r h so_far =
    let one : with_front gs ((groups room).reads e bytes) ≡ Ok (gs, inner) = rw (r, h) (ap (λ (hs : List GroupTree). ok_of (Fault BundleReason) (hs, inner)) (append-nil gs)) in
    sym so_far ∙ one

pub groups_fail : (room less : ℕ) (gs : List GroupTree) (e : End BundleReason) (bytes : List ℕ) (err : ReadError BundleReason) (total : Groups)
    → room ≡ suc less → Fails err ((code in_front_of).reads e bytes)
    → with_front gs ((groups room).reads e bytes) ≡ total → Fails err total
unfolding groups
groups_fail room less gs e bytes errors.Memory total r h so_far = tt {0}
groups_fail room less gs e bytes (errors.Fault f) total r h so_far =
    let one : with_front gs ((groups room).reads e bytes) ≡ Err f = rw (r, h) refl in
    sym so_far ∙ one

pub group_fails : (room less : ℕ) (gs : List GroupTree) (e end_ : End BundleReason) (bytes inner : List ℕ) (err : ReadError BundleReason) (total : Groups)
    → room ≡ suc less → end_ ≡ e → (code in_front_of).reads e bytes ≡ Ok (in_front.Group, inner) → Fails err (group.reads end_ inner)
    → with_front gs ((groups room).reads e bytes) ≡ total → Fails err total
unfolding groups
group_fails room less gs e end_ bytes inner errors.Memory total r same h k so_far = tt {0}
group_fails room less gs e end_ bytes inner (errors.Fault f) total r same h k so_far =
    let one : with_front gs ((groups room).reads e bytes) ≡ Err f = rw (r, h, rw same at k) refl in
    sym so_far ∙ one

pub groups_end : (room : ℕ) (gs : List GroupTree) (e : End BundleReason) (bytes : List ℕ) (total : Groups)
    → room ≡ 0 → with_front gs ((groups room).reads e bytes) ≡ total → total ≡ Err (flaw (length bytes) reasons.TooManyParts)
unfolding groups
groups_end room gs e bytes total r so_far =
    let one : with_front gs ((groups room).reads e bytes) ≡ Err (flaw (length bytes) reasons.TooManyParts) = rw r refl in
    sym so_far ∙ one

-- ---- what the first byte chooses

pub none_first : (e : End BundleReason) (bytes : List ℕ) (err : ReadError BundleReason) → None ≡ slice_get bytes 0 → err ≡ errors.Fault (want e) → Fails err (content.reads e bytes)
unfolding content
none_first e [] err none is = rw is refl
none_first e (b ∷ rest) err none is = absurd cc

pub some_first : (e : End BundleReason) (bytes : List ℕ) (b : ℕ) (t : Bool) → Some b ≡ slice_get bytes 0 → (b == 0x07) ≡ t → (content_of t).reads e bytes ≡ content.reads e bytes
unfolding content
some_first e [] b t some test = absurd cc
some_first e (c ∷ rest) b t some test =
    let same : b ≡ c = ap (λ (o : Option ℕ). unwrap_or o 0) some in
    ap (λ (u : Bool). (content_of u).reads e (c ∷ rest)) (sym test ∙ ap (λ (x : ℕ). x == 0x07) same)
