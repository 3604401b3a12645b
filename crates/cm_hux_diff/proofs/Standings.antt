-- What stands for resources, and what is known of links.
use Rattle.std.proofs.Common.{◌≡◌, ℕ, List, map, Option, None, ap, sym, subst, ◌∙◌}
use Rattle.std.proofs.Math.Path.{fun_ext}
use Rattle.std.specs.Prelude.{unwrap_or}
use Rattle.std.specs.Option.{option_or}
use Rattle.cm_types.specs.Signatures.{NamedExtern, SignatureTy}
use Rattle.cm_types.specs.declared.resource.ResourceId.{ResourceId}
use Rattle.cm_types_arena.specs.Replaced.{Standing}
use Rattle.cm_hux_diff.specs.Breaking.{AreBreaks, bound, marked}
use Rattle.cm_hux_diff.specs.Facing.{hosted_from, met_from, names, user_face}
use Rattle.cm_hux_diff.specs.Held.{Entry, used_face}
use Rattle.cm_hux_diff.specs.Views.{LinksOf, bound_in, faces_in}
use Rattle.cm_hux_diff.specs.declared.bound.Bound.{Bound}
use Rattle.cm_hux_diff.specs.declared.breaking.Break.{Break}
use Rattle.cm_hux_diff.specs.declared.facing.Face.{Face}
use Rattle.cm_hux_diff.specs.declared.links.Links.{Links}

-- what stands for resources by a table, and else each with a mark
abbrev pub by_table : Bound → ℕ → Standing
by_table table mark r = unwrap_or (bound_in table r.number) (marked mark r)

-- what is bound to resources stands for them
pub standing_as : (table : Bound) (mark : ℕ) (f : ℕ → Option ResourceId) → ((n : ℕ) → bound_in table n ≡ f n) → by_table table mark ≡ (λ r. unwrap_or (f r.number) (marked mark r))
standing_as table mark f h = fun_ext (λ (r : ResourceId). ap (λ (o : Option ResourceId). unwrap_or o (marked mark r)) (h r.number))

-- where nothing is bound each resource has its mark
pub standing_marked : (table : Bound) (mark : ℕ) → ((n : ℕ) → bound_in table n ≡ None) → by_table table mark ≡ marked mark
standing_marked table mark h = fun_ext (λ (r : ResourceId). ap (λ (o : Option ResourceId). unwrap_or o (marked mark r)) (h r.number))

pub breaks_as : (w x o p : Standing) (es fs : List Entry) (bs : List Break) → w ≡ x → o ≡ p → es ≡ fs → AreBreaks w o es bs → AreBreaks x p fs bs
breaks_as w x o p es fs bs a b e h =
    subst (λ (s : Standing). AreBreaks s p fs bs) a
    (subst (λ (s : Standing). AreBreaks w s fs bs) b (subst (λ (l : List Entry). AreBreaks w o l bs) e h))

-- what is noted behind what was there
pub noted_as : (s t : Standing) (es fs : List Entry) (n : ℕ) (after before given : Option ResourceId) → s ≡ t → es ≡ fs → before ≡ given → after ≡ option_or before (bound s es n) → after ≡ option_or given (bound t fs n)
noted_as s t es fs n after before given a e g h =
    h ∙ (ap (λ (o : Option ResourceId). option_or o (bound s es n)) g
    ∙ (ap (λ (u : Standing). option_or given (bound u es n)) a ∙ ap (λ (l : List Entry). option_or given (bound t l n)) e))

-- what tables say faces the exports of the old one
pub faces_are : (old new : SignatureTy) (links : Links) → LinksOf old new links → map (faces_in links) links.exports.names.items ≡ map (used_face old new) (names old.exports)
faces_are old new links of =
    ap (λ (l : List (List ℕ)). map (user_face l links.exports.names.items links.offers.names.items) links.exports.names.items) of.imports
    ∙ (ap (λ (l : List (List ℕ)). map (user_face (names old.imports) l links.offers.names.items) l) of.exports
    ∙ ap (λ (l : List (List ℕ)). map (user_face (names old.imports) (names old.exports) l) (names old.exports)) of.offers)

pub hosted_are : (old new : SignatureTy) (links : Links) → LinksOf old new links → hosted_from links.exports.names.items links.offers.names.items 0 links.imports.names.items ≡ hosted_from (names old.exports) (names new.exports) 0 (names old.imports)
hosted_are old new links of =
    ap (λ (l : List (List ℕ)). hosted_from l links.offers.names.items 0 links.imports.names.items) of.exports
    ∙ (ap (λ (l : List (List ℕ)). hosted_from (names old.exports) l 0 links.imports.names.items) of.offers
    ∙ ap (hosted_from (names old.exports) (names new.exports) 0) of.imports)

pub met_are : (old new : SignatureTy) (links : Links) → LinksOf old new links → met_from links.exports.names.items links.offers.names.items 0 links.offers.names.items ≡ met_from (names old.exports) (names new.exports) 0 (names new.exports)
met_are old new links of =
    ap (λ (l : List (List ℕ)). met_from l links.offers.names.items 0 links.offers.names.items) of.exports
    ∙ ap (λ (l : List (List ℕ)). met_from (names old.exports) l 0 l) of.offers
