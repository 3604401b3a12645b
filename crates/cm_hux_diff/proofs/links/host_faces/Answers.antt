use Rattle.std.proofs.Common.{◌≡◌, ℕ, List, map, ap, sym, ◌∙◌}
use Rattle.cm_lemmas.proofs.Results.{if_ok_more}
use Rattle.cm_types_arena.specs.Signatures.{imports_in}
use Rattle.cm_wit_conforms.specs.Places.{extern_names, place_in}
use Rattle.cm_hux_diff.specs.Facing.{host_face, names}
use Rattle.cm_hux_diff.proofs.links.host_faces.Goals as goal

pub faces_of-requires : goal.faces_of-requires
faces_of-requires c =
    let o = c.args.old.now.types in
    let w = c.args.of.now.types in
    let texts = c.in_ok-offers.offers.names.items in
    c.deref-2.ensures.value
    ∙ (c.in_ok-places.ensures w o
    ∙ (ap (λ l. map (place_in l) (extern_names w c.imports-imports.result.now)) (sym (c.in_ok-offers.ensures o))
    ∙ ap (map (place_in texts)) (sym (c.deref.ensures.value ∙ c.in_ok-wanted.ensures w))))

pub returns : goal.returns
returns c =
    let o = c.args.old.now.types in
    let w = c.args.of.now.types in
    let texts = c.in_ok-offers.offers.names.items in
    let served : texts ≡ names (imports_in c.args.old.now) = c.in_ok-offers.ensures o ∙ ap names c.imports-served.ensures.externs in
    let wanted : c.deref.result.now ≡ names (imports_in c.args.of.now) = c.deref.ensures.value ∙ (c.in_ok-wanted.ensures w ∙ ap names c.imports-imports.ensures.externs) in
    if_ok_more c.faces_of.result _ _ c.faces_of.ensures (λ v h.
    h ∙ (ap (λ (l : List (List ℕ)). map (host_face l) c.deref.result.now) served ∙ ap (map (host_face (names (imports_in c.args.old.now)))) wanted))
