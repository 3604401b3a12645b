-- The front of an open bundle is read exactly.
use Rattle.std.proofs.Common.{ℕ, zero, suc, ◌<◌, List, [], ◌+◌, length, Bool, true, false, ap, arith}
use Rattle.std.proofs.lemmas.List.{length-append}
use Rattle.std.specs.Prelude.{◌==◌}
use Rattle.cm_binary_grammar.proofs.Laws.{Lawful, done_lawful, bind_lawful, fail_lawful, code_lawful, check_lawful, fixed_lawful, times_lawful, ahead_lawful}
use Rattle.cm_binary_grammar.proofs.WholeLaws.{LawfulWhole, build_lawful, exactly_lawful, join_lawful}
use Rattle.cm_bundle.specs.declared.form.TheConstants.{MAX_PARTS}
use Rattle.cm_bundle.specs.declared.codes.InFront.{InFront}
use Rattle.cm_bundle.specs.declared.codes.InFront.TheVariants as in_front
use Rattle.cm_bundle.specs.Trees.{GroupTree, BodyTree, ContentTree}
use Rattle.cm_bundle.specs.Spelled.{Spaces}
use Rattle.cm_bundle.specs.Grammar.{Production, body}
use Rattle.cm_bundle.specs.Fronts.{import_, import_list, import_data, type_alias, type_alias_list, type_alias_data, imports_section, aliases_section, group, behind_id, groups, front, spaces_behind}
use Rattle.cm_bundle.specs.Bundles.{behind_front, open_content, content_of, content, bundle}
use Rattle.cm_bundle.proofs.LawfulBundle.{short_lawful, bytes_lawful, text_lawful, body_lawful, customs_lawful}

pub import_lawful : Lawful import_
unfolding import_
import_lawful = bind_lawful _ _ (fixed_lawful _ _) (λ plain. bind_lawful _ _ text_lawful (λ name. bind_lawful _ _ (code_lawful _) (λ sort. bind_lawful _ _ short_lawful (λ ty. done_lawful _))))

pub import_data_lawful : LawfulWhole import_data
unfolding import_data import_list
import_data_lawful = exactly_lawful _ _ (bind_lawful _ _ short_lawful (λ n. times_lawful _ import_lawful n))

pub type_alias_lawful : Lawful type_alias
unfolding type_alias
type_alias_lawful = bind_lawful _ _ (fixed_lawful _ _) (λ kind. bind_lawful _ _ short_lawful (λ i. bind_lawful _ _ text_lawful (λ name. done_lawful _)))

pub type_alias_data_lawful : LawfulWhole type_alias_data
unfolding type_alias_data type_alias_list
type_alias_data_lawful = exactly_lawful _ _ (bind_lawful _ _ short_lawful (λ n. times_lawful _ type_alias_lawful n))

-- ---- groups

imports_section_lawful : Lawful imports_section
unfolding imports_section
imports_section_lawful = check_lawful _ _ _ bytes_lawful

aliases_section_lawful : Lawful aliases_section
unfolding aliases_section
aliases_section_lawful = check_lawful _ _ _ bytes_lawful

pub group_lawful : Lawful group
unfolding group
group_lawful = bind_lawful _ _ bytes_lawful (λ types. bind_lawful _ _ (fixed_lawful _ _) (λ importing. bind_lawful _ _ imports_section_lawful (λ imports. bind_lawful _ _ (fixed_lawful _ _) (λ aliasing. bind_lawful _ _ aliases_section_lawful (λ aliases. done_lawful _)))))

behind_id_lawful : (more : Production (List GroupTree)) → Lawful more → (n : InFront) → Lawful (behind_id more n)
behind_id_lawful more l in_front.Instance = done_lawful _
behind_id_lawful more l in_front.Group = bind_lawful _ _ group_lawful (λ g. bind_lawful _ _ l (λ gs. done_lawful _))

pub groups_lawful : (room : ℕ) → Lawful (groups room)
unfolding groups
groups_lawful zero = fail_lawful _
groups_lawful (suc room) = bind_lawful _ _ (code_lawful _) (behind_id_lawful (groups room) (groups_lawful room))

pub front_lawful : Lawful front
unfolding front
front_lawful = bind_lawful _ _ (groups_lawful (MAX_PARTS + 1)) (λ gs. bind_lawful _ _ (fixed_lawful _ _) (λ i. done_lawful _))

-- ---- what stands in a bundle

behind_front_lawful : (gs : List GroupTree) → Lawful (behind_front gs)
unfolding behind_front
behind_front_lawful gs = bind_lawful _ _ (body_lawful (MAX_PARTS + 1) (spaces_behind gs)) (λ b. done_lawful _)

content_of_lawful : (t : Bool) → Lawful (content_of t)
unfolding open_content
content_of_lawful true = bind_lawful _ _ front_lawful behind_front_lawful
content_of_lawful false = behind_front_lawful []

groups_some : (room : ℕ) (gs : List GroupTree) (bytes : List ℕ) → (groups room).Spells gs bytes → 0 < length bytes
unfolding groups
groups_some zero gs bytes h = absurd h
groups_some (suc room) gs bytes h = omega (arith, ap length h.5, length-append h.1 h.2, ap length h.3.1)

body_some : (room : ℕ) (s : Spaces) (b : BodyTree) (bytes : List ℕ) → (body room s).Spells b bytes → 0 < length bytes
unfolding body
body_some zero s b bytes h = absurd h
body_some (suc room) s b bytes h = omega (arith, ap length h.5, length-append h.1 h.2, ap length h.3.1)

content_some : (t : Bool) (c : ContentTree) (bytes : List ℕ) → (content_of t).Spells c bytes → 0 < length bytes
unfolding open_content front behind_front
content_some true c bytes h =
    let f = h.3 in
    omega (arith, ap length h.5, length-append h.1 h.2, ap length f.5, length-append f.1 f.2, groups_some (MAX_PARTS + 1) f.0 f.1 f.3)
content_some false c bytes h = omega (arith, ap length h.5, length-append h.1 h.2, body_some (MAX_PARTS + 1) (spaces_behind []) h.0 h.1 h.3)

pub content_lawful : Lawful content
unfolding content
content_lawful = ahead_lawful _ (λ b. content_of_lawful (b == 0x07)) (λ b. content_some (b == 0x07))

pub bundle_lawful : LawfulWhole bundle
unfolding bundle
bundle_lawful = join_lawful _ _ (fixed_lawful _ _) (λ preamble. join_lawful _ _ content_lawful (λ c. build_lawful _ _ customs_lawful))
