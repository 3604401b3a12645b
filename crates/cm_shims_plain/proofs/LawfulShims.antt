-- Shims are read exactly.
use Rattle.std.proofs.Common.{ℕ, ◌<◌, List, length, ap, arith}
use Rattle.std.proofs.lemmas.List.{length-append}
use Rattle.cm_binary_grammar.proofs.Laws.{Lawful, done_lawful, bind_lawful, code_lawful, fixed_lawful, raw_lawful, vec_lawful, ahead_lawful}
use Rattle.cm_binary_grammar.proofs.WholeLaws.{LawfulWhole, build_lawful, exactly_lawful, join_lawful}
use Rattle.cm_binary_grammar.proofs.PartLaws.{of_size_lawful}
use Rattle.cm_binary_grammar.proofs.EndLaws.{IsNonempty, to_end_lawful}
use Rattle.cm_binary_forms.proofs.LawfulTexts.{index_lawful}
use Rattle.cm_binary_forms.proofs.LawfulSections.{section_lawful, section_nonempty}
use Rattle.cm_shims_plain.specs.declared.codes.ShimItems.{ShimItems}
use Rattle.cm_shims_plain.specs.declared.codes.ShimItems.TheVariants as shim_items
use Rattle.cm_shims_plain.specs.declared.codes.ShimKind.{ShimKind}
use Rattle.cm_shims_plain.specs.declared.codes.ShimKind.TheVariants as kinds
use Rattle.cm_shims_plain.specs.Codes.{shim_kind}
use Rattle.cm_shims_plain.specs.Shims.{shim_contents, shim_section_of, shim_section, shim_room_after, shim_sections, shim}
use Rattle.cm_shims_plain.specs.Trees.{ShimSectionTree}
use Rattle.cm_shims_plain.proofs.LawfulItems.{shim_import_lawful, shim_export_lawful}

pub shim_contents_lawful : (items : ShimItems) → LawfulWhole (shim_contents items)
unfolding shim_contents
shim_contents_lawful shim_items.Imports = build_lawful _ _ (exactly_lawful _ _ (vec_lawful _ _ shim_import_lawful))
shim_contents_lawful shim_items.Exports = build_lawful _ _ (exactly_lawful _ _ (vec_lawful _ _ shim_export_lawful))

shim_section_of_lawful : (room : ℕ) (kind : ShimKind) → Lawful (shim_section_of room kind)
unfolding shim_section_of
shim_section_of_lawful room kinds.Shared = bind_lawful _ _ (section_lawful room) (λ s. done_lawful _)
shim_section_of_lawful room (kinds.Items items) = bind_lawful _ _ (raw_lawful 1) (λ id. bind_lawful _ _ index_lawful (λ size. of_size_lawful _ size _ (shim_contents_lawful items)))
shim_section_of_lawful room kinds.Other = code_lawful _

shim_section_of_nonempty : (room : ℕ) (kind : ShimKind) (x : ShimSectionTree) (bytes : List ℕ) → (shim_section_of room kind).Spells x bytes → 0 < length bytes
unfolding shim_section_of
shim_section_of_nonempty room kinds.Shared x bytes s = omega (arith, ap length s.5, length-append s.1 s.2, section_nonempty room s.0 s.1 s.3)
shim_section_of_nonempty room (kinds.Items items) x bytes s = omega (arith, ap length s.5, length-append s.1 s.2, s.3.0)
shim_section_of_nonempty room kinds.Other x bytes s = let e = s.2 in absurd cc

pub shim_section_lawful : (room : ℕ) → Lawful (shim_section room)
unfolding shim_section
shim_section_lawful room = ahead_lawful _ (λ id. shim_section_of_lawful room (shim_kind id)) (λ id x front s. shim_section_of_nonempty room (shim_kind id) x front s)

-- A section has at least its id.
pub shim_section_nonempty : (room : ℕ) → IsNonempty (shim_section room)
unfolding shim_section
shim_section_nonempty room x bytes s = omega (arith, ap length s.2)

pub shim_sections_lawful : (room : ℕ) → LawfulWhole (shim_sections room)
unfolding shim_sections
shim_sections_lawful room = to_end_lawful shim_section shim_room_after shim_section_lawful shim_section_nonempty room

pub shim_lawful : (room : ℕ) → LawfulWhole (shim room)
unfolding shim
shim_lawful room = join_lawful _ _ (fixed_lawful _ _) (λ preamble. shim_sections_lawful room)
