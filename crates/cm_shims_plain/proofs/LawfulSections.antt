-- Sections of files that may have shims are read exactly.
use Rattle.std.proofs.Common.{ℕ, ◌<◌, List, length, Option, Some, None, ap, arith}
use Rattle.std.proofs.lemmas.List.{length-append}
use Rattle.cm_binary_grammar.proofs.Laws.{Lawful, done_lawful, bind_lawful, raw_lawful, vec_lawful, ahead_lawful}
use Rattle.cm_binary_grammar.proofs.WholeLaws.{LawfulWhole, build_lawful, exactly_lawful}
use Rattle.cm_binary_grammar.proofs.PartLaws.{of_size_lawful}
use Rattle.cm_binary_grammar.proofs.EndLaws.{IsNonempty, to_end_lawful}
use Rattle.cm_binary_forms.proofs.LawfulTexts.{index_lawful}
use Rattle.cm_binary_forms.proofs.LawfulSections.{section_lawful, section_nonempty}
use Rattle.cm_shims_plain.specs.declared.codes.WideKind.{WideKind}
use Rattle.cm_shims_plain.specs.declared.codes.WideKind.TheVariants as kinds
use Rattle.cm_shims_plain.specs.Codes.{wide_kind}
use Rattle.cm_shims_plain.specs.Sections.{wide_contents, wide_section_of, wide_section, wide_room_after, wide_sections}
use Rattle.cm_shims_plain.specs.Trees.{WideSectionTree}
use Rattle.cm_shims_plain.proofs.LawfulItems.{wide_instance_lawful, wide_import_lawful}
use Rattle.cm_shims_plain.proofs.LawfulShims.{shim_lawful}

pub wide_contents_lawful : (size room : ℕ) (kind : WideKind) → LawfulWhole (wide_contents size room kind)
unfolding wide_contents
wide_contents_lawful size room kinds.Shim = build_lawful _ _ (shim_lawful room)
wide_contents_lawful size room kinds.Instances = build_lawful _ _ (exactly_lawful _ _ (vec_lawful _ _ wide_instance_lawful))
wide_contents_lawful size room kinds.Imports = build_lawful _ _ (exactly_lawful _ _ (vec_lawful _ _ wide_import_lawful))

wide_section_of_lawful : (room : ℕ) (kind : Option WideKind) → Lawful (wide_section_of room kind)
unfolding wide_section_of
wide_section_of_lawful room (Some kind) = bind_lawful _ _ (raw_lawful 1) (λ id. bind_lawful _ _ index_lawful (λ size. of_size_lawful _ size _ (wide_contents_lawful size room kind)))
wide_section_of_lawful room None = bind_lawful _ _ (section_lawful room) (λ s. done_lawful _)

wide_section_of_nonempty : (room : ℕ) (kind : Option WideKind) (x : WideSectionTree) (bytes : List ℕ) → (wide_section_of room kind).Spells x bytes → 0 < length bytes
unfolding wide_section_of
wide_section_of_nonempty room (Some kind) x bytes s = omega (arith, ap length s.5, length-append s.1 s.2, s.3.0)
wide_section_of_nonempty room None x bytes s = omega (arith, ap length s.5, length-append s.1 s.2, section_nonempty room s.0 s.1 s.3)

pub wide_section_lawful : (room : ℕ) → Lawful (wide_section room)
unfolding wide_section
wide_section_lawful room = ahead_lawful _ (λ id. wide_section_of_lawful room (wide_kind id)) (λ id x front s. wide_section_of_nonempty room (wide_kind id) x front s)

-- A section has at least its id.
pub wide_section_nonempty : (room : ℕ) → IsNonempty (wide_section room)
unfolding wide_section
wide_section_nonempty room x bytes s = omega (arith, ap length s.2)

pub wide_sections_lawful : (room : ℕ) → LawfulWhole (wide_sections room)
unfolding wide_sections
wide_sections_lawful room = to_end_lawful wide_section wide_room_after wide_section_lawful wide_section_nonempty room
