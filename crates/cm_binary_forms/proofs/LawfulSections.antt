-- Sections are read exactly.
use Rattle.std.proofs.Common.{ℕ, length, ap, arith}
use Rattle.std.proofs.lemmas.List.{length-append}
use Rattle.cm_binary_grammar.proofs.Laws.{Lawful, bind_lawful, code_lawful, vec_lawful}
use Rattle.cm_binary_grammar.proofs.WholeLaws.{LawfulWhole, build_lawful, remainder_lawful, exactly_lawful, join_lawful}
use Rattle.cm_binary_grammar.proofs.PartLaws.{begins_with_lawful, of_size_lawful}
use Rattle.cm_binary_grammar.proofs.EndLaws.{IsNonempty, to_end_lawful}
use Rattle.cm_binary_forms.specs.declared.codes.SectionKind.{SectionKind}
use Rattle.cm_binary_forms.specs.declared.codes.SectionKind.TheVariants as kinds
use Rattle.cm_binary_forms.specs.Sections.{contents, section, sections, room_after}
use Rattle.cm_binary_forms.proofs.LawfulTexts.{index_lawful, text_lawful}
use Rattle.cm_binary_forms.proofs.LawfulInstances.{core_instance_lawful, instance_lawful}
use Rattle.cm_binary_forms.proofs.LawfulAliases.{alias_lawful}
use Rattle.cm_binary_forms.proofs.LawfulTypes.{type_defs_lawful}
use Rattle.cm_binary_forms.proofs.LawfulCanons.{canon_lawful}
use Rattle.cm_binary_forms.proofs.LawfulExterns.{import_lawful, export_lawful}

pub contents_lawful : (room : ℕ) (kind : SectionKind) → LawfulWhole (contents room kind)
unfolding contents
contents_lawful room kinds.Custom = join_lawful _ _ text_lawful (λ name. build_lawful _ _ remainder_lawful)
contents_lawful room kinds.CoreModule = build_lawful _ _ (begins_with_lawful _ _)
contents_lawful room kinds.CoreInstances = build_lawful _ _ (exactly_lawful _ _ (vec_lawful _ _ core_instance_lawful))
contents_lawful room kinds.Instances = build_lawful _ _ (exactly_lawful _ _ (vec_lawful _ _ instance_lawful))
contents_lawful room kinds.Aliases = build_lawful _ _ (exactly_lawful _ _ (vec_lawful _ _ alias_lawful))
contents_lawful room kinds.Types = build_lawful _ _ (exactly_lawful _ _ (type_defs_lawful room))
contents_lawful room kinds.Canons = build_lawful _ _ (exactly_lawful _ _ (vec_lawful _ _ canon_lawful))
contents_lawful room kinds.Imports = build_lawful _ _ (exactly_lawful _ _ (vec_lawful _ _ import_lawful))
contents_lawful room kinds.Exports = build_lawful _ _ (exactly_lawful _ _ (vec_lawful _ _ export_lawful))

pub section_lawful : (room : ℕ) → Lawful (section room)
unfolding section
section_lawful room = bind_lawful _ _ (code_lawful _) (λ kind. bind_lawful _ _ index_lawful (λ size. of_size_lawful _ size _ (contents_lawful room kind)))

-- A section has at least its id.
pub section_nonempty : (room : ℕ) → IsNonempty (section room)
unfolding section
section_nonempty room x bytes s = omega (arith, ap length s.5, length-append s.1 s.2, ap length s.3.1)

pub sections_lawful : (room : ℕ) → LawfulWhole (sections room)
unfolding sections
sections_lawful room = to_end_lawful section room_after section_lawful section_nonempty room
