-- Sections: what is written spells them, nothing shorter does, and what is spelled keeps the limits.
use Rattle.std.proofs.Common.{◌≡◌, ℕ, ◌<◌, ◌≤◌, ◌^◌, List, [], ◌∷◌, ◌++◌, length, drop, true, Ok, nat_eq, refl, sym, ap, subst, ◌∙◌, arith}
use Rattle.std.specs.List.{flat_map, list_all, sum_by, starts_with}
use Rattle.std.proofs.lemmas.Bool.{and_parts, and_from, eqb-true, eq-eqb}
use Rattle.std.proofs.lemmas.List.{length-append}
use Rattle.std.proofs.lemmas.List.Sums.{sum_by-cons}
use Rattle.cm_leb.specs.NumbersWritten.{shortest_unsigned}
use Rattle.cm_binary_grammar.specs.Whole.{remainder, SpellsEach, of_size}
use Rattle.cm_binary_grammar.specs.Spelling.{blob_spelling}
use Rattle.cm_binary_grammar.proofs.LeastLaws.{Least, LeastWhole, bind_least, code_least, vec_least, build_least, remainder_least, begins_with_least, exactly_least, join_least, of_size_least, to_end_least}
use Rattle.cm_binary_grammar.proofs.WrittenLaws.{Spelled, bind_written, code_written, number_written, vec_written, each_written, AreFine, fine_parts}
use Rattle.cm_binary_model.specs.Trees as trees
use Rattle.cm_binary_model.specs.Trees.{SectionTree}
use Rattle.cm_binary_model.specs.Spelling.{core_instance_spelling, instance_spelling, alias_spelling, canon_spelling, import_spelling, export_spelling, contents_spelling, section_id, section_spelling}
use Rattle.cm_binary_model.specs.Limits.{types_in, has_preamble}
use Rattle.cm_binary_model.specs.Parts.{holds_core_instance, holds_instance, holds_alias, holds_canon, holds_import, holds_export, holds}
use Rattle.cm_binary_model.specs.declared.limits.TheConstants.{MODULE_PREAMBLE}
use Rattle.cm_binary_model.proofs.Nonempty.{core_instance_some, instance_some, alias_some, canon_some, import_some, export_some}
use Rattle.cm_binary_forms.specs.declared.fault.DecodeReason.{DecodeReason}
use Rattle.cm_binary_forms.specs.declared.fault.DecodeReason.TheVariants.{SizeMismatch, BadNumber}
use Rattle.cm_binary_forms.specs.declared.codes.SectionKind.{SectionKind}
use Rattle.cm_binary_forms.specs.declared.codes.SectionKind.TheVariants as kinds
use Rattle.cm_binary_forms.specs.Codes.{section_kind}
use Rattle.cm_binary_forms.specs.Instances.{core_instance, instance_item}
use Rattle.cm_binary_forms.specs.Aliases.{alias}
use Rattle.cm_binary_forms.specs.Canons.{canon}
use Rattle.cm_binary_forms.specs.Externs.{import_item, export_item}
use Rattle.cm_binary_forms.specs.Sections.{contents, section, sections, room_after}
use Rattle.cm_binary.proofs.Texts.{index_least, text_least, text_writes}
use Rattle.cm_binary.proofs.InstanceBytes.{core_instance_least, core_instance_writes, instance_least, instance_writes}
use Rattle.cm_binary.proofs.AliasBytes.{alias_least, alias_writes}
use Rattle.cm_binary.proofs.TypeBytes.{type_defs_least, type_defs_write, type_defs_cost}
use Rattle.cm_binary.proofs.CanonBytes.{canon_least, canon_writes}
use Rattle.cm_binary.proofs.ExternBytes.{import_least, import_writes, export_least, export_writes}

-- ---- nothing shorter

contents_least : (room : ℕ) (kind : SectionKind) → LeastWhole (contents room kind) (λ s. length (contents_spelling s))
unfolding contents
contents_least room kinds.Custom = join_least _ _ text_least (λ name. build_least _ remainder (record { bound = λ x bytes s. omega (arith, (remainder_least {R = DecodeReason}).bound x bytes s, length-append (blob_spelling name) x) }))
contents_least room kinds.CoreModule = build_least _ _ (begins_with_least _ _)
contents_least room kinds.CoreInstances = build_least _ _ (exactly_least _ _ (vec_least _ _ core_instance_spelling core_instance_least))
contents_least room kinds.Instances = build_least _ _ (exactly_least _ _ (vec_least _ _ instance_spelling instance_least))
contents_least room kinds.Aliases = build_least _ _ (exactly_least _ _ (vec_least _ _ alias_spelling alias_least))
contents_least room kinds.Types = build_least _ _ (exactly_least _ _ (type_defs_least room))
contents_least room kinds.Canons = build_least _ _ (exactly_least _ _ (vec_least _ _ canon_spelling canon_least))
contents_least room kinds.Imports = build_least _ _ (exactly_least _ _ (vec_least _ _ import_spelling import_least))
contents_least room kinds.Exports = build_least _ _ (exactly_least _ _ (vec_least _ _ export_spelling export_least))

section_least : (room : ℕ) → Least (section room) (λ s. length (section_spelling s))
unfolding section
section_least room = bind_least _ _ (code_least _) (λ kind. bind_least _ _ index_least (λ size. record { bound = λ x bytes s. omega (arith, (of_size_least SizeMismatch size (contents room kind) contents_spelling (contents_least room kind)).bound x bytes s) }))

pub sections_least : (room : ℕ) → LeastWhole (sections room) (λ c. length (flat_map section_spelling c))
unfolding sections
sections_least room = to_end_least section room_after section_spelling section_least room

-- ---- core modules begin with their preamble

preamble_read : (text bytes : List ℕ) → starts_with nat_eq bytes text ≡ true → bytes ≡ text ++ drop (length text) bytes
preamble_read [] bytes h = refl
preamble_read (x ∷ text) [] h = absurd cc
preamble_read (x ∷ text) (b ∷ bytes) h =
    let both = and_parts (nat_eq x b) (starts_with nat_eq bytes text) h in
    rw (eqb-true x b both.0) (ap (λ (rest : List ℕ). b ∷ rest) (preamble_read text bytes both.1))

preamble_passes : (text rest : List ℕ) → starts_with nat_eq (text ++ rest) text ≡ true
preamble_passes [] rest = refl
preamble_passes (x ∷ text) rest = and_from (nat_eq x x) (starts_with nat_eq (text ++ rest) text) (eq-eqb x x refl) (preamble_passes text rest)

-- ---- what is written

-- The contents are spelled so, by the production that the id names.
abbrev WritesContents : ℕ → SectionTree → Type 0
WritesContents room x = (kind : SectionKind) × (contents room kind).Spells x (contents_spelling x) × (section_kind (section_id x) ≡ Ok kind)

contents_writes : (room : ℕ) (x : SectionTree) → holds x ≡ true → has_preamble x ≡ true → types_in x ≤ room → length (contents_spelling x) < 2 ^ 32 → WritesContents room x
unfolding contents
contents_writes room (trees.custom name bytes) h b le lt = (kinds.Custom, (name, blob_spelling name, bytes, (text_writes name h (omega (arith, length-append (blob_spelling name) bytes, lt))).spells, (bytes, refl, refl), refl), refl)
contents_writes room (trees.core_module bytes) h b le lt = (kinds.CoreModule, (bytes, (refl, (drop (length MODULE_PREAMBLE) bytes, preamble_read MODULE_PREAMBLE bytes b)), refl), refl)
contents_writes room (trees.core_instances items) h b le lt = (kinds.CoreInstances, (items, (vec_written BadNumber core_instance holds_core_instance core_instance_spelling core_instance_some core_instance_writes items h lt).spells, refl), refl)
contents_writes room (trees.instances items) h b le lt = (kinds.Instances, (items, (vec_written BadNumber instance_item holds_instance instance_spelling instance_some instance_writes items h lt).spells, refl), refl)
contents_writes room (trees.aliases items) h b le lt = (kinds.Aliases, (items, (vec_written BadNumber alias holds_alias alias_spelling alias_some alias_writes items h lt).spells, refl), refl)
contents_writes room (trees.types items) h b le lt = (kinds.Types, (items, (type_defs_write room items le h lt).spells, refl), refl)
contents_writes room (trees.canons items) h b le lt = (kinds.Canons, (items, (vec_written BadNumber canon holds_canon canon_spelling canon_some canon_writes items h lt).spells, refl), refl)
contents_writes room (trees.imports items) h b le lt = (kinds.Imports, (items, (vec_written BadNumber import_item holds_import import_spelling import_some import_writes items h lt).spells, refl), refl)
contents_writes room (trees.exports items) h b le lt = (kinds.Exports, (items, (vec_written BadNumber export_item holds_export export_spelling export_some export_writes items h lt).spells, refl), refl)

section_writes : (room : ℕ) (x : SectionTree) → holds x ≡ true → has_preamble x ≡ true → types_in x ≤ room → length (section_spelling x) < 2 ^ 32 → Spelled (section room) x (section_spelling x)
unfolding section
section_writes room x h b le lt =
    let text = contents_spelling x in
    let lengths = length-append (shortest_unsigned (length text)) text in
    let c = contents_writes room x h b le (omega (arith, lengths, lt)) in
    let part : Spelled (of_size SizeMismatch (length text) (contents room c.0)) x text = record { spells = (refl, c.1) } in
    bind_written _ (code_written (section_id x) c.2) (bind_written _ (number_written (length text) (omega (arith, lengths, lt))) part refl) refl

-- Sections that hold theirs, in this room.
abbrev AreFineSections : ℕ → List SectionTree → Type 0
AreFineSections room c = (sum_by types_in c ≤ room) × (list_all has_preamble c ≡ true) × AreFine holds section_spelling c

sections_step : (room : ℕ) (x : SectionTree) (c : List SectionTree) → AreFineSections room (x ∷ c) → Spelled (section room) x (section_spelling x) × AreFineSections (room_after room x) c
sections_step room x c h =
    let fine = fine_parts holds section_spelling x c h.2 in
    let begun = and_parts (has_preamble x) (list_all has_preamble c) h.1 in
    let sums = sum_by-cons types_in x c in
    (section_writes room x fine.0 begun.0 (omega (arith, sums, h.0)) fine.1, (omega (arith, sums, h.0), begun.1, fine.2))

pub sections_write : (room : ℕ) (c : List SectionTree) → sum_by types_in c ≤ room → list_all has_preamble c ≡ true → list_all holds c ≡ true → length (flat_map section_spelling c) < 2 ^ 32 → (sections room).Spells c (flat_map section_spelling c)
unfolding sections
sections_write room c types begun h lt = each_written section room_after section_spelling AreFineSections sections_step room c (types, begun, (h, lt))

-- ---- what is spelled keeps the limits

abbrev Keeps : ℕ → SectionTree → Type 0
Keeps room x = (types_in x ≤ room) × (has_preamble x ≡ true)

contents_keep : (room : ℕ) (kind : SectionKind) (x : SectionTree) (bytes : List ℕ) → (contents room kind).Spells x bytes → Keeps room x
unfolding contents
contents_keep room kinds.Custom x bytes s = subst (Keeps room) (sym s.4.2) (omega arith, refl)
contents_keep room kinds.CoreModule x bytes s = subst (Keeps room) (sym s.2) (omega arith, rw (s.1.0 ∙ s.1.1.1) (preamble_passes MODULE_PREAMBLE s.1.1.0))
contents_keep room kinds.CoreInstances x bytes s = subst (Keeps room) (sym s.2) (omega arith, refl)
contents_keep room kinds.Instances x bytes s = subst (Keeps room) (sym s.2) (omega arith, refl)
contents_keep room kinds.Aliases x bytes s = subst (Keeps room) (sym s.2) (omega arith, refl)
contents_keep room kinds.Types x bytes s = subst (Keeps room) (sym s.2) (type_defs_cost room s.0 bytes s.1, refl)
contents_keep room kinds.Canons x bytes s = subst (Keeps room) (sym s.2) (omega arith, refl)
contents_keep room kinds.Imports x bytes s = subst (Keeps room) (sym s.2) (omega arith, refl)
contents_keep room kinds.Exports x bytes s = subst (Keeps room) (sym s.2) (omega arith, refl)

section_keeps : (room : ℕ) (x : SectionTree) (bytes : List ℕ) → (section room).Spells x bytes → Keeps room x
unfolding section
section_keeps room x bytes s = contents_keep room s.0 x s.4.2 s.4.4.1

each_keeps : (room : ℕ) (c : List SectionTree) (bytes : List ℕ) → SpellsEach section room_after room c bytes → (sum_by types_in c ≤ room) × (list_all has_preamble c ≡ true)
each_keeps room [] bytes s = (omega arith, refl)
each_keeps room (x ∷ c) bytes s =
    let one = section_keeps room x s.0 s.2 in
    let more = each_keeps (room_after room x) c s.1 s.3 in
    (omega (arith, sum_by-cons types_in x c, one.0, more.0), and_from (has_preamble x) (list_all has_preamble c) one.1 more.1)

pub sections_keep : (room : ℕ) (c : List SectionTree) (bytes : List ℕ) → (sections room).Spells c bytes → (sum_by types_in c ≤ room) × (list_all has_preamble c ≡ true)
unfolding sections
sections_keep room c bytes s = each_keeps room c bytes s
