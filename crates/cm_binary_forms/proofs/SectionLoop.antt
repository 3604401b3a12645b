-- The loop over the sections of a file.
use Rattle.std.proofs.Common.{◌≡◌, ℕ, ◌<◌, List, [], ◌∷◌, ◌++◌, length, map, Result, Ok, ap, arith}
use Rattle.std.proofs.lemmas.List.{map_push, length-append}
use Rattle.cm_binary_grammar.specs.declared.fault.Fault.{Fault}
use Rattle.cm_binary_grammar.specs.declared.fault.End.{End}
use Rattle.cm_binary_grammar.specs.declared.fault.ReadError.{ReadError}
use Rattle.cm_binary_grammar.specs.Faults.{Fails}
use Rattle.cm_binary_grammar.specs.Whole.{to_end}
use Rattle.cm_binary_grammar.proofs.Tools.{IsBytes-after}
use Rattle.cm_binary_grammar.proofs.ReadingLaws.{with_each, to_end_more, to_end_fails}
use Rattle.cm_binary_model.specs.declared.section.Section.{Section}
use Rattle.cm_binary_model.specs.Trees.{SectionTree, section_tree}
use Rattle.cm_binary_forms.specs.declared.fault.DecodeReason.{DecodeReason}
use Rattle.cm_binary_forms.specs.Sections.{section, room_after}
use Rattle.cm_binary_forms.proofs.LawfulSections.{section_lawful, section_nonempty}
use Rattle.cm_lemmas.proofs.Lists.{IsBytes}

pub section_shorter : (room : ℕ) (e : End DecodeReason) (bytes : List ℕ) (x : SectionTree) (behind : List ℕ) → IsBytes bytes → (section room).reads e bytes ≡ Ok (x, behind) → length behind < length bytes
section_shorter room e bytes x behind fits h =
    let t = (section_lawful room).takes e bytes x behind fits h in
    omega (arith, section_nonempty room x t.front t.spells, simp length-append at (ap length t.parts))

pub section_behind : (room : ℕ) (e : End DecodeReason) (bytes : List ℕ) (x : SectionTree) (behind : List ℕ) → IsBytes bytes → (section room).reads e bytes ≡ Ok (x, behind) → IsBytes behind
section_behind room e bytes x behind fits h =
    let t = (section_lawful room).takes e bytes x behind fits h in
    IsBytes-after bytes t.front behind t.parts fits

pub sections_more : (items pushed : List Section) (x : Section) (room behind_room : ℕ) (e behind_e : End DecodeReason) (bytes behind : List ℕ) (total : Result (List SectionTree) (Fault DecodeReason))
    → pushed ≡ items ++ x ∷ [] → behind_e ≡ e → behind_room ≡ room_after room (section_tree x) → IsBytes bytes → 0 < length bytes
    → (section room).reads e bytes ≡ Ok (section_tree x, behind)
    → with_each (map section_tree items) ((to_end section room_after room).reads e bytes) ≡ total
    → with_each (map section_tree pushed) ((to_end section room_after behind_room).reads behind_e behind) ≡ total
sections_more items pushed x room behind_room e behind_e bytes behind total push same rooms fits some h so_far =
    let more = to_end_more section room_after section_lawful section_nonempty (map section_tree items) room e bytes (section_tree x) behind total fits some h so_far in
    rw (push, map_push section_tree items x, same, rooms) more

pub sections_fail : (items : List Section) (room : ℕ) (e : End DecodeReason) (bytes : List ℕ) (err : ReadError DecodeReason) (total : Result (List SectionTree) (Fault DecodeReason))
    → 0 < length bytes → Fails err ((section room).reads e bytes)
    → with_each (map section_tree items) ((to_end section room_after room).reads e bytes) ≡ total → Fails err total
sections_fail items room e bytes err total some h so_far = to_end_fails section room_after section_lawful section_nonempty (map section_tree items) room e bytes err total some h so_far
