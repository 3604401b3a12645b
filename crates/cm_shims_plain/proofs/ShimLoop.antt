-- The loop over the sections of a shim.
use Rattle.std.proofs.Common.{◌≡◌, ℕ, ◌<◌, List, [], ◌∷◌, ◌++◌, length, map, Result, Ok, ap, arith}
use Rattle.std.proofs.lemmas.List.{map_push, length-append}
use Rattle.cm_binary_grammar.specs.declared.fault.Fault.{Fault}
use Rattle.cm_binary_grammar.specs.declared.fault.End.{End}
use Rattle.cm_binary_grammar.specs.declared.fault.ReadError.{ReadError}
use Rattle.cm_binary_grammar.specs.Faults.{Fails}
use Rattle.cm_binary_grammar.specs.Whole.{to_end}
use Rattle.cm_binary_grammar.proofs.Tools.{IsBytes-after}
use Rattle.cm_binary_grammar.proofs.ReadingLaws.{with_each, to_end_more, to_end_fails}
use Rattle.cm_shims_plain.specs.declared.parts.ShimSection.{ShimSection}
use Rattle.cm_shims_plain.specs.Trees.{ShimSectionTree, shim_section_tree}
use Rattle.cm_binary_forms.specs.declared.fault.DecodeReason.{DecodeReason}
use Rattle.cm_shims_plain.specs.Shims.{shim_section, shim_room_after}
use Rattle.cm_shims_plain.proofs.LawfulShims.{shim_section_lawful, shim_section_nonempty}
use Rattle.cm_lemmas.proofs.Lists.{IsBytes}

pub shim_section_shorter : (room : ℕ) (e : End DecodeReason) (bytes : List ℕ) (x : ShimSectionTree) (behind : List ℕ) → IsBytes bytes → (shim_section room).reads e bytes ≡ Ok (x, behind) → length behind < length bytes
shim_section_shorter room e bytes x behind fits h =
    let t = (shim_section_lawful room).takes e bytes x behind fits h in
    omega (arith, shim_section_nonempty room x t.front t.spells, simp length-append at (ap length t.parts))

pub shim_section_behind : (room : ℕ) (e : End DecodeReason) (bytes : List ℕ) (x : ShimSectionTree) (behind : List ℕ) → IsBytes bytes → (shim_section room).reads e bytes ≡ Ok (x, behind) → IsBytes behind
shim_section_behind room e bytes x behind fits h =
    let t = (shim_section_lawful room).takes e bytes x behind fits h in
    IsBytes-after bytes t.front behind t.parts fits

pub shim_sections_more : (items pushed : List ShimSection) (x : ShimSection) (room behind_room : ℕ) (e behind_e : End DecodeReason) (bytes behind : List ℕ) (total : Result (List ShimSectionTree) (Fault DecodeReason))
    → pushed ≡ items ++ x ∷ [] → behind_e ≡ e → behind_room ≡ shim_room_after room (shim_section_tree x) → IsBytes bytes → 0 < length bytes
    → (shim_section room).reads e bytes ≡ Ok (shim_section_tree x, behind)
    → with_each (map shim_section_tree items) ((to_end shim_section shim_room_after room).reads e bytes) ≡ total
    → with_each (map shim_section_tree pushed) ((to_end shim_section shim_room_after behind_room).reads behind_e behind) ≡ total
shim_sections_more items pushed x room behind_room e behind_e bytes behind total push same rooms fits some h so_far =
    let more = to_end_more shim_section shim_room_after shim_section_lawful shim_section_nonempty (map shim_section_tree items) room e bytes (shim_section_tree x) behind total fits some h so_far in
    rw (push, map_push shim_section_tree items x, same, rooms) more

pub shim_sections_fail : (items : List ShimSection) (room : ℕ) (e : End DecodeReason) (bytes : List ℕ) (err : ReadError DecodeReason) (total : Result (List ShimSectionTree) (Fault DecodeReason))
    → 0 < length bytes → Fails err ((shim_section room).reads e bytes)
    → with_each (map shim_section_tree items) ((to_end shim_section shim_room_after room).reads e bytes) ≡ total → Fails err total
shim_sections_fail items room e bytes err total some h so_far = to_end_fails shim_section shim_room_after shim_section_lawful shim_section_nonempty (map shim_section_tree items) room e bytes err total some h so_far
