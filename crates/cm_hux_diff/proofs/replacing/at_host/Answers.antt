use Rattle.std.proofs.Common.{◌≡◌, List, map, ap, refl, sym, ◌∙◌}
use Rattle.cm_types.specs.Signatures.{NamedExtern}
use Rattle.cm_types_arena.specs.Listed.{externs_listed}
use Rattle.cm_types_arena.specs.Signatures.{imports_in}
use Rattle.cm_hux_diff.specs.Breaking.{marked}
use Rattle.cm_hux_diff.specs.Facing.{host_face, names}
use Rattle.cm_hux_diff.specs.Held.{Entry, entries_from, host_entries}
use Rattle.cm_hux_diff.specs.Views.{entry_view}
use Rattle.cm_hux_diff.specs.declared.facing.Face.{Face}
use Rattle.cm_hux_diff.proofs.Standings.{by_table, noted_as, standing_marked}
use Rattle.cm_hux_diff.proofs.replacing.at_host.Goals as goal

pub returns : goal.returns
returns c =
    let w = c.args.of.now.types in
    let o = c.args.served.now.types in
    let theirs = imports_in c.args.served.now in
    let ours = imports_in c.args.of.now in
    let listed : externs_listed o c.imports-offered.result.now ≡ theirs = c.imports-offered.ensures.externs in
    let wanted : externs_listed w c.imports-wanted.result.now ≡ ours = c.imports-wanted.ensures.externs in
    let entries : map (entry_view w o) c.in_ok-entries.entries.items ≡ host_entries theirs ours =
    c.in_ok-entries.ensures w o (host_face (names theirs)) (c.deref.ensures.value ∙ (c.in_ok-faces.ensures ∙ ap (λ (l : List NamedExtern). map (host_face (names theirs)) (names l)) (sym wanted)))
    ∙ (ap (λ (l : List NamedExtern). entries_from (host_face (names theirs)) l 0 (externs_listed w c.imports-wanted.result.now)) listed
    ∙ ap (entries_from (host_face (names theirs)) theirs 0) wanted) in
    record {
      faces = c.in_ok-faces.ensures;
      entries = entries;
      bound = λ n. noted_as (by_table c.new-none.result 0) (marked 0) _ (host_entries theirs ours) n _ _ _ (standing_marked c.new-none.result 0 c.new-none.ensures) (ap (map (entry_view w o)) c.deref-2.ensures.value ∙ entries) (c.new-bound.ensures n) (c.in_ok-note_all.ensures w o n);
    }
