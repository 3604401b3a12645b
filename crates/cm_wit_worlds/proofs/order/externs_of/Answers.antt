use Rattle.std.proofs.Common.{◌≡◌, ◌++◌, List, Option, ℕ, map, length, sym, ap, ◌∙◌}
use Rattle.std.proofs.lemmas.List.{length-map}
use Rattle.cm_wit_reading.specs.Views.{world_item_tree}
use Rattle.cm_wit_worlds.specs.Interfaces as spec
use Rattle.cm_wit_worlds.specs.Interfaces.{use_targets}
use Rattle.cm_wit_worlds.specs.InterfaceViews.{files_of, placed_interface, placed_world}
use Rattle.cm_wit_worlds.specs.Externs.{imports_from, exports_from, found}
use Rattle.cm_wit_worlds.specs.Worlds.{rows_of, written_imports, written_exports, named}
use Rattle.cm_wit_worlds.proofs.OrderLaws.{imports_same, missing_same, cycle_same}
use Rattle.cm_wit_worlds.proofs.order.externs_of.Goals as goal
use Rattle.cm_lemmas.proofs.Bools.{true_not_false}

pub returns-then-reach : goal.returns-then-reach
returns-then-reach c =
    let fs = files_of c.args.directory.now.files.items in
    let w = placed_world c.args.world.now in
    let count = sym (length-map c.args.interfaces.now placed_interface) ∙ ap length c.requires in
    let rows : map (λ r. r.items) c.deref-3.result.now ≡ rows_of fs = ap (map (λ r. r.items)) c.deref-3.ensures.value ∙ (c.in_ok-rows.ensures ∙ ap (map (use_targets fs)) c.requires) in
    let into : c.in_ok-imports.imports.items ≡ written_imports fs w = c.in_ok-imports.ensures ∙ (ap (λ (n : ℕ). imports_from fs w.place n 0 (map world_item_tree c.deref.result.now)) count ∙ ap (λ its. imports_from fs w.place (length (spec.interfaces fs)) 0 (map world_item_tree its)) c.deref.ensures.value) in
    let out : c.in_ok-exports.exports.items ≡ written_exports fs w = c.in_ok-exports.ensures ∙ (ap (λ (n : ℕ). exports_from fs w.place n 0 (map world_item_tree c.deref-2.result.now)) count ∙ ap (λ its. exports_from fs w.place (length (spec.interfaces fs)) 0 (map world_item_tree its)) c.deref-2.ensures.value) in
    let all : c.deref-6.result.now ≡ named fs w = c.deref-6.ensures.value ∙ (c.in_ok-joined.ensures ∙ (ap (λ (l : List (Option ℕ)). l ++ c.deref-5.result.now) (c.deref-4.ensures.value ∙ into) ∙ ap (λ (l : List (Option ℕ)). written_imports fs w ++ l) (c.deref-5.ensures.value ∙ out))) in
    let missing = missing_same (map (λ r. r.items) c.deref-3.result.now) (rows_of fs) c.deref-6.result.now (named fs w) c.in_ok-reach.reach.missing rows all c.in_ok-reach.ensures.missing in
    missing.0 c.if-reach.true

pub returns-then-reach-2 : goal.returns-then-reach-2
returns-then-reach-2 c =
    let fs = files_of c.args.directory.now.files.items in
    let w = placed_world c.args.world.now in
    let count = sym (length-map c.args.interfaces.now placed_interface) ∙ ap length c.requires in
    let rows : map (λ r. r.items) c.deref-3.result.now ≡ rows_of fs = ap (map (λ r. r.items)) c.deref-3.ensures.value ∙ (c.in_ok-rows.ensures ∙ ap (map (use_targets fs)) c.requires) in
    let into : c.in_ok-imports.imports.items ≡ written_imports fs w = c.in_ok-imports.ensures ∙ (ap (λ (n : ℕ). imports_from fs w.place n 0 (map world_item_tree c.deref.result.now)) count ∙ ap (λ its. imports_from fs w.place (length (spec.interfaces fs)) 0 (map world_item_tree its)) c.deref.ensures.value) in
    let out : c.in_ok-exports.exports.items ≡ written_exports fs w = c.in_ok-exports.ensures ∙ (ap (λ (n : ℕ). exports_from fs w.place n 0 (map world_item_tree c.deref-2.result.now)) count ∙ ap (λ its. exports_from fs w.place (length (spec.interfaces fs)) 0 (map world_item_tree its)) c.deref-2.ensures.value) in
    let all : c.deref-6.result.now ≡ named fs w = c.deref-6.ensures.value ∙ (c.in_ok-joined.ensures ∙ (ap (λ (l : List (Option ℕ)). l ++ c.deref-5.result.now) (c.deref-4.ensures.value ∙ into) ∙ ap (λ (l : List (Option ℕ)). written_imports fs w ++ l) (c.deref-5.ensures.value ∙ out))) in
    let missing = missing_same (map (λ r. r.items) c.deref-3.result.now) (rows_of fs) c.deref-6.result.now (named fs w) c.in_ok-reach.reach.missing rows all c.in_ok-reach.ensures.missing in
    let cyclic = cycle_same (map (λ r. r.items) c.deref-3.result.now) (rows_of fs) c.deref-6.result.now (named fs w) c.in_ok-reach.reach.cyclic rows all c.in_ok-reach.ensures.cyclic in
    (λ m. true_not_false (sym (missing.1 m) ∙ c.if-reach.false), cyclic.0 c.if-reach-2.true)

pub returns : goal.returns
returns c =
    let fs = files_of c.args.directory.now.files.items in
    let w = placed_world c.args.world.now in
    let count = sym (length-map c.args.interfaces.now placed_interface) ∙ ap length c.requires in
    let rows : map (λ r. r.items) c.deref-3.result.now ≡ rows_of fs = ap (map (λ r. r.items)) c.deref-3.ensures.value ∙ (c.in_ok-rows.ensures ∙ ap (map (use_targets fs)) c.requires) in
    let into : c.in_ok-imports.imports.items ≡ written_imports fs w = c.in_ok-imports.ensures ∙ (ap (λ (n : ℕ). imports_from fs w.place n 0 (map world_item_tree c.deref.result.now)) count ∙ ap (λ its. imports_from fs w.place (length (spec.interfaces fs)) 0 (map world_item_tree its)) c.deref.ensures.value) in
    let out : c.in_ok-exports.exports.items ≡ written_exports fs w = c.in_ok-exports.ensures ∙ (ap (λ (n : ℕ). exports_from fs w.place n 0 (map world_item_tree c.deref-2.result.now)) count ∙ ap (λ its. exports_from fs w.place (length (spec.interfaces fs)) 0 (map world_item_tree its)) c.deref-2.ensures.value) in
    let all : c.deref-6.result.now ≡ named fs w = c.deref-6.ensures.value ∙ (c.in_ok-joined.ensures ∙ (ap (λ (l : List (Option ℕ)). l ++ c.deref-5.result.now) (c.deref-4.ensures.value ∙ into) ∙ ap (λ (l : List (Option ℕ)). written_imports fs w ++ l) (c.deref-5.ensures.value ∙ out))) in
    let missing = missing_same (map (λ r. r.items) c.deref-3.result.now) (rows_of fs) c.deref-6.result.now (named fs w) c.in_ok-reach.reach.missing rows all c.in_ok-reach.ensures.missing in
    let cyclic = cycle_same (map (λ r. r.items) c.deref-3.result.now) (rows_of fs) c.deref-6.result.now (named fs w) c.in_ok-reach.reach.cyclic rows all c.in_ok-reach.ensures.cyclic in
    let own : map (λ r. r.items) c.deref-8.result.now ≡ rows_of fs = ap (map (λ r. r.items)) c.deref-8.ensures.value ∙ (c.in_ok-rows.ensures ∙ ap (map (use_targets fs)) c.requires) in
    let exports : c.in_ok-exports-2.exports.items ≡ found (written_exports fs w) = c.in_ok-exports-2.ensures ∙ ap found (c.deref-7.ensures.value ∙ out) in
    record {
      externs = record {
        imports = imports_same (map (λ r. r.items) c.deref-8.result.now) (rows_of fs) c.deref-10.result.now (found (written_imports fs w)) c.deref-11.result.now (found (written_exports fs w)) c.in_ok-imports-2.imports.items own (c.deref-10.ensures.value ∙ (c.in_ok-found.ensures ∙ ap found (c.deref-9.ensures.value ∙ into))) (c.deref-11.ensures.value ∙ exports) c.in_ok-imports-2.ensures;
        exports = exports;
      };
      found = λ m. true_not_false (sym (missing.1 m) ∙ c.if-reach.false);
      acyclic = λ m. true_not_false (sym (cyclic.1 m) ∙ c.if-reach-2.false);
    }
