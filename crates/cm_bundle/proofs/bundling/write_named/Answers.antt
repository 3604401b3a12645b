use Rattle.std.proofs.Common.{◌≡◌, ◌∙◌, ◌<◌, ◌∷◌, [], List, ℕ, length, map, ap, arith}
use Rattle.std.proofs.lemmas.Grind.{common_steps}
use Rattle.cm_lemmas.proofs.Lists.{map_length}
use Rattle.cm_match.specs.Linked.{set_in}
use Rattle.cm_bundle.specs.Names.{name_sections, names_spelled}
use Rattle.cm_bundle.specs.Trees.{GroupTree, NameTree, group_tree, name_tree}
use Rattle.cm_bundle.proofs.Kept.{named_so, unwritten_so, written_so}
use Rattle.cm_bundle.proofs.NameLaws.{one_section}
use Rattle.cm_bundle.proofs.bundling.write_named.Goals as goal

pub returns-clause-written : goal.returns-clause-written
returns-clause-written c =
    let front : List GroupTree = map group_tree c.args.front.now in
    let files : List (List ℕ) = map (λ f. f.now) c.args.files.now in
    let names : List NameTree = map name_tree c.args.names.now in
    let count = map_length name_tree c.args.names.now in
    let some : 0 < length names = grind (arith, common_steps) in
    let contents : c.as_slice.result.now ≡ names_spelled names = c.as_slice.ensures.value ∙ c.in_ok-section.ensures.spelled in
    let customs : c.as_slice.result.now ∷ [] ≡ name_sections names = ap (λ (t : List ℕ). t ∷ []) contents ∙ one_section names some in
    written_so c.write_set-2.result (set_in c.args.linked.now) front files c.args.exporter names (c.as_slice.result.now ∷ []) customs c.write_set-2.ensures.written

pub returns-clause-names : goal.returns-clause-names
returns-clause-names c =
    let front : List GroupTree = map group_tree c.args.front.now in
    let files : List (List ℕ) = map (λ f. f.now) c.args.files.now in
    let names : List NameTree = map name_tree c.args.names.now in
    named_so c.write_set-2.result (set_in c.args.linked.now) front files c.args.exporter names c.in_ok-section.ensures.texts (returns-clause-written c)

pub returns-clause-refused : goal.returns-clause-refused
returns-clause-refused c =
    let front : List GroupTree = map group_tree c.args.front.now in
    let files : List (List ℕ) = map (λ f. f.now) c.args.files.now in
    let names : List NameTree = map name_tree c.args.names.now in
    let count = map_length name_tree c.args.names.now in
    let some : 0 < length names = grind (arith, common_steps) in
    let contents : c.as_slice.result.now ≡ names_spelled names = c.as_slice.ensures.value ∙ c.in_ok-section.ensures.spelled in
    let customs : c.as_slice.result.now ∷ [] ≡ name_sections names = ap (λ (t : List ℕ). t ∷ []) contents ∙ one_section names some in
    unwritten_so c.write_set-2.result (set_in c.args.linked.now) front files c.args.exporter names (c.as_slice.result.now ∷ []) customs c.write_set-2.ensures.refused
