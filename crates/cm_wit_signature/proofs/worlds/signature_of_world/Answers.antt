use Rattle.std.proofs.Common.{rules, ◌≡◌, ◌≤◌, ◌∙◌, Some, length, map, ap, sym}
use Rattle.std.specs.List.{position_from}
use Rattle.cm_wit_worlds.specs.Interfaces.{is_world, worlds}
use Rattle.cm_wit_worlds.specs.InterfaceViews.{files_of, placed_world}
use Rattle.cm_wit_signature.proofs.FoundLaws.{world_found, none_found, fault_of_found}
use Rattle.cm_wit_signature.proofs.worlds.signature_of_world.Goals as goal

pub returns-in-Some-get-clause-fault : goal.returns-in-Some-get-clause-fault
returns-in-Some-get-clause-fault c =
    let fs = files_of c.args.directory.now.files.items in
    let of_files : map placed_world c.in_ok-worlds.worlds.items ≡ worlds fs = c.in_ok-worlds.ensures ∙ ap (λ fs2. worlds (files_of fs2)) c.deref.ensures.value in
    let e : map placed_world c.deref-3.result.now ≡ worlds fs = ap (map placed_world) c.deref-3.ensures.value ∙ of_files in
    let same : c.deref-2.result.now ≡ c.deref-3.result.now = c.deref-2.ensures.value ∙ sym c.deref-3.ensures.value in
    let at : position_from (is_world fs c.args.name.now) 0 (map placed_world c.deref-3.result.now) ≡ Some c.in-Some.number = ap (λ ws. position_from (is_world fs c.args.name.now) 0 (map placed_world ws)) (sym same) ∙ (sym c.in_ok-number.ensures ∙ c.in-Some.is) in
    let is = world_found fs c.args.name.now c.deref-3.result.now c.in-Some.number e at c.in-Some-get.world.now c.in-Some-get.ensures.lookup.3.0 c.in-Some-get.ensures.lookup.1 in
    fault_of_found fs c.args.name.now (placed_world c.in-Some-get.world.now) is c.signature_of_placed.result c.signature_of_placed.ensures.fault

pub returns-clause-fault : goal.returns-clause-fault
returns-clause-fault c =
    let fs = files_of c.args.directory.now.files.items in
    let of_files : map placed_world c.in_ok-worlds.worlds.items ≡ worlds fs = c.in_ok-worlds.ensures ∙ ap (λ fs2. worlds (files_of fs2)) c.deref.ensures.value in
    let e : map placed_world c.deref-3.result.now ≡ worlds fs = ap (map placed_world) c.deref-3.ensures.value ∙ of_files in
    let same : c.deref-2.result.now ≡ c.deref-3.result.now = c.deref-2.ensures.value ∙ sym c.deref-3.ensures.value in
    let at : position_from (is_world fs c.args.name.now) 0 (map placed_world c.deref-3.result.now) ≡ Some c.in-Some.number = ap (λ ws. position_from (is_world fs c.args.name.now) 0 (map placed_world ws)) (sym same) ∙ (sym c.in_ok-number.ensures ∙ c.in-Some.is) in
    let le : length c.deref-3.result.now ≤ c.in-Some.number = search rules in
    none_found fs c.args.name.now c.deref-3.result.now c.in-Some.number e at le
