use Rattle.std.proofs.Common.{◌≡◌, ◌<◌, ◌≤◌, ℕ, List, length, map, true, subst, arith}
use Rattle.std.specs.List.{AllByRecursion}
use Rattle.std.proofs.lemmas.List.{take_all}
use Rattle.cm_types.specs.Spellable.{is_spellable}
use Rattle.cm_types_arena.specs.Places.{funcs_of, types_of}
use Rattle.cm_types_arena.specs.TypeDefs.{func_at, type_at}
use Rattle.cm_machine_links.proofs.PassingFacts.{one_spelled_more, spelled_of}
use Rattle.cm_machine_links.proofs.passing.params_are_spellable.Goals as goal
use Rattle.cm_lemmas.proofs.Lists.{all_at}

pub types_are_lawful-requires : goal.types_are_lawful-requires
types_are_lawful-requires c = all_at (λ q. q < length (types_of c.args.types.now)) c.func_params-place-items.result.now c.loop-place.place-index c.func_params-place-items.ensures.there c.loop-place-test.true

pub loop-place-preserved : goal.loop-place-preserved
loop-place-preserved c = one_spelled_more (type_at (types_of c.args.types.now)) c.func_params-place-items.result.now c.loop-place.place-index c.loop-place-test.true c.types_are_lawful.ensures.spellable c.loop-place.invariant

pub returns : goal.returns
returns c =
    let at = type_at (types_of c.args.types.now) in
    let ps : List ℕ = c.func_params-place-items.result.now in
    let le : length ps ≤ c.loop-place.place-index = omega (arith, c.loop-place-test.false) in
    spelled_of (map at ps) (func_at (funcs_of c.args.types.now) c.args.func).params c.func_params-place-items.ensures.params
    (subst (λ (l : List ℕ). AllByRecursion (λ t. is_spellable t ≡ true) (map at l)) (take_all c.loop-place.place-index ps le) c.loop-place.invariant)
