use Rattle.std.proofs.Common.{◌≡◌, ◌++◌, ◌∷◌, [], None, sym, subst, ◌∙◌, arith, length}
use Rattle.std.proofs.lemmas.Grind.{common_steps}
use Rattle.cm_validate_core.specs.NamedValues.{ArePlaced, names_in, place_of}
use Rattle.cm_validate_core.proofs.NamePlaceLaws.{put_last}
use Rattle.cm_validate_core.proofs.name_map.NameMap.insert.Goals as goal
use Rattle.cm_lemmas.proofs.Options.{is_none}

pub invariant_of-self-2 : goal.invariant_of-self-2
invariant_of-self-2 g c =
    let old = c.args.self.now in
    let es = old.entries.items in
    let items : c.push.new.self.items ≡ es ++ (c.args.name, c.args.value) ∷ [] = grind (arith, common_steps) in
    let absent : place_of c.args.name.now (names_in es) ≡ None = sym (old.are_placed c.args.name.now) ∙ is_none _ (sym c.contains_key.ensures ∙ c.if-contains_key.false) in
    let last : c.len-place.result ≡ length es = grind (arith, common_steps) in
    record {
      are_placed = subst (λ xs. ArePlaced c.insert.new.self (names_in xs)) (sym items) (put_last old.places c.insert.new.self es (c.args.name, c.args.value) c.len-place.result old.are_placed absent last c.in_ok-insert.ensures.updates);
    }
