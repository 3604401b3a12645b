use Rattle.std.proofs.Common.{◌≡◌, None, sym, ap, ◌∙◌}
use Rattle.std.specs.Prelude.{is_some}
use Rattle.cm_validate_core.specs.NameMaps.{entries_of}
use Rattle.cm_validate_core.specs.NamedValues.{names_in, place_of}
use Rattle.cm_validate_core.proofs.PlaceLaws.{place_last, places_kept}
use Rattle.cm_validate_core.proofs.aliases.memory_number.Goals as goal

pub returns-clause-named : goal.returns-clause-named
returns-clause-named c =
    let old = entries_of c.args.names.now in
    let absent : place_of c.args.export.name.now (names_in old) ≡ None = sym c.place.ensures ∙ c.in_default.is in
    place_last old (entries_of c.insert.new.self) (c.args.export.name, tt) c.len-number.result (c.in_ok-insert.ensures.added (ap is_some absent)) absent c.len-number.ensures

pub returns-clause-others : goal.returns-clause-others
returns-clause-others c =
    let old = entries_of c.args.names.now in
    let absent : place_of c.args.export.name.now (names_in old) ≡ None = sym c.place.ensures ∙ c.in_default.is in
    places_kept old (entries_of c.insert.new.self) (c.args.export.name, tt) (c.in_ok-insert.ensures.added (ap is_some absent))
