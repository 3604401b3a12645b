use Rattle.std.proofs.Common.{◌≡◌, ◌∙◌, ◌++◌, Some, true, false, sym, ap, subst, slice_get}
use Rattle.std.specs.Option.{option_map}
use Rattle.std.proofs.lemmas.Result.{on_ok_weaker}
use Rattle.cm_match_model.specs.Imports.{exports_from}
use Rattle.cm_match_model.specs.Sights.{is_seen_at, seen_before}
use Rattle.cm_match_serving.specs.ExportTables.{HasExports}
use Rattle.cm_match_serving.specs.Sets.{spaces_of_all}
use Rattle.cm_validate_spaces.specs.Checked.{funcs_in, spaces_in, types_in}
use Rattle.cm_match_serving.proofs.Rows.{read_at, set_at}
use Rattle.cm_match_serving.proofs.Seeing.{hidden_next, seen_next}
use Rattle.cm_match_serving.proofs.import_candidates.add_if_seen.Goals as goal
use Rattle.cm_lemmas.proofs.Lists.{item_there}

pub returns-then-not-is_seen : goal.returns-then-not-is_seen
returns-then-not-is_seen c = λ has.
    let cs = c.args.components.now in
    let set = spaces_of_all cs in
    let places = c.args.choices.now.places.items in
    let n = c.args.at in
    let x = item_there cs n c.requires in
    let there : slice_get set n ≡ Some (spaces_in x.0) = set_at cs n ∙ ap (option_map spaces_in) x.1 in
    let hidden : is_seen_at places n ≡ false = sym c.is_seen.ensures ∙ c.if-not-is_seen.true in
    subst (HasExports c.args.exports.now) (sym (hidden_next set places n (spaces_in x.0) there hidden)) has

pub returns : goal.returns
returns c =
    let cs = c.args.components.now in
    let set = spaces_of_all cs in
    let places = c.args.choices.now.places.items in
    let n = c.args.at in
    let x = c.index-components-at.result in
    let there : slice_get set n ≡ Some (spaces_in x) = set_at cs n ∙ ap (option_map spaces_in) (read_at cs n x c.requires c.index-components-at.is) in
    let seen : is_seen_at places n ≡ true = sym c.is_seen.ensures ∙ c.if-not-is_seen.false in
    let next = seen_next set places n (spaces_in x) there seen ∙ ap (λ es. seen_before set places n ++ exports_from n 0 es) c.exports.ensures.are in
    on_ok_weaker c.add_exports.result (λ h has. subst (HasExports c.add_exports.new.exports) (sym next) (h (types_in x) (funcs_in x) (seen_before set places n) has)) c.add_exports.ensures
