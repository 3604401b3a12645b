use Rattle.std.proofs.Common.{◌≡◌, List, map, ap, sym, ◌∙◌}
use Rattle.std.specs.Option.{option_or}
use Rattle.cm_lemmas.proofs.Results.{if_ok_more}
use Rattle.cm_types.specs.Signatures.{NamedExtern}
use Rattle.cm_types_arena.specs.Listed.{externs_listed}
use Rattle.cm_types_arena.specs.Signatures.{exports_in, imports_in, signature_of}
use Rattle.cm_hux_diff.specs.Breaking.{at_host, bound, offered_to_users, wanted_by_users}
use Rattle.cm_hux_diff.specs.Facing.{names}
use Rattle.cm_hux_diff.specs.Held.{entries_from, used_face, user_entries}
use Rattle.cm_hux_diff.specs.Views.{entry_view, standing_of}
use Rattle.cm_hux_diff.proofs.Standings.{breaks_as, by_table, noted_as, standing_as}
use Rattle.cm_hux_diff.proofs.replacing.users_broken.Goals as goal

pub returns : goal.returns
returns c =
    let old = c.args.old.now in
    let new = c.args.new.now in
    let before = signature_of old in
    let after = signature_of new in
    let wanted : externs_listed old.types c.exports-wants.result.now ≡ exports_in old = c.exports-wants.ensures.externs in
    let offered : externs_listed new.types c.exports-offers.result.now ≡ exports_in new = c.exports-offers.ensures.externs in
    let entries : map (entry_view old.types new.types) c.in_ok-entries.entries.items ≡ user_entries before after =
    c.in_ok-entries.ensures old.types new.types (used_face before after) (c.requires.faces ∙ ap (λ (l : List NamedExtern). map (used_face before after) (names l)) (sym wanted))
    ∙ (ap (λ (l : List NamedExtern). entries_from (used_face before after) l 0 (externs_listed old.types c.exports-wants.result.now)) offered
    ∙ ap (entries_from (used_face before after) (exports_in new) 0) wanted) in
    let offering = standing_as c.args.hosts.now.bound 1 (at_host (imports_in old) (imports_in new)) c.requires.hosts.bound in
    if_ok_more c.breaks_of.result _ _ c.breaks_of.ensures (λ bs h.
    breaks_as (by_table c.note_all.new.self 2) (wanted_by_users before after) (by_table c.args.hosts.now.bound 1) (offered_to_users before after) _ (user_entries before after) bs.items
    (standing_as c.note_all.new.self 2 (λ n. option_or (at_host (imports_in old) (imports_in old) n) (bound (offered_to_users before after) (user_entries before after) n))
    (λ n. noted_as (by_table c.args.hosts.now.bound 1) (offered_to_users before after) _ (user_entries before after) n _ _ _ offering (ap (map (entry_view old.types new.types)) c.deref.ensures.value ∙ entries) (c.requires.given.bound n) (c.in_ok-note_all.ensures old.types new.types n)))
    offering
    (ap (λ t. map (entry_view t c.types.result.now) c.deref-2.result.now) c.types-2.ensures
    ∙ (ap (λ t. map (entry_view old.types t) c.deref-2.result.now) c.types.ensures
    ∙ (ap (map (entry_view old.types new.types)) c.deref-2.ensures.value ∙ entries)))
    h)
