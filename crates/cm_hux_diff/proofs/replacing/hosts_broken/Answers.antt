use Rattle.std.proofs.Common.{map, ap, ◌∙◌}
use Rattle.cm_lemmas.proofs.Results.{if_ok_more}
use Rattle.cm_types_arena.specs.Signatures.{imports_in, signature_of}
use Rattle.cm_hux_diff.specs.Breaking.{at_host, marked, wanted_of_hosts}
use Rattle.cm_hux_diff.specs.Held.{host_entries}
use Rattle.cm_hux_diff.specs.Views.{entry_view}
use Rattle.cm_hux_diff.proofs.Standings.{breaks_as, by_table, standing_as, standing_marked}
use Rattle.cm_hux_diff.proofs.replacing.hosts_broken.Goals as goal

pub returns : goal.returns
returns c =
    let old = c.args.old.now in
    let new = c.args.new.now in
    if_ok_more c.breaks_of.result _ _ c.breaks_of.ensures (λ bs h.
    breaks_as (by_table c.args.hosts.now.bound 2) (wanted_of_hosts (signature_of old) (signature_of new)) (by_table c.new-none.result 0) (marked 0) _ (host_entries (imports_in old) (imports_in new)) bs.items
    (standing_as c.args.hosts.now.bound 2 (at_host (imports_in old) (imports_in new)) c.requires.bound)
    (standing_marked c.new-none.result 0 c.new-none.ensures)
    (ap (λ t. map (entry_view t c.types-2.result.now) c.deref.result.now) c.types.ensures
    ∙ (ap (λ t. map (entry_view new.types t) c.deref.result.now) c.types-2.ensures
    ∙ (ap (map (entry_view new.types old.types)) c.deref.ensures.value ∙ c.requires.entries)))
    h)
