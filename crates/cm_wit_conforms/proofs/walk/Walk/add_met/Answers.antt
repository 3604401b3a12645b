use Rattle.std.proofs.Common.{◌≡◌, ◌+◌, ◌++◌, length, arith, rules}
use Rattle.std.proofs.lemmas.List.{length-append}
use Rattle.cm_types_arena.specs.Listed.{items_listed}
use Rattle.cm_wit_conforms.specs.Views.{other, own}
use Rattle.cm_wit_conforms.specs.Walks.{facing_entries}
use Rattle.cm_wit_conforms.proofs.PlacedLaws.{entries_long}
use Rattle.cm_wit_conforms.proofs.walk.Walk.add_met.Goals as goal

pub returns : goal.returns
returns c = λ h w es k.
    let f = c.args.facing in
    let mine = own f.list h w in
    let theirs = other f.list h w in
    let all = facing_entries h w f in
    let next : c.in_ok-count.count ≡ c.args.self.now.count + c.len.result = search rules in
    let long : length all ≡ length (items_listed mine f.items) = entries_long mine theirs f.list f.place f.items f.others in
    let more : length (es ++ all) ≡ length es + length all = length-append es all in
    record {
      judged = c.in_ok-judge_met.ensures h w es k.judged;
      pairs = c.in_ok-note_met.ensures h w es k.count k.pairs;
      count = omega (arith, next, long, more, k.count, c.len.ensures mine);
    }
