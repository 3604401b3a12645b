use Rattle.std.proofs.Common.{◌≡◌, ◌+◌, ◌≤◌, ◌∙◌, ℕ, List, Some, None, ap, get_or, length, rules, subst, sym}
use Rattle.std.specs.List.{slice_get}
use Rattle.std.proofs.lemmas.Option.{slice_get-get_or}
use Rattle.cm_wit_conforms.specs.Known.{places_in}
use Rattle.cm_wit_conforms.specs.Views.{entry_of, other, own}
use Rattle.cm_wit_conforms.specs.Walks.{facing_entries}
use Rattle.cm_wit_conforms.specs.Pairs.{NoteBoth}
use Rattle.cm_wit_conforms.proofs.NoteLaws.{BothNoting, both_end, both_none, both_more, both_start}
use Rattle.cm_wit_conforms.proofs.PlacedLaws.{found_covered}
use Rattle.cm_wit_conforms.proofs.TakenLaws.{entry_is}
use Rattle.cm_wit_conforms.proofs.walk.note_met.Goals as goal
use Rattle.cm_wit_conforms.proofs.walk.note_met.Goals.{in-Some+in_ok-number+in_ok-note, in_default}

pub loop-place-init : goal.loop-place-init
loop-place-init c = λ h w es at has. both_start es (facing_entries h w c.args.facing) (places_in c.args.meeting.now) c.args.pairs.now has

pub compared_at-requires : goal.compared_at-requires
compared_at-requires c = λ t u. c.at.ensures ∙ (c.requires t u).found (get_or c.places-place-items.result.now c.loop-place.place-index 0)

pub loop-place-preserved : goal.loop-place-preserved
loop-place-preserved c = λ h w es at has.
    let idx = c.loop-place.place-index in
    let p = get_or c.places-place-items.result.now idx 0 in
    let places = places_in c.args.meeting.now in
    let all = facing_entries h w c.args.facing in
    let view = entry_of h w in
    let shown = c.compared_at.ensures h w in
    let before = c.loop-place.invariant h w es at has in
    let stands : slice_get places idx ≡ Some p = ap (λ (l : List ℕ). slice_get l idx) (sym c.places-place-items.ensures) ∙ slice_get-get_or c.places-place-items.result.now idx 0 c.loop-place-test.true in
    elim c.match-compared_at.branch [
      | in-Some+in_ok-number+in_ok-note b ↦
          let number : b.in_ok-number.number ≡ c.args.count + p = search rules in
          let x = view b.in-Some.each in
          let noted = subst (λ (k : ℕ). NoteBoth x.what c.loop-place.pairs b.note.new.self k) (number ∙ ap (λ (k : ℕ). k + p) at) (b.in_ok-note.ensures h w) in
          subst (BothNoting es all places (idx + 1)) (sym b.pairs-is)
          (both_more es all places idx p x c.loop-place.pairs b.note.new.self stands (entry_is view c.compared_at.result (Some b.in-Some.each) _ shown b.in-Some.is) noted before)
      | in_default b ↦
          subst (BothNoting es all places (idx + 1)) (sym b.pairs-is)
          (both_none es all places idx p c.loop-place.pairs stands (entry_is view c.compared_at.result None _ shown b.in_default.is) before)
    ]

pub returns : goal.returns
returns c = λ h w es at has.
    let f = c.args.facing in
    let mine = own f.list h w in
    let theirs = other f.list h w in
    let places = places_in c.args.meeting.now in
    let all_seen : length places ≤ c.loop-place.place-index = subst (λ (l : List ℕ). length l ≤ c.loop-place.place-index) c.places-place-items.ensures c.loop-place-test.false in
    both_end es (facing_entries h w f) places c.loop-place.place-index c.loop-place.pairs all_seen
    (found_covered mine theirs f.list f.place f.items f.others c.args.meeting.now (c.requires mine theirs))
    (c.loop-place.invariant h w es at has)
