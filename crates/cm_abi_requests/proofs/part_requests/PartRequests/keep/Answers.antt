use Rattle.std.proofs.Common.{◌≡◌, ◌∙◌, ℕ, ◌+◌, ◌<◌, ◌++◌, ◌∷◌, [], Some, arith, drop, length, length-append, subst, sym, ap}
use Rattle.std.specs.Prelude.{IsSome, slice_get, vec_capacity}
use Rattle.std.proofs.lemmas.Option.{slice_get_within}
use Rattle.cm_abi_model.specs.Answered.{IsAnswered, Requesting, all_requests, next_of}
use Rattle.cm_abi_requests.specs.Sizes.{sizes_seen}
use Rattle.cm_abi_requests.specs.Stages.{AreSizesOfFirst}
use Rattle.cm_abi_requests.proofs.StageLaws.{Stage}
use Rattle.cm_abi_requests.proofs.StageSeen.{last_kept, more_at, more_kept, part_done, part_there}
use Rattle.cm_abi_requests.proofs.part_requests.PartRequests.keep.Goals as goal

pub invariant_of-self : goal.invariant_of-self
invariant_of-self c =
    let s : Stage = record { records = c.self.inside.records.items; source = c.self.inside.source; target = c.self.inside.target; places = c.self.inside.places.items; stage = c.self.inside.stage; last = c.self.inside.last } in
    let answers = c.requires.answered.0 in
    let some = part_there s (sizes_seen c.self.inside.sizes) (vec_capacity c.self.inside.places) (vec_capacity c.self.inside.regions) c.self.invariant.0 answers (subst (λ p. IsAnswered p answers) (sym c.self.view_is) c.requires.answered.1)
    (subst (λ (p : Requesting). IsSome (next_of (all_requests p) answers)) (sym c.self.view_is) c.requires.answered.2) in
    (more_at s (sizes_seen c.self.inside.sizes) (vec_capacity c.self.inside.places) (vec_capacity c.self.inside.regions) c.self.invariant.0 some.0 some.1 (omega (arith, c.if-self-count.true, c.count.ensures)), c.self.invariant.1)

pub push_reserved-requires : goal.push_reserved-requires
push_reserved-requires c =
    let s : Stage = record { records = c.self.inside.records.items; source = c.self.inside.source; target = c.self.inside.target; places = c.self.inside.places.items; stage = c.self.inside.stage; last = c.self.inside.last } in
    let answers = c.requires.answered.0 in
    let some = part_there s (sizes_seen c.self.inside.sizes) (vec_capacity c.self.inside.places) (vec_capacity c.self.inside.regions) c.self.invariant.0 answers (subst (λ p. IsAnswered p answers) (sym c.self.view_is) c.requires.answered.1)
    (subst (λ (p : Requesting). IsSome (next_of (all_requests p) answers)) (sym c.self.view_is) c.requires.answered.2) in
    let within = slice_get_within c.self.inside.records.items (length c.self.inside.places.items) some.0 some.1 in
    let room = c.self.invariant.0.room in
    omega (arith, within, room, c.self.inside.places.ok)

pub invariant_of-self-else-self-count : goal.invariant_of-self-else-self-count
invariant_of-self-else-self-count c =
    let s : Stage = record { records = c.self.inside.records.items; source = c.self.inside.source; target = c.self.inside.target; places = c.self.inside.places.items; stage = c.self.inside.stage; last = c.self.inside.last } in
    let answers = c.requires.answered.0 in
    let some = part_there s (sizes_seen c.self.inside.sizes) (vec_capacity c.self.inside.places) (vec_capacity c.self.inside.regions) c.self.invariant.0 answers (subst (λ p. IsAnswered p answers) (sym c.self.view_is) c.requires.answered.1)
    (subst (λ (p : Requesting). IsSome (next_of (all_requests p) answers)) (sym c.self.view_is) c.requires.answered.2) in
    let within = slice_get_within c.self.inside.records.items (length c.self.inside.places.items) some.0 some.1 in
    let more : length c.push_reserved.new.self.items ≡ length c.self.inside.places.items + 1 = omega (arith, ap length c.push_reserved.ensures.items, length-append c.self.inside.places.items (c.args.at ∷ [])) in
    let next : c.len.result + 1 ≡ length c.push_reserved.new.self.items = omega (arith, more, c.len.ensures, c.self.inside.places.ok) in
    let are : AreSizesOfFirst c.self.inside.source c.self.inside.target (drop (length c.push_reserved.new.self.items) c.self.inside.records.items) (sizes_seen c.sizes_at-self-inside.result) =
    subst (λ n. AreSizesOfFirst c.self.inside.source c.self.inside.target (drop n c.self.inside.records.items) (sizes_seen c.sizes_at-self-inside.result)) next
    (subst (λ rs. AreSizesOfFirst c.self.inside.source c.self.inside.target (drop (c.len.result + 1) rs) (sizes_seen c.sizes_at-self-inside.result)) c.deref.ensures.value c.sizes_at-self-inside.ensures) in (
      part_done c.self.inside.records.items c.self.inside.source c.self.inside.target (length c.self.inside.places.items) (length c.push_reserved.new.self.items) c.self.inside.stage (sizes_seen c.self.inside.sizes) (sizes_seen c.sizes_at-self-inside.result)
          (vec_capacity c.self.inside.places) (vec_capacity c.self.inside.regions) (vec_capacity c.push_reserved.new.self) some.0 c.self.invariant.0 within more are c.push_reserved.ensures.capacity,
      c.self.invariant.1,
    )

pub returns-then-self-count-clause-kept : goal.returns-then-self-count-clause-kept
returns-then-self-count-clause-kept c = λ given h.
    let s : Stage = record { records = c.self.inside.records.items; source = c.self.inside.source; target = c.self.inside.target; places = c.self.inside.places.items; stage = c.self.inside.stage; last = c.self.inside.last } in
    let answers = c.requires.answered.0 in
    let some = part_there s (sizes_seen c.self.inside.sizes) (vec_capacity c.self.inside.places) (vec_capacity c.self.inside.regions) c.self.invariant.0 answers (subst (λ p. IsAnswered p answers) (sym c.self.view_is) c.requires.answered.1)
    (subst (λ (p : Requesting). IsSome (next_of (all_requests p) answers)) (sym c.self.view_is) c.requires.answered.2) in
    more_kept s (sizes_seen c.self.inside.sizes) (vec_capacity c.self.inside.places) (vec_capacity c.self.inside.regions) c.self.invariant.0 c.args.at given some.0 some.1 (subst (λ p. IsAnswered p given) (sym c.self.view_is) h) (omega (arith, c.if-self-count.true, c.count.ensures))

pub returns-else-self-count-clause-kept : goal.returns-else-self-count-clause-kept
returns-else-self-count-clause-kept c = λ given h.
    let s : Stage = record { records = c.self.inside.records.items; source = c.self.inside.source; target = c.self.inside.target; places = c.self.inside.places.items; stage = c.self.inside.stage; last = c.self.inside.last } in
    let answers = c.requires.answered.0 in
    let some = part_there s (sizes_seen c.self.inside.sizes) (vec_capacity c.self.inside.places) (vec_capacity c.self.inside.regions) c.self.invariant.0 answers (subst (λ p. IsAnswered p answers) (sym c.self.view_is) c.requires.answered.1)
    (subst (λ (p : Requesting). IsSome (next_of (all_requests p) answers)) (sym c.self.view_is) c.requires.answered.2) in
    last_kept s (sizes_seen c.self.inside.sizes) (vec_capacity c.self.inside.places) (vec_capacity c.self.inside.regions) c.self.invariant.0 c.args.at given c.push_reserved.new.self.items some.0 some.1 (subst (λ p. IsAnswered p given) (sym c.self.view_is) h) (λ lt. omega (arith, lt, c.if-self-count.false, c.count.ensures)) c.push_reserved.ensures.items
