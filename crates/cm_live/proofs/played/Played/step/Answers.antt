use Rattle.std.proofs.Common.{subst, sym, refl}
use Rattle.std.proofs.Math.Logic.{∥∥₁_map}
use Rattle.cm_machine.specs.cm_machine_model.declared.event.Misuse.TheVariants as misuse
use Rattle.cm_machine.specs.cm_machine_set.Running.{RunningSet}
use Rattle.cm_machine_links.specs.Planned.{ArePlanned}
use Rattle.cm_machine_links.specs.declared.links.Links.{Links}
use Rattle.cm_live.specs.Kept.{gives_values}
use Rattle.cm_live.specs.Played.{IsPlayed}
use Rattle.cm_live.proofs.CallsLaws.{kept_call}
use Rattle.cm_live.proofs.MirrorLaws.{Laws, Moved, by_values, keeps_nothing, kept_plays, move_plays}
use Rattle.cm_live.proofs.MirrorLaws.{move_told, none_refused}
use Rattle.cm_live.proofs.played.Played.step.Goals as goal

pub invariant_of-self : goal.invariant_of-self
invariant_of-self c =
    let old = c.args.self.now in
    let r = c.make_room.ensures in
    record {
      played = ∥∥₁_map old.played
          (kept_plays old.set old.going c.make_room.new.self r.calls r.asking r.rooms);
    }

pub invariant_of-self-in-Err-step : goal.invariant_of-self-in-Err-step
invariant_of-self-in-Err-step c =
    let old = c.args.self.now in
    let r = c.make_room.ensures in
    record {
      played = ∥∥₁_map old.played
          (λ k. subst (λ (s : RunningSet). IsPlayed s c.make_room.new.self)
          (sym c.in-Err.ensures.err)
          (kept_plays old.set old.going c.make_room.new.self r.calls r.asking r.rooms k));
    }

pub invariant_of-self-in-Ok-step : goal.invariant_of-self-in-Ok-step
invariant_of-self-in-Ok-step c =
    let e = c.headline.ensures in
    let laws : Laws =
    record {
      acting = e.acting;
      answers = e.answers;
      asks = e.asks;
      begins_nothing = e.begins;
      begins_by_call = e.begins_by_call;
      ends = e.ends;
      entries = e.entries;
      memory = e.memory;
      refusals = e.refusals;
      resumptions = e.resumptions;
      one = c.denotations_are_unique.ensures.denoted;
    } in
    let v : Moved c.args.self.now.set c.make_room.new.self c.args.made.now c.in-Ok-step.event
    c.step.new.self c.unwrap_or-actor.result =
    record {
      laws = laws;
      goes_on = c.in-Ok-step.ensures.history;
      acting = c.acting.result;
      acts = c.acting.ensures;
      mover_is = c.unwrap_or-actor.ensures;
    } in
    let old = c.args.self.now in
    let m = c.args.made.now in
    let r = c.make_room.ensures in
    let w = c.go_on-written.ensures in
    let room = c.in-Ok.ensures.room in
    let keeps = kept_plays old.set old.going c.make_room.new.self r.calls r.asking r.rooms in
    let nothing = keeps_nothing old.set c.make_room.new.self m c.in-Ok-step.event
    c.step.new.self c.unwrap_or-actor.result v in
    record {
      played = ∥∥₁_map old.played
          (λ k. move_plays old.set c.make_room.new.self m c.in-Ok-step.event
          c.step.new.self c.go_on-written.new.self c.unwrap_or-actor.result
          (kept_call c.unwrap_or-actor.result c.wanted_by.result) v c.step.ensures.planned w.calls
          (record {
            last = λ l. let q = w.last l in (q.0, q.1);
            asking = w.asking;
            rooms_are = λ l. by_values (gives_values m) (λ some. w.rooms (room some) l)
                (λ none. w.same_rooms (nothing (keeps k) l none) l);
          })
          refl
          (λ p h. c.wanted_by.ensures p
          (subst (λ (x : Links). ArePlanned p x) (sym c.links.ensures) h))
          (keeps k));
    }

pub returns-in-Ok-step-clause-told : goal.returns-in-Ok-step-clause-told
returns-in-Ok-step-clause-told c =
    let e = c.headline.ensures in
    let laws : Laws =
    record {
      acting = e.acting;
      answers = e.answers;
      asks = e.asks;
      begins_nothing = e.begins;
      begins_by_call = e.begins_by_call;
      ends = e.ends;
      entries = e.entries;
      memory = e.memory;
      refusals = e.refusals;
      resumptions = e.resumptions;
      one = c.denotations_are_unique.ensures.denoted;
    } in
    let v : Moved c.args.self.now.set c.make_room.new.self c.args.made.now c.in-Ok-step.event
    c.step.new.self c.unwrap_or-actor.result =
    record {
      laws = laws;
      goes_on = c.in-Ok-step.ensures.history;
      acting = c.acting.result;
      acts = c.acting.ensures;
      mover_is = c.unwrap_or-actor.ensures;
    } in
    let old = c.args.self.now in
    let m = c.args.made.now in
    let r = c.make_room.ensures in
    let w = c.go_on-written.ensures in
    let room = c.in-Ok.ensures.room in
    let keeps = kept_plays old.set old.going c.make_room.new.self r.calls r.asking r.rooms in
    let nothing = keeps_nothing old.set c.make_room.new.self m c.in-Ok-step.event
    c.step.new.self c.unwrap_or-actor.result v in
    ∥∥₁_map old.played
    (λ k. move_told old.set c.make_room.new.self m c.in-Ok-step.event c.step.new.self
    c.unwrap_or-actor.result c.go_on-written.result v w.told (λ l. let q = w.last l in q.2)
    (λ l. by_values (gives_values m) (λ some. w.regions (room some) l)
    (λ none. w.no_more (nothing (keeps k) l none) l))
    (keeps k))

pub returns-in-Ok-step-clause-acts : goal.returns-in-Ok-step-clause-acts
returns-in-Ok-step-clause-acts c = λ empty.
    none_refused c.in-Ok-step.event misuse.Idle (c.in-Ok-step.ensures.idle.1 empty)

pub returns-in-Ok-step-clause-steps : goal.returns-in-Ok-step-clause-steps
returns-in-Ok-step-clause-steps c =
    let is = c.in-Ok-step.ensures in
    record { step = is.step; valid = is.valid; history = is.history; planned = is.planned }
