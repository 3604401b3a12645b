use Rattle.std.proofs.Common.{refl, sym, ◌∙◌}
use Rattle.cm_machine.proofs.Drives.{somebody_acts}
use Rattle.cm_machine.proofs.watching.watched_turn.Goals as goal

pub unreachable-requires : goal.unreachable-requires
unreachable-requires g c = somebody_acts c.args.set.now.state.stack c.requires (sym c.acting.ensures ∙ c.in_default.is)

pub returns-clause-turn : goal.returns-clause-turn
returns-clause-turn g c = record {
  turn = record {
    turn = record { by = c.in-Some.instance; sight = record { seen = c.args.seen.now; memory = c.memory_of.result.now; made = c.ask_one-made.result } };
    saw = refl;
    memory = c.memory_of.ensures;
    acts = sym c.acting.ensures ∙ c.in-Some.is;
    steps = record { step = c.in-Ok.ensures.step; valid = c.in-Ok.ensures.valid; history = c.in-Ok.ensures.history; planned = c.in-Ok.ensures.planned };
    plays_seat = c.ask_one-made.ensures.plays;
    stays = c.ask_one-made.ensures.stays;
    others = c.ask_one-made.ensures.others;
  };
  looked = c.making.ensures;
}
