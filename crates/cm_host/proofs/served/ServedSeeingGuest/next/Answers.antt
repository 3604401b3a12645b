use Rattle.cm_host.proofs.served.ServedSeeingGuest.next.Goals as goal

pub returns-clause-goes_on : goal.returns-clause-goes_on
returns-clause-goes_on g c rest p =
    (c.turn.new.self, record { entries = c.turn.ensures.entries; destructors = c.turn.ensures.destructors; answers = c.turn.ensures.answers }, p)

pub returns-clause-answers : goal.returns-clause-answers
returns-clause-answers g c =
    (c.turn.new.self, record { entries = c.turn.ensures.entries; destructors = c.turn.ensures.destructors; answers = c.turn.ensures.answers }, tt)
