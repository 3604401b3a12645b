use Rattle.std.proofs.Common.{◌∙◌, sym, subst, vec_len, ◌<◌, length, List}
use Rattle.std.specs.List.{All}
use Rattle.cm_wit_graph.specs.Walks.{Entry, AreMet, IsSettled, standing, entries_of}
use Rattle.cm_wit_graph.proofs.StandLaws.{freed, freed_stands, entries_below, entries_met, through_next, head_listed}
use Rattle.cm_wit_graph.proofs.walk.Walk.go_on.Goals as goal

pub release-entries-requires : goal.release-entries-requires
release-entries-requires c = head_listed (standing c.args.self.now) c.args.head c.args.node c.requires.through c.requires.head c.requires.node

pub settle_all-requires-clause-stands : goal.settle_all-requires-clause-stands
settle_all-requires-clause-stands c = freed_stands (standing c.args.self.now) c.args.head c.args.node c.requires.through c.requires.head c.requires.node (entries_of c.release-entries.new.waiting.items) c.release-entries.ensures.here c.release-entries.ensures.others (vec_len c.release-entries.new.waiting) c.release-entries.ensures.len

pub settle_all-requires-clause-nodes : goal.settle_all-requires-clause-nodes
settle_all-requires-clause-nodes c = subst (λ (l : List Entry). All (λ (e : Entry). e.0 < length c.args.self.now.rows.now) l) (sym (c.deref.ensures.value ∙ c.release-entries.ensures.entries)) (entries_below (standing c.args.self.now) c.args.head c.args.node c.requires.through c.requires.head c.requires.node (entries_of c.release-entries.new.waiting.items) c.release-entries.ensures.here c.release-entries.ensures.others (vec_len c.release-entries.new.waiting) c.release-entries.ensures.len)

pub settle_all-requires-clause-met : goal.settle_all-requires-clause-met
settle_all-requires-clause-met c = subst (λ (l : List Entry). All (AreMet (freed (standing c.args.self.now) c.args.head c.args.node c.requires.through c.requires.head c.requires.node (entries_of c.release-entries.new.waiting.items) c.release-entries.ensures.here c.release-entries.ensures.others (vec_len c.release-entries.new.waiting) c.release-entries.ensures.len)) l) (sym (c.deref.ensures.value ∙ c.release-entries.ensures.entries)) (entries_met (standing c.args.self.now) c.args.head c.args.node c.requires.through c.requires.head c.requires.node (entries_of c.release-entries.new.waiting.items) c.release-entries.ensures.here c.release-entries.ensures.others (vec_len c.release-entries.new.waiting) c.release-entries.ensures.len)

pub returns-clause-through : goal.returns-clause-through
returns-clause-through c = through_next (standing c.args.self.now) c.args.head c.args.node c.requires.through c.requires.head c.requires.node (entries_of c.release-entries.new.waiting.items) c.release-entries.ensures.here c.release-entries.ensures.others (vec_len c.release-entries.new.waiting) c.release-entries.ensures.len (standing c.settle_all.new.self) c.in_ok-settle_all.ensures.stands c.in_ok-settle_all.ensures.goes (subst (λ (l : List Entry). All (λ (e : Entry). IsSettled (standing c.settle_all.new.self) e.0) l) (c.deref.ensures.value ∙ c.release-entries.ensures.entries) c.in_ok-settle_all.ensures.settled)

pub returns-clause-nodes : goal.returns-clause-nodes
returns-clause-nodes c = (c.in_ok-settle_all.ensures.goes.count, c.in_ok-settle_all.ensures.goes.needs)
