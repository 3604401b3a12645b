use Rattle.std.proofs.Common.{arith, refl}
use Rattle.std.proofs.lemmas.List.{map_push}
use Rattle.cm_binary_model.specs.Trees.{section_tree}
use Rattle.cm_binary.specs.Views.{progress}
use Rattle.cm_binary.proofs.ProgressLaws.{section_takes, rest_shorter}
use Rattle.cm_binary.proofs.front.Front.read_section.Goals as goal

pub overflow_sub-self : goal.overflow_sub-self
overflow_sub-self c = rest_shorter c.args.self.now.room c.args.end c.args.bytes.now c.read_section.new.bytes.rest.now (section_tree c.in_ok-section.section) (λ i. omega (arith, c.type_inv.bytes i)) (rw (c.new-cursor.ensures.rest, c.new-cursor.ensures.end) at c.in_ok-section.ensures.read)

pub returns-clause-ok : goal.returns-clause-ok
returns-clause-ok c = section_takes (progress c.args.self.now) _ c.args.end c.args.bytes.now c.read_section.new.bytes.rest.now (section_tree c.in_ok-section.section) c.requires.first (λ i. omega (arith, c.type_inv.bytes i)) (rw (c.new-cursor.ensures.rest, c.new-cursor.ensures.end) at c.in_ok-section.ensures.read) c.requires.first (rw (c.in_ok-push.ensures.items) (map_push section_tree c.args.self.now.sections.items c.in_ok-section.section)) c.room_after-room.ensures refl
