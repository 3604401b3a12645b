use Rattle.std.proofs.Common.{◌≡◌, ◌+◌, ◌∙◌, ap, refl}
use Rattle.cm_layout.specs.declared.layouts.Layout.{out-Layout}
use Rattle.cm_layout.specs.Alignment.{align_to}
use Rattle.cm_layout.specs.Sizes.{align_of, size_of}
use Rattle.cm_layout.specs.Shapes.{parts_at}
use Rattle.cm_layout.proofs.HeadLaws.{field_taken}
use Rattle.cm_layout.proofs.LayoutLemmas.{taken_by, field_room, more_parts}
use Rattle.cm_layout.proofs.builders.FieldsBuilder.push.Goals as goal

pub push-offset-requires-clause-some : goal.push-offset-requires-clause-some
push-offset-requires-clause-some c = let r = c.requires in (taken_by r.3 c.args.layout r.5).positive

pub push-offset-requires-clause-fits : goal.push-offset-requires-clause-fits
push-offset-requires-clause-fits c =
    let r = c.requires in (field_room r.2 r.3 r.0 r.1 c.args.self.now.so_far (out-Layout c.args.layout).head r.4.numbers (taken_by r.3 c.args.layout r.5)).0

pub push-offset-requires-clause-narrow : goal.push-offset-requires-clause-narrow
push-offset-requires-clause-narrow c =
    let r = c.requires in (field_room r.2 r.3 r.0 r.1 c.args.self.now.so_far (out-Layout c.args.layout).head r.4.numbers (taken_by r.3 c.args.layout r.5)).1

pub returns-clause-ok : goal.returns-clause-ok
returns-clause-ok c all rest label t b e =
    let k = taken_by t c.args.layout e in
    let p = c.push-offset.ensures in
    let end = c.args.self.now.so_far.end in
    let place : c.push-offset.result ≡ align_to (align_of t) c.args.self.now.so_far.end = p.place ∙ ap (λ a. align_to a c.args.self.now.so_far.end) k.align in
    let next : c.push-offset.new.self.end ≡ align_to (align_of t) c.args.self.now.so_far.end + size_of t = p.end ∙ rw (k.align, k.size) refl in
    record {
      numbers = field_taken label t all rest c.args.self.now.so_far c.push-offset.new.self (out-Layout c.args.layout).head b.numbers k p.end p.align p.width p.is_bulk;
      parts =
          rw next
          (more_parts t c.push-offset.result (align_to (align_of t) end) c.args.layout c.args.self.now.parts.items c.push.new.self.items (parts_at rest (align_to (align_of t) end + size_of t)) e place c.in_ok-push.ensures.items)
          ∙ b.parts;
    }
