use Rattle.std.proofs.Common.{◌≡◌, ◌+◌, ◌*◌, ◌-◌, ap, sym, ◌∙◌, arith, length, take, drop}
use Rattle.cm_layout.specs.Layouts.{layout_of}
use Rattle.cm_layout.specs.declared.heads.Head.{Head}
use Rattle.cm_abi_model.specs.Stores.{placed}
use Rattle.cm_abi_running.specs.Copying.{copying_of, given_for}
use Rattle.cm_abi_copy.proofs.BulkLemmas.{row_bulk}
use Rattle.cm_abi_copy.proofs.place.PlaceValueSource.plain_bytes.Goals as goal
use Rattle.cm_layout.proofs.LayoutLemmas.{seen_head}
use Rattle.cm_lemmas.proofs.Lists.{taken_length}

pub returns : goal.returns
returns c = λ n g k h at ready.
    let m = c.args.rest.now.from.now.memory.now in
    let p = c.args.rest.now.at in
    let l = layout_of c.args.element.now in
    let all = row_bulk (given_for (copying_of c.args.rest.now.from.now) g) c.are_bytes.ensures l ready.0 c.requires.bulk c.args.count p at ready.1 in
    let one : l.head.size ≡ c.args.element.now.head.size = ap (λ (z : Head). z.size) (seen_head c.args.element.now) in
    let size : p + c.args.count * c.args.element.now.head.size - p ≡ c.args.count * l.head.size = rw one (omega arith) in
    record {
      stored = all.0 k h ∙ sym (ap (λ z. placed at (take z (drop p m))) size);
      size = ap (λ z. length (take z (drop p m))) size ∙ taken_length m p (c.args.count * l.head.size) ready.1;
      parts = all.1;
      handles = all.2;
    }
