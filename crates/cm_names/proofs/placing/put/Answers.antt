use Rattle.std.proofs.Common.{◌≡◌, ℕ, List, set, length, subst, ap, ◌∙◌, arith}
use Rattle.std.proofs.lemmas.Grind.{common_steps}
use Rattle.cm_names.specs.Hash.{home_of}
use Rattle.cm_names.specs.Places.{IsRoom}
use Rattle.cm_names.proofs.FindingLaws.{put_found, put_keeps}
use Rattle.cm_names.proofs.placing.put.Goals as goal

pub returns-in-Some-room-clause-kept : goal.returns-in-Some-room-clause-kept
returns-in-Some-room-clause-kept c =
    let ms : List ℕ = c.args.marks.now.items in
    let is : c.deref.result.now ≡ ms = grind (arith, common_steps) in
    put_keeps ms (set ms c.in-Some-room.at c.in-Some.mark) c.home.result c.in-Some-room.at c.args.number (subst (λ (xs : List ℕ). IsRoom xs c.home.result c.in-Some-room.at) is c.in-Some-room.ensures) (ap (set ms c.in-Some-room.at) c.in-Some.ensures)

pub returns-in-Some-room-clause-found : goal.returns-in-Some-room-clause-found
returns-in-Some-room-clause-found c = λ _.
    let ms : List ℕ = c.args.marks.now.items in
    let is : c.deref.result.now ≡ ms = grind (arith, common_steps) in
    let long : c.len.result ≡ length ms = grind (arith, common_steps) in
    let home : c.home.result ≡ home_of c.args.text.now (length ms) = c.home.ensures.home ∙ ap (home_of c.args.text.now) long in
    put_found ms (set ms c.in-Some-room.at c.in-Some.mark) c.args.text.now c.in-Some-room.at c.args.number (subst (λ h. IsRoom ms h c.in-Some-room.at) home (subst (λ (xs : List ℕ). IsRoom xs c.home.result c.in-Some-room.at) is c.in-Some-room.ensures)) (ap (set ms c.in-Some-room.at) c.in-Some.ensures)
