-- What is kept does not hang on which plan the links stand for.
use Rattle.std.proofs.Common.{◌≡◌, ℕ, zero, suc, List, [], ◌∷◌, Option, Some, refl, sym, ap, subst, ◌∙◌}
use Rattle.std.specs.Prelude.{slice_get}
use Rattle.std.proofs.lemmas.Option.{none-some, same_Some}
use Rattle.cm_machine_model.specs.declared.frame.Frame.{Frame}
use Rattle.cm_machine_model.specs.declared.frame.Phase.{Phase}
use Rattle.cm_machine_model.specs.declared.frame.Phase.TheVariants as phase
use Rattle.cm_machine_model.specs.declared.frame.Purpose.{Purpose}
use Rattle.cm_machine_model.specs.declared.frame.Purpose.TheVariants as purpose
use Rattle.cm_machine_model.specs.Plan.{CoreFunc, Link, Plan, Side, core_func_at, drops, guest, lowered, makes, represents}
use Rattle.cm_machine_links.specs.declared.core_funcs.CoreFunc.{CoreFunc as CodedFunc}
use Rattle.cm_machine_links.specs.declared.core_funcs.CoreFunc.TheVariants as core_func
use Rattle.cm_machine_links.specs.declared.links.Links.{Links}
use Rattle.cm_machine_links.specs.Planned.{AreCoreFuncsOf, ArePlanned, AreRowsOf, IsCoreFuncOf, rows_in}
use Rattle.cm_machine_parts.specs.declared.passing.Passing.{Passing}
use Rattle.cm_machine_parts.specs.declared.state.State.{State as CodedState}
use Rattle.cm_machine_parts.specs.Kept.{IsEncodedAtTop, IsEncodedFor, IsEncodedIn, IsKept}

-- another link with the same sides
pub record HasSides (l : Link) (o : Option CoreFunc) : Type 0 where
  pub link : Link
  pub is : o ≡ Some (lowered link)
  pub caller : link.caller ≡ l.caller
  pub callee : link.callee ≡ l.callee

lowered_by : (c : CoreFunc) (l : Link) (f : CodedFunc) → IsCoreFuncOf c f → IsCoreFuncOf (lowered l) f → HasSides l (Some c)
lowered_by (lowered k) l (core_func.Lowered j) h g = record { link = k; is = refl; caller = sym h.caller_is ∙ g.caller_is; callee = sym h.callee_is ∙ g.callee_is }
lowered_by guest l (core_func.Lowered j) h g = absurd h
lowered_by (makes r) l (core_func.Lowered j) h g = absurd h
lowered_by (drops r d) l (core_func.Lowered j) h g = absurd h
lowered_by (represents r) l (core_func.Lowered j) h g = absurd h
lowered_by c l core_func.Guest h g = absurd g
lowered_by c l (core_func.Makes r) h g = absurd g
lowered_by c l (core_func.Drops r d) h g = absurd g
lowered_by c l (core_func.Represents r) h g = absurd g

row_by : (cs ds : List CoreFunc) (fs : List CodedFunc) (n : ℕ) (l : Link) → AreCoreFuncsOf cs fs → AreCoreFuncsOf ds fs → slice_get ds n ≡ Some (lowered l) → HasSides l (slice_get cs n)
row_by cs [] fs n l h g e = absurd (none-some (lowered l) e)
row_by [] (d ∷ ds) [] n l h g e = absurd g
row_by [] (d ∷ ds) (f ∷ fs) n l h g e = absurd h
row_by (c ∷ cs) (d ∷ ds) [] n l h g e = absurd h
row_by (c ∷ cs) (d ∷ ds) (f ∷ fs) zero l h g e = lowered_by c l f h.0 (subst (λ (x : CoreFunc). IsCoreFuncOf x f) (same_Some d (lowered l) e) g.0)
row_by (c ∷ cs) (d ∷ ds) (f ∷ fs) (suc n) l h g e = row_by cs ds fs n l h.1 g.1 e

rows_by : (p q : Plan) (rows : List (List CodedFunc)) (i n : ℕ) (l : Link) → AreRowsOf p rows → AreRowsOf q rows → core_func_at q i n ≡ Some (lowered l) → HasSides l (core_func_at p i n)
rows_by p [] rows i n l h g e = absurd (none-some (lowered l) e)
rows_by [] (ds ∷ q) [] i n l h g e = absurd g
rows_by [] (ds ∷ q) (fs ∷ rows) i n l h g e = absurd h
rows_by (cs ∷ p) (ds ∷ q) [] i n l h g e = absurd h
rows_by (cs ∷ p) (ds ∷ q) (fs ∷ rows) zero n l h g e = row_by cs ds fs n l h.0 g.0 e
rows_by (cs ∷ p) (ds ∷ q) (fs ∷ rows) (suc i) n l h g e = rows_by p q rows i n l h.1 g.1 e

encoded_in : (p : Phase) (k l : Link) (passing : Passing) → k.caller ≡ l.caller → k.callee ≡ l.callee → IsEncodedIn p k passing → IsEncodedIn p l passing
encoded_in phase.Arguments k l passing caller callee h = (h.0 ∙ ap (λ (s : Side). s.encoding) caller, h.1 ∙ ap (λ (s : Side). s.encoding) callee)
encoded_in phase.Body k l passing caller callee h = tt
encoded_in phase.Results k l passing caller callee h = (h.0 ∙ ap (λ (s : Side). s.encoding) callee, h.1 ∙ ap (λ (s : Side). s.encoding) caller)
encoded_in (phase.PostReturn result) k l passing caller callee h = tt

encoded_for : (p q : Plan) (rows : List (List CodedFunc)) (passing : Passing) (purpose_is : Purpose) → AreRowsOf p rows → AreRowsOf q rows → IsEncodedFor p passing purpose_is → IsEncodedFor q passing purpose_is
encoded_for p q rows passing purpose.Root h g e = tt
encoded_for p q rows passing (purpose.Call call) h g e = λ l reaches.
    let k = rows_by p q rows call.caller call.func l h g reaches in
    encoded_in call.phase k.link l passing k.caller k.callee (e k.link k.is)
encoded_for p q rows passing (purpose.Destructor dropper) h g e = tt

encoded_at : (p q : Plan) (rows : List (List CodedFunc)) (passing : Passing) (fs : List Frame) → AreRowsOf p rows → AreRowsOf q rows → IsEncodedAtTop p passing fs → IsEncodedAtTop q passing fs
encoded_at p q rows passing [] h g e = tt
encoded_at p q rows passing (f ∷ fs) h g e = encoded_for p q rows passing f.purpose h g e

pub kept_any : (links : Links) (p q : Plan) (s : CodedState) → ArePlanned p links → ArePlanned q links → IsKept p s → IsKept q s
kept_any links p q s h g kept = record { counted = kept.counted; encoded = encoded_at p q (rows_in links) s.passing s.stack.frames h g kept.encoded }
