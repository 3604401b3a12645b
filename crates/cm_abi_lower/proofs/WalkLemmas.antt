-- Slots of values from any source, one value after another.
use Rattle.std.proofs.Common.{◌≡◌, ℕ, zero, suc, ◌+◌, ◌≤◌, List, ◌++◌, refl, sym, ap, ◌∙◌, arith, Some, None, Option}
use Rattle.std.specs.Prelude.{⊤}
use Rattle.cm_types.specs.Types.{Fields}
use Rattle.cm_types.specs.Values.{Val, Vals, val}
use Rattle.cm_layout.specs.Shapes.{LayoutTy, Parts, Payloads, Shape, cases_shape, fields_shape, layout_of_fields_at, no_parts, part, no_payloads, nothing, carried, parts_at, parts_from}
use Rattle.cm_abi_model.specs.Parts.{handle_count, part_count}
use Rattle.cm_abi_model.specs.Receives.{behind_each, put}
use Rattle.cm_abi_model.specs.Stores.{Given, Placed, poke}
use Rattle.cm_abi_store.specs.FlatLowering.{ArePassedIn, IsPassedIn, PayloadIsPassed, PayloadsPassedIn, behind_by, behind_by_case, behind_by_fields, behind_by_payload, slots_by, slots_by_case, slots_by_fields, slots_by_payload}
use Rattle.cm_abi_store.specs.Sources.{carried_behind, carried_slots, case_told, payload_in}
use Rattle.cm_abi_store.specs.WalkLaws.{poke_both}

-- a tuple has fields
pub tuple_shape : (l : LayoutTy) (types : Fields) → l ≡ layout_of_fields_at types → (ps : Parts) × (l.shape ≡ fields_shape ps)
tuple_shape l types is = (parts_from (parts_at types 0), ap (λ (x : LayoutTy). x.shape) is)

-- ---- values in a row

-- what is behind another value that is passed
pub next_behind : (B : Val → ℕ → ℕ → List Placed) (v : Val) (vs rest : Vals) (k h l j : ℕ) (m after total : List ℕ) → vs ≡ val v rest
    → l ≡ k + part_count v → j ≡ h + handle_count v → after ≡ poke (B v k h) m
    → poke (behind_each B vs k h) m ≡ total → poke (behind_each B rest l j) after ≡ total
next_behind B v vs rest k h l j m after total is l_is j_is stored so_far =
    let next : poke (B v k h ++ behind_each B rest (k + part_count v) (h + handle_count v)) m ≡ total = rw is at so_far in
    rw (l_is, j_is, stored) (sym (poke_both (B v k h) _ m) ∙ next)

-- ---- fields

-- fields are passed in slots from this one on, of so many
abbrev pub PartsPass : ℕ → ℕ → Parts → Type 0
PartsPass n s no_parts = ⊤
PartsPass n s (part o e x ps) = (s + e.width ≤ n) × IsPassedIn e.width x × PartsPass n (s + e.width) ps

pub parts_pass : (n at width s j : ℕ) (ps : Parts) → at + width ≤ n → j ≡ at + s → ArePassedIn width s ps → PartsPass n j ps
parts_pass n at width s j no_parts inside is passed = tt
parts_pass n at width s j (part o e x ps) inside is passed =
    (omega (arith, inside, is, passed.0), passed.1, parts_pass n at width (s + e.width) (j + e.width) ps inside (omega (arith, is)) passed.2)

-- another field was passed
pub field_passed : (g : Given) (p : ℕ × LayoutTy) (ps : Parts) (v : Val) (all vs : Vals) (s q k h l j : ℕ) (m after total : List ℕ) → all ≡ val v vs → q ≡ s + p.1.head.width
    → l ≡ k + part_count v → j ≡ h + handle_count v → after ≡ poke (slots_by g p.1.shape v s k h) m
    → poke (slots_by_fields g (part p.0 p.1.head p.1.shape ps) all s k h) m ≡ total → poke (slots_by_fields g ps vs q l j) after ≡ total
field_passed g p ps v all vs s q k h l j m after total is q_is l_is j_is stored so_far =
    let next : poke (slots_by g p.1.shape v s k h ++ slots_by_fields g ps vs (s + p.1.head.width) (k + part_count v) (h + handle_count v)) m ≡ total = rw is at so_far in
    rw (q_is, l_is, j_is, stored) (sym (poke_both (slots_by g p.1.shape v s k h) _ m) ∙ next)

pub field_behind : (g : Given) (p : ℕ × LayoutTy) (ps : Parts) (v : Val) (all vs : Vals) (k h l j : ℕ) (m after total : List ℕ) → all ≡ val v vs
    → l ≡ k + part_count v → j ≡ h + handle_count v → after ≡ poke (behind_by g p.1.shape v k h) m
    → poke (behind_by_fields g (part p.0 p.1.head p.1.shape ps) all k h) m ≡ total → poke (behind_by_fields g ps vs l j) after ≡ total
field_behind g p ps v all vs k h l j m after total is l_is j_is stored so_far =
    let next : poke (behind_by g p.1.shape v k h ++ behind_by_fields g ps vs (k + part_count v) (h + handle_count v)) m ≡ total = rw is at so_far in
    rw (l_is, j_is, stored) (sym (poke_both (behind_by g p.1.shape v k h) _ m) ∙ next)

-- ---- cases

-- what the case of a number passes
case_slots : (g : Given) (ps : Payloads) (i : ℕ) (v : Val) (s k h : ℕ) → slots_by_case g ps i v s k h ≡ slots_by_payload g (payload_in ps i) v s k h
case_slots g no_payloads i v s k h = refl
case_slots g (nothing ps) zero v s k h = refl
case_slots g (nothing ps) (suc i) v s k h = case_slots g ps i v s k h
case_slots g (carried e sh ps) zero v s k h = refl
case_slots g (carried e sh ps) (suc i) v s k h = case_slots g ps i v s k h

case_behind : (g : Given) (ps : Payloads) (i : ℕ) (v : Val) (k h : ℕ) → behind_by_case g ps i v k h ≡ behind_by_payload g (payload_in ps i) v k h
case_behind g no_payloads i v k h = refl
case_behind g (nothing ps) zero v k h = refl
case_behind g (nothing ps) (suc i) v k h = case_behind g ps i v k h
case_behind g (carried e sh ps) zero v k h = refl
case_behind g (carried e sh ps) (suc i) v k h = case_behind g ps i v k h

pub payload_passes : (n at width : ℕ) (ps : Payloads) (i : ℕ) → at + width ≤ n → PayloadsPassedIn width ps → PayloadIsPassed n (at + 1) (payload_in ps i)
payload_passes n at width no_payloads i inside passed = tt
payload_passes n at width (nothing ps) zero inside passed = tt
payload_passes n at width (nothing ps) (suc i) inside passed = payload_passes n at width ps i inside passed
payload_passes n at width (carried e sh ps) zero inside passed = (omega (arith, inside, passed.0), passed.1)
payload_passes n at width (carried e sh ps) (suc i) inside passed = payload_passes n at width ps i inside passed.2

number_passed : {S : Type 0} (V : S → Shape → Val) (g : Given) (d o : ℕ) (ps : Payloads) (i : ℕ) (l : Option LayoutTy) (x : Option S) (s k h : ℕ) (m : List ℕ)
    → ((v : Val) (s k h : ℕ) → slots_by_case g ps i v s k h ≡ slots_by_payload g l v s k h)
    → poke (carried_slots g l (case_told V 0 l x) (s + 1) k h) (poke (put s i) m) ≡ poke (slots_by g (cases_shape d o ps) (case_told V i l x) s k h) m
number_passed V g d o ps i None x s k h m same = refl
number_passed V g d o ps i (Some l) None s k h m same = refl
number_passed V g d o ps i (Some l) (Some y) s k h m same = rw (same (V y l.shape) (s + 1) k h) (sym (poke_both (put s i) (slots_by_payload g (Some l) (V y l.shape) (s + 1) k h) m))

pub case_passed : {S : Type 0} (V : S → Shape → Val) (g : Given) (d o : ℕ) (ps : Payloads) (i : ℕ) (x : Option S) (s k h : ℕ) (m : List ℕ)
    → poke (carried_slots g (payload_in ps i) (case_told V 0 (payload_in ps i) x) (s + 1) k h) (poke (put s i) m)
    ≡ poke (slots_by g (cases_shape d o ps) (case_told V i (payload_in ps i) x) s k h) m
case_passed V g d o ps i x s k h m = number_passed V g d o ps i (payload_in ps i) x s k h m (case_slots g ps i)

carried_passed : {S : Type 0} (V : S → Shape → Val) (g : Given) (d o : ℕ) (ps : Payloads) (i : ℕ) (l : Option LayoutTy) (x : Option S) (k h : ℕ)
    → ((v : Val) (k h : ℕ) → behind_by_case g ps i v k h ≡ behind_by_payload g l v k h)
    → carried_behind g l (case_told V 0 l x) k h ≡ behind_by g (cases_shape d o ps) (case_told V i l x) k h
carried_passed V g d o ps i None x k h same = refl
carried_passed V g d o ps i (Some l) None k h same = refl
carried_passed V g d o ps i (Some l) (Some y) k h same = sym (same (V y l.shape) k h)

pub behind_passed : {S : Type 0} (V : S → Shape → Val) (g : Given) (d o : ℕ) (ps : Payloads) (i : ℕ) (x : Option S) (k h : ℕ)
    → carried_behind g (payload_in ps i) (case_told V 0 (payload_in ps i) x) k h ≡ behind_by g (cases_shape d o ps) (case_told V i (payload_in ps i) x) k h
behind_passed V g d o ps i x k h = carried_passed V g d o ps i (payload_in ps i) x k h (case_behind g ps i)
