-- Bytes of values from any source, one value after another.
use Rattle.std.proofs.Common.{◌≡◌, ℕ, zero, suc, ◌+◌, ◌≤◌, List, ◌++◌, refl, sym, ◌∙◌, arith, Some, None, Option}
use Rattle.std.specs.Prelude.{⊤}
use Rattle.cm_types.specs.Values.{Val, Vals, val}
use Rattle.cm_layout.specs.Laid.{Laid, PartsLaid, PayloadsLaid}
use Rattle.cm_layout.specs.Shapes.{LayoutTy, Parts, Payloads, Shape, cases_shape, no_parts, part, no_payloads, nothing, carried}
use Rattle.cm_abi_model.specs.Parts.{handle_count, part_count}
use Rattle.cm_abi_model.specs.Stores.{Given, bytes_of, placed, poke}
use Rattle.cm_abi_store.specs.Fitting.{PayloadLies}
use Rattle.cm_abi_store.specs.Storing.{stored_by, stored_by_case, stored_by_fields, stored_by_payload}
use Rattle.cm_abi_store.specs.Sources.{carried_bytes, case_told, payload_in}
use Rattle.cm_abi_store.specs.WalkLaws.{poke_both}

-- ---- values in a row

-- ---- fields

-- fields lie within a memory of so many bytes, where what has them stands at an address
abbrev pub PartsLie : ℕ → ℕ → Parts → Type 0
PartsLie n at no_parts = ⊤
PartsLie n at (part o e s ps) = (at + o + e.size ≤ n) × Laid e.size s × PartsLie n at ps

parts_end : (size end : ℕ) (ps : Parts) → PartsLaid size end ps → end ≤ size
parts_end size end no_parts laid = laid
parts_end size end (part o e s ps) laid = omega (arith, laid.0, laid.1)

pub parts_lie : (n at size end : ℕ) (ps : Parts) → at + size ≤ n → PartsLaid size end ps → PartsLie n at ps
parts_lie n at size end no_parts inside laid = tt
parts_lie n at size end (part o e s ps) inside laid = (omega (arith, inside, laid.1, parts_end size (o + e.size) ps laid.3), laid.2, parts_lie n at size (o + e.size) ps inside laid.3)

-- another field was stored
pub field_stored : (g : Given) (p : ℕ × LayoutTy) (ps : Parts) (v : Val) (all vs : Vals) (at k h l j : ℕ) (m after total : List ℕ) → all ≡ val v vs
    → l ≡ k + part_count v → j ≡ h + handle_count v → after ≡ poke (stored_by g p.1.shape v (at + p.0) k h) m
    → poke (stored_by_fields g (part p.0 p.1.head p.1.shape ps) all at k h) m ≡ total → poke (stored_by_fields g ps vs at l j) after ≡ total
field_stored g p ps v all vs at k h l j m after total is l_is j_is stored so_far =
    let next : poke (stored_by g p.1.shape v (at + p.0) k h ++ stored_by_fields g ps vs at (k + part_count v) (h + handle_count v)) m ≡ total = rw is at so_far in
    rw (l_is, j_is, stored) (sym (poke_both (stored_by g p.1.shape v (at + p.0) k h) _ m) ∙ next)

-- ---- cases

case_stored : (g : Given) (ps : Payloads) (i : ℕ) (v : Val) (p k h : ℕ) → stored_by_case g ps i v p k h ≡ stored_by_payload g (payload_in ps i) v p k h
case_stored g no_payloads i v p k h = refl
case_stored g (nothing ps) zero v p k h = refl
case_stored g (nothing ps) (suc i) v p k h = case_stored g ps i v p k h
case_stored g (carried e sh ps) zero v p k h = refl
case_stored g (carried e sh ps) (suc i) v p k h = case_stored g ps i v p k h

-- where one case stands that carries something
pub payload_lies : (n at size o : ℕ) (ps : Payloads) (i : ℕ) → at + size ≤ n → PayloadsLaid size o ps → PayloadLies n (at + o) (payload_in ps i)
payload_lies n at size o no_payloads i inside laid = tt
payload_lies n at size o (nothing ps) zero inside laid = tt
payload_lies n at size o (nothing ps) (suc i) inside laid = payload_lies n at size o ps i inside laid
payload_lies n at size o (carried e sh ps) zero inside laid = (omega (arith, inside, laid.0), laid.1)
payload_lies n at size o (carried e sh ps) (suc i) inside laid = payload_lies n at size o ps i inside laid.2

-- the number of a case, and what it carries
pub case_both : {S : Type 0} (V : S → Shape → Val) (g : Given) (d o : ℕ) (ps : Payloads) (i : ℕ) (s : Option S) (p k h : ℕ) (m : List ℕ)
    → poke (carried_bytes g (payload_in ps i) (case_told V 0 (payload_in ps i) s) (p + o) k h) (poke (placed p (bytes_of d i)) m)
    ≡ poke (stored_by g (cases_shape d o ps) (case_told V i (payload_in ps i) s) p k h) m
case_both V g d o ps i s p k h m = go (payload_in ps i) s (case_stored g ps i)
  where
    go : (l : Option LayoutTy) (s : Option _) → ((v : Val) (p k h : ℕ) → stored_by_case g ps i v p k h ≡ stored_by_payload g l v p k h)
        → poke (carried_bytes g l (case_told V 0 l s) (p + o) k h) (poke (placed p (bytes_of d i)) m) ≡ poke (stored_by g (cases_shape d o ps) (case_told V i l s) p k h) m
    go None s same = refl
    go (Some l) None same = refl
    go (Some l) (Some s) same = rw (same (V s l.shape) (p + o) k h) (sym (poke_both (placed p (bytes_of d i)) _ m))
