-- Why writing stops, from a part to the whole bundle.
use Rattle.std.proofs.Common.{◌≡◌, ℕ, ◌+◌, ◌≤◌, ◌^◌, List, [], ◌∷◌, ◌++◌, length, Result, Ok, Err, sym, ap, subst, ◌∙◌, append_assoc, arith}
use Rattle.std.specs.Prelude.{◌↔◌}
use Rattle.std.specs.List.{AllByRecursion, flat_map}
use Rattle.std.proofs.lemmas.List.{length-append}
use Rattle.cm_bundle.specs.Bundles.{spelled}
use Rattle.cm_bundle.specs.declared.form.TheConstants.{BUNDLE_PREAMBLE}
use Rattle.cm_bundle.specs.declared.writing.WriteFault.{WriteFault}
use Rattle.cm_bundle.specs.declared.writing.WriteFault.TheVariants as faults
use Rattle.cm_bundle.specs.Fronts.{front_spelled, spaces_behind, IsGroup}
use Rattle.cm_bundle.specs.Trees.{GroupTree, SupplyTree, PartTree, BundleTree}
use Rattle.cm_bundle.specs.Spelled.{Spaces, part_spelled, exports_spelled, body_spelled, after_part, custom_spelled, IsSupply, AreSupplied}
use Rattle.cm_bundle.specs.Refusals.{IsRefused, IsWrong, IsWrongFront, WritesExports, WritesBody, WritesGroup}

-- What is wrong with a part is wrong with all of which it is a part.
wrong_in : (e : WriteFault) (size whole : ℕ) (Fine All : Type 0) → size ≤ whole → (All → Fine) → IsWrong e size Fine → IsWrong e whole All
wrong_in faults.TooManyParts size whole Fine All le f h = absurd h
wrong_in faults.BadFront size whole Fine All le f h = absurd h
wrong_in faults.NoSuchPart size whole Fine All le f h = λ all. h (f all)
wrong_in faults.TooLong size whole Fine All le f h = omega (arith, le, h)
wrong_in faults.Memory size whole Fine All le f h = tt {0}

pub part_wrong : (e : WriteFault) (s : Spaces) (p : PartTree) (all ps : List PartTree) (ys : List SupplyTree) (before whole : List ℕ) (All : Type 0) → all ≡ p ∷ ps → before ++ body_spelled s all ys ≡ whole → (AreSupplied (length s.places) all ys ↔ All) → IsWrong e (length (part_spelled s p)) (AllByRecursion (IsSupply (length s.places)) p.arguments) → IsWrong e (length whole) All
part_wrong e s p all ps ys before whole All n same h w =
    let lengths : length whole ≡ length before + length (body_spelled s (p ∷ ps) ys) = ap length (sym same) ∙ ap (λ (qs : List PartTree). length (before ++ body_spelled s qs ys)) n ∙ length-append before (body_spelled s (p ∷ ps) ys) in
    let body : length (body_spelled s (p ∷ ps) ys) ≡ length (part_spelled s p) + length (body_spelled (after_part s p) ps ys) = length-append (part_spelled s p) (body_spelled (after_part s p) ps ys) in
    wrong_in e (length (part_spelled s p)) (length whole) (AllByRecursion (IsSupply (length s.places)) p.arguments) All (omega (arith, lengths, body)) (λ a. (subst (λ (qs : List PartTree). AreSupplied (length s.places) qs ys) n (h.1 a)).0) w

pub body_ends_written : (r : Result (Unit {0}) WriteFault) (b : BundleTree) (start s : Spaces) (ps : List PartTree) (before old new : List ℕ) → ps ≡ [] → before ++ body_spelled s ps b.exports ≡ old ++ body_spelled start b.parts b.exports → (AreSupplied (length s.places) ps b.exports ↔ AreSupplied (length start.places) b.parts b.exports) → WritesExports s.counts s.places b.exports before new r → WritesBody start b old new r
body_ends_written (Ok u) b start s ps before old new n same h w = (
  w.0 ∙ ap (λ (qs : List PartTree). before ++ body_spelled s qs b.exports) (sym n) ∙ same,
  h.0 (subst (λ (qs : List PartTree). AreSupplied (length s.places) qs b.exports) (sym n) w.1),
)
body_ends_written (Err e) b start s ps before old new n same h w =
    let lengths : length (old ++ body_spelled start b.parts b.exports) ≡ length before + length (exports_spelled s b.exports) = ap length (sym same) ∙ ap (λ (qs : List PartTree). length (before ++ body_spelled s qs b.exports)) n ∙ length-append before (exports_spelled s b.exports) in
    wrong_in e (length (exports_spelled s b.exports)) (length (old ++ body_spelled start b.parts b.exports)) (AllByRecursion (IsSupply (length s.places)) b.exports) (AreSupplied (length start.places) b.parts b.exports) (omega (arith, lengths)) (λ a. subst (λ (qs : List PartTree). AreSupplied (length s.places) qs b.exports) n (h.1 a)) w

-- ---- the front

pub group_refused : (e : WriteFault) (g : GroupTree) (gs all : List GroupTree) (old new : List ℕ) → (AllByRecursion IsGroup all → AllByRecursion IsGroup (g ∷ gs)) → WritesGroup g old new (Err e) → IsWrongFront e all
group_refused faults.TooManyParts g gs all old new h w = absurd w
group_refused faults.BadFront g gs all old new h w = λ each. w (h each).0
group_refused faults.NoSuchPart g gs all old new h w = absurd w
group_refused faults.TooLong g gs all old new h w = absurd w
group_refused faults.Memory g gs all old new h w = tt {0}

-- ---- the whole

pub front_refused : (e : WriteFault) (b : BundleTree) → IsWrongFront e b.front → IsRefused e b
front_refused faults.TooManyParts b h = absurd h
front_refused faults.BadFront b h = h
front_refused faults.NoSuchPart b h = absurd h
front_refused faults.TooLong b h = absurd h
front_refused faults.Memory b h = tt {0}

-- What stands before the parts.
abbrev pub opening : BundleTree → List ℕ
opening b = BUNDLE_PREAMBLE ++ front_spelled b.front

pub is_refused : (e : WriteFault) (b : BundleTree) (before : List ℕ) → before ≡ opening b → IsWrong e (length (before ++ body_spelled (spaces_behind b.front) b.parts b.exports)) (AreSupplied (length (spaces_behind b.front).places) b.parts b.exports) → IsRefused e b
unfolding spelled
is_refused faults.TooManyParts b before p h = absurd h
is_refused faults.BadFront b before p h = absurd h
is_refused faults.NoSuchPart b before p h = h
is_refused faults.TooLong b before p h =
    let body : List ℕ = body_spelled (spaces_behind b.front) b.parts b.exports in
    let sections : List ℕ = flat_map custom_spelled b.customs in
    let long : 2 ^ 32 ≤ length (opening b ++ body) = subst (λ (t : List ℕ). 2 ^ 32 ≤ length (t ++ body)) p h in
    omega (arith, length-append (opening b) body, length-append BUNDLE_PREAMBLE (front_spelled b.front), length-append BUNDLE_PREAMBLE (front_spelled b.front ++ (body ++ sections)), length-append (front_spelled b.front) (body ++ sections), length-append body sections, long)
is_refused faults.Memory b before p h = tt {0}

pub is_whole : (b : BundleTree) (before behind all : List ℕ) → before ≡ opening b → behind ≡ before ++ body_spelled (spaces_behind b.front) b.parts b.exports → all ≡ behind ++ flat_map custom_spelled b.customs → all ≡ spelled b
unfolding spelled
is_whole b before behind all p q h =
    let body : List ℕ = body_spelled (spaces_behind b.front) b.parts b.exports in
    let sections : List ℕ = flat_map custom_spelled b.customs in
    let front : List ℕ = front_spelled b.front in
    h ∙ ap (λ (t : List ℕ). t ++ sections) (q ∙ ap (λ (t : List ℕ). t ++ body) p)
    ∙ append_assoc (BUNDLE_PREAMBLE ++ front) body sections
    ∙ append_assoc BUNDLE_PREAMBLE front (body ++ sections)
