-- A pointer, a string, a char and a handle stop exactly where the words of the types say.
use Rattle.std.proofs.Common.{◌≡◌, ℕ, ◌+◌, ◌-◌, ◌*◌, ◌%◌, ◌<◌, ◌≤◌, ◌==◌, ◌⊎◌, inl, inr, Bool, true, false, not, List, [], ◌∷◌, ◌++◌, length, Option, Some, None, Ok, Err, refl, sym, ap, subst, ◌∙◌, arith, nat_lt}
use Rattle.std.specs.Prelude.{if◌then◌else◌, ⊤}
use Rattle.std.proofs.lemmas.Bool.{eqb-true, le-ltb, lt-ltb, ltb-false, ltb-true}
use Rattle.std.proofs.lemmas.List.{append-nil}
use Rattle.cm_types.specs.declared.resource.ResourceId.{ResourceId}
use Rattle.cm_types.specs.Values.{Val, handle, scalar, text}
use Rattle.cm_types.specs.TypedValues.{is_scalar_value}
use Rattle.cm_handles.specs.Handles.{Handles, handle_at, if_not_lent, if_owned, is_same_resource, of_resource}
use Rattle.cm_handles.specs.declared.handle.Handle.{Handle}
use Rattle.cm_handles.specs.declared.handle.HandleKind.{HandleKind}
use Rattle.cm_handles.specs.declared.handle.HandleKind.TheVariants.{Owned, Borrowed}
use Rattle.cm_layout.specs.declared.heads.Head.{Head}
use Rattle.cm_layout.specs.declared.layouts.HandleType.{HandleType}
use Rattle.cm_layout.specs.declared.layouts.HandleType.TheVariants as handle_type
use Rattle.cm_layout.specs.declared.layouts.Leaf.TheVariants as leaf
use Rattle.cm_abi_model.specs.declared.fault.AbiFault.{AbiFault}
use Rattle.cm_abi_model.specs.declared.fault.AbiFault.TheVariants as fault
use Rattle.cm_abi_model.specs.Texts.{ShowsText, bytes_from, charset_of, text_align, text_size}
use Rattle.cm_abi_model.specs.Shows.{ShowsHandle, ShowsOwned}
use Rattle.cm_abi_model.specs.Taken.{MAX_CONTENT, Met, after_met, content, content_of, lent, taken}
use Rattle.cm_abi_model.specs.Views.{View}
use Rattle.cm_abi_load.specs.Meeting.{Meets}
use Rattle.cm_abi_load.specs.Outcomes.{Outcome, State}
use Rattle.cm_abi_load.specs.Decoded.{decoded}
use Rattle.cm_abi_load.specs.PartLaws.{TextIsRead, TextIsShown}
use Rattle.cm_abi_load.specs.Reading.{after_text, leaf_value, read_each, read_elements, read_handle, read_text, region, text_value}
use Rattle.cm_abi_model.specs.Lifts.{Hands}
use Rattle.cm_abi_lift.specs.HandingOver.{hand_next, hand_one, hand_over, lent_out, taken_out, untouched}
use Rattle.cm_abi_model.specs.LiftStops.{BorrowStops, CharStops, ContentStops, HasContent, OwnStops, TextStops}
use Rattle.cm_abi_lift.proofs.FlatLaws.{Laws, read_err}
use Rattle.cm_abi_lift.proofs.HandLaws.{looked}
use Rattle.cm_abi_lift.proofs.Ends.{Extends, Fails, Finds, Ready, Tells, at_once, at_once_fails, extends_each, extends_text_value, fails_by, fails_then, goes_over_more, handle_met, met_one, over_more, same_grows, state_of, stops_then}
use Rattle.cm_abi_model.proofs.TextsLaws.{aligned, multiple}
use Rattle.cm_handles.proofs.HandleLaws.{as_read}
use Rattle.cm_abi_load.proofs.FoundLaws.{bind_found}
use Rattle.cm_abi_load.proofs.ShownLaws.{bind_ok, read_ok, region_tests}
use Rattle.cm_lemmas.proofs.Numbers.{eq_true, not_zero}
use Rattle.cm_lemmas.proofs.Bools.{false_not_true}
use Rattle.cm_handles.proofs.HandlesLaws.{same_is, same_true}
use Rattle.cm_types.proofs.TypedValueLaws.{scalar_sound, scalar_complete}

pub bool_false : (b : Bool) → (b ≡ true → ⊥) → b ≡ false
bool_false true h = absurd (h refl)
bool_false false h = refl

-- ---- pointers

meets_bytes : (t : Handles) (s : State) (size : ℕ) → size ≤ s.left → Meets t s (record s { left = s.left - size }) (content size ∷ [])
meets_bytes t s size room = record { counted = omega (arith, room); tagged = sym (append-nil s.tags); found = []; handles = sym (append-nil s.handles); same = refl; wanted = tt }

abbrev pub Content : View → ℕ → ℕ → ℕ → List Met → ⊤ → Type 0
Content w align at size ms u = HasContent w.memory align at size ms

abbrev pub bytes_met : ℕ → ⊤ → List Met
bytes_met size u = content size ∷ []

pub region_tells : (w : View) (align at size : ℕ) (s : State) (ms : List Met) → Ready w s ms → Tells w s (region w.memory align at size s) (Content w align at size ms) (bytes_met size)
unfolding region
region_tells w align at size s ms ready u t e =
    let tests = region_tests (at % align == 0) (nat_lt (length w.memory) (at + size)) (nat_lt s.left size) _ _ _ _ (u, t) e in
    let room : size ≤ s.left = ltb-false s.left size tests.2 in (
      record { in_place = record { aligned = aligned align at tests.0; inside = ltb-false (length w.memory) (at + size) tests.1 }; room = omega (arith, room, ready.counted) },
      subst (λ a. Meets w.table s a (content size ∷ [])) tests.3 (meets_bytes w.table s size room),
    )

pub region_finds : (w : View) (align at size : ℕ) (s : State) (ms : List Met) → Ready w s ms → Finds s (region w.memory align at size s) (Content w align at size ms) (bytes_met size)
unfolding region
region_finds w align at size s ms ready u h room =
    let enough : size ≤ s.left = omega (arith, h.room, ready.counted) in
    (record s { left = s.left - size }, rw (multiple align at h.in_place.aligned, le-ltb (length w.memory) (at + size) h.in_place.inside, le-ltb s.left size enough) refl)

pub region_stops : (w : View) (align at size : ℕ) (s : State) (ms : List Met) (f : AbiFault) → Ready w s ms → Fails w.table (region w.memory align at size s) f → ContentStops w.memory align at size ms f
unfolding region
region_stops w align at size s ms f ready fails = tests (at % align == 0) refl (nat_lt (length w.memory) (at + size)) refl (nat_lt s.left size) refl fails
  where
    tests : (a : Bool) → (at % align == 0) ≡ a → (b : Bool) → nat_lt (length w.memory) (at + size) ≡ b → (c : Bool) → nat_lt s.left size ≡ c
        → Fails {A = ⊤} w.table (if not a then read_err fault.Misaligned s else (if b then read_err fault.PointerBounds s else (if c then read_err fault.TooLarge s else read_ok tt (record s { left = s.left - size })))) f
        → ContentStops w.memory align at size ms f
    tests false is b bi c ci fails = subst (ContentStops w.memory align at size ms) (at_once {A = ⊤} w s ms (read_err fault.Misaligned s) f ready refl fails) (λ al. false_not_true (sym is ∙ multiple align at al))
    tests true is true bi c ci fails = subst (ContentStops w.memory align at size ms) (at_once {A = ⊤} w s ms (read_err fault.PointerBounds s) f ready refl fails) (aligned align at is, ltb-true (length w.memory) (at + size) bi)
    tests true is false bi true ci fails =
        let less : s.left < size = ltb-true s.left size ci in
        subst (ContentStops w.memory align at size ms) (at_once {A = ⊤} w s ms (read_err fault.TooLarge s) f ready refl fails)
        (record { aligned = aligned align at is; inside = ltb-false (length w.memory) (at + size) bi }, omega (arith, less, ready.counted))
    tests true is false bi false ci fails = absurd (at_once {A = ⊤} w s ms (read_ok tt (record s { left = s.left - size })) f ready refl fails)

pub region_fails : (w : View) (align at size : ℕ) (s : State) (ms : List Met) (f : AbiFault) → Ready w s ms → ContentStops w.memory align at size ms f → Fails w.table (region w.memory align at size s) f
unfolding region
region_fails w align at size s ms fault.Misaligned ready h =
    let odd : (at % align == 0) ≡ false = bool_false (at % align == 0) (λ e. h (aligned align at e)) in
    let is : region w.memory align at size s ≡ read_err fault.Misaligned s = rw odd refl in
    subst (λ q. Fails w.table q fault.Misaligned) (sym is) (at_once_fails {A = ⊤} w s ms (read_err fault.Misaligned s) fault.Misaligned ready refl refl)
region_fails w align at size s ms fault.PointerBounds ready h =
    let is : region w.memory align at size s ≡ read_err fault.PointerBounds s = rw (multiple align at h.0, lt-ltb (length w.memory) (at + size) h.1) refl in
    subst (λ q. Fails w.table q fault.PointerBounds) (sym is) (at_once_fails {A = ⊤} w s ms (read_err fault.PointerBounds s) fault.PointerBounds ready refl refl)
region_fails w align at size s ms fault.TooLarge ready h =
    let less : s.left < size = omega (arith, h.1, ready.counted) in
    let is : region w.memory align at size s ≡ read_err fault.TooLarge s = rw (multiple align at h.0.aligned, le-ltb (length w.memory) (at + size) h.0.inside, lt-ltb s.left size less) refl in
    subst (λ q. Fails w.table q fault.TooLarge) (sym is) (at_once_fails {A = ⊤} w s ms (read_err fault.TooLarge s) fault.TooLarge ready refl refl)
region_fails w align at size s ms f ready h = absurd h

-- ---- the elements behind a pointer

abbrev pub ContentOr : View → ℕ → ℕ → ℕ → List Met → AbiFault → (List Met → Type 0) → Type 0
ContentOr w align at size ms f G = ContentStops w.memory align at size ms f ⊎ (HasContent w.memory align at size ms × G (ms ++ content size ∷ []))

pub elements_stop : (w : View) (R : ℕ → State → Outcome Val) (h : Head) (at n : ℕ) (s : State) (ms : List Met) (f : AbiFault) (G : List Met → Type 0) → Ready w s ms
    → ((q : ℕ) (t : State) → Extends t (R q t)) → ((t : State) (ns : List Met) → Ready w t ns → Fails w.table (read_each R h.size n at t) f → G ns)
    → Fails w.table (read_elements R w.memory h at n s) f → ContentOr w h.align at (n * h.size) ms f G
unfolding read_elements
elements_stop w R h at n s ms f G ready extends later fails =
    elim (stops_then w s ms (region w.memory h.align at (n * h.size) s) (λ r. read_each R h.size n at r.1) (Content w h.align at (n * h.size) ms) (bytes_met (n * h.size))
    (ContentStops w.memory h.align at (n * h.size) ms f) (λ u ns. G ns) f ready (λ x. extends_each R h.size n at x.1 extends) (region_tells w h.align at (n * h.size) s ms ready)
    (region_stops w h.align at (n * h.size) s ms f ready) (λ u t on stops. later t (ms ++ content (n * h.size) ∷ []) on stops) fails) [
      | inl c ↦ inl c
      | inr x ↦ inr (x.1, x.3)
    ]

pub elements_fail : (w : View) (R : ℕ → State → Outcome Val) (h : Head) (at n : ℕ) (s : State) (ms : List Met) (f : AbiFault) (G : List Met → Type 0) → Ready w s ms
    → ((q : ℕ) (t : State) → Extends t (R q t)) → ((t : State) (ns : List Met) → Ready w t ns → G ns → Fails w.table (read_each R h.size n at t) f)
    → ContentOr w h.align at (n * h.size) ms f G → Fails w.table (read_elements R w.memory h at n s) f
unfolding read_elements
elements_fail w R h at n s ms f G ready extends later stops =
    fails_then w s ms (region w.memory h.align at (n * h.size) s) (λ r. read_each R h.size n at r.1) (Content w h.align at (n * h.size) ms) (bytes_met (n * h.size))
    (ContentStops w.memory h.align at (n * h.size) ms f) (λ u ns. G ns) f ready (λ x. extends_each R h.size n at x.1 extends) (region_tells w h.align at (n * h.size) s ms ready)
    (region_finds w h.align at (n * h.size) s ms ready) (region_fails w h.align at (n * h.size) s ms f ready) (λ u t on g. later t (ms ++ content (n * h.size) ∷ []) on g)
    (elim stops [
      | inl c ↦ inl c
      | inr x ↦ inr (tt, x.0, (let room : n * h.size ≤ MAX_CONTENT - content_of ms = omega (arith, x.0.room) in (room, tt)), x.1)
    ])

-- ---- strings

abbrev found_text : View → ℕ → ℕ → Option (List ℕ)
found_text w at n = decoded (charset_of w.encoding n) (bytes_from w.memory at (text_size w.encoding n))

abbrev rest_of_text : View → ℕ → ℕ → ⊤ × State → Outcome Val
rest_of_text w at n r = text_value (found_text w at n) (after_text w.encoding n r.1)

abbrev BadText : View → ℕ → ℕ → AbiFault → ⊤ → List Met → Type 0
BadText w at n f u ms = (f ≡ fault.BadText) × (found_text w at n ≡ None)

content_text : (w : View) (at n : ℕ) (ms : List Met) (f : AbiFault) → ContentStops w.memory (text_align w.encoding) at (text_size w.encoding n) ms f → TextStops w at n ms f
content_text w at n ms fault.BadText c = absurd c
content_text w at n ms f c = c

no_value : (o : Option (List ℕ)) (t : State) (y : Val × State) → o ≡ None → text_value o t ≡ Ok y → ⊥
no_value None t y e is = cc
no_value (Some cs) t y e is = cc

under_text : (w : View) (at n : ℕ) (x : ⊤ × State) → Extends x.1 (rest_of_text w at n x)
under_text w at n x = extends_text_value (found_text w at n) x.1 (after_text w.encoding n x.1) (same_grows x.1 (after_text w.encoding n x.1) refl)

text_later : (w : View) (at n : ℕ) (t : State) (ns : List Met) (f : AbiFault) → Ready w t ns → (o : Option (List ℕ)) → found_text w at n ≡ o → Fails w.table (text_value o (after_text w.encoding n t)) f → BadText w at n f tt ns
text_later w at n t ns f ready None is fails = (sym (at_once w t ns (text_value None (after_text w.encoding n t)) f ready refl fails), is)
text_later w at n t ns f ready (Some cs) is fails = absurd (at_once w t ns (text_value (Some cs) (after_text w.encoding n t)) f ready refl fails)

none_fails : (w : View) (at n : ℕ) (t : State) (ns : List Met) (f : AbiFault) → Ready w t ns → BadText w at n f tt ns → Fails w.table (rest_of_text w at n (tt, t)) f
none_fails w at n t ns f ready bad =
    subst (λ o. Fails w.table (text_value o (after_text w.encoding n t)) f) (sym bad.1)
    (at_once_fails w t ns (text_value None (after_text w.encoding n t)) f ready refl (sym bad.0))

pub text_stops : TextIsRead → (w : View) (at n : ℕ) (s : State) (ms : List Met) (f : AbiFault) → Ready w s ms → Fails w.table (read_text w.memory w.encoding at n s) f → TextStops w at n ms f
unfolding read_text
text_stops law w at n s ms f ready fails =
    let align = text_align w.encoding in
    let size = text_size w.encoding n in
    elim (stops_then w s ms (region w.memory align at size s) (rest_of_text w at n) (Content w align at size ms) (bytes_met size)
    (ContentStops w.memory align at size ms f) (BadText w at n f) f ready (under_text w at n) (region_tells w align at size s ms ready)
    (region_stops w align at size s ms f ready) (λ u t on stops. text_later w at n t (ms ++ content size ∷ []) f on (found_text w at n) refl stops) fails) [
      | inl c ↦ content_text w at n ms f c
      | inr x ↦ subst (TextStops w at n ms) (sym x.3.0) (record {
        stands = x.1;
        no_text = λ cs shown.
            let room : size ≤ s.left = omega (arith, x.1.room, ready.counted) in
            let read = law w.memory w.encoding at n cs s shown room in
            let first = bind_ok (region w.memory align at size s) (rest_of_text w at n) (text cs, read.0) read.1 in
            no_value (found_text w at n) (after_text w.encoding n first.0.1) (text cs, read.0) x.3.1 first.2;
      })
    ]

text_fails_by : (w : View) (at n : ℕ) (s : State) (ms : List Met) (f : AbiFault) → Ready w s ms
    → ContentStops w.memory (text_align w.encoding) at (text_size w.encoding n) ms f ⊎ (HasContent w.memory (text_align w.encoding) at (text_size w.encoding n) ms × BadText w at n f tt ms)
    → Fails w.table (read_text w.memory w.encoding at n s) f
unfolding read_text
text_fails_by w at n s ms f ready stops =
    let align = text_align w.encoding in
    let size = text_size w.encoding n in
    fails_then w s ms (region w.memory align at size s) (rest_of_text w at n) (Content w align at size ms) (bytes_met size)
    (ContentStops w.memory align at size ms f) (BadText w at n f) f ready (under_text w at n) (region_tells w align at size s ms ready)
    (region_finds w align at size s ms ready) (region_fails w align at size s ms f ready) (λ u t on bad. none_fails w at n t (ms ++ content size ∷ []) f on bad)
    (elim stops [
      | inl c ↦ inl c
      | inr x ↦ inr (tt, x.0, (let room : size ≤ MAX_CONTENT - content_of ms = omega (arith, x.0.room) in (room, tt)), x.1)
    ])

no_text_found : TextIsShown → (w : View) (at n : ℕ) (s : State) (ms : List Met) → Ready w s ms → HasContent w.memory (text_align w.encoding) at (text_size w.encoding n) ms
    → ((scalars : List ℕ) → ShowsText w.encoding w.memory at n scalars → ⊥) → found_text w at n ≡ None
unfolding read_text
no_text_found law w at n s ms ready there none = by_found (found_text w at n) refl
  where
    by_found : (o : Option (List ℕ)) → found_text w at n ≡ o → found_text w at n ≡ None
    by_found None is = is
    by_found (Some cs) is =
        let align = text_align w.encoding in
        let size = text_size w.encoding n in
        let first = region_finds w align at size s ms ready tt there (omega (arith, there.room, ready.counted)) in
        let read : read_text w.memory w.encoding at n s ≡ Ok (text cs, after_text w.encoding n first.0) =
        bind_found (region w.memory align at size s) (rest_of_text w at n) (tt, first.0) (read_ok (text cs) (after_text w.encoding n first.0)) first.1 (ap (λ o. text_value o (after_text w.encoding n first.0)) is) in
        let shown = law w.memory w.encoding at n w.table s (after_text w.encoding n first.0) (text cs) read in
        absurd (none shown.0 shown.2)

pub text_fails : TextIsShown → (w : View) (at n : ℕ) (s : State) (ms : List Met) (f : AbiFault) → Ready w s ms → TextStops w at n ms f → Fails w.table (read_text w.memory w.encoding at n s) f
text_fails law w at n s ms fault.BadText ready h = text_fails_by w at n s ms fault.BadText ready (inr (h.stands, (refl, no_text_found law w at n s ms ready h.stands h.no_text)))
text_fails law w at n s ms f ready h = text_fails_by w at n s ms f ready (inl h)

-- ---- chars

pub char_stops : (w : View) (c : ℕ) (s : State) (ms : List Met) (f : AbiFault) → Ready w s ms → Fails w.table (leaf_value leaf.Char c s) f → CharStops c f
char_stops w c s ms f ready fails = tests (is_scalar_value c) refl fails
  where
    tests : (b : Bool) → is_scalar_value c ≡ b → Fails {A = Val} w.table (if b then read_ok (scalar c) s else read_err fault.BadChar s) f → CharStops c f
    tests true is fails = absurd (at_once {A = Val} w s ms (read_ok (scalar c) s) f ready refl fails)
    tests false is fails = (sym (at_once {A = Val} w s ms (read_err fault.BadChar s) f ready refl fails), λ yes. false_not_true (sym is ∙ scalar_complete c yes))

pub char_fails : (w : View) (c : ℕ) (s : State) (ms : List Met) (f : AbiFault) → Ready w s ms → CharStops c f → Fails w.table (leaf_value leaf.Char c s) f
char_fails w c s ms f ready h =
    let no : is_scalar_value c ≡ false = bool_false (is_scalar_value c) (λ yes. h.1 (scalar_sound c yes)) in
    let is : leaf_value leaf.Char c s ≡ read_err fault.BadChar s = rw no refl in
    subst (λ q. Fails w.table q f) (sym is) (at_once_fails {A = Val} w s ms (read_err fault.BadChar s) f ready refl (sym h.0))

-- ---- handles

lends_some : (n : ℕ) → 0 < n → (n == 0) ≡ false
lends_some n lt = bool_false (n == 0) (λ e. let none : n ≡ 0 = eqb-true n 0 e in omega (arith, lt, none))

abbrev OwnGoes : Hands → ResourceId → ℕ → Type 0
OwnGoes h r i = (x : Handle) × (handle_at h.table i ≡ Some x) × (x.resource ≡ r) × (x.lends ≡ 0) × (x.kind ≡ Owned)

abbrev OwnStopped : Hands → ResourceId → ℕ → Type 0
OwnStopped h r i = (f : AbiFault) × (hand_one h (handle_type.Own r) i ≡ Err f) × OwnStops h.table r i f

own_way : (h : Hands) (r : ResourceId) (i : ℕ) → OwnStopped h r i ⊎ OwnGoes h r i
unfolding hand_one
own_way h r i = looked_at (handle_at h.table i) refl
  where
    there : (x : Handle) → handle_at h.table i ≡ Some x → x.resource ≡ r → hand_one h (handle_type.Own r) i ≡ taken_out h i (if_owned (if_not_lent (Ok x)))
    there x stands of = ap (λ q. taken_out h i (if_owned (if_not_lent q))) (looked (handle_at h.table i) r x stands (same_true x.resource r of))

    kinds : (x : Handle) → handle_at h.table i ≡ Some x → x.resource ≡ r → x.lends ≡ 0 → (k : HandleKind) → x.kind ≡ k → OwnStopped h r i ⊎ OwnGoes h r i
    kinds x stands of free Owned is = inr (x, stands, of, free, is)
    kinds x stands of free (Borrowed c) is = inl (fault.NotOwned, there x stands of ∙ rw (eq_true x.lends 0 free, is) refl, (x, stands, of, free, λ o. other (sym is ∙ o)))
      where
        other : Borrowed c ≡ Owned → ⊥
        other e = cc

    frees : (x : Handle) → handle_at h.table i ≡ Some x → x.resource ≡ r → (b : Bool) → (x.lends == 0) ≡ b → OwnStopped h r i ⊎ OwnGoes h r i
    frees x stands of true is = kinds x stands of (eqb-true x.lends 0 is) x.kind refl
    frees x stands of false is = inl (fault.StillLent, there x stands of ∙ rw is refl, (x, stands, of, not_zero x.lends is))

    resources : (x : Handle) → handle_at h.table i ≡ Some x → (b : Bool) → is_same_resource x.resource r ≡ b → OwnStopped h r i ⊎ OwnGoes h r i
    resources x stands true is = frees x stands (same_is x.resource r is) (x.lends == 0) refl
    resources x stands false is =
        inl (fault.WrongResource, ap (λ o. taken_out h i (if_owned (if_not_lent (of_resource o r)))) stands ∙ rw is refl, (x, stands, λ e. false_not_true (sym is ∙ same_true x.resource r e)))

    looked_at : (o : Option Handle) → handle_at h.table i ≡ o → OwnStopped h r i ⊎ OwnGoes h r i
    looked_at None is = inl (fault.NoHandle, ap (λ o. taken_out h i (if_owned (if_not_lent (of_resource o r)))) is, is)
    looked_at (Some x) is = resources x is (is_same_resource x.resource r) refl

own_fault : (h : Hands) (r : ResourceId) (i : ℕ) (f : AbiFault) → OwnStops h.table r i f → hand_one h (handle_type.Own r) i ≡ Err f
unfolding hand_one
own_fault h r i fault.NoHandle e = ap (λ o. taken_out h i (if_owned (if_not_lent (of_resource o r)))) e
own_fault h r i fault.WrongResource x =
    let no : is_same_resource x.0.resource r ≡ false = bool_false (is_same_resource x.0.resource r) (λ e. x.2 (same_is x.0.resource r e)) in
    ap (λ o. taken_out h i (if_owned (if_not_lent (of_resource o r)))) x.1 ∙ rw no refl
own_fault h r i fault.StillLent x =
    ap (λ q. taken_out h i (if_owned (if_not_lent q))) (looked (handle_at h.table i) r x.0 x.1 (same_true x.0.resource r x.2)) ∙ rw (lends_some x.0.lends x.3) refl
own_fault h r i fault.NotOwned x =
    ap (λ q. taken_out h i (if_owned (if_not_lent q))) (looked (handle_at h.table i) r x.0 x.1 (same_true x.0.resource r x.2)) ∙ kinds x.0.kind refl
  where
    kinds : (k : HandleKind) → x.0.kind ≡ k → taken_out h i (if_owned (if_not_lent (Ok x.0))) ≡ Err fault.NotOwned
    kinds Owned is = absurd (x.4 is)
    kinds (Borrowed c) is = rw (eq_true x.0.lends 0 x.3, is) refl
own_fault h r i f x = absurd x

abbrev BorrowGoes : Hands → ResourceId → ℕ → Type 0
BorrowGoes h r i = (x : Handle) × (handle_at h.table i ≡ Some x) × (x.resource ≡ r)

abbrev BorrowStopped : Hands → ResourceId → ℕ → Type 0
BorrowStopped h r i = (f : AbiFault) × (hand_one h (handle_type.Borrow r) i ≡ Err f) × BorrowStops h.table r i f

borrow_way : (h : Hands) (r : ResourceId) (i : ℕ) → BorrowStopped h r i ⊎ BorrowGoes h r i
unfolding hand_one
borrow_way h r i = looked_at (handle_at h.table i) refl
  where
    resources : (x : Handle) → handle_at h.table i ≡ Some x → (b : Bool) → is_same_resource x.resource r ≡ b → BorrowStopped h r i ⊎ BorrowGoes h r i
    resources x stands true is = inr (x, stands, same_is x.resource r is)
    resources x stands false is =
        inl (fault.WrongResource, ap (λ o. lent_out h i (of_resource o r)) stands ∙ rw is refl, (x, stands, λ e. false_not_true (sym is ∙ same_true x.resource r e)))

    looked_at : (o : Option Handle) → handle_at h.table i ≡ o → BorrowStopped h r i ⊎ BorrowGoes h r i
    looked_at None is = inl (fault.NoHandle, ap (λ o. lent_out h i (of_resource o r)) is, is)
    looked_at (Some x) is = resources x is (is_same_resource x.resource r) refl

borrow_fault : (h : Hands) (r : ResourceId) (i : ℕ) (f : AbiFault) → BorrowStops h.table r i f → hand_one h (handle_type.Borrow r) i ≡ Err f
unfolding hand_one
borrow_fault h r i fault.NoHandle e = ap (λ o. lent_out h i (of_resource o r)) e
borrow_fault h r i fault.WrongResource x =
    let no : is_same_resource x.0.resource r ≡ false = bool_false (is_same_resource x.0.resource r) (λ e. x.2 (same_is x.0.resource r e)) in
    ap (λ o. lent_out h i (of_resource o r)) x.1 ∙ rw no refl
borrow_fault h r i f x = absurd x

-- handing over stops at the handle that was met last
last_stops : (w : View) (t : HandleType) (i : ℕ) (s : State) (ms : List Met) (f : AbiFault) (ready : Ready w s ms) → hand_one ready.hands t i ≡ Err f
    → hand_over (untouched w.table) (state_of (read_handle w.table t i s)).handles ≡ Err f
last_stops w t i s ms f ready is =
    over_more w.table s (state_of (read_handle w.table t i s)) (met_one t i) (Ok ready.hands) (handle_met w.table t i s) ready.over ∙ ap (λ q. hand_next q (λ k. hand_over k [])) is

-- the reader came to a value, and its handle can go
goes_on : {A : Type 0} (w : View) (s t : State) (ms more : List Met) (q : Outcome A) (v : A) (f : AbiFault) → Ready w s ms → q ≡ Ok (v, t) → (g : Hands) × (hand_over (untouched w.table) t.handles ≡ Ok g) → Fails w.table q f → ⊥
goes_on {A} w s t ms more q v f ready is hands fails = subst (λ h. fails_by {A = A} (Ok (v, t)) h f) hands.1 (subst (λ x. Fails w.table x f) is fails)

pub own_stops : Laws → (w : View) (r : ResourceId) (i : ℕ) (s : State) (ms : List Met) (f : AbiFault) → Ready w s ms → Fails w.table (read_handle w.table (handle_type.Own r) i s) f → OwnStops (after_met w.table ms) r i f
own_stops laws w r i s ms f ready fails =
    subst (λ t. OwnStops t r i f) ready.table (elim (own_way ready.hands r i) [
      | inl x ↦ subst (OwnStops ready.hands.table r i) (subst (λ h. fails_by (read_handle w.table (handle_type.Own r) i s) h f) (last_stops w (handle_type.Own r) i s ms x.0 ready x.1) fails) x.2
      | inr x ↦
          let still = ready.kept i x.0 x.1 in
          let shown : ShowsOwned w.table i r (as_read still.entry r) = record {
            handle = record { entry = still.entry; stands = still.stood; of_resource = sym (ap (λ (z : Handle). z.resource) still.same) ∙ x.2; value = refl };
            owned = sym (ap (λ (z : Handle). z.kind) still.same) ∙ x.4;
          } in
          let found = laws.own_read w.table i r (as_read still.entry r) s shown in
          let told = laws.own_shown w.table i r s found.0 (handle (as_read still.entry r)) found.1 in
          let hands = goes_over_more w s found.0 ms (taken i ∷ []) ready told.3 (record { entry = x.0; stands = subst (λ t. handle_at t i ≡ Some x.0) ready.table x.1; not_lent = x.3 }, tt) in
          absurd (goes_on w s found.0 ms (taken i ∷ []) (read_handle w.table (handle_type.Own r) i s) (handle (as_read still.entry r)) f ready found.1 hands fails)
    ])

pub own_fails : (w : View) (r : ResourceId) (i : ℕ) (s : State) (ms : List Met) (f : AbiFault) → Ready w s ms → OwnStops (after_met w.table ms) r i f → Fails w.table (read_handle w.table (handle_type.Own r) i s) f
own_fails w r i s ms f ready stops =
    let is = own_fault ready.hands r i f (subst (λ t. OwnStops t r i f) (sym ready.table) stops) in
    subst (λ h. fails_by (read_handle w.table (handle_type.Own r) i s) h f) (sym (last_stops w (handle_type.Own r) i s ms f ready is)) refl

pub borrow_stops : Laws → (w : View) (r : ResourceId) (i : ℕ) (s : State) (ms : List Met) (f : AbiFault) → Ready w s ms → Fails w.table (read_handle w.table (handle_type.Borrow r) i s) f → BorrowStops (after_met w.table ms) r i f
borrow_stops laws w r i s ms f ready fails =
    subst (λ t. BorrowStops t r i f) ready.table (elim (borrow_way ready.hands r i) [
      | inl x ↦ subst (BorrowStops ready.hands.table r i) (subst (λ h. fails_by (read_handle w.table (handle_type.Borrow r) i s) h f) (last_stops w (handle_type.Borrow r) i s ms x.0 ready x.1) fails) x.2
      | inr x ↦
          let still = ready.kept i x.0 x.1 in
          let shown : ShowsHandle w.table i r (as_read still.entry r) = record { entry = still.entry; stands = still.stood; of_resource = sym (ap (λ (z : Handle). z.resource) still.same) ∙ x.2; value = refl } in
          let found = laws.borrow_read w.table i r (as_read still.entry r) s shown in
          let told = laws.borrow_shown w.table i r s found.0 (handle (as_read still.entry r)) found.1 in
          let hands = goes_over_more w s found.0 ms (lent i ∷ []) ready told.3 ((x.0, subst (λ t. handle_at t i ≡ Some x.0) ready.table x.1), tt) in
          absurd (goes_on w s found.0 ms (lent i ∷ []) (read_handle w.table (handle_type.Borrow r) i s) (handle (as_read still.entry r)) f ready found.1 hands fails)
    ])

pub borrow_fails : (w : View) (r : ResourceId) (i : ℕ) (s : State) (ms : List Met) (f : AbiFault) → Ready w s ms → BorrowStops (after_met w.table ms) r i f → Fails w.table (read_handle w.table (handle_type.Borrow r) i s) f
borrow_fails w r i s ms f ready stops =
    let is = borrow_fault ready.hands r i f (subst (λ t. BorrowStops t r i f) (sym ready.table) stops) in
    subst (λ h. fails_by (read_handle w.table (handle_type.Borrow r) i s) h f) (sym (last_stops w (handle_type.Borrow r) i s ms f ready is)) refl
