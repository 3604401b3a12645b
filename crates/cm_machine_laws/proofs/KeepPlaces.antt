-- What traps, ends of calls, new and dropped resources leave of places.
use Rattle.std.proofs.Common.{◌≡◌, ◌≢◌, ℕ, zero, suc, ◌-◌, ◌<◌, inl, inr, Bool, true, false}
use Rattle.std.proofs.Common.{List, [], ◌∷◌, ◌++◌, length, map, get_or, Option, Some, None, refl}
use Rattle.std.proofs.Common.{sym, ap, subst, ◌∙◌, arith}
use Rattle.std.specs.Prelude.{slice_get, slice_set, ◌==◌, if◌then◌else◌}
use Rattle.std.specs.Option.{option_map}
use Rattle.std.proofs.lemmas.Bool.{cases_eq, cases_lt}
use Rattle.std.proofs.lemmas.List.{get_or-set_same, get_or-set_other}
use Rattle.std.proofs.lemmas.Option.{none-some, same_Some, slice_get_past, slice_get-map}
use Rattle.cm_handles.specs.Handles.{Handles, IsSoundHandles, after_add, next_index, after_close}
use Rattle.cm_handles.specs.Handles.{after_release, after_unlend, handle_at, is_borrow}
use Rattle.cm_handles.specs.Handles.{slot_after_close, with_lends}
use Rattle.cm_handles.specs.declared.handle.Handle.{Handle}
use Rattle.cm_handles.specs.declared.handle.HandleKind.{HandleKind}
use Rattle.cm_handles.specs.declared.handle.HandleKind.TheVariants as handle
use Rattle.cm_machine_model.specs.declared.frame.Frame.{Frame}
use Rattle.cm_machine_model.specs.declared.frame.Lend.{Lend}
use Rattle.cm_machine_model.specs.declared.frame.Place.{Place}
use Rattle.cm_machine_model.specs.declared.frame.Place.TheVariants as place
use Rattle.cm_machine_model.specs.Owning.{HaveOnePlace, IsAmong, OnePlace, Owners, Owns, Standing}
use Rattle.cm_machine_model.specs.Owning.{StandsIn, owners_of, standing, travelling}
use Rattle.cm_machine_model.specs.Stack.{below_top}
use Rattle.cm_machine_model.specs.Step.{CanMake, after_call, after_drop, after_new}
use Rattle.cm_machine_model.specs.State.{Passage, State, after_trap, place_after_trap, table_at}
use Rattle.cm_machine_model.specs.State.{tables_after_call, tables_after_trap, tables_after_unlend}
use Rattle.cm_machine_laws.proofs.OwningLaws.{AddingIsFine, ChangesAt, MovesTo}
use Rattle.cm_types.specs.declared.resource.ResourceId.{ResourceId}
use Rattle.cm_machine_laws.proofs.OnePlaces.{place_of_owned}
use Rattle.cm_machine_laws.proofs.LiftPlaces.{changed_in, moved_in, released}
use Rattle.cm_lemmas.proofs.Lists.{get_last, set_past}
use Rattle.cm_machine_model.proofs.StateLaws.{set_same, table_other, table_same}

-- places depend on the owned handles alone, and on no frame where nothing is on its way
pub same_owned : (at new : Standing) (owner : Owners) (frame : ℕ) (away : List ℕ) → HaveOnePlace at owner frame away
    → ((n i k : ℕ) → Owns at n i k → Owns new n i k) → ((n i k : ℕ) → Owns new n i k → Owns at n i k) → HaveOnePlace new owner frame away
same_owned at new owner frame away p there back = record {
  in_table = λ n i k e. there n i k (p.in_table n i k e);
  owned = λ n i k o. p.owned n i k (back n i k o);
  on_its_way = p.on_its_way;
  carried = p.carried;
  once = p.once;
}

pub any_frame : (at : Standing) (owner : Owners) (f g : ℕ) → HaveOnePlace at owner f [] → HaveOnePlace at owner g []
any_frame at owner f g p = record {
  in_table = p.in_table;
  owned = p.owned;
  on_its_way = λ n h e. absurd ((p.on_its_way n h e).1);
  carried = λ n a. absurd a;
  once = tt;
}

-- ---- one table is replaced by one that owns the same

pub record OwnSame (t new : Handles) : Type 0 where
  pub there : (k : ℕ) (h : Handle) → handle_at t k ≡ Some h → h.kind ≡ handle.Owned
      → (e : Handle) × (handle_at new k ≡ Some e) × (e.kind ≡ handle.Owned) × (e.serial ≡ h.serial)
  pub back : (k : ℕ) (h : Handle) → handle_at new k ≡ Some h → h.kind ≡ handle.Owned
      → (e : Handle) × (handle_at t k ≡ Some e) × (e.kind ≡ handle.Owned) × (e.serial ≡ h.serial)

replaced_there : (tables : List Handles) (j : ℕ) (new : Handles) → OwnSame (table_at tables j) new → j < length tables → (n i k : ℕ)
    → Owns (standing tables) n i k → Owns (standing (slice_set tables j new)) n i k
replaced_there tables j new same lt n i k o = elim (cases_eq i j) as (λ r. Owns (standing (slice_set tables j new)) n i k) [
  | inl e ↦
      let now = same.there k o.entry (ap (λ x. handle_at (table_at tables x) k) (sym e) ∙ o.stands) o.owned in
      record {
        entry = now.0;
        stands = ap (λ x. handle_at (table_at (slice_set tables j new) x) k) e ∙ (ap (λ t. handle_at t k) (table_same tables j new lt) ∙ now.1);
        owned = now.2;
        serial_is = now.3 ∙ o.serial_is;
      }
  | inr ne ↦ record { entry = o.entry; stands = ap (λ t. handle_at t k) (table_other tables j i new ne) ∙ o.stands; owned = o.owned; serial_is = o.serial_is }
]

replaced_back : (tables : List Handles) (j : ℕ) (new : Handles) → OwnSame (table_at tables j) new → j < length tables → (n i k : ℕ)
    → Owns (standing (slice_set tables j new)) n i k → Owns (standing tables) n i k
replaced_back tables j new same lt n i k o = elim (cases_eq i j) as (λ r. Owns (standing tables) n i k) [
  | inl e ↦
      let was = same.back k o.entry (ap (λ t. handle_at t k) (sym (table_same tables j new lt)) ∙ (ap (λ x. handle_at (table_at (slice_set tables j new) x) k) (sym e) ∙ o.stands)) o.owned in
      record {
        entry = was.0;
        stands = ap (λ x. handle_at (table_at tables x) k) e ∙ was.1;
        owned = was.2;
        serial_is = was.3 ∙ o.serial_is;
      }
  | inr ne ↦ record { entry = o.entry; stands = sym (ap (λ t. handle_at t k) (table_other tables j i new ne)) ∙ o.stands; owned = o.owned; serial_is = o.serial_is }
]

pub replaced : (tables : List Handles) (j : ℕ) (new : Handles) (owner : Owners) (frame : ℕ) (away : List ℕ) → OwnSame (table_at tables j) new
    → HaveOnePlace (standing tables) owner frame away → HaveOnePlace (standing (slice_set tables j new)) owner frame away
replaced tables j new owner frame away same p = elim (cases_lt j (length tables)) as (λ r. HaveOnePlace (standing (slice_set tables j new)) owner frame away) [
  | inl lt ↦ same_owned (standing tables) (standing (slice_set tables j new)) owner frame away p (replaced_there tables j new same lt) (replaced_back tables j new same lt)
  | inr le ↦ subst (λ (ts : List Handles). HaveOnePlace (standing ts) owner frame away) (sym (set_past tables j new le)) p
]

-- ---- a table closes

map_at : (xs : List (Option Handle)) (k : ℕ) → get_or (map slot_after_close xs) k None ≡ slot_after_close (get_or xs k None)
map_at [] k = refl
map_at (x ∷ xs) zero = refl
map_at (x ∷ xs) (suc k) = map_at xs k

closed_back : (h e : Handle) (k : HandleKind) → h.kind ≡ k → (if is_borrow k then None else Some (with_lends 0 h)) ≡ Some e → (h.kind ≡ handle.Owned) × (h.serial ≡ e.serial)
closed_back h e handle.Owned is eq = (is, ap (λ (x : Handle). x.serial) (same_Some (with_lends 0 h) e eq))
closed_back h e (handle.Borrowed c) is eq = absurd (none-some e eq)

slot_back : (o : Option Handle) (e : Handle) → slot_after_close o ≡ Some e → (h : Handle) × (o ≡ Some h) × (h.kind ≡ handle.Owned) × (h.serial ≡ e.serial)
slot_back None e eq = absurd (none-some e eq)
slot_back (Some h) e eq = let r = closed_back h e h.kind refl eq in (h, refl, r.0, r.1)

pub closing : (t : Handles) → OwnSame t (after_close t)
closing t = record {
  there = λ k h stands owned. (
    with_lends 0 h,
    map_at t.slots k ∙ (ap slot_after_close stands ∙ ap (λ (b : Bool). if b then None else Some (with_lends 0 h)) (ap is_borrow owned)),
    owned,
    refl,
  );
  back = λ k h stands owned. slot_back (get_or t.slots k None) h (sym (map_at t.slots k) ∙ stands);
}

-- ---- a lend ends

some_map : (o : Option Handle) (e : Handle) → option_map (λ (h : Handle). with_lends (h.lends - 1) h) o ≡ Some e → (h : Handle) × (o ≡ Some h) × (h.kind ≡ e.kind) × (h.serial ≡ e.serial)
some_map None e eq = absurd (none-some e eq)
some_map (Some h) e eq =
    let is = same_Some (with_lends (h.lends - 1) h) e eq in
    (h, refl, ap (λ (x : Handle). x.kind) is, ap (λ (x : Handle). x.serial) is)

unlent_there : (t : Handles) (i k : ℕ) (h : Handle) → i < length t.slots → handle_at t k ≡ Some h
    → (e : Handle) × (handle_at (after_unlend t i) k ≡ Some e) × (e.kind ≡ h.kind) × (e.serial ≡ h.serial)
unlent_there t i k h lt stands = elim (cases_eq k i) as (λ r. (e : Handle) × (handle_at (after_unlend t i) k ≡ Some e) × (e.kind ≡ h.kind) × (e.serial ≡ h.serial)) [
  | inl same ↦ (
    with_lends (h.lends - 1) h,
    ap (λ x. handle_at (after_unlend t i) x) same ∙ (get_or-set_same t.slots i (option_map (λ (x : Handle). with_lends (x.lends - 1) x) (handle_at t i)) None lt ∙ ap (λ o. option_map (λ (x : Handle). with_lends (x.lends - 1) x) o) (ap (λ x. handle_at t x) (sym same) ∙ stands)),
    refl,
    refl,
  )
  | inr ne ↦ (h, get_or-set_other t.slots i k (option_map (λ (x : Handle). with_lends (x.lends - 1) x) (handle_at t i)) None ne ∙ stands, refl, refl)
]

unlent_back : (t : Handles) (i k : ℕ) (h : Handle) → i < length t.slots → handle_at (after_unlend t i) k ≡ Some h
    → (e : Handle) × (handle_at t k ≡ Some e) × (e.kind ≡ h.kind) × (e.serial ≡ h.serial)
unlent_back t i k h lt stands = elim (cases_eq k i) as (λ r. (e : Handle) × (handle_at t k ≡ Some e) × (e.kind ≡ h.kind) × (e.serial ≡ h.serial)) [
  | inl same ↦
      let was = some_map (handle_at t i) h (sym (get_or-set_same t.slots i (option_map (λ (x : Handle). with_lends (x.lends - 1) x) (handle_at t i)) None lt) ∙ (ap (λ x. handle_at (after_unlend t i) x) (sym same) ∙ stands)) in
      (was.0, ap (λ x. handle_at t x) same ∙ was.1, was.2, was.3)
  | inr ne ↦ (h, sym (get_or-set_other t.slots i k (option_map (λ (x : Handle). with_lends (x.lends - 1) x) (handle_at t i)) None ne) ∙ stands, refl, refl)
]

same_table : (t : Handles) → OwnSame t t
same_table t = record { there = λ k h stands owned. (h, stands, owned, refl); back = λ k h stands owned. (h, stands, owned, refl) }

pub unlending : (t : Handles) (i : ℕ) → OwnSame t (after_unlend t i)
unlending t i = elim (cases_lt i (length t.slots)) as (λ r. OwnSame t (after_unlend t i)) [
  | inl lt ↦ record {
    there = λ k h stands owned. let e = unlent_there t i k h lt stands in (e.0, e.1, e.2 ∙ owned, e.3);
    back = λ k h stands owned. let e = unlent_back t i k h lt stands in (e.0, e.1, e.2 ∙ owned, e.3);
  }
  | inr le ↦ subst (λ (xs : List (Option Handle)). OwnSame t (record { slots = xs; freed = t.freed })) (sym (set_past t.slots i (option_map (λ (x : Handle). with_lends (x.lends - 1) x) (handle_at t i)) le)) (same_table t)
]

-- ---- states

closing_all : (fs : List Frame) (tables : List Handles) (owner : Owners) (frame : ℕ) (away : List ℕ) → HaveOnePlace (standing tables) owner frame away
    → HaveOnePlace (standing (tables_after_trap fs tables)) owner frame away
closing_all [] tables owner frame away p = p
closing_all (f ∷ fs) tables owner frame away p =
    closing_all fs (slice_set tables f.instance (after_close (table_at tables f.instance))) owner frame away
    (replaced tables f.instance (after_close (table_at tables f.instance)) owner frame away (closing (table_at tables f.instance)) p)

in_table_left : (o : Option Place) (i k : ℕ) → option_map place_after_trap o ≡ Some (place.InTable i k) → o ≡ Some (place.InTable i k)
in_table_left None i k e = absurd (none-some (place.InTable i k) e)
in_table_left (Some (place.InTable j l)) i k e = e
in_table_left (Some (place.Travelling f)) i k e = absurd (cc (e))
in_table_left (Some place.Abandoned) i k e = absurd (cc (e))
in_table_left (Some place.Dropped) i k e = absurd (cc (e))

none_travels : (o : Option Place) (f : ℕ) → option_map place_after_trap o ≡ Some (place.Travelling f) → ⊥
none_travels None f e = none-some (place.Travelling f) e
none_travels (Some (place.InTable j l)) f e = cc (e)
none_travels (Some (place.Travelling g)) f e = cc (e)
none_travels (Some place.Abandoned) f e = cc (e)
none_travels (Some place.Dropped) f e = cc (e)

lost : (at : Standing) (owners : List Place) (frame g : ℕ) (away : List ℕ) → HaveOnePlace at (owners_of owners) frame away → HaveOnePlace at (owners_of (map place_after_trap owners)) g []
lost at owners frame g away p = record {
  in_table = λ n i k e. p.in_table n i k (in_table_left (slice_get owners n) i k (sym (slice_get-map place_after_trap owners n) ∙ e));
  owned = λ n i k o. slice_get-map place_after_trap owners n ∙ ap (λ x. option_map place_after_trap x) (p.owned n i k o);
  on_its_way = λ n f e. absurd (none_travels (slice_get owners n) f (sym (slice_get-map place_after_trap owners n) ∙ e));
  carried = λ n a. absurd a;
  once = tt;
}

pub trap_keeps : (s : State) → OnePlace s → OnePlace (after_trap s)
trap_keeps s p =
    lost (standing (tables_after_trap s.stack s.tables)) s.owners (length (below_top s.stack)) 0 (travelling s.passage)
    (closing_all s.stack s.tables (owners_of s.owners) (length (below_top s.stack)) (travelling s.passage) p)

ending_all : (call : ℕ) (ls : List Lend) (tables : List Handles) (owner : Owners) (frame : ℕ) (away : List ℕ) → HaveOnePlace (standing tables) owner frame away
    → HaveOnePlace (standing (tables_after_call call ls tables)) owner frame away
ending_all call [] tables owner frame away p = p
ending_all call (l ∷ ls) tables owner frame away p = ending_all call ls (if l.frame == call then tables_after_unlend l tables else tables) owner frame away (one (l.frame == call)) where
  one : (b : Bool) → HaveOnePlace (standing (if b then tables_after_unlend l tables else tables)) owner frame away
  one true = replaced tables l.instance (after_unlend (table_at tables l.instance) l.index) owner frame away (unlending (table_at tables l.instance) l.index) p
  one false = p

pub end_keeps : (s : State) (call : ℕ) → s.passage ≡ None → OnePlace s → OnePlace (after_call call s)
end_keeps s call none p =
    subst (λ (o : Option Passage). HaveOnePlace (standing (tables_after_call call s.lends s.tables)) (owners_of s.owners) (length (below_top (below_top s.stack))) (travelling o)) (sym none)
    (any_frame (standing (tables_after_call call s.lends s.tables)) (owners_of s.owners) (length (below_top s.stack)) (length (below_top (below_top s.stack)))
    (ending_all call s.lends s.tables (owners_of s.owners) (length (below_top s.stack)) []
    (subst (λ (o : Option Passage). HaveOnePlace (standing s.tables) (owners_of s.owners) (length (below_top s.stack)) (travelling o)) none p)))

-- ---- new and dropped resources

pub dropping : (at new : Standing) (owner moved : Owners) (frame : ℕ) (away : List ℕ) (i index : ℕ) (h : Handle)
    → HaveOnePlace at owner frame away → at i index ≡ Some h → h.kind ≡ handle.Owned
    → ChangesAt at new i index None → MovesTo owner moved h.serial place.Dropped → HaveOnePlace new moved frame away
dropping at new owner moved frame away i index h p stands is_owned ch mv = record {
  in_table = λ n j q e. elim (cases_eq n h.serial) as (λ r. Owns new n j q) [
    | inl same ↦ absurd (dropped_is_no_table j q (sym mv.here ∙ (ap moved (sym same) ∙ e)))
    | inr apart ↦
        let was = p.in_table n j q (sym (mv.others n apart) ∙ e) in
        let other : (j ≡ i) × (q ≡ index) → ⊥ = λ b. apart (sym was.serial_is ∙ ap (λ (x : Handle). x.serial) (same_Some was.entry h (sym was.stands ∙ (ap (λ x. at x q) b.0 ∙ (ap (λ x. at i x) b.1 ∙ stands))))) in
        record { entry = was.entry; stands = ch.others j q other ∙ was.stands; owned = was.owned; serial_is = was.serial_is }
  ];
  owned = λ n j q o.
      let other : (j ≡ i) × (q ≡ index) → ⊥ = λ b. none-some o.entry (sym ch.here ∙ (ap (λ x. new i x) (sym b.1) ∙ (ap (λ x. new x q) (sym b.0) ∙ o.stands))) in
      let was = p.owned n j q (record { entry = o.entry; stands = sym (ch.others j q other) ∙ o.stands; owned = o.owned; serial_is = o.serial_is }) in
      let apart : n ≢ h.serial = λ e. other (same_places j i q index (sym was ∙ (ap owner e ∙ place_of_owned at owner frame away i index h p stands is_owned))) in
      mv.others n apart ∙ was;
  on_its_way = λ n f e. elim (cases_eq n h.serial) as (λ r. (f ≡ frame) × IsAmong away n) [
    | inl same ↦ absurd (dropped_travels_not f (sym mv.here ∙ (ap moved (sym same) ∙ e)))
    | inr apart ↦ p.on_its_way n f (sym (mv.others n apart) ∙ e)
  ];
  carried = λ n a.
      let was = p.carried n a in
      let apart : n ≢ h.serial = λ e. table_travels_not i index frame (sym (place_of_owned at owner frame away i index h p stands is_owned) ∙ (ap owner (sym e) ∙ was)) in
      mv.others n apart ∙ was;
  once = p.once;
} where
  dropped_is_no_table : (j q : ℕ) → Some place.Dropped ≡ Some (place.InTable j q) → ⊥
  dropped_is_no_table j q e = cc (e)

  dropped_travels_not : (f : ℕ) → Some place.Dropped ≡ Some (place.Travelling f) → ⊥
  dropped_travels_not f e = cc (e)

  table_travels_not : (j q f : ℕ) → Some (place.InTable j q) ≡ Some (place.Travelling f) → ⊥
  table_travels_not j q f e = cc (e)

  same_places : (j k q l : ℕ) → Some (place.InTable j q) ≡ Some (place.InTable k l) → (j ≡ k) × (q ≡ l)
  same_places j k q l e = (cc (e), cc (e))

pub making : (at new : Standing) (owner moved : Owners) (frame : ℕ) (away : List ℕ) (i index : ℕ) (h : Handle)
    → HaveOnePlace at owner frame away → owner h.serial ≡ None → at i index ≡ None → h.kind ≡ handle.Owned
    → ChangesAt at new i index (Some h) → MovesTo owner moved h.serial (place.InTable i index) → HaveOnePlace new moved frame away
making at new owner moved frame away i index h p unmade vacant is_owned ch mv = record {
  in_table = λ n j q e. elim (cases_eq n h.serial) as (λ r. Owns new n j q) [
    | inl same ↦
        let here = same_places j i q index (sym e ∙ (ap moved same ∙ mv.here)) in
        record { entry = h; stands = ap (λ x. new x q) here.0 ∙ (ap (λ x. new i x) here.1 ∙ ch.here); owned = is_owned; serial_is = sym same }
    | inr apart ↦
        let was = p.in_table n j q (sym (mv.others n apart) ∙ e) in
        let other : (j ≡ i) × (q ≡ index) → ⊥ = λ b. none-some was.entry (sym vacant ∙ (ap (λ x. at i x) (sym b.1) ∙ (ap (λ x. at x q) (sym b.0) ∙ was.stands))) in
        record { entry = was.entry; stands = ch.others j q other ∙ was.stands; owned = was.owned; serial_is = was.serial_is }
  ];
  owned = λ n j q o. elim (cases_eq j i) as (λ r. moved n ≡ Some (place.InTable j q)) [
    | inl sj ↦ elim (cases_eq q index) as (λ r. moved n ≡ Some (place.InTable j q)) [
      | inl sq ↦
          let entry_is : h ≡ o.entry = same_Some h o.entry (sym ch.here ∙ (ap (λ x. new i x) (sym sq) ∙ (ap (λ x. new x q) (sym sj) ∙ o.stands))) in
          let serial_is : n ≡ h.serial = sym o.serial_is ∙ sym (ap (λ (x : Handle). x.serial) entry_is) in
          ap moved serial_is ∙ (mv.here ∙ (ap (λ x. Some (place.InTable x index)) (sym sj) ∙ ap (λ x. Some (place.InTable j x)) (sym sq)))
      | inr aq ↦ rest n j q o (λ b. aq b.1)
    ]
    | inr aj ↦ rest n j q o (λ b. aj b.0)
  ];
  on_its_way = λ n f e. elim (cases_eq n h.serial) as (λ r. (f ≡ frame) × IsAmong away n) [
    | inl same ↦ absurd (table_travels_not i index f (sym mv.here ∙ (ap moved (sym same) ∙ e)))
    | inr apart ↦ p.on_its_way n f (sym (mv.others n apart) ∙ e)
  ];
  carried = λ n a.
      let was = p.carried n a in
      let apart : n ≢ h.serial = λ e. none-some (place.Travelling frame) (sym unmade ∙ (ap owner (sym e) ∙ was)) in
      mv.others n apart ∙ was;
  once = p.once;
} where
  table_travels_not : (j q f : ℕ) → Some (place.InTable j q) ≡ Some (place.Travelling f) → ⊥
  table_travels_not j q f e = cc (e)

  same_places : (j k q l : ℕ) → Some (place.InTable j q) ≡ Some (place.InTable k l) → (j ≡ k) × (q ≡ l)
  same_places j k q l e = (cc (e), cc (e))

  rest : (n j q : ℕ) → Owns new n j q → ((j ≡ i) × (q ≡ index) → ⊥) → moved n ≡ Some (place.InTable j q)
  rest n j q o other =
      let was = p.owned n j q (record { entry = o.entry; stands = sym (ch.others j q other) ∙ o.stands; owned = o.owned; serial_is = o.serial_is }) in
      let apart : n ≢ h.serial = λ e. none-some (place.InTable j q) (sym unmade ∙ (ap owner (sym e) ∙ was)) in
      mv.others n apart ∙ was

get_append : {X : Type 0} (xs : List X) (p : X) (m : ℕ) → m ≢ length xs → slice_get (xs ++ p ∷ []) m ≡ slice_get xs m
get_append [] p zero ne = absurd (ne refl)
get_append [] p (suc m) ne = refl
get_append (x ∷ xs) p zero ne = refl
get_append (x ∷ xs) p (suc m) ne = get_append xs p m (λ e. ne (ap suc e))

pub new_keeps : AddingIsFine → (s : State) (i : ℕ) (r : ResourceId) (rep : ℕ) → s.passage ≡ None → OnePlace s
    → i < length s.tables → IsSoundHandles (table_at s.tables i) → CanMake s i → OnePlace (after_new s i r rep)
new_keeps fine s i r rep none p lt sound can =
    let h : Handle = record { resource = r; serial = length s.owners; lends = 0; rep = rep; kind = handle.Owned } in
    let t : Handles = table_at s.tables i in
    let adds = fine t h sound can.index in
    let at_t : HaveOnePlace (standing (slice_set s.tables i t)) (owners_of s.owners) (length (below_top s.stack)) (travelling s.passage) =
    subst (λ (ts : List Handles). HaveOnePlace (standing ts) (owners_of s.owners) (length (below_top s.stack)) (travelling s.passage)) (sym (set_same s.tables i)) p in
    let vacant : standing (slice_set s.tables i t) i (next_index t) ≡ None = ap (λ x. handle_at x (next_index t)) (table_same s.tables i t lt) ∙ adds.vacant in
    let moved : MovesTo (owners_of s.owners) (owners_of (s.owners ++ place.InTable i (next_index t) ∷ [])) (length s.owners) (place.InTable i (next_index t)) =
    record { here = get_last s.owners (place.InTable i (next_index t)); others = λ m ne. get_append s.owners (place.InTable i (next_index t)) m ne } in
    making (standing (slice_set s.tables i t)) (standing (slice_set s.tables i (after_add t h))) (owners_of s.owners) (owners_of (s.owners ++ place.InTable i (next_index t) ∷ [])) (length (below_top s.stack)) (travelling s.passage) i (next_index t) h
    at_t (slice_get_past s.owners (length s.owners) (omega arith)) vacant refl (changed_in s.tables i (next_index t) t (after_add t h) (Some h) lt adds.changes.here (λ other ne. adds.changes.others other ne)) moved

pub drop_keeps : (s : State) (i index : ℕ) (h : Handle) → s.passage ≡ None → OnePlace s
    → i < length s.tables → StandsIn s i index h → h.kind ≡ handle.Owned → OnePlace (after_drop s i index h)
drop_keeps s i index h none p lt stands owned =
    let t : Handles = table_at s.tables i in
    let at_t : HaveOnePlace (standing (slice_set s.tables i t)) (owners_of s.owners) (length (below_top s.stack)) (travelling s.passage) =
    subst (λ (ts : List Handles). HaveOnePlace (standing ts) (owners_of s.owners) (length (below_top s.stack)) (travelling s.passage)) (sym (set_same s.tables i)) p in
    let there : standing (slice_set s.tables i t) i index ≡ Some h = ap (λ x. handle_at x index) (table_same s.tables i t lt) ∙ stands in
    let was = place_of_owned (standing s.tables) (owners_of s.owners) (length (below_top s.stack)) (travelling s.passage) i index h p stands owned in
    dropping (standing (slice_set s.tables i t)) (standing (slice_set s.tables i (after_release t index))) (owners_of s.owners) (owners_of (slice_set s.owners h.serial place.Dropped)) (length (below_top s.stack)) (travelling s.passage) i index h
    at_t there owned (changed_in s.tables i index t (after_release t index) None lt (released t index h stands) (λ other ne. get_or-set_other t.slots index other None None ne)) (moved_in s.owners h.serial place.Dropped (place.InTable i index) was)
