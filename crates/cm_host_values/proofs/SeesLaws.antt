-- What a host sees of the values that are shown.
use Rattle.std.proofs.Common.{◌≡◌, ℕ, zero, suc, ◌+◌, ◌<◌, ◌≤◌, Bool, false, List, length, refl, sym, ap, subst, ◌∙◌, inl, inr, arith}
use Rattle.cm_types.specs.declared.core_value.CoreValue.{CoreValue}
use Rattle.cm_types.specs.Holds.{holds, fields_hold, cases_hold, is_handle}
use Rattle.cm_types.specs.Types.{Ty, Fields, Cases, bool, signed, unsigned, char, string, list, fixed_list, fields, cases, flags, own, borrow, no_fields, field, no_cases, plain, carrying, tuple_type}
use Rattle.cm_types.specs.Values.{Val, Vals, no_vals, val, truth, signed_number, number, scalar, text, elements, parts, bare, bearing, flag_set, handle, count_of, IsPlainCase}
use Rattle.cm_handles.specs.Handles.{Handles}
use Rattle.cm_layout.specs.Alignment.{align_to}
use Rattle.cm_layout.specs.Sizes.{align_of, align_of_fields, size_of, end_of, case_count, discriminant_size, payload_offset}
use Rattle.cm_layout.specs.Flattening.{flat_of, flat_of_fields}
use Rattle.cm_abi_model.specs.Numbers.{number_at, wrapped_at}
use Rattle.cm_abi_model.specs.Views.{View, Way, flat_limit}
use Rattle.cm_abi_model.specs.Texts.{IsAligned}
use Rattle.cm_abi_model.specs.Shows.{Shows, ShowFields, ShowsPayload, ShowEach, ShowsElements, ShowsHandle, ShowsOwned}
use Rattle.cm_abi_model.specs.FlatShows.{FlatShows, FlatShowFields, FlatShowsPayload, width_of}
use Rattle.cm_abi_model.specs.Denotes.{Denotes, FlatDenotes, SpilledDenotes}
use Rattle.cm_host_values.specs.Indexed.{indexed, indexed_fields, indexed_cases, host_types}
use Rattle.cm_host_values.specs.Sees.{Sees, SeesEach, SeesFields, SeesPayload, host_of}
use Rattle.cm_host_values.proofs.IndexedLaws.{aligns_stay, sizes_stay, counts_stay, offsets_stay, kinds_stay, row_aligns, row_ends, row_kinds}
use Rattle.cm_lemmas.proofs.Bools.{or_left, or_right}

-- ---- values in a row

module _ (S R : ℕ → Val → Type 0) (Q : Val → Val → Type 0) (size : ℕ) where
  see_each : ((p : ℕ) (v : Val) → S p v → (u : Val) × R p u × Q v u) → (at : ℕ) (vs : Vals) → ShowEach S size at vs
      → (us : Vals) × ShowEach R size at us × SeesEach Q vs us × (count_of us ≡ count_of vs)
  see_each see at no_vals h = (no_vals, tt, tt, refl)
  see_each see at (val v vs) h =
      let a = see at v h.0 in
      let b = see_each see (at + size) vs h.1 in
      (val a.0 b.0, (a.1, b.1), (a.2, b.2), ap (λ n. 1 + n) b.3)

  show_each : ((p : ℕ) (v u : Val) → R p u → Q v u → S p v) → (at : ℕ) (vs us : Vals) → ShowEach R size at us → SeesEach Q vs us
      → ShowEach S size at vs × (count_of vs ≡ count_of us)
  show_each show at no_vals no_vals h e = (tt, refl)
  show_each show at no_vals (val u us) h e = absurd e
  show_each show at (val v vs) no_vals h e = absurd e
  show_each show at (val v vs) (val u us) h e =
      let b = show_each show (at + size) vs us h.1 e.1 in
      ((show at v u h.0 e.0, b.0), ap (λ n. 1 + n) b.1)

same_each : (Q : Val → Val → Type 0) → ((v u : Val) → Q v u → v ≡ u) → (vs us : Vals) → SeesEach Q vs us → vs ≡ us
same_each Q same no_vals no_vals e = refl
same_each Q same no_vals (val u us) e = absurd e
same_each Q same (val v vs) no_vals e = absurd e
same_each Q same (val v vs) (val u us) e = ap (λ x. val x vs) (same v u e.0) ∙ ap (val u) (same_each Q same vs us e.1)

-- ---- cases

plain_stays : (cs : Cases) (i : ℕ) → IsPlainCase cs i → IsPlainCase (indexed_cases cs) i
plain_stays no_cases i h = h
plain_stays (plain l cs) zero h = h
plain_stays (plain l cs) (suc i) h = plain_stays cs i h
plain_stays (carrying l t cs) zero h = h
plain_stays (carrying l t cs) (suc i) h = plain_stays cs i h

plain_was : (cs : Cases) (i : ℕ) → IsPlainCase (indexed_cases cs) i → IsPlainCase cs i
plain_was no_cases i h = h
plain_was (plain l cs) zero h = h
plain_was (plain l cs) (suc i) h = plain_was cs i h
plain_was (carrying l t cs) zero h = h
plain_was (carrying l t cs) (suc i) h = plain_was cs i h

-- the number of a case is read alike
number_stays : (w : View) (cs : Cases) (p : ℕ) → number_at (discriminant_size (case_count (indexed_cases cs))) w.memory p ≡ number_at (discriminant_size (case_count cs)) w.memory p
number_stays w cs p = ap (λ n. number_at (discriminant_size n) w.memory p) (counts_stay cs)

widths_stay : (t : Ty) → width_of (indexed t) ≡ width_of t
widths_stay t = ap length (kinds_stay t)

place_stays : (t : Ty) (p end : ℕ) → p + align_to (align_of (indexed t)) end ≡ p + align_to (align_of t) end
place_stays t p end = ap (λ a. p + align_to a end) (aligns_stay t)

end_stays : (t : Ty) (end : ℕ) → align_to (align_of (indexed t)) end + size_of (indexed t) ≡ align_to (align_of t) end + size_of t
end_stays t end = ap (λ a. align_to a end + size_of (indexed t)) (aligns_stay t) ∙ ap (λ s. align_to (align_of t) end + s) (sizes_stay t)

-- ---- elements of a list

see_elements : (w : View) (t : Ty) (p n : ℕ) (vs us : Vals) → ShowsElements (Shows w t) w.memory (align_of t) (size_of t) p n vs → count_of us ≡ count_of vs
    → ShowEach (Shows (host_of w) (indexed t)) (size_of t) p us → ShowsElements (Shows (host_of w) (indexed t)) w.memory (align_of (indexed t)) (size_of (indexed t)) p n us
see_elements w t p n vs us h e each =
    subst (λ a. ShowsElements (Shows (host_of w) (indexed t)) w.memory a (size_of (indexed t)) p n us) (sym (aligns_stay t))
    (subst (λ s. ShowsElements (Shows (host_of w) (indexed t)) w.memory (align_of t) s p n us) (sym (sizes_stay t))
    (record { aligned = h.aligned; inside = h.inside; count = e ∙ h.count; each = each }))

host_elements : (w : View) (t : Ty) (p n : ℕ) (us : Vals) → ShowsElements (Shows (host_of w) (indexed t)) w.memory (align_of (indexed t)) (size_of (indexed t)) p n us
    → ShowsElements (Shows (host_of w) (indexed t)) w.memory (align_of t) (size_of t) p n us
host_elements w t p n us h =
    subst (λ a. ShowsElements (Shows (host_of w) (indexed t)) w.memory a (size_of t) p n us) (aligns_stay t)
    (subst (λ s. ShowsElements (Shows (host_of w) (indexed t)) w.memory (align_of (indexed t)) s p n us) (sizes_stay t) h)

show_elements : (w : View) (t : Ty) (p n : ℕ) (vs us : Vals) → ShowsElements (Shows (host_of w) (indexed t)) w.memory (align_of t) (size_of t) p n us → count_of vs ≡ count_of us
    → ShowEach (Shows w t) (size_of t) p vs → ShowsElements (Shows w t) w.memory (align_of t) (size_of t) p n vs
show_elements w t p n vs us h e each = record { aligned = h.aligned; inside = h.inside; count = e ∙ h.count; each = each }

-- ---- bytes: there is what a host sees

mutual
  pub see : (w : View) (t : Ty) (p : ℕ) (v : Val) → Shows w t p v → (u : Val) × Shows (host_of w) (indexed t) p u × Sees w.table t v u
  see w bool p (truth b) h = (truth b, h, refl)
  see w bool p v h = absurd h
  see w (signed k) p (signed_number z) h = (signed_number z, h, refl)
  see w (signed k) p v h = absurd h
  see w (unsigned k) p (number n) h = (number n, h, refl)
  see w (unsigned k) p v h = absurd h
  see w char p (scalar c) h = (scalar c, h, refl)
  see w char p v h = absurd h
  see w string p (text cs) h = (text cs, h, refl)
  see w string p v h = absurd h
  see w (list t) p (elements vs) h =
      let r = see_each (Shows w t) (Shows (host_of w) (indexed t)) (Sees w.table t) (size_of t) (see w t) (number_at 4 w.memory p) vs h.each in
      (elements r.0, see_elements w t (number_at 4 w.memory p) (number_at 4 w.memory (p + 4)) vs r.0 h r.3 r.1, r.2)
  see w (list t) p v h = absurd h
  see w (fixed_list t n) p (parts vs) h =
      let r = see_each (Shows w t) (Shows (host_of w) (indexed t)) (Sees w.table t) (size_of t) (see w t) p vs h.1 in
      (parts r.0, (r.3 ∙ h.0, subst (λ s. ShowEach (Shows (host_of w) (indexed t)) s p r.0) (sym (sizes_stay t)) r.1), r.2)
  see w (fixed_list t n) p v h = absurd h
  see w (fields k fs) p (parts vs) h =
      let r = see_fields w fs p 0 vs h in
      (parts r.0, r.1, r.2)
  see w (fields k fs) p v h = absurd h
  see w (cases k cs) p (bare i) h = (bare i, (number_stays w cs p ∙ h.0, plain_stays cs i h.1), refl)
  see w (cases k cs) p (bearing i v) h =
      let r = see_payload w cs (p + payload_offset cs) i v h.1 in
      (bearing i r.0, (number_stays w cs p ∙ h.0, subst (λ o. ShowsPayload (host_of w) (indexed_cases cs) (p + o) i r.0) (sym (offsets_stay cs)) r.1), (refl, r.2))
  see w (cases k cs) p v h = absurd h
  see w (flags ls) p (flag_set n) h = (flag_set n, h, refl)
  see w (flags ls) p v h = absurd h
  see w (own r) p (handle a) h = (number (number_at 4 w.memory p), refl, h)
  see w (own r) p v h = absurd h
  see w (borrow r) p (handle a) h = (number (number_at 4 w.memory p), refl, h)
  see w (borrow r) p v h = absurd h

  see_fields : (w : View) (fs : Fields) (p end : ℕ) (vs : Vals) → ShowFields w fs p end vs
      → (us : Vals) × ShowFields (host_of w) (indexed_fields fs) p end us × SeesFields w.table fs vs us
  see_fields w no_fields p end no_vals h = (no_vals, tt, tt)
  see_fields w no_fields p end (val v vs) h = absurd h
  see_fields w (field l t fs) p end no_vals h = absurd h
  see_fields w (field l t fs) p end (val v vs) h =
      let a = see w t (p + align_to (align_of t) end) v h.0 in
      let b = see_fields w fs p (align_to (align_of t) end + size_of t) vs h.1 in
      (val a.0 b.0, (subst (λ q. Shows (host_of w) (indexed t) q a.0) (sym (place_stays t p end)) a.1, subst (λ e. ShowFields (host_of w) (indexed_fields fs) p e b.0) (sym (end_stays t end)) b.1), (a.2, b.2))

  see_payload : (w : View) (cs : Cases) (p i : ℕ) (v : Val) → ShowsPayload w cs p i v
      → (u : Val) × ShowsPayload (host_of w) (indexed_cases cs) p i u × SeesPayload w.table cs i v u
  see_payload w no_cases p i v h = absurd h
  see_payload w (plain l cs) p zero v h = absurd h
  see_payload w (plain l cs) p (suc i) v h = see_payload w cs p i v h
  see_payload w (carrying l t cs) p zero v h = see w t p v h
  see_payload w (carrying l t cs) p (suc i) v h = see_payload w cs p i v h

-- ---- bytes: what a host sees shows the value

mutual
  pub show : (w : View) (t : Ty) (p : ℕ) (v u : Val) → Shows (host_of w) (indexed t) p u → Sees w.table t v u → Shows w t p v
  show w bool p (truth b) u h e = subst (λ x. Shows (host_of w) bool p x) (sym e) h
  show w bool p v u h e = absurd (subst (λ x. Shows (host_of w) bool p x) (sym e) h)
  show w (signed k) p (signed_number z) u h e = subst (λ x. Shows (host_of w) (signed k) p x) (sym e) h
  show w (signed k) p v u h e = absurd (subst (λ x. Shows (host_of w) (signed k) p x) (sym e) h)
  show w (unsigned k) p (number n) u h e = subst (λ x. Shows (host_of w) (unsigned k) p x) (sym e) h
  show w (unsigned k) p v u h e = absurd (subst (λ x. Shows (host_of w) (unsigned k) p x) (sym e) h)
  show w char p (scalar c) u h e = subst (λ x. Shows (host_of w) char p x) (sym e) h
  show w char p v u h e = absurd (subst (λ x. Shows (host_of w) char p x) (sym e) h)
  show w string p (text cs) u h e = subst (λ x. Shows (host_of w) string p x) (sym e) h
  show w string p v u h e = absurd (subst (λ x. Shows (host_of w) string p x) (sym e) h)
  show w (list t) p (elements vs) (elements us) h e =
      let g = host_elements w t (number_at 4 w.memory p) (number_at 4 w.memory (p + 4)) us h in
      let r = show_each (Shows w t) (Shows (host_of w) (indexed t)) (Sees w.table t) (size_of t) (show w t) (number_at 4 w.memory p) vs us g.each e in
      show_elements w t (number_at 4 w.memory p) (number_at 4 w.memory (p + 4)) vs us g r.1 r.0
  show w (list t) p v u h e = absurd e
  show w (fixed_list t n) p (parts vs) (parts us) h e =
      let r = show_each (Shows w t) (Shows (host_of w) (indexed t)) (Sees w.table t) (size_of t) (show w t) p vs us (subst (λ s. ShowEach (Shows (host_of w) (indexed t)) s p us) (sizes_stay t) h.1) e in
      (r.1 ∙ h.0, r.0)
  show w (fixed_list t n) p v u h e = absurd e
  show w (fields k fs) p (parts vs) (parts us) h e = show_fields w fs p 0 vs us h e
  show w (fields k fs) p v u h e = absurd e
  show w (cases k cs) p (bare i) (bare j) h e =
      (sym (number_stays w cs p) ∙ h.0 ∙ sym e, subst (IsPlainCase cs) (sym e) (plain_was cs j h.1))
  show w (cases k cs) p (bearing i v) (bearing j u) h e =
      let back : ShowsPayload (host_of w) (indexed_cases cs) (p + payload_offset cs) j u = subst (λ o. ShowsPayload (host_of w) (indexed_cases cs) (p + o) j u) (offsets_stay cs) h.1 in
      (sym (number_stays w cs p) ∙ h.0 ∙ sym e.0, show_payload w cs (p + payload_offset cs) i v u (subst (λ m. ShowsPayload (host_of w) (indexed_cases cs) (p + payload_offset cs) m u) (sym e.0) back) e.1)
  show w (cases k cs) p v u h e = absurd e
  show w (flags ls) p (flag_set n) u h e = subst (λ x. Shows (host_of w) (flags ls) p x) (sym e) h
  show w (flags ls) p v u h e = absurd (subst (λ x. Shows (host_of w) (flags ls) p x) (sym e) h)
  show w (own r) p (handle a) (number n) h e = subst (λ m. ShowsOwned w.table m r a) h e
  show w (own r) p v u h e = absurd e
  show w (borrow r) p (handle a) (number n) h e = subst (λ m. ShowsHandle w.table m r a) h e
  show w (borrow r) p v u h e = absurd e

  show_fields : (w : View) (fs : Fields) (p end : ℕ) (vs us : Vals) → ShowFields (host_of w) (indexed_fields fs) p end us → SeesFields w.table fs vs us → ShowFields w fs p end vs
  show_fields w no_fields p end no_vals no_vals h e = tt
  show_fields w (field l t fs) p end (val v vs) (val u us) h e = (
    show w t (p + align_to (align_of t) end) v u (subst (λ q. Shows (host_of w) (indexed t) q u) (place_stays t p end) h.0) e.0,
    show_fields w fs p (align_to (align_of t) end + size_of t) vs us (subst (λ x. ShowFields (host_of w) (indexed_fields fs) p x us) (end_stays t end) h.1) e.1,
  )
  show_fields w fs p end vs us h e = absurd e

  show_payload : (w : View) (cs : Cases) (p i : ℕ) (v u : Val) → ShowsPayload (host_of w) (indexed_cases cs) p i u → SeesPayload w.table cs i v u → ShowsPayload w cs p i v
  show_payload w no_cases p i v u h e = absurd e
  show_payload w (plain l cs) p zero v u h e = absurd e
  show_payload w (plain l cs) p (suc i) v u h e = show_payload w cs p i v u h e
  show_payload w (carrying l t cs) p zero v u h e = show w t p v u h e
  show_payload w (carrying l t cs) p (suc i) v u h e = show_payload w cs p i v u h e

-- ---- slots: there is what a host sees

mutual
  pub flat_see : (w : View) (s : List CoreValue) (t : Ty) (k : ℕ) (v : Val) → FlatShows w s t k v → (u : Val) × FlatShows (host_of w) s (indexed t) k u × Sees w.table t v u
  flat_see w s bool k (truth b) h = (truth b, h, refl)
  flat_see w s bool k v h = absurd h
  flat_see w s (signed b) k (signed_number z) h = (signed_number z, h, refl)
  flat_see w s (signed b) k v h = absurd h
  flat_see w s (unsigned b) k (number n) h = (number n, h, refl)
  flat_see w s (unsigned b) k v h = absurd h
  flat_see w s char k (scalar c) h = (scalar c, h, refl)
  flat_see w s char k v h = absurd h
  flat_see w s string k (text cs) h = (text cs, h, refl)
  flat_see w s string k v h = absurd h
  flat_see w s (list t) k (elements vs) h =
      let r = see_each (Shows w t) (Shows (host_of w) (indexed t)) (Sees w.table t) (size_of t) (see w t) (wrapped_at 4 s k) vs h.each in
      (elements r.0, see_elements w t (wrapped_at 4 s k) (wrapped_at 4 s (k + 1)) vs r.0 h r.3 r.1, r.2)
  flat_see w s (list t) k v h = absurd h
  flat_see w s (fixed_list t n) k (parts vs) h =
      let r = see_each (FlatShows w s t) (FlatShows (host_of w) s (indexed t)) (Sees w.table t) (width_of t) (flat_see w s t) k vs h.1 in
      (parts r.0, (r.3 ∙ h.0, subst (λ x. ShowEach (FlatShows (host_of w) s (indexed t)) x k r.0) (sym (widths_stay t)) r.1), r.2)
  flat_see w s (fixed_list t n) k v h = absurd h
  flat_see w s (fields f fs) k (parts vs) h =
      let r = flat_see_fields w s fs k vs h in
      (parts r.0, r.1, r.2)
  flat_see w s (fields f fs) k v h = absurd h
  flat_see w s (cases c cs) k (bare i) h = (bare i, (h.0, plain_stays cs i h.1), refl)
  flat_see w s (cases c cs) k (bearing i v) h =
      let r = flat_see_payload w s cs (k + 1) i v h.1 in
      (bearing i r.0, (h.0, r.1), (refl, r.2))
  flat_see w s (cases c cs) k v h = absurd h
  flat_see w s (flags ls) k (flag_set n) h = (flag_set n, h, refl)
  flat_see w s (flags ls) k v h = absurd h
  flat_see w s (own r) k (handle a) h = (number (wrapped_at 4 s k), refl, h)
  flat_see w s (own r) k v h = absurd h
  flat_see w s (borrow r) k (handle a) h = (number (wrapped_at 4 s k), refl, h)
  flat_see w s (borrow r) k v h = absurd h

  flat_see_fields : (w : View) (s : List CoreValue) (fs : Fields) (k : ℕ) (vs : Vals) → FlatShowFields w s fs k vs
      → (us : Vals) × FlatShowFields (host_of w) s (indexed_fields fs) k us × SeesFields w.table fs vs us
  flat_see_fields w s no_fields k no_vals h = (no_vals, tt, tt)
  flat_see_fields w s no_fields k (val v vs) h = absurd h
  flat_see_fields w s (field l t fs) k no_vals h = absurd h
  flat_see_fields w s (field l t fs) k (val v vs) h =
      let a = flat_see w s t k v h.0 in
      let b = flat_see_fields w s fs (k + width_of t) vs h.1 in
      (val a.0 b.0, (a.1, subst (λ x. FlatShowFields (host_of w) s (indexed_fields fs) (k + x) b.0) (sym (widths_stay t)) b.1), (a.2, b.2))

  flat_see_payload : (w : View) (s : List CoreValue) (cs : Cases) (k i : ℕ) (v : Val) → FlatShowsPayload w s cs k i v
      → (u : Val) × FlatShowsPayload (host_of w) s (indexed_cases cs) k i u × SeesPayload w.table cs i v u
  flat_see_payload w s no_cases k i v h = absurd h
  flat_see_payload w s (plain l cs) k zero v h = absurd h
  flat_see_payload w s (plain l cs) k (suc i) v h = flat_see_payload w s cs k i v h
  flat_see_payload w s (carrying l t cs) k zero v h = flat_see w s t k v h
  flat_see_payload w s (carrying l t cs) k (suc i) v h = flat_see_payload w s cs k i v h

-- ---- slots: what a host sees shows the value

mutual
  pub flat_show : (w : View) (s : List CoreValue) (t : Ty) (k : ℕ) (v u : Val) → FlatShows (host_of w) s (indexed t) k u → Sees w.table t v u → FlatShows w s t k v
  flat_show w s bool k (truth b) u h e = subst (λ x. FlatShows (host_of w) s bool k x) (sym e) h
  flat_show w s bool k v u h e = absurd (subst (λ x. FlatShows (host_of w) s bool k x) (sym e) h)
  flat_show w s (signed b) k (signed_number z) u h e = subst (λ x. FlatShows (host_of w) s (signed b) k x) (sym e) h
  flat_show w s (signed b) k v u h e = absurd (subst (λ x. FlatShows (host_of w) s (signed b) k x) (sym e) h)
  flat_show w s (unsigned b) k (number n) u h e = subst (λ x. FlatShows (host_of w) s (unsigned b) k x) (sym e) h
  flat_show w s (unsigned b) k v u h e = absurd (subst (λ x. FlatShows (host_of w) s (unsigned b) k x) (sym e) h)
  flat_show w s char k (scalar c) u h e = subst (λ x. FlatShows (host_of w) s char k x) (sym e) h
  flat_show w s char k v u h e = absurd (subst (λ x. FlatShows (host_of w) s char k x) (sym e) h)
  flat_show w s string k (text cs) u h e = subst (λ x. FlatShows (host_of w) s string k x) (sym e) h
  flat_show w s string k v u h e = absurd (subst (λ x. FlatShows (host_of w) s string k x) (sym e) h)
  flat_show w s (list t) k (elements vs) (elements us) h e =
      let g = host_elements w t (wrapped_at 4 s k) (wrapped_at 4 s (k + 1)) us h in
      let r = show_each (Shows w t) (Shows (host_of w) (indexed t)) (Sees w.table t) (size_of t) (show w t) (wrapped_at 4 s k) vs us g.each e in
      show_elements w t (wrapped_at 4 s k) (wrapped_at 4 s (k + 1)) vs us g r.1 r.0
  flat_show w s (list t) k v u h e = absurd e
  flat_show w s (fixed_list t n) k (parts vs) (parts us) h e =
      let r = show_each (FlatShows w s t) (FlatShows (host_of w) s (indexed t)) (Sees w.table t) (width_of t) (flat_show w s t) k vs us (subst (λ x. ShowEach (FlatShows (host_of w) s (indexed t)) x k us) (widths_stay t) h.1) e in
      (r.1 ∙ h.0, r.0)
  flat_show w s (fixed_list t n) k v u h e = absurd e
  flat_show w s (fields f fs) k (parts vs) (parts us) h e = flat_show_fields w s fs k vs us h e
  flat_show w s (fields f fs) k v u h e = absurd e
  flat_show w s (cases c cs) k (bare i) (bare j) h e = (h.0 ∙ sym e, subst (IsPlainCase cs) (sym e) (plain_was cs j h.1))
  flat_show w s (cases c cs) k (bearing i v) (bearing j u) h e =
      (h.0 ∙ sym e.0, flat_show_payload w s cs (k + 1) i v u (subst (λ m. FlatShowsPayload (host_of w) s (indexed_cases cs) (k + 1) m u) (sym e.0) h.1) e.1)
  flat_show w s (cases c cs) k v u h e = absurd e
  flat_show w s (flags ls) k (flag_set n) u h e = subst (λ x. FlatShows (host_of w) s (flags ls) k x) (sym e) h
  flat_show w s (flags ls) k v u h e = absurd (subst (λ x. FlatShows (host_of w) s (flags ls) k x) (sym e) h)
  flat_show w s (own r) k (handle a) (number n) h e = subst (λ m. ShowsOwned w.table m r a) h e
  flat_show w s (own r) k v u h e = absurd e
  flat_show w s (borrow r) k (handle a) (number n) h e = subst (λ m. ShowsHandle w.table m r a) h e
  flat_show w s (borrow r) k v u h e = absurd e

  flat_show_fields : (w : View) (s : List CoreValue) (fs : Fields) (k : ℕ) (vs us : Vals) → FlatShowFields (host_of w) s (indexed_fields fs) k us → SeesFields w.table fs vs us → FlatShowFields w s fs k vs
  flat_show_fields w s no_fields k no_vals no_vals h e = tt
  flat_show_fields w s (field l t fs) k (val v vs) (val u us) h e =
      (flat_show w s t k v u h.0 e.0, flat_show_fields w s fs (k + width_of t) vs us (subst (λ x. FlatShowFields (host_of w) s (indexed_fields fs) (k + x) us) (widths_stay t) h.1) e.1)
  flat_show_fields w s fs k vs us h e = absurd e

  flat_show_payload : (w : View) (s : List CoreValue) (cs : Cases) (k i : ℕ) (v u : Val) → FlatShowsPayload (host_of w) s (indexed_cases cs) k i u → SeesPayload w.table cs i v u → FlatShowsPayload w s cs k i v
  flat_show_payload w s no_cases k i v u h e = absurd e
  flat_show_payload w s (plain l cs) k zero v u h e = absurd e
  flat_show_payload w s (plain l cs) k (suc i) v u h e = flat_show_payload w s cs k i v u h e
  flat_show_payload w s (carrying l t cs) k zero v u h e = flat_show w s t k v u h e
  flat_show_payload w s (carrying l t cs) k (suc i) v u h e = flat_show_payload w s cs k i v u h e

-- ---- without labels

row_shown : (w : View) (fs : Fields) (p end : ℕ) (us : Vals) → ShowFields w (indexed_fields fs) p end us → ShowFields w (host_types fs) p end us
row_shown w no_fields p end us h = h
row_shown w (field l t fs) p end no_vals h = absurd h
row_shown w (field l t fs) p end (val u us) h = (h.0, row_shown w fs p (align_to (align_of (indexed t)) end + size_of (indexed t)) us h.1)

row_was : (w : View) (fs : Fields) (p end : ℕ) (us : Vals) → ShowFields w (host_types fs) p end us → ShowFields w (indexed_fields fs) p end us
row_was w no_fields p end us h = h
row_was w (field l t fs) p end no_vals h = absurd h
row_was w (field l t fs) p end (val u us) h = (h.0, row_was w fs p (align_to (align_of (indexed t)) end + size_of (indexed t)) us h.1)

flat_row_shown : (w : View) (s : List CoreValue) (fs : Fields) (k : ℕ) (us : Vals) → FlatShowFields w s (indexed_fields fs) k us → FlatShowFields w s (host_types fs) k us
flat_row_shown w s no_fields k us h = h
flat_row_shown w s (field l t fs) k no_vals h = absurd h
flat_row_shown w s (field l t fs) k (val u us) h = (h.0, flat_row_shown w s fs (k + width_of (indexed t)) us h.1)

flat_row_was : (w : View) (s : List CoreValue) (fs : Fields) (k : ℕ) (us : Vals) → FlatShowFields w s (host_types fs) k us → FlatShowFields w s (indexed_fields fs) k us
flat_row_was w s no_fields k us h = h
flat_row_was w s (field l t fs) k no_vals h = absurd h
flat_row_was w s (field l t fs) k (val u us) h = (h.0, flat_row_was w s fs (k + width_of (indexed t)) us h.1)

row_size : (fs : Fields) → size_of (fields tuple_type (host_types fs)) ≡ size_of (fields tuple_type fs)
row_size fs = ap (λ a. align_to a (end_of (host_types fs) 0)) (row_aligns fs) ∙ ap (align_to (align_of_fields fs)) (row_ends fs 0)

-- ---- a call

module _ (w : View) (way : Way) (types : Fields) (slots : List CoreValue) where
  see_flat : (v : Val) → FlatDenotes w way types slots v → FlatShows w slots (fields tuple_type types) 0 v → (u : Val) × FlatDenotes (host_of w) way (host_types types) slots u × Sees w.table (fields tuple_type types) v u
  see_flat (parts vs) d h =
      let r = flat_see_fields w slots types 0 vs h in
      (parts r.0, record { fits = subst (λ ks. length ks ≤ flat_limit way) (sym (row_kinds types)) d.fits; shown = flat_row_shown (host_of w) slots types 0 r.0 r.1 }, r.2)
  see_flat v d h = absurd h

  see_spilled : (v : Val) → SpilledDenotes w way types slots v → Shows w (fields tuple_type types) (wrapped_at 4 slots 0) v
      → (u : Val) × SpilledDenotes (host_of w) way (host_types types) slots u × Sees w.table (fields tuple_type types) v u
  see_spilled (parts vs) d h =
      let r = see_fields w types (wrapped_at 4 slots 0) 0 vs h in (
        parts r.0,
        record {
          spilled = subst (λ ks. flat_limit way < length ks) (sym (row_kinds types)) d.spilled;
          aligned = subst (λ a. IsAligned a (wrapped_at 4 slots 0)) (sym (row_aligns types)) d.aligned;
          inside = subst (λ n. wrapped_at 4 slots 0 + n ≤ length w.memory) (sym (row_size types)) d.inside;
          shown = row_shown (host_of w) types (wrapped_at 4 slots 0) 0 r.0 r.1;
        },
        r.2,
      )
  see_spilled v d h = absurd h

  pub see_denoted : (v : Val) → Denotes w way types slots v → (u : Val) × Denotes (host_of w) way (host_types types) slots u × Sees w.table (fields tuple_type types) v u
  see_denoted v (inl d) = let r = see_flat v d d.shown in (r.0, inl r.1, r.2)
  see_denoted v (inr d) = let r = see_spilled v d d.shown in (r.0, inr r.1, r.2)

  show_flat : (v u : Val) → FlatDenotes (host_of w) way (host_types types) slots u → FlatShows (host_of w) slots (fields tuple_type (host_types types)) 0 u → Sees w.table (fields tuple_type types) v u → FlatDenotes w way types slots v
  show_flat (parts vs) (parts us) d h e =
      record { fits = subst (λ ks. length ks ≤ flat_limit way) (row_kinds types) d.fits; shown = flat_show_fields w slots types 0 vs us (flat_row_was (host_of w) slots types 0 us h) e }
  show_flat v u d h e = absurd e

  show_spilled : (v u : Val) → SpilledDenotes (host_of w) way (host_types types) slots u → Shows (host_of w) (fields tuple_type (host_types types)) (wrapped_at 4 slots 0) u → Sees w.table (fields tuple_type types) v u
      → SpilledDenotes w way types slots v
  show_spilled (parts vs) (parts us) d h e =
      record {
        spilled = subst (λ ks. flat_limit way < length ks) (row_kinds types) d.spilled;
        aligned = subst (λ a. IsAligned a (wrapped_at 4 slots 0)) (row_aligns types) d.aligned;
        inside = subst (λ n. wrapped_at 4 slots 0 + n ≤ length w.memory) (row_size types) d.inside;
        shown = show_fields w types (wrapped_at 4 slots 0) 0 vs us (row_was (host_of w) types (wrapped_at 4 slots 0) 0 us h) e;
      }
  show_spilled v u d h e = absurd e

  pub show_denoted : (v u : Val) → Denotes (host_of w) way (host_types types) slots u → Sees w.table (fields tuple_type types) v u → Denotes w way types slots v
  show_denoted v u (inl d) e = inl (show_flat v u d d.shown e)
  show_denoted v u (inr d) e = inr (show_spilled v u d d.shown e)

-- ---- without handles

mutual
  pub same : (T : Handles) (t : Ty) (v u : Val) → holds is_handle t ≡ false → Sees T t v u → v ≡ u
  same T bool v u n e = e
  same T (signed w) v u n e = e
  same T (unsigned w) v u n e = e
  same T char v u n e = e
  same T string v u n e = e
  same T (flags ls) v u n e = e
  same T (list t) (elements vs) (elements us) n e = ap elements (same_each (Sees T t) (λ a b x. same T t a b n x) vs us e)
  same T (list t) v u n e = absurd e
  same T (fixed_list t k) (parts vs) (parts us) n e = ap parts (same_each (Sees T t) (λ a b x. same T t a b n x) vs us e)
  same T (fixed_list t k) v u n e = absurd e
  same T (fields k fs) (parts vs) (parts us) n e = ap parts (same_fields T fs vs us n e)
  same T (fields k fs) v u n e = absurd e
  same T (cases k cs) (bare i) (bare j) n e = ap bare e
  same T (cases k cs) (bearing i v) (bearing j u) n e = ap (λ m. bearing m v) e.0 ∙ ap (bearing j) (same_payload T cs i v u n e.1)
  same T (cases k cs) v u n e = absurd e
  same T (own r) v u n e = absurd cc
  same T (borrow r) v u n e = absurd cc

  same_fields : (T : Handles) (fs : Fields) (vs us : Vals) → fields_hold is_handle fs ≡ false → SeesFields T fs vs us → vs ≡ us
  same_fields T no_fields no_vals no_vals n e = refl
  same_fields T (field l t fs) (val v vs) (val u us) n e =
      ap (λ x. val x vs) (same T t v u (or_left (holds is_handle t) (fields_hold is_handle fs) n) e.0)
      ∙ ap (val u) (same_fields T fs vs us (or_right (holds is_handle t) (fields_hold is_handle fs) n) e.1)
  same_fields T fs vs us n e = absurd e

  same_payload : (T : Handles) (cs : Cases) (i : ℕ) (v u : Val) → cases_hold is_handle cs ≡ false → SeesPayload T cs i v u → v ≡ u
  same_payload T no_cases i v u n e = absurd e
  same_payload T (plain l cs) zero v u n e = absurd e
  same_payload T (plain l cs) (suc i) v u n e = same_payload T cs i v u n e
  same_payload T (carrying l t cs) zero v u n e = same T t v u (or_left (holds is_handle t) (cases_hold is_handle cs) n) e
  same_payload T (carrying l t cs) (suc i) v u n e = same_payload T cs i v u (or_right (holds is_handle t) (cases_hold is_handle cs) n) e
