-- What trees of values tell as a source.
use Rattle.std.proofs.Common.{◌≡◌, ℕ, zero, suc, ◌<◌, List, [], ◌∷◌, length, refl, arith, Some}
use Rattle.cm_types.specs.Values.{HandleValue, Val, Vals, no_vals, val, truth, signed_number}
use Rattle.cm_types.specs.Values.{number, scalar, text, elements, parts, bare, bearing, flag_set}
use Rattle.cm_types.specs.Values.{handle, count_of}
use Rattle.cm_layout.specs.declared.layouts.HandleType.{HandleType}
use Rattle.cm_layout.specs.Shapes.{LayoutTy, Payloads, no_parts, no_payloads, nothing, carried}
use Rattle.cm_layout.specs.Shapes.{handle_shape}
use Rattle.cm_types.specs.ValueTrees.{values_of}
use Rattle.cm_types.specs.declared.values.Value.{Value}
use Rattle.cm_abi_model.specs.Stores.{Given}
use Rattle.cm_abi_store.specs.Fitting.{FitFields, Fits, FitsCase}
use Rattle.cm_abi_store.specs.Sources.{payload_in}

pub none_are_left : (vs : List Value) → length vs ≡ 0 → values_of vs ≡ no_vals
none_are_left [] is = refl
none_are_left (v ∷ vs) is = absurd (omega (arith, is))

pub no_fields_left : (n : ℕ) (g : Given) (vs : Vals) (k h : ℕ) → FitFields n g no_parts vs k h
    → vs ≡ no_vals
no_fields_left n g no_vals k h fits = refl
no_fields_left n g (val v vs) k h fits = absurd fits

pub handle_is : (n : ℕ) (g : Given) (t : HandleType) (v : Val) (k h : ℕ)
    → Fits n g (handle_shape t) v k h → (h < length g.numbers) × (w : HandleValue) × (v ≡ handle w)
handle_is n g t (handle w) k h fits = (fits, w, refl)
handle_is n g t (truth b) k h fits = absurd fits
handle_is n g t (signed_number z) k h fits = absurd fits
handle_is n g t (number x) k h fits = absurd fits
handle_is n g t (scalar x) k h fits = absurd fits
handle_is n g t (text cs) k h fits = absurd fits
handle_is n g t (elements vs) k h fits = absurd fits
handle_is n g t (parts vs) k h fits = absurd fits
handle_is n g t (bare i) k h fits = absurd fits
handle_is n g t (bearing i v) k h fits = absurd fits
handle_is n g t (flag_set x) k h fits = absurd fits

pub count_values : (vs : List Value) → count_of (values_of vs) ≡ length vs
count_values [] = refl
count_values (v ∷ vs) = let rest = count_values vs in omega (arith, rest)

-- a case that fits is one that the payloads have
pub case_carries : (n : ℕ) (g : Given) (ps : Payloads) (i : ℕ) (v : Val) (k h : ℕ)
    → FitsCase n g ps i v k h → (l : LayoutTy) × (payload_in ps i ≡ Some l) × Fits n g l.shape v k h
case_carries n g no_payloads i v k h fits = absurd fits
case_carries n g (nothing ps) zero v k h fits = absurd fits
case_carries n g (nothing ps) (suc i) v k h fits = case_carries n g ps i v k h fits
case_carries n g (carried e sh ps) zero v k h fits = (record { head = e; shape = sh }, refl, fits)
case_carries n g (carried e sh ps) (suc i) v k h fits = case_carries n g ps i v k h fits
