-- Calls of the functions of the component of a file (CanonicalABI.md, "Lifting and Lowering
-- Values").
use Rattle.std.specs.Prelude.{◌≡◌, ◌⊎◌, ⊤, ℕ, List, [], ◌∷◌, length}
use Rattle.cm_shims.specs.Files.{IsFileFault}
use Rattle.cm_types.specs.Types.{Fields, FuncTy}
use Rattle.cm_validate_model.specs.Spaces.{Spaces}
use Rattle.huxarte_c_calls.specs.declared.asking.HuxRequest.{HuxRequest}
use Rattle.huxarte_c_calls.specs.declared.call.Call.{Call}
use Rattle.huxarte_c_calls.specs.declared.call.HuxCall.{HuxCall}
use Rattle.huxarte_c_calls.specs.declared.fault.CallFault.{CallFault}
use Rattle.huxarte_c_calls.specs.declared.handles.HuxHandle.{HuxHandle}
use Rattle.huxarte_c_calls.specs.Asking.{IsAsked, IsValueRefusal}
use Rattle.huxarte_c_calls.specs.Calls.{IsCall, IsNoCall}
use Rattle.huxarte_c_calls.specs.Copying.{IsCopy, IsNoCopy, Room}
use Rattle.huxarte_c_components.specs.declared.fault.ComponentFault.{ComponentFault}
use Rattle.huxarte_c_components.specs.declared.fault.ComponentFault.TheVariants as fault
use Rattle.huxarte_c_components.specs.Faults.{of_component}
use Rattle.huxarte_c_components.specs.Funcs.{HasFunc, HasNoFunc, HasNone, HasType}
use Rattle.huxarte_c_calls.specs.declared.verdicts.HuxVerdict.{HuxVerdict}
use Rattle.huxarte_c_calls.specs.Texts.{written}
use Rattle.huxarte_c_calls.specs.Verdicts.{fine}
use Rattle.cm_abi_model.specs.declared.receiver.Receiver.{Receiver}

-- ---- calls

-- it is the call that C hands over, of the function of an index of a component
abbrev pub IsCallIn : Spaces → HuxCall → List ℕ → Call → Type 0
IsCallIn s given numbers c =
    (f : FuncTy) × HasType s given.func f × IsCall given numbers f.params c

-- why a component has no such call
abbrev pub IsNoCallIn : Spaces → HuxCall → List ℕ → ComponentFault → Type 0
IsNoCallIn s given numbers fault.NoFunc = HasNone s given.func
IsNoCallIn s given numbers (fault.Call r) =
    (f : FuncTy) × HasType s given.func f × IsNoCall given numbers f.params r
IsNoCallIn s given numbers fault.Memory = ⊤
IsNoCallIn s given numbers _ = ⊥

-- the call that C hands over, of a function with parameters of these types of the component of a
-- file
pub record IsCallOf (bytes : List ℕ) (given : HuxCall) (numbers : List ℕ) (types : Fields)
    (c : Call) : Type 0 where
  pub func : FuncTy
  pub has : HasFunc bytes given.func func
  pub types_are : types ≡ func.params
  pub is : IsCall given numbers types c

-- why what C hands over is no call, or why the call is refused, for which there may be such reasons
abbrev pub IsRefused : List ℕ → HuxCall → List ℕ → (Fields → Call → CallFault → Type 0)
    → ComponentFault → Type 0
IsRefused bytes given numbers Why (fault.Files f) = IsFileFault (bytes ∷ []) f
IsRefused bytes given numbers Why fault.NoFunc = HasNoFunc bytes given.func
IsRefused bytes given numbers Why (fault.Call r) =
    ((f : FuncTy) × HasFunc bytes given.func f × IsNoCall given numbers f.params r)
    ⊎ ((types : Fields) × (c : Call) × IsCallOf bytes given numbers types c × Why types c r)
IsRefused bytes given numbers Why fault.Memory = ⊤
IsRefused bytes given numbers Why _ = ⊥

-- no call is refused
abbrev pub Never : Fields → Call → CallFault → Type 0
Never types c r = ⊥

-- ---- requests

-- what a call asks for
abbrev pub AreRequests : List ℕ → HuxCall → List ℕ → List ℕ → List HuxHandle → List HuxRequest
    → Type 0
AreRequests bytes given memory numbers handles rows =
    (types : Fields) × (c : Call) × IsCallOf bytes given numbers types c
    × IsAsked c memory handles types rows

-- why it asks for nothing
abbrev pub AreNoRequests : List ℕ → HuxCall → List ℕ → List ℕ → List HuxHandle → ComponentFault
    → Type 0
AreNoRequests bytes given memory numbers handles =
    IsRefused bytes given numbers (λ types c r. IsValueRefusal c memory handles types r)

-- a verdict, and what was written: the requests of the call, or nothing
abbrev pub IsRequestsVerdict : List ℕ → HuxCall → List ℕ → List ℕ → List HuxHandle → HuxVerdict
    → List HuxRequest → ℕ → List HuxRequest → Type 0
IsRequestsVerdict bytes given memory numbers handles v room wanted after =
    ((rows : List HuxRequest) × AreRequests bytes given memory numbers handles rows
    × (v ≡ fine) × (wanted ≡ length rows) × (after ≡ written room rows))
    ⊎ ((r : ComponentFault) × AreNoRequests bytes given memory numbers handles r
    × (v ≡ of_component r) × (wanted ≡ 0) × (after ≡ room))

-- ---- copies

-- who receives the values of a call
abbrev pub receiver_of : HuxCall → Receiver
receiver_of given = record { instance = given.callee; call = given.call }

-- the parameters of a call were copied
abbrev pub IsCopyOf : List ℕ → HuxCall → List ℕ → List ℕ → List HuxHandle → Receiver
    → List HuxHandle → List ℕ → Room → Room → ℕ → Type 0
IsCopyOf bytes given memory numbers handles to callee_handles answers before after wanted =
    (types : Fields) × (c : Call) × IsCallOf bytes given numbers types c
    × IsCopy c memory handles types to callee_handles answers before after wanted

-- why they were not
abbrev pub IsNoCopyOf : List ℕ → HuxCall → List ℕ → List ℕ → List HuxHandle → Receiver
    → List HuxHandle → List ℕ → Room → ComponentFault → Type 0
IsNoCopyOf bytes given memory numbers handles to callee_handles answers room =
    IsRefused bytes given numbers
    (λ types c r. IsNoCopy c memory handles types to callee_handles answers room r)

-- a verdict, and what was written: the parameters of the call, or nothing
abbrev pub IsCopyVerdict : List ℕ → HuxCall → List ℕ → List ℕ → List HuxHandle → Receiver
    → List HuxHandle → List ℕ → HuxVerdict → Room → Room → ℕ → Type 0
IsCopyVerdict bytes given memory numbers handles to callee_handles answers v before after wanted =
    (IsCopyOf bytes given memory numbers handles to callee_handles answers before after wanted
    × (v ≡ fine))
    ⊎ ((r : ComponentFault)
    × IsNoCopyOf bytes given memory numbers handles to callee_handles answers before r
    × (v ≡ of_component r) × (after ≡ before) × (wanted ≡ 0))
