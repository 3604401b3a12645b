-- What holds where a call answers.
use Rattle.std.proofs.Common.{Result, Ok, Err, IfOk, OnOk}

pub if_one : {A E : Type 0} (P Q : A → Type 0) (r : Result A E) → ((x : A) → P x → Q x) → IfOk r P → IfOk r Q
if_one P Q (Ok x) f p = f x p
if_one P Q (Err e) f p = tt

pub if_both : {A E : Type 0} (P Q R : A → Type 0) (r : Result A E) → ((x : A) → P x → Q x → R x) → IfOk r P → IfOk r Q → IfOk r R
if_both P Q R (Ok x) f p q = f x p q
if_both P Q R (Err e) f p q = tt

pub on_one : {A E : Type 0} (P Q : Type 0) (r : Result A E) → (P → Q) → OnOk r P → OnOk r Q
on_one P Q (Ok x) f p = f p
on_one P Q (Err e) f p = tt
