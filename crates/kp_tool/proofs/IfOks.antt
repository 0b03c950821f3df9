-- A property of a successful result, from two others.
use Rattle.std.{proofs.Common.Ok, proofs.Common.Err, proofs.Common.IfOk, specs.declared.result.Result.Result}

pub if_ok_both : {T E : Type 0} (r : Result T E) (P Q R : T → Type 0) → ((x : T) → P x → Q x → R x) → IfOk r P → IfOk r Q → IfOk r R
if_ok_both (Ok x) P Q R f p q = f x p q
if_ok_both (Err e) P Q R f p q = p
