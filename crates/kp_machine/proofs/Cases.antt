-- Cases of a test, and of a value that may be there.
use Rattle.std.proofs.Common.{◌≡◌, Option, Some, None, Bool, true, false, refl}

pub by_test : {G : Type 0} (b : Bool) → (b ≡ true → G) → (b ≡ false → G) → G
by_test true then_so else_so = then_so refl
by_test false then_so else_so = else_so refl

pub by_option : {X G : Type 0} (o : Option X) → (o ≡ None → G) → ((x : X) → o ≡ Some x → G) → G
by_option None none some = none refl
by_option (Some x) none some = some x refl
