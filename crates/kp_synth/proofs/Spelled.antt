-- The names of parts are valid in a text.
use Rattle.std.proofs.Common.{◌≡◌, ℕ, Bool, ◌&&◌, ◌==◌, ◌+◌, ◌^◌, ◌<◌, ◌%◌, List, [], ◌∷◌, ◌++◌, All, true, length, refl, subst, sym, arith}
use Rattle.std.proofs.lemmas.List.Elements.{All-nil, All-cons, All-push, All-weaker}
use Rattle.std.proofs.lemmas.{Bool.le-leb, Bool.or_left, Bool.or_right, Fmt.decimal_by_steps, Fmt.length-decimal-le, Fmt.decimal_nonempty}
use Rattle.std.specs.Prelude.{decimal}
use Rattle.kp_base.specs.Characters.{is_word, is_letter, is_digit}
use Rattle.kp_ast.specs.Name.{IsName}
use Rattle.kp_net.specs.declared.netlist.{Port.Port, NetReg.NetReg, NetFile.NetFile}
use Rattle.kp_net.specs.Names.{IsSpelled, is_in_identifier, is_module_name, is_reg_name, is_file_name, is_sample_name}
use Rattle.kp_synth.specs.inner.Built.{SpelledReg, SpelledFile, SpelledPort, AllSpelled}

abbrev Passes : ℕ → Type 0
Passes b = is_in_identifier b ≡ true

-- a name of the job after a letter and `_`
led : (letter : ℕ) (name : List ℕ) → Passes letter → IsName name → All Passes (letter ∷ 95 ∷ name)
led letter name e n =
    All-cons Passes letter (95 ∷ name) e (All-cons Passes 95 name refl (All-weaker (λ b. is_word b ≡ true) Passes (λ b e. rw e refl) name n.spelled))

pub module_spelled : (name : List ℕ) → IsName name → IsSpelled is_module_name (109 ∷ 95 ∷ name)
module_spelled name n = record { kind = refl; bytes = led 109 name refl n; short = omega (arith, n.within) }

led_spelled : (letter : ℕ) (kind : List ℕ → Bool) → Passes letter → ((c : ℕ) (cs : List ℕ) → kind (letter ∷ 95 ∷ c ∷ cs) ≡ true) → (name : List ℕ) → IsName name → IsSpelled kind (letter ∷ 95 ∷ name)
led_spelled letter kind e is [] n = absurd (omega (arith, n.not_empty))
led_spelled letter kind e is (c ∷ cs) n = record { kind = is c cs; bytes = led letter (c ∷ cs) e n; short = omega (arith, n.within) }

-- `q_` and a number
digit_passes : (d : ℕ) → d < 10 → Passes (48 + d)
digit_passes d h =
    let low = le-leb 48 (48 + d) (omega arith) in
    let high = le-leb (48 + d) 57 (omega arith) in
    or_left (is_word (48 + d)) ((48 + d) == 36) (or_right (is_letter (48 + d)) (is_digit (48 + d)) (λ i. low i && high i))

digits_pass : (n : ℕ) → n < 2 ^ 64 → All Passes (decimal n)
digits_pass = decimal_by_steps (λ n ds. All Passes ds)
    (λ n low. All-cons Passes (48 + n) [] (digit_passes n low) (All-nil Passes))
    (λ n ds high before. All-push Passes ds (48 + n % 10) before (digit_passes (n % 10) (omega arith)))

numbered_kind : (ds : List ℕ) → 0 < length ds → is_reg_name (113 ∷ 95 ∷ ds) ≡ true
numbered_kind [] l = absurd (omega arith)
numbered_kind (d ∷ ds) l = refl

pub numbered_spelled : (n : ℕ) → n < 10 ^ 10 → IsSpelled is_reg_name (113 ∷ 95 ∷ decimal n)
numbered_spelled n l = record {
  kind = numbered_kind (decimal n) (decimal_nonempty n (omega arith));
  bytes = All-cons Passes 113 (95 ∷ decimal n) refl (All-cons Passes 95 (decimal n) refl (digits_pass n (omega arith)));
  short = omega (arith, length-decimal-le 10 n (omega arith) l (omega arith));
}

-- no part, and one more
pub none_spelled : {X : Type 0} (P : X → Type 0) (xs : List X) → xs ≡ [] → AllSpelled P xs
unfolding AllSpelled
none_spelled P xs e = subst (All P) (sym e) (All-nil P)

pub one_spelled : {X : Type 0} (P : X → Type 0) (xs : List X) (x : X) → AllSpelled P xs → P x → AllSpelled P (xs ++ x ∷ [])
unfolding AllSpelled
one_spelled P xs x all s = All-push P xs x all s

pub reg_more : (regs : List NetReg) (r : NetReg) (name : List ℕ) → AllSpelled SpelledReg regs → IsName name → r.name ≡ 114 ∷ 95 ∷ name → AllSpelled SpelledReg (regs ++ r ∷ [])
reg_more regs r name all n e = one_spelled SpelledReg regs r all (subst (IsSpelled is_reg_name) (sym e) (led_spelled 114 is_reg_name refl (λ c cs. refl) name n))

pub file_more : (files : List NetFile) (f : NetFile) (name : List ℕ) → AllSpelled SpelledFile files → IsName name → f.name ≡ 102 ∷ 95 ∷ name → AllSpelled SpelledFile (files ++ f ∷ [])
file_more files f name all n e = one_spelled SpelledFile files f all (subst (IsSpelled is_file_name) (sym e) (led_spelled 102 is_file_name refl (λ c cs. refl) name n))

pub port_more : (ports : List Port) (s : Port) (name : List ℕ) → AllSpelled SpelledPort ports → IsName name → s.name ≡ 115 ∷ 95 ∷ name → AllSpelled SpelledPort (ports ++ s ∷ [])
port_more ports s name all n e = one_spelled SpelledPort ports s all (subst (IsSpelled is_sample_name) (sym e) (led_spelled 115 is_sample_name refl (λ c cs. refl) name n))

pub all_spelled : {X : Type 0} (P : X → Type 0) (xs : List X) → AllSpelled P xs → All P xs
unfolding AllSpelled
all_spelled P xs h = h
