-- The names that a generated job declares, and look-ups among them.
use Rattle.std.proofs.Common.{◌≡◌, ◌∙◌, ℕ, ◌+◌, ◌<◌, ◌≤◌, ◌^◌, List, [], ◌∷◌, ◌++◌, Some, None, false, refl, ap, sym, subst, arith}
use Rattle.std.proofs.lemmas.{Str.Parse.tells_digits, Fmt.decimal_is_IsNumeral, Bool.false_from_ne_true}
use Rattle.std.specs.{Prelude.codes, Prelude.decimal, Cmp.Lexicographic.bytes_decides, Str.Parse.AllDigits}
use Rattle.kp_ast.specs.Expressions.{is_same_name}
use Rattle.kp_ast.specs.declared.widths.NameKind.TheVariants as kinds
use Rattle.kp_width.specs.Names.{Sense, sense, Names, look_up}
use Rattle.kp_gen.specs.Generated.{numbered}
use Rattle.kp_gen.proofs.Lookups.{drop_one, spread, spread_there, spread_none, look_first, look_second, look_past}

-- no number has the text `F`
pub no_number : (k : ℕ) → k < 2 ^ 64 → is_same_name (codes "CF") (numbered 67 k) ≡ false
no_number k h =
    false_from_ne_true (is_same_name (codes "CF") (numbered 67 k))
    (λ e. let same : codes "F" ≡ decimal k = ap drop_one ((bytes_decides (codes "CF") (numbered 67 k)).0 e) in
    let digits : AllDigits 10 (codes "F") = subst (AllDigits 10) (sym same) (decimal_is_IsNumeral k h).0.1 in
    let most : 70 ≤ 57 = (tells_digits.parts 70 [] digits).0.1 in
    omega (arith, most))

module _ (m : ℕ) (small : m ≤ 35) where
  abbrev pub registers_at : ℕ → Sense
  registers_at j = sense kinds.Reg 16 (0 + j)

  abbrev pub file_at : Sense
  file_at = sense (kinds.File 8) 16 (0 + m)

  abbrev pub pipes_at : ℕ → Sense
  pipes_at j = sense kinds.Pipe 16 ((m + 1) + j)

  abbrev pub address_at : Sense
  address_at = sense kinds.Pipe 8 ((m + 1) + m)

  abbrev pub value_at : Sense
  value_at = sense kinds.Pipe 16 (((m + 1) + m) + 1)

  abbrev pub results_at : ℕ → Sense
  results_at j = sense kinds.Target 16 ((m + m + 3) + j)

  abbrev pub file_result_at : Sense
  file_result_at = sense kinds.Target 16 ((m + m + 3) + m)

  abbrev pub with_registers : Names
  with_registers = spread 82 registers_at 0 m

  abbrev pub with_file : Names
  with_file = with_registers ++ (codes "F", file_at) ∷ []

  abbrev pub with_pipes : Names
  with_pipes = with_file ++ spread 80 pipes_at 0 m

  abbrev pub with_address : Names
  with_address = with_pipes ++ (codes "AF", address_at) ∷ []

  abbrev pub with_value : Names
  with_value = with_address ++ (codes "VF", value_at) ∷ []

  abbrev pub with_results : Names
  with_results = with_value ++ spread 67 results_at 0 m

  abbrev pub all_names : Names
  all_names = with_results ++ (codes "CF", file_result_at) ∷ []

  -- a name that none of these has
  module _ (n : List ℕ) where
    abbrev Other : ℕ → Type 0
    Other letter = (k : ℕ) → 0 ≤ k → k < 0 + m → is_same_name n (numbered letter k) ≡ false

    pub free_registers : Other 82 → look_up with_registers n ≡ None
    free_registers r = spread_none 82 registers_at n 0 m r

    pub free_file : Other 82 → is_same_name n (codes "F") ≡ false → look_up with_file n ≡ None
    free_file r f = look_second with_registers ((codes "F", file_at) ∷ []) n (free_registers r) ∙ look_past n (codes "F") file_at [] f

    pub free_pipes : Other 82 → is_same_name n (codes "F") ≡ false → Other 80 → look_up with_pipes n ≡ None
    free_pipes r f p = look_second with_file (spread 80 pipes_at 0 m) n (free_file r f) ∙ spread_none 80 pipes_at n 0 m p

    pub free_address : Other 82 → is_same_name n (codes "F") ≡ false → Other 80 → is_same_name n (codes "AF") ≡ false → look_up with_address n ≡ None
    free_address r f p a = look_second with_pipes ((codes "AF", address_at) ∷ []) n (free_pipes r f p) ∙ look_past n (codes "AF") address_at [] a

    pub free_value : Other 82 → is_same_name n (codes "F") ≡ false → Other 80 → is_same_name n (codes "AF") ≡ false → is_same_name n (codes "VF") ≡ false → look_up with_value n ≡ None
    free_value r f p a v = look_second with_address ((codes "VF", value_at) ∷ []) n (free_address r f p a) ∙ look_past n (codes "VF") value_at [] v

    pub free_results : Other 82 → is_same_name n (codes "F") ≡ false → Other 80 → is_same_name n (codes "AF") ≡ false → is_same_name n (codes "VF") ≡ false → Other 67 → look_up with_results n ≡ None
    free_results r f p a v c = look_second with_value (spread 67 results_at 0 m) n (free_value r f p a v) ∙ spread_none 67 results_at n 0 m c

    pub free_all : Other 82 → is_same_name n (codes "F") ≡ false → Other 80 → is_same_name n (codes "AF") ≡ false → is_same_name n (codes "VF") ≡ false → Other 67 → is_same_name n (codes "CF") ≡ false → look_up all_names n ≡ None
    free_all r f p a v c d = look_second with_results ((codes "CF", file_result_at) ∷ []) n (free_results r f p a v c) ∙ look_past n (codes "CF") file_result_at [] d

    -- what is found is found in longer lists too
    pub from_registers : (x : Sense) → look_up with_registers n ≡ Some x → look_up with_value n ≡ Some x
    from_registers x e =
        look_first with_address ((codes "VF", value_at) ∷ []) n x (look_first with_pipes ((codes "AF", address_at) ∷ []) n x
        (look_first with_file (spread 80 pipes_at 0 m) n x (look_first with_registers ((codes "F", file_at) ∷ []) n x e)))

    pub from_value : (x : Sense) → look_up with_value n ≡ Some x → look_up all_names n ≡ Some x
    from_value x e = look_first with_results ((codes "CF", file_result_at) ∷ []) n x (look_first with_value (spread 67 results_at 0 m) n x e)

  pub register_there : (j : ℕ) → j < m → look_up with_value (numbered 82 j) ≡ Some (registers_at j)
  register_there j h = from_registers (numbered 82 j) (registers_at j) (spread_there 82 registers_at 0 m j (omega arith) (omega arith) (omega arith))

  pub file_there : look_up with_value (codes "F") ≡ Some file_at
  file_there =
      look_first with_address ((codes "VF", value_at) ∷ []) (codes "F") file_at (look_first with_pipes ((codes "AF", address_at) ∷ []) (codes "F") file_at
      (look_first with_file (spread 80 pipes_at 0 m) (codes "F") file_at (look_second with_registers ((codes "F", file_at) ∷ []) (codes "F") (free_registers (codes "F") (λ k h l. refl)))))

  pub pipe_there : (j : ℕ) → j < m → look_up with_value (numbered 80 j) ≡ Some (pipes_at j)
  pipe_there j h =
      look_first with_address ((codes "VF", value_at) ∷ []) (numbered 80 j) (pipes_at j) (look_first with_pipes ((codes "AF", address_at) ∷ []) (numbered 80 j) (pipes_at j)
      (look_second with_file (spread 80 pipes_at 0 m) (numbered 80 j) (free_file (numbered 80 j) (λ k h l. refl) refl) ∙ spread_there 80 pipes_at 0 m j (omega arith) (omega arith) (omega arith)))

  pub address_there : look_up with_value (codes "AF") ≡ Some address_at
  address_there =
      look_first with_address ((codes "VF", value_at) ∷ []) (codes "AF") address_at
      (look_second with_pipes ((codes "AF", address_at) ∷ []) (codes "AF") (free_pipes (codes "AF") (λ k h l. refl) refl (λ k h l. refl)))

  pub value_there : look_up with_value (codes "VF") ≡ Some value_at
  value_there = look_second with_address ((codes "VF", value_at) ∷ []) (codes "VF") (free_address (codes "VF") (λ k h l. refl) refl (λ k h l. refl) refl)

  pub result_there : (j : ℕ) → j < m → look_up all_names (numbered 67 j) ≡ Some (results_at j)
  result_there j h =
      look_first with_results ((codes "CF", file_result_at) ∷ []) (numbered 67 j) (results_at j)
      (look_second with_value (spread 67 results_at 0 m) (numbered 67 j) (free_value (numbered 67 j) (λ k h l. refl) refl (λ k h l. refl) refl refl)
      ∙ spread_there 67 results_at 0 m j (omega arith) (omega arith) (omega arith))

  pub file_result_free : look_up with_results (codes "CF") ≡ None
  file_result_free = free_results (codes "CF") (λ k h l. refl) refl (λ k h l. refl) refl refl (λ k h l. no_number k (omega arith))

  pub file_result_there : look_up all_names (codes "CF") ≡ Some file_result_at
  file_result_there = look_second with_results ((codes "CF", file_result_at) ∷ []) (codes "CF") file_result_free
