-- The declarations of a generated job violate no rule of names and widths, and declare these names.
use Rattle.std.proofs.Common.{◌≡◌, ◌∙◌, ℕ, ◌+◌, ◌<◌, ◌≤◌, ◌^◌, List, [], ◌∷◌, ◌++◌, length, ◌-◌, Some, None, Option, Result, false, Ok, refl, ap, sym, subst, arith, append_assoc}
use Rattle.std.{proofs.lemmas.Bool.lt-ltb, proofs.lemmas.List.append-nil, specs.Prelude.◌==◌, specs.Prelude.codes}
use Rattle.kp_base.specs.{Check.Check, Check.bind, Check.unless}
use Rattle.kp_ast.specs.declared.{tree.Decl.Decl, widths.Entry.Entry, widths.NameKind.NameKind}
use Rattle.kp_ast.specs.declared.tree.Decl.TheVariants as decls
use Rattle.kp_ast.specs.declared.widths.Scope.TheVariants as scopes
use Rattle.kp_ast.specs.declared.widths.NameKind.TheVariants as kinds
use Rattle.kp_width.specs.{Faults.WidthFinding, Faults.found_at, declared.fault.Position.Position}
use Rattle.kp_width.specs.declared.fault.WidthFault.TheVariants as faults
use Rattle.kp_width.specs.Names.{Sense, sense, Names, Scoped, passed, nothing, look_up, bound_width, used_as, declared_text}
use Rattle.kp_width.specs.Declarations.{address_fault, address_width, name_of, after_name, declaration_of, declarations_of, functions_in}
use Rattle.kp_gen.proofs.Texts.{registers_at, file_at, address_at, value_at, results_at, with_registers, with_file, with_pipes, with_address, with_value, with_results, all_names, free_registers, free_file, free_pipes, free_address, free_value, register_there, file_there, address_there, file_result_free}
use Rattle.kp_gen.specs.declared.draws.Route.{Route}
use Rattle.kp_gen.specs.Generated.{place, named, num, numbered, register_name, result_of, target, for_each, all_decls}
use Rattle.kp_gen.proofs.{Forms.register, Forms.pipe, Forms.file, Forms.pipe_AF, Forms.pipe_VF, Forms.file_result, Steps.then, Steps.is_fresh}
use Rattle.kp_gen.proofs.Lookups.{spread, other_number, look_first, look_second, look_past}

-- between two declarations these names are in scope, and these are the entries
abbrev pub between : Names → List Entry → Scoped
between text entries = record { text = text; local = []; here = scopes.Text; entries = entries; doubts = false }

-- a part of the check passes, and these names are in scope after it
pub record Passes (c : Check WidthFinding Scoped) (text : Names) : Type 0 where
  pub entries : List Entry
  pub found : c.found ≡ Ok (between text entries)

-- a declaration after its name
after_fresh : (ds : List Decl) (i : ℕ) (text : Names) (es : List Entry) (d : Decl) (m : Sense)
    → look_up text (name_of d).name ≡ None
    → (after_name ds i 0 (between text es) d).found ≡ Ok (declared_text (between text es) (name_of d).name m)
    → Passes (declaration_of ds i 0 (between text es) d) (text ++ ((name_of d).name, m) ∷ [])
after_fresh ds i text es d m free after = record {
  entries = (declared_text (between text es) (name_of d).name m).entries;
  found = is_fresh (between text es) (name_of d).name (name_of d).at (after_name ds i 0 (between text es) d) free ∙ after;
}

pub register_passes : (ds : List Decl) (i : ℕ) (text : Names) (es : List Entry) (j : ℕ) (r : Route) → j + 1 < 2 ^ 16
    → look_up text (numbered 82 j) ≡ None
    → Passes (declaration_of ds i 0 (between text es) (register j r)) (text ++ (numbered 82 j, sense kinds.Reg 16 i) ∷ [])
register_passes ds i text es j r h free =
    after_fresh ds i text es (register j r) (sense kinds.Reg 16 i) free
    (ap (λ b. bind (bind (bind (unless b (found_at place (faults.LiteralValue (j + 1) 16)) (Ok 16)) (λ x. unless (x == 16) (found_at place (faults.Start x 16)) passed.found)) (λ x. Ok 16)) (λ w. Ok (declared_text (between text es) (numbered 82 j) (sense kinds.Reg w i)))) (lt-ltb (j + 1) (2 ^ 16) h))

pub pipe_passes : (ds : List Decl) (i : ℕ) (text : Names) (es : List Entry) (j : ℕ) (r : Route)
    → look_up text (numbered 80 j) ≡ None
    → Passes (declaration_of ds i 0 (between text es) (pipe j r)) (text ++ (numbered 80 j, sense kinds.Pipe 16 i) ∷ [])
pipe_passes ds i text es j r free = after_fresh ds i text es (pipe j r) (sense kinds.Pipe 16 i) free refl

pub result_passes : (ds : List Decl) (i : ℕ) (text : Names) (es : List Entry) (j : ℕ) (r : Route) (f : ℕ)
    → look_up text (register_name j) ≡ Some (sense kinds.Reg 16 f)
    → look_up text (numbered 67 j) ≡ None
    → Passes (declaration_of ds i 0 (between text es) (result_of j r)) (text ++ (numbered 67 j, sense kinds.Target 16 i) ∷ [])
result_passes ds i text es j r f there free =
    after_fresh ds i text es (result_of j r) (sense kinds.Target 16 i) free
    (ap (λ (o : Option Sense). bind (bind (bind (used_as scopes.Text (bound_width es (register_name j)) Position.Register place o).found (λ t. unless (t.width == 16) (found_at place (faults.Target 16 t.width t.kind t.from)) passed.found)) (λ x. Ok 16)) (λ w. Ok (declared_text (between text es) (numbered 67 j) (sense kinds.Target w i)))) there)

-- the result of looking up the file and its pipe for the file's result
abbrev storage_found : ℕ → Names → List Entry → Option Sense → Option Sense → Result Scoped WidthFinding
storage_found i text es file pipe =
    bind
    (bind
    (bind (used_as scopes.Text (bound_width es (codes "F")) Position.File place file).found
    (λ t. unless (t.width == 16) (found_at place (faults.Target 16 t.width t.kind t.from)) (bind (bind (used_as scopes.Text (bound_width es (codes "AF")) Position.Pipe place pipe).found (λ p. unless (p.width == address_width t.kind) (found_at place (address_fault t p)) passed.found)) (λ a. passed.found))))
    (λ x. Ok 16))
    (λ w. Ok (declared_text (between text es) (codes "CF") (sense kinds.Target w i)))

pub file_result_passes : (ds : List Decl) (i : ℕ) (text : Names) (es : List Entry) (n f g : ℕ)
    → look_up text (codes "F") ≡ Some (sense (kinds.File 8) 16 f)
    → look_up text (codes "AF") ≡ Some (sense kinds.Pipe 8 g)
    → look_up text (codes "CF") ≡ None
    → Passes (declaration_of ds i 0 (between text es) (target (codes "CF") (codes "F") (Some (named (codes "AF"))) n)) (text ++ (codes "CF", sense kinds.Target 16 i) ∷ [])
file_result_passes ds i text es n f g there address free =
    after_fresh ds i text es (target (codes "CF") (codes "F") (Some (named (codes "AF"))) n) (sense kinds.Target 16 i) free
    (ap (λ (o : Option Sense). storage_found i text es o (look_up text (codes "AF"))) there ∙ ap (λ (o : Option Sense). storage_found i text es (Some (sense (kinds.File 8) 16 f)) o) address)

-- a declaration passes, and what follows it
pub one_more : (ds : List Decl) (i : ℕ) (s : Scoped) (d : Decl) (rest : List Decl) (text final : Names) → functions_in d ≡ 0
    → Passes (declaration_of ds i 0 s d) text
    → ((es : List Entry) → Passes (declarations_of ds (i + 1) 0 (between text es) rest) final)
    → Passes (declarations_of ds i 0 s (d ∷ rest)) final
one_more ds i s d rest text final plain one next =
    let more = next one.entries in
    record {
      entries = more.entries;
      found =
          then (declaration_of ds i 0 s d) (λ t. declarations_of ds (i + 1) (0 + functions_in d) t rest) (between text one.entries) one.found
          ∙ ap (λ k. (declarations_of ds (i + 1) (0 + k) (between text one.entries) rest).found) plain
          ∙ more.found;
    }

-- one declaration for each register
module _ (ds : List Decl) (letter base m : ℕ) (kind : NameKind) (make : ℕ → Route → Decl) (Good : Names → Type 0) where
  abbrev pub sense_at : ℕ → Sense
  sense_at j = sense kind 16 (base + j)

  abbrev Keeps : Type 0
  Keeps = (text : Names) (j : ℕ) → Good text → Good (text ++ (numbered letter j, sense_at j) ∷ [])

  abbrev EachPasses : Type 0
  EachPasses = (text : Names) (es : List Entry) (j : ℕ) (r : Route) → j < m → Good text → look_up text (numbered letter j) ≡ None
      → Passes (declaration_of ds (base + j) 0 (between text es) (make j r)) (text ++ (numbered letter j, sense_at j) ∷ [])

  abbrev Free : ℕ → Names → Type 0
  Free i text = (j : ℕ) → i ≤ j → j < m → look_up text (numbered letter j) ≡ None

  still_free : (i : ℕ) (text : Names) → m < 2 ^ 64 → i < m → Free i text → Free (i + 1) (text ++ (numbered letter i, sense_at i) ∷ [])
  still_free i text small within free j h l =
      look_second text ((numbered letter i, sense_at i) ∷ []) (numbered letter j) (free j (omega arith) l)
      ∙ look_past (numbered letter j) (numbered letter i) (sense_at i) [] (other_number letter j i (omega arith) (omega arith) (omega arith))

  pub each_passes : EachPasses → Keeps → ((j : ℕ) (r : Route) → functions_in (make j r) ≡ 0) → m < 2 ^ 64
      → (text final : Names) (es : List Entry) (j : ℕ) (rs : List Route) (rest : List Decl) → j + length rs ≡ m → Good text → Free j text
      → ((es : List Entry) → Passes (declarations_of ds (base + m) 0 (between (text ++ spread letter sense_at j (length rs)) es) rest) final)
      → Passes (declarations_of ds (base + j) 0 (between text es) (for_each make j rs ++ rest)) final
  each_passes each keeps plain small text final es j [] rest e good free next =
      let i : m ≡ j = omega (arith, e) in
      subst (λ t. Passes (declarations_of ds (base + j) 0 (between t es) rest) final) (append-nil text)
      (subst (λ k. Passes (declarations_of ds (base + k) 0 (between (text ++ []) es) rest) final) i (next es))
  each_passes each keeps plain small text final es j (r ∷ rs) rest e good free next =
      let one = each text es j r (omega arith) good (free j (omega arith) (omega arith)) in
      let text' : Names = text ++ (numbered letter j, sense_at j) ∷ [] in
      let i : base + (j + 1) ≡ (base + j) + 1 = omega arith in
      let same = append_assoc text ((numbered letter j, sense_at j) ∷ []) (spread letter sense_at (j + 1) (length rs)) in
      one_more ds (base + j) (between text es) (make j r) (for_each make (j + 1) rs ++ rest) text' final (plain j r) one
      (λ es'. subst (λ k. Passes (declarations_of ds k 0 (between text' es') (for_each make (j + 1) rs ++ rest)) final) i
      (each_passes each keeps plain small text' final es' (j + 1) rs rest (omega arith) (keeps text j good) (still_free j text small (omega arith) free)
      (λ es''. subst (λ t. Passes (declarations_of ds (base + m) 0 (between t es'') rest) final) (sym same) (next es''))))

at_index : (ds : List Decl) (i k : ℕ) (s : Scoped) (rest : List Decl) (final : Names) → i ≡ k → Passes (declarations_of ds i 0 s rest) final → Passes (declarations_of ds k 0 s rest) final
at_index ds i k s rest final e p = subst (λ x. Passes (declarations_of ds x 0 s rest) final) e p

-- all declarations of a job with m choices
module _ (ds : List Decl) (n : ℕ) (rs : List Route) (few : length rs ≤ 35) where
  abbrev m : ℕ
  m = length rs

  abbrev Any : Names → Type 0
  Any text = Unit {0}

  abbrev HasRegisters : Names → Type 0
  HasRegisters text = (j : ℕ) → j < m → look_up text (numbered 82 j) ≡ Some (registers_at m few j)

  last : (es : List Entry) → Passes (declarations_of ds ((m + m + 3) + m) 0 (between (with_results m few) es) (file_result n ∷ [])) (all_names m few)
  last es =
      one_more ds ((m + m + 3) + m) (between (with_results m few) es) (file_result n) [] (all_names m few) (all_names m few) refl
      (file_result_passes ds ((m + m + 3) + m) (with_results m few) es (n - 1) (0 + m) ((m + 1) + m)
      (look_first (with_value m few) (spread 67 (results_at m few) 0 m) (codes "F") (file_at m few) (file_there m few))
      (look_first (with_value m few) (spread 67 (results_at m few) 0 m) (codes "AF") (address_at m few) (address_there m few))
      (file_result_free m few))
      (λ es'. record { entries = es'; found = refl })

  results : (es : List Entry) → Passes (declarations_of ds ((m + m + 3) + 0) 0 (between (with_value m few) es) (for_each result_of 0 rs ++ file_result n ∷ [])) (all_names m few)
  results es =
      each_passes ds 67 (m + m + 3) m kinds.Target result_of HasRegisters
      (λ text es j r h good free. result_passes ds ((m + m + 3) + j) text es j r (0 + j) (good j h) free)
      (λ text j good k h. look_first text ((numbered 67 j, results_at m few j) ∷ []) (numbered 82 k) (registers_at m few k) (good k h))
      (λ j r. refl) (omega arith) (with_value m few) (all_names m few) es 0 rs (file_result n ∷ []) (omega arith) (register_there m few)
      (λ j h l. free_value m few (numbered 67 j) (λ k h l. refl) refl (λ k h l. refl) refl refl)
      last

  two_pipes : (es : List Entry) → Passes (declarations_of ds ((m + 1) + m) 0 (between (with_pipes m few) es) (pipe_AF ∷ pipe_VF ∷ for_each result_of 0 rs ++ file_result n ∷ [])) (all_names m few)
  two_pipes es =
      one_more ds ((m + 1) + m) (between (with_pipes m few) es) pipe_AF (pipe_VF ∷ for_each result_of 0 rs ++ file_result n ∷ []) (with_address m few) (all_names m few) refl
      (after_fresh ds ((m + 1) + m) (with_pipes m few) es pipe_AF (address_at m few) (free_pipes m few (codes "AF") (λ k h l. refl) refl (λ k h l. refl)) refl)
      (λ es'. one_more ds (((m + 1) + m) + 1) (between (with_address m few) es') pipe_VF (for_each result_of 0 rs ++ file_result n ∷ []) (with_value m few) (all_names m few) refl
      (after_fresh ds (((m + 1) + m) + 1) (with_address m few) es' pipe_VF (value_at m few) (free_address m few (codes "VF") (λ k h l. refl) refl (λ k h l. refl) refl) refl)
      (λ es''. at_index ds ((m + m + 3) + 0) ((((m + 1) + m) + 1) + 1) (between (with_value m few) es'') (for_each result_of 0 rs ++ file_result n ∷ []) (all_names m few) (omega arith) (results es'')))

  abbrev behind_file : List Decl
  behind_file = for_each pipe 0 rs ++ (pipe_AF ∷ pipe_VF ∷ for_each result_of 0 rs ++ file_result n ∷ [])

  pipes : (es : List Entry) → Passes (declarations_of ds ((m + 1) + 0) 0 (between (with_file m few) es) behind_file) (all_names m few)
  pipes es =
      each_passes ds 80 (m + 1) m kinds.Pipe pipe Any
      (λ text es j r h good free. pipe_passes ds ((m + 1) + j) text es j r free)
      (λ text j good. tt) (λ j r. refl) (omega arith) (with_file m few) (all_names m few) es 0 rs (pipe_AF ∷ pipe_VF ∷ for_each result_of 0 rs ++ file_result n ∷ []) (omega arith) tt
      (λ j h l. free_file m few (numbered 80 j) (λ k h l. refl) refl)
      two_pipes

  in_parts : Passes (declarations_of ds 0 0 nothing (for_each register 0 rs ++ (file ∷ behind_file))) (all_names m few)
  in_parts =
      each_passes ds 82 0 m kinds.Reg register Any
      (λ text es j r h good free. register_passes ds (0 + j) text es j r (omega arith) free)
      (λ text j good. tt) (λ j r. refl) (omega arith) [] (all_names m few) [] 0 rs (file ∷ behind_file) (omega arith) tt
      (λ j h l. refl)
      (λ es. one_more ds (0 + m) (between (with_registers m few) es) file behind_file (with_file m few) (all_names m few) refl
      (after_fresh ds (0 + m) (with_registers m few) es file (file_at m few) (free_registers m few (codes "F") (λ k h l. refl)) refl)
      (λ es'. at_index ds ((m + 1) + 0) ((0 + m) + 1) (between (with_file m few) es') behind_file (all_names m few) (omega arith) (pipes es')))

  pub all_pass : Passes (declarations_of ds 0 0 nothing (all_decls n rs)) (all_names m few)
  all_pass =
      let middle : List Decl = pipe_AF ∷ pipe_VF ∷ for_each result_of 0 rs in
      let front : List Decl = file ∷ for_each pipe 0 rs in
      let same : all_decls n rs ≡ for_each register 0 rs ++ (file ∷ behind_file) =
      append_assoc (for_each register 0 rs ++ front) middle (file_result n ∷ [])
      ∙ append_assoc (for_each register 0 rs) front (middle ++ file_result n ∷ []) in
      subst (λ x. Passes (declarations_of ds 0 0 nothing x) (all_names m few)) (sym same) in_parts
