-- The registers of a script are registers of its job.
use Rattle.std.proofs.Common.{◌≡◌, ◌∙◌, ℕ, zero, suc, ◌+◌, ◌<◌, List, [], ◌∷◌, length, get_or, drop, Bool, true, false, Option, None, Some, Ok, Err, refl, ap, sym, subst, arith}
use Rattle.std.specs.{declared.result.Result.Result, Prelude.if◌then◌else◌, Str.bytes_eq}
use Rattle.kp_bits.specs.{Literals.is_number, Word.Word}
use Rattle.kp_ast.specs.declared.tree.{Decl.Decl, Job.Job}
use Rattle.kp_ast.specs.declared.tree.Decl.TheVariants as decls
use Rattle.kp_machine.specs.{Slots.targets_of, Slots.is_register, Words.no_slot}
use Rattle.kp_base.specs.Lines.{Piece, lines_of, words_of}
use Rattle.kp_debug_script.specs.Faults.{ScriptFinding, verdict_of}
use Rattle.kp_debug_script.specs.Scripts.{verb_of, is_literal, or_else, register_from, count_of, value_of, one_count, with_count, alone, with_value, with_register, until_at, until_by, command_by, command_in, with_line, commands_of, placed, script_in, script_of, broken}
use Rattle.kp_debug_script.specs.declared.{command.Command.Command, fault.Fault.Fault, command.Register.Register, command.Verb.Verb}
use Rattle.kp_debug.specs.Inspecting.{IsOfTargets, AreOfJob}
use Rattle.kp_debug_script.specs.declared.command.Command.TheVariants as commands
use Rattle.kp_debug_script.specs.declared.command.Verb.TheVariants as verbs
use Rattle.kp_debug_script.specs.declared.fault.ScriptFault.TheVariants as faults

-- ---- a register that was found among declarations

record Found (t : ℕ) (ds : List Decl) (target : ℕ) : Type 0 where
  k : ℕ
  is : target ≡ t + k
  there : k < length (targets_of ds)
  kind : is_register (get_or (targets_of ds) k no_slot) ≡ true

found : (t : ℕ) (ds : List Decl) (name : List ℕ) (r : Register) → register_from t ds name ≡ Some r → Found t ds r.target
found t [] name r e = cc
found t (decls.Reg n width start ∷ ds) name r e = go (bytes_eq n.name name) (found (t + 1) ds name r) e
  where
    go : (b : Bool) → (register_from (t + 1) ds name ≡ Some r → Found (t + 1) ds r.target)
        → or_else (if b then Some (record { target = t; width = width.value; declared = n.at }) else None) (register_from (t + 1) ds name) ≡ Some r → Found t (decls.Reg n width start ∷ ds) r.target
    go true rest h = let same : r.target ≡ t = cc in record { k = 0; is = omega (arith, same); there = omega arith; kind = refl }
    go false rest h = let p = rest h in record { k = suc p.k; is = omega (arith, p.is); there = omega (arith, p.there); kind = p.kind }
found t (decls.File n width address ∷ ds) name r e = let p = found (t + 1) ds name r e in record { k = suc p.k; is = omega (arith, p.is); there = omega (arith, p.there); kind = p.kind }
found t (_ ∷ ds) name r e = let p = found (t + 0) ds name r e in record { k = p.k; is = omega (arith, p.is); there = p.there; kind = p.kind }

module _ (job : Job) where
  -- ---- a command

  until_value : (c : Command) (target n : ℕ) (r : Result Word Fault) → (target < length (targets_of job.decls)) × (is_register (get_or (targets_of job.decls) target no_slot) ≡ true)
      → with_value target n r ≡ Ok c → IsOfTargets job c
  until_value c target n (Err f) of e = cc
  until_value c target n (Ok v) of e = let same : commands.Until target v n ≡ c = cc in subst (IsOfTargets job) same of

  until_register : (c : Command) (name : Piece) (o : Option Register) (l : Piece) (n : ℕ) → register_from 0 job.decls name.bytes ≡ o → with_register job.decls name o l n ≡ Ok c → IsOfTargets job c
  until_register c name None l n is e = cc
  until_register c name (Some r) l n is e =
      let p = found 0 job.decls name.bytes r is in
      let same : p.k ≡ r.target = omega (arith, p.is) in
      until_value c r.target n (value_of r l)
      (omega (arith, p.there, same), ap (λ (k : ℕ). is_register (get_or (targets_of job.decls) k no_slot)) (sym same) ∙ p.kind) e

  until_count : (c : Command) (r l : Piece) (k : Result ℕ Fault) → until_at job.decls r l k ≡ Ok c → IsOfTargets job c
  until_count c r l (Err f) e = cc
  until_count c r l (Ok n) e = until_register c r (register_from 0 job.decls r.bytes) l n refl e

  until_words : (c : Command) (at : ℕ) (args : List Piece) → until_by job.decls at args ≡ Ok c → IsOfTargets job c
  until_words c at [] e = cc
  until_words c at (r ∷ []) e = cc
  until_words c at (r ∷ l ∷ []) e = cc
  until_words c at (r ∷ l ∷ n ∷ []) e = go (is_literal l.bytes) (is_number n.bytes) e
    where
      go : (a b : Bool) → (if a then (if b then until_at job.decls r l (count_of n) else broken (faults.NoCount verbs.Until n.at) at) else broken (faults.NoLiteral l.at) at) ≡ Ok c
          → IsOfTargets job c
      go true true h = until_count c r l (count_of n) h
      go true false h = cc
      go false b h = cc
  until_words c at (r ∷ l ∷ n ∷ m ∷ args) e = cc

  counted : (f : ℕ → Command) → ((n : ℕ) → IsOfTargets job (f n)) → (c : Command) (r : Result ℕ Fault) → with_count r f ≡ Ok c → IsOfTargets job c
  counted f of c (Err fault) e = cc
  counted f of c (Ok n) e = let same : f n ≡ c = cc in subst (IsOfTargets job) same (of n)

  by_itself : (one c : Command) → IsOfTargets job one → (verb : Verb) (at : ℕ) (args : List Piece) → alone verb at args one ≡ Ok c → IsOfTargets job c
  by_itself one c of verb at [] e = let same : one ≡ c = cc in subst (IsOfTargets job) same of
  by_itself one c of verb at (x ∷ args) e = cc

  command_is : (at : ℕ) (verb : Option Verb) (args : List Piece) (c : Command) → command_by job.decls at verb args ≡ Ok c → IsOfTargets job c
  command_is at None args c e = cc
  command_is at (Some verbs.Step) args c e = counted commands.Step (λ n. tt) c (one_count verbs.Step at args) e
  command_is at (Some verbs.Back) args c e = counted commands.Back (λ n. tt) c (one_count verbs.Back at args) e
  command_is at (Some verbs.Until) args c e = until_words c at args e
  command_is at (Some verbs.Show) args c e = by_itself commands.Show c tt verbs.Show at args e
  command_is at (Some verbs.Row) args c e = by_itself commands.Row c tt verbs.Row at args e

  -- ---- all lines

  one_more : (c : Command) (cs : List Command) → IsOfTargets job c → AreOfJob job cs → AreOfJob job (c ∷ cs)
  one_more c cs of all zero d h = of
  one_more c cs of all (suc i) d h = all i d (omega (arith, h))

  by_first : (first : Result Command Fault) (rest : Result (List Command) Fault) → ((c : Command) → first ≡ Ok c → IsOfTargets job c)
      → ((cs : List Command) → rest ≡ Ok cs → AreOfJob job cs) → (cs : List Command) → with_line (Some first) rest ≡ Ok cs → AreOfJob job cs
  by_first (Err f) rest of all cs e = cc
  by_first (Ok c) (Err f) of all cs e = cc
  by_first (Ok c) (Ok more) of all cs e = let same : c ∷ more ≡ cs = cc in subst (AreOfJob job) same (one_more c more (of c refl) (all more refl))

  by_words : (ws : List Piece) (rest : Result (List Command) Fault) → ((cs : List Command) → rest ≡ Ok cs → AreOfJob job cs)
      → (cs : List Command) → with_line (command_in job.decls ws) rest ≡ Ok cs → AreOfJob job cs
  by_words [] rest all cs e = all cs e
  by_words (verb ∷ args) rest all cs e =
      by_first (command_by job.decls verb.at (verb_of verb.bytes) args) rest (λ c h. command_is verb.at (verb_of verb.bytes) args c h) all cs e

  all_lines : (lines : List Piece) (cs : List Command) → commands_of job.decls lines ≡ Ok cs → AreOfJob job cs
  all_lines [] cs e = let same : [] ≡ cs = cc in subst (AreOfJob job) same (λ i d h. absurd (omega (arith, h)))
  all_lines (line ∷ lines) cs e = by_words (words_of line) (commands_of job.decls lines) (all_lines lines) cs e

  unplaced : (text : List ℕ) (r : Result (List Command) Fault) (cs : List Command) → placed text r ≡ Ok cs → r ≡ Ok cs
  unplaced text (Ok x) cs e = let same : x ≡ cs = cc in ap (λ (l : List Command). Ok l) same
  unplaced text (Err f) cs e = cc

  unjudged : (r : Result (List Command) ScriptFinding) (cs : List Command) → verdict_of r ≡ Ok cs → r ≡ Ok cs
  unjudged (Ok x) cs e = let same : x ≡ cs = cc in ap (λ (l : List Command). Ok l) same
  unjudged (Err f) cs e = cc

  pub script_is : (text : List ℕ) (from : ℕ) (cs : List Command) → script_of job.decls text from ≡ Ok cs → AreOfJob job cs
  script_is text from cs e =
      let lines : List Piece = lines_of (record { at = from; bytes = drop from text }) in
      all_lines lines cs (unplaced text (commands_of job.decls lines) cs (unjudged (script_in job.decls text from) cs e))
