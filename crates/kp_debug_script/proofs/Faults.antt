-- A violated rule is reported at a byte of the text, or at its end.
use Rattle.std.proofs.Common.{◌≡◌, ℕ, suc, ◌≤◌, Bool, true, false, cond, List, [], ◌∷◌, length, map, All, Option, Some, None, Result, Ok, Err, sym, subst, arith}
use Rattle.std.specs.Prelude.{nat_le, IfErr, IfSome, ◌==◌}
use Rattle.kp_bits.specs.{Word.Word, Literals.is_number, Literals.number_of, Literals.literal_of, Literals.fit_of, declared.literal.Literal.Literal}
use Rattle.kp_bits.specs.declared.literal.LiteralFault.{LiteralFault}
use Rattle.kp_ast.specs.declared.tree.Decl.{Decl}
use Rattle.kp_base.specs.{Lines.Piece, Lines.piece_of, Lines.IsWithin, declared.run.Run.Run}
use Rattle.kp_debug_script.specs.Scripts.{verb_of, count_within, count_of, value_fitting, value_within, value_of, one_count, with_count, alone, with_value, with_register, register_from, until_at, until_by, is_literal, command_by, command_in}
use Rattle.kp_debug_script.specs.{inner.Reading.IsFaultIn, declared.command.Command.Command, declared.command.Verb.Verb, declared.command.Register.Register}
use Rattle.kp_debug_script.specs.declared.fault.Fault.{Fault}
use Rattle.kp_debug_script.specs.declared.command.Command.TheVariants as commands
use Rattle.kp_debug_script.specs.declared.command.Verb.TheVariants as verbs

abbrev IsIn : {X : Type 0} → ℕ → Result X Fault → Type 0
IsIn end result = IfErr result (λ f. f.at ≤ end)

choose : {X : Type 0} (end : ℕ) (x y : Result X Fault) (b : Bool) → IsIn end x → IsIn end y → IsIn end (cond b x y)
choose end x y true h k = h
choose end x y false h k = k

module _ (end : ℕ) where
  in_count : (at : ℕ) (n : Option ℕ) → at ≤ end → IsIn end (count_within at n)
  in_count at None h = h
  in_count at (Some n) h = choose end _ _ (nat_le n 100000) tt h

  in_value : (at : ℕ) (l : Literal) (value : Result Word LiteralFault) → at ≤ end → IsIn end (value_fitting at l value)
  in_value at l (Err e) h = h
  in_value at l (Ok v) h = tt

  in_literal : (at : ℕ) (r : Register) (l : Result Literal LiteralFault) → at ≤ end → IsIn end (value_within at r l)
  in_literal at r (Err e) h = h
  in_literal at r (Ok l) h = choose end _ _ (l.width == r.width) (in_value at l (fit_of l) h) h

  in_counted : (n : Result ℕ Fault) (command : ℕ → Command) → IsIn end n → IsIn end (with_count n command)
  in_counted (Err e) command h = h
  in_counted (Ok n) command h = tt

  in_alone : (verb : Verb) (at : ℕ) (args : List Piece) (command : Command) → at ≤ end → IsIn end (alone verb at args command)
  in_alone verb at [] command h = tt
  in_alone verb at (a ∷ args) command h = h

  in_valued : (target n : ℕ) (value : Result Word Fault) → IsIn end value → IsIn end (with_value target n value)
  in_valued target n (Err e) h = h
  in_valued target n (Ok v) h = tt

  in_register : (ds : List Decl) (name : Piece) (r : Option Register) (literal : Piece) (n : ℕ) → name.at ≤ end → literal.at ≤ end → IsIn end (with_register ds name r literal n)
  in_register ds name None literal n h l = h
  in_register ds name (Some r) literal n h l = in_valued r.target n (value_of r literal) (in_literal literal.at r (literal_of literal.bytes) l)

  in_until : (ds : List Decl) (name literal : Piece) (n : Result ℕ Fault) → name.at ≤ end → literal.at ≤ end → IsIn end n → IsIn end (until_at ds name literal n)
  in_until ds name literal (Err e) h l n = n
  in_until ds name literal (Ok n) h l _ = in_register ds name (register_from 0 ds name.bytes) literal n h l

module _ (text : List ℕ) where
  in_text : (run : Run) → IsWithin text run → run.at ≤ length text
  in_text run h = omega (arith, h.0, h.1)

  in_one : (verb : Verb) (at : ℕ) (args : List Run) → at ≤ length text → All (IsWithin text) args → IsIn (length text) (one_count verb at (map (piece_of text) args))
  in_one verb at [] h within = h
  in_one verb at (n ∷ []) h within =
      let p : Piece = piece_of text n in
      choose (length text) _ _ (is_number p.bytes) (in_count (length text) n.at (number_of p.bytes) (in_text n (within 0 n (omega arith)))) h
  in_one verb at (n ∷ m ∷ more) h within = h

  in_three : (ds : List Decl) (at : ℕ) (args : List Run) → at ≤ length text → All (IsWithin text) args → IsIn (length text) (until_by ds at (map (piece_of text) args))
  in_three ds at [] h within = h
  in_three ds at (r ∷ []) h within = h
  in_three ds at (r ∷ l ∷ []) h within = h
  in_three ds at (r ∷ l ∷ n ∷ []) h within =
      let literal : Piece = piece_of text l in
      let count : Piece = piece_of text n in
      choose (length text) _ _ (is_literal literal.bytes)
      (choose (length text) _ _ (is_number count.bytes)
      (in_until (length text) ds (piece_of text r) literal (count_of count) (in_text r (within 0 r (omega arith))) (in_text l (within 1 r (omega arith)))
      (in_count (length text) n.at (number_of count.bytes) (in_text n (within 2 r (omega arith))))) h) h
  in_three ds at (r ∷ l ∷ n ∷ m ∷ more) h within = h

  of_command : (ds : List Decl) (at : ℕ) (verb : Option Verb) (args : List Run) → at ≤ length text → All (IsWithin text) args
      → IsIn (length text) (command_by ds at verb (map (piece_of text) args))
  of_command ds at None args h within = h
  of_command ds at (Some verbs.Step) args h within = in_counted (length text) (one_count verbs.Step at (map (piece_of text) args)) commands.Step (in_one verbs.Step at args h within)
  of_command ds at (Some verbs.Back) args h within = in_counted (length text) (one_count verbs.Back at (map (piece_of text) args)) commands.Back (in_one verbs.Back at args h within)
  of_command ds at (Some verbs.Until) args h within = in_three ds at args h within
  of_command ds at (Some verbs.Show) args h within = in_alone (length text) verbs.Show at (map (piece_of text) args) commands.Show h
  of_command ds at (Some verbs.Row) args h within = in_alone (length text) verbs.Row at (map (piece_of text) args) commands.Row h

  of_words : (ds : List Decl) (words : List Run) → All (IsWithin text) words → IfSome (command_in ds (map (piece_of text) words)) (IsFaultIn text)
  of_words ds [] within = tt
  of_words ds (verb ∷ args) within =
      of_command ds verb.at (verb_of (piece_of text verb).bytes) args (in_text verb (within 0 verb (omega arith))) (λ k d l. within (suc k) d (omega (arith, l)))

  pub fault_in_text : (ds : List Decl) (words : List Run) (line : Option (Result Command Fault)) → line ≡ command_in ds (map (piece_of text) words) → All (IsWithin text) words → IfSome line (IsFaultIn text)
  fault_in_text ds words line is within = subst (λ (l : Option (Result Command Fault)). IfSome l (IsFaultIn text)) (sym is) (of_words ds words within)
