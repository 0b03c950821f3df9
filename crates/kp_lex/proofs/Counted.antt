-- A text has no more tokens than bytes.
use Rattle.std.proofs.Common.{ℕ, ◌+◌, ◌≤◌, ◌≡◌, List, [], ◌∷◌, ◌++◌, length, length-append, length-drop, Result, Ok, Err, arith}
use Rattle.std.specs.Prelude.{⊤}
use Rattle.kp_base.specs.declared.refusal.Refusal.{Refusal}
use Rattle.kp_lex.specs.declared.token.{Token.Token, Lexed.Lexed}
use Rattle.kp_lex.specs.Text.{token_at, Lexes, finish, skip, token, last, broken, HasOutcome}
use Rattle.kp_lex.proofs.Fits.{gap_fits, token_fits}

abbrev Counted : ℕ → Result Lexed Refusal → Type 0
Counted most (Ok lexed) = length lexed.tokens ≤ most
Counted most (Err refusal) = ⊤

one_more : (tokens : List Token) (t : Token) → length (tokens ++ t ∷ []) ≡ length tokens + 1
one_more tokens t = length-append tokens (t ∷ [])

counted : (most : ℕ) {tokens : List Token} {before rest : List ℕ} {outcome : Result Lexed Refusal} → Lexes tokens before rest outcome → length tokens + length rest ≤ most → Counted most outcome
counted most {tokens} {before} {rest} (finish e) room = omega arith
counted most {tokens} {before} {rest} (skip len e d) room =
    let low = gap_fits rest len e in
    let left = length-drop len rest in
    counted most d (omega arith)
counted most {tokens} {before} {rest} (token kind len e z d) room =
    let low = token_fits rest kind len e in
    let left = length-drop len rest in
    let more = one_more tokens (token_at before kind len) in
    counted most d (omega arith)
counted most {tokens} {before} {rest} (last kind len e z) room =
    let low = token_fits rest kind len e in
    let more = one_more tokens (token_at before kind len) in
    omega arith
counted most (broken fault e) room = tt

pub tokens_within : (text : List ℕ) (lexed : Lexed) → HasOutcome text (Ok lexed) → length lexed.tokens ≤ length text
tokens_within text lexed d = counted (length text) d (omega arith)
