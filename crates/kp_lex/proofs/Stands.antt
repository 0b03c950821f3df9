-- The tokens of a text occur in it.
use Rattle.std.proofs.Common.{ℕ, ◌+◌, ◌≤◌, ◌≡◌, List, ◌++◌, length, drop, take, length-append, append_assoc, Result, Ok, Err, All, refl, sym, ap, ◌∙◌, arith}
use Rattle.std.proofs.{Math.Seq.take-append_seam, Math.Seq.drop-append_seam, lemmas.List.take-append-drop}
use Rattle.std.{proofs.lemmas.List.Elements.All-nil, proofs.lemmas.List.Elements.All-push, specs.Prelude.⊤}
use Rattle.kp_base.specs.{Place.place_after, declared.refusal.Refusal.Refusal}
use Rattle.kp_lex.specs.declared.front.Front.TheVariants as fronts
use Rattle.kp_lex.specs.declared.token.{TokenKind.TokenKind, Token.Token, Lexed.Lexed}
use Rattle.kp_lex.specs.Text.{front_of, token_at, Lexes, finish, skip, token, last, broken, HasOutcome, StandsIn}
use Rattle.kp_lex.proofs.Fits.{token_fits}

abbrev Stand : List ℕ → Result Lexed Refusal → Type 0
Stand text (Ok lexed) = All (StandsIn text) lexed.tokens × (lexed.rest ≤ length text)
Stand text (Err refusal) = ⊤

stands_at : (text before rest : List ℕ) (kind : TokenKind) (len : ℕ) → text ≡ before ++ rest → front_of rest ≡ fronts.Token kind len → StandsIn text (token_at before kind len)
stands_at text before rest kind len whole e = record {
  front = ap (λ (z : List ℕ). front_of (drop (length before) z)) whole ∙ ap front_of (drop-append_seam before rest) ∙ e;
  within = (
      let high = (token_fits rest kind len e).1 in
      let sum : length text ≡ length before + length rest = ap length whole ∙ length-append before rest in
      omega arith
      );
  place = sym (ap (λ (z : List ℕ). place_after (take (length before) z)) whole ∙ ap place_after (take-append_seam before rest));
}

on_ward : (text before rest : List ℕ) (len : ℕ) → text ≡ before ++ rest → text ≡ (before ++ take len rest) ++ drop len rest
on_ward text before rest len whole = whole ∙ ap (λ (z : List ℕ). before ++ z) (sym (take-append-drop len rest)) ∙ sym (append_assoc before (take len rest) (drop len rest))

stand : (text : List ℕ) {tokens : List Token} {before rest : List ℕ} {outcome : Result Lexed Refusal} → Lexes tokens before rest outcome → text ≡ before ++ rest → All (StandsIn text) tokens → Stand text outcome
stand text {tokens} {before} {rest} (finish e) whole all = (
  all,
  let sum : length text ≡ length before + length rest = ap length whole ∙ length-append before rest in omega arith,
)
stand text {tokens} {before} {rest} (skip len e d) whole all = stand text d (on_ward text before rest len whole) all
stand text {tokens} {before} {rest} (token kind len e z d) whole all =
    stand text d (on_ward text before rest len whole) (All-push (StandsIn text) tokens (token_at before kind len) all (stands_at text before rest kind len whole e))
stand text {tokens} {before} {rest} (last kind len e z) whole all =
    let here = stands_at text before rest kind len whole e in
    (All-push (StandsIn text) tokens (token_at before kind len) all here, here.within)
stand text (broken fault e) whole all = tt

pub tokens_stand : (text : List ℕ) (lexed : Lexed) → HasOutcome text (Ok lexed) → All (StandsIn text) lexed.tokens × (lexed.rest ≤ length text)
tokens_stand text lexed d = stand text d refl (All-nil (StandsIn text))
