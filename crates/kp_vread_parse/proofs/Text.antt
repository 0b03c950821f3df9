-- What the outcome of the machine means for a text.
use Rattle.std.proofs.Common.{ℕ, zero, suc, ◌≡◌, ◌≤◌, ◌+◌, ◌<◌, List, [], ◌∷◌, length, drop, take, map, All, refl, ap, sym, subst, ◌∙◌, arith}
use Rattle.std.proofs.lemmas.List.{length-drop, drop_more, drop-map, Elements.All-weaker}
use Rattle.std.specs.Prelude.{slice_index_or}
use Rattle.kp_grammar.specs.{Grammar.IsSentence, Machine.Accepts, Machine.Stops}
use Rattle.kp_grammar.proofs.Derivations.{sentence, wrong_at}
use Rattle.kp_vlog.specs.declared.token.VKind.TheVariants as kinds
use Rattle.kp_vlog.specs.{declared.token.VKind.VKind, declared.token.VToken.VToken, declared.tree.VModule.VModule, Tokens.Token, Tokens.takes}
use Rattle.kp_vlog.specs.{Outcome.StandsIn, Outcome.token_of, Outcome.word_of, Outcome.bytes_of, Language.MODULE, Language.whole, Language.verilog}
use Rattle.kp_vlog.{specs.inner.Follow.tables, specs.Verdict.IsWrong, specs.Verdict.offset_of, proofs.Predictive.is_predictive}
use Rattle.kp_vlog.proofs.Lexemes.{Fine, front_fine}
use Rattle.kp_vread_parse.specs.inner.{Spelled.IsSpelled, Reading.ModuleGoes}

pub is_module : (ts : List Token) (m : VModule) → ModuleGoes ts (Accepts (whole m ∷ [])) → IsSentence verilog MODULE [] ts (whole m ∷ [])
is_module ts m l = sentence verilog tables MODULE is_predictive l

pub is_wrong : (end : ℕ) (ts : List Token) (i : ℕ) → ModuleGoes ts (Stops (length (drop i ts))) → IsWrong end ts (offset_of end (drop i ts))
is_wrong end ts i l = record { prefix = i; wrong = wrong_at verilog tables MODULE is_predictive l; place = refl }

-- a name from the lexer has 1 to 70 bytes
take_length : (n : ℕ) (xs : List ℕ) → 1 ≤ n → 1 ≤ length xs → 1 ≤ length (take n xs)
take_length zero xs h k = absurd (omega arith)
take_length (suc n) [] h k = absurd (omega arith)
take_length (suc n) (x ∷ xs) h k = omega arith

within_rest : (text : List ℕ) (start len : ℕ) → start + len ≤ length text → 1 ≤ len → 1 ≤ length (drop start text)
within_rest text start len h k = let d = length-drop start text in omega arith

named : (text : List ℕ) (t : VToken) → StandsIn text t → t.kind ≡ kinds.Ident → (1 ≤ length (bytes_of text t)) × (length (bytes_of text t) ≤ 70)
named text t h e =
    let f : Fine (takes (word_of (bytes_of text t) kinds.Ident) t.len) =
    subst (λ (k : VKind). Fine (takes (word_of (bytes_of text t) k) t.len)) e (subst Fine h.front (front_fine (drop t.start text))) in
    (take_length t.len (drop t.start text) f.1 (within_rest text t.start t.len h.within f.1), f.0.short)

spelled_one : (text : List ℕ) (t : VToken) → StandsIn text t → IsSpelled text t
spelled_one text t h = record { within = h.within; name = named text t h }

pub spelled_all : (text : List ℕ) (tokens : List VToken) → All (StandsIn text) tokens → All (IsSpelled text) tokens
spelled_all text tokens h = All-weaker (StandsIn text) (IsSpelled text) (spelled_one text) tokens h

-- the offset of token i, and that after the last one
pub offset_at : (text : List ℕ) (tokens : List VToken) (i : ℕ) (t : VToken) → i < length tokens → t ≡ slice_index_or tokens i t
    → offset_of (length text) (drop i (map (token_of text) tokens)) ≡ t.start
offset_at text tokens i t h e =
    let first : drop i tokens ≡ t ∷ drop (i + 1) tokens = drop_more tokens i t h ∙ ap (λ (x : VToken). x ∷ drop (i + 1) tokens) (sym e) in
    ap (offset_of (length text)) (drop-map (token_of text) i tokens ∙ ap (map (token_of text)) first)
