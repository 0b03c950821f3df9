-- A text has one list of tokens and one module, or violates one rule.
use Rattle.std.proofs.Common.{◌≡◌, ◌∙◌, ℕ, ◌+◌, ◌≤◌, List, [], ◌∷◌, length, drop, Some, None, refl, sym, ap, subst, arith, inl, inr}
use Rattle.std.proofs.lemmas.{Bool.cases_lt, List.length-drop, List.drop_all}
use Rattle.kp_grammar.specs.Grammar.{Nonterminal, Derives}
use Rattle.kp_grammar.proofs.Derivations.{one_state, one_wrong}
use Rattle.kp_net.specs.Netlist.{Net}
use Rattle.kp_vlog.specs.Tokens.{Token, Front, finish, skips, takes, broken, front, Lexes, at_end, past, token, LexesTo, here, past_gap, past_token}
use Rattle.kp_vlog.specs.{declared.tree.VModule.VModule, Language.Value, Language.whole, Language.MODULE, Language.verilog, inner.Follow.tables, Rules.Fault}
use Rattle.kp_vlog.specs.Denote.{net_of, IsModule, Denotes}
use Rattle.kp_vlog.specs.Verdict.{fault, offset_of, IsWrong, Breaks, no_token, wrong_token, broken_rule}
use Rattle.kp_vlog.proofs.Predictive.{is_predictive}
use Rattle.kp_vlog.specs.Rules as rules

-- The tokens of a text, by its front, and the byte that begins none.
abbrev Lexed : ℕ → List ℕ → Front → List Token → Type 0
Lexed at text finish ts = ts ≡ []
Lexed at text broken ts = ⊥
Lexed at text (skips n) ts = Lexes (at + n) (drop n text) ts
Lexed at text (takes w n) ts = (us : List Token) × Lexes (at + n) (drop n text) us × (ts ≡ record { word = w; at = at } ∷ us)

lexed : {at : ℕ} {text : List ℕ} {ts : List Token} → Lexes at text ts → (f : Front) → front text ≡ f → Lexed at text f ts
lexed {at = at} {text = text} (at_end e) f g = subst (λ (f : Front). Lexed at text f []) (sym e ∙ g) refl
lexed {at = at} {text = text} {ts = ts} (past n e k) f g = subst (λ (f : Front). Lexed at text f ts) (sym e ∙ g) k
lexed {at = at} {text = text} (token {ts = us} w n e k) f g = subst (λ (f : Front). Lexed at text f (record { word = w; at = at } ∷ us)) (sym e ∙ g) (us, k, refl)

abbrev LexedTo : ℕ → List ℕ → Front → ℕ → Type 0
LexedTo at text finish b = ⊥
LexedTo at text broken b = b ≡ at
LexedTo at text (skips n) b = LexesTo (at + n) (drop n text) b
LexedTo at text (takes w n) b = LexesTo (at + n) (drop n text) b

lexed_to : {at : ℕ} {text : List ℕ} {b : ℕ} → LexesTo at text b → (f : Front) → front text ≡ f → LexedTo at text f b
lexed_to {at = at} {text = text} (here e) f g = subst (λ (f : Front). LexedTo at text f at) (sym e ∙ g) refl
lexed_to {at = at} {text = text} {b = b} (past_gap n e k) f g = subst (λ (f : Front). LexedTo at text f b) (sym e ∙ g) k
lexed_to {at = at} {text = text} {b = b} (past_token w n e k) f g = subst (λ (f : Front). LexedTo at text f b) (sym e ∙ g) k

pub one_lexing : {at : ℕ} {text : List ℕ} {ts us : List Token} → Lexes at text ts → Lexes at text us → ts ≡ us
one_lexing (at_end e) l = sym (lexed l finish e)
one_lexing (past n e k) l = one_lexing k (lexed l (skips n) e)
one_lexing {at = at} (token w n e k) l = let r = lexed l (takes w n) e in ap (λ (ts : List Token). record { word = w; at = at } ∷ ts) (one_lexing k r.1) ∙ sym r.2

one_bad : {at : ℕ} {text : List ℕ} {a b : ℕ} → LexesTo at text a → LexesTo at text b → a ≡ b
one_bad (here e) l = sym (lexed_to l broken e)
one_bad (past_gap n e k) l = one_bad k (lexed_to l (skips n) e)
one_bad (past_token w n e k) l = one_bad k (lexed_to l (takes w n) e)

not_both : {at : ℕ} {text : List ℕ} {ts : List Token} {b : ℕ} → Lexes at text ts → LexesTo at text b → ⊥
not_both (at_end e) l = lexed_to l finish e
not_both (past n e k) l = not_both k (lexed_to l (skips n) e)
not_both (token w n e k) l = not_both k (lexed_to l (takes w n) e)

-- Modules.

abbrev module_in : VModule → List Value → VModule
module_in d (whole m ∷ []) = m
module_in d _ = d

same_module : (m n : VModule) → (whole m ∷ []) ≡ (whole n ∷ []) → m ≡ n
same_module m n e = ap (module_in m) e

pub one_module : (at : ℕ) (text : List ℕ) (m n : VModule) → IsModule at text m → IsModule at text n → m ≡ n
one_module at text m n a b =
    let e : b.tokens ≡ a.tokens = one_lexing b.lexes a.lexes in
    same_module m n (one_state verilog tables MODULE is_predictive a.sentence (subst (λ (ts : List Token). Derives verilog (Nonterminal MODULE ∷ []) [] ts [] (whole n ∷ []) []) e b.sentence))

pub one_net : (at : ℕ) (text : List ℕ) (net other : Net) → Denotes at text net → Denotes at text other → net ≡ other
one_net at text net other a b = sym a.same_net ∙ ap net_of (one_module at text a.shown b.shown a.is b.is) ∙ b.same_net

-- Violated rules.

-- two ends of a list that are equally long
same_drop : {A : Type 0} (xs : List A) (i j : ℕ) → length (drop i xs) ≡ length (drop j xs) → drop i xs ≡ drop j xs
same_drop xs i j e =
    let a = length-drop i xs in let b = length-drop j xs in
    elim (cases_lt i (length xs)) [
      | inl h ↦ let same : i ≡ j = omega arith in ap (λ (k : ℕ). drop k xs) same
      | inr h ↦ let far : length xs ≤ j = omega arith in drop_all i xs h ∙ sym (drop_all j xs far)
    ]

wrong_once : (end : ℕ) (ts : List Token) (a b : ℕ) → IsWrong end ts a → IsWrong end ts b → a ≡ b
wrong_once end ts a b p q = p.place ∙ ap (offset_of end) (same_drop ts p.prefix q.prefix (one_wrong verilog MODULE p.wrong q.wrong)) ∙ sym q.place

some_fault : (f g : Fault) → Some f ≡ Some g → f ≡ g
some_fault f g e = cc

no_fault : (f : Fault) → None ≡ Some f → ⊥
no_fault f e = cc

wrong_is_no_module : (at : ℕ) (text : List ℕ) (m : VModule) (ts : List Token) (end k : ℕ) → IsModule at text m → Lexes at text ts → IsWrong end ts k → ⊥
wrong_is_no_module at text m ts end k a l w =
    let e : a.tokens ≡ ts = one_lexing a.lexes l in
    w.wrong.unfinished (whole m ∷ []) (subst (λ (us : List Token). Derives verilog (Nonterminal MODULE ∷ []) [] us [] (whole m ∷ []) []) e a.sentence)

pub one_rule : (from : ℕ) (text : List ℕ) (f g : Fault) → Breaks from text f → Breaks from text g → f ≡ g
one_rule from text _ _ (no_token a) (no_token b) = ap (fault 1) (one_bad a b)
one_rule from text _ _ (no_token a) (wrong_token ts l w) = absurd (not_both l a)
one_rule from text _ g (no_token a) (broken_rule m i e) = absurd (not_both i.lexes a)
one_rule from text _ _ (wrong_token ts l w) (no_token b) = absurd (not_both l b)
one_rule from text _ _ (wrong_token {at = a} ts l w) (wrong_token {at = b} us k v) =
    let e : us ≡ ts = one_lexing k l in ap (fault 2) (wrong_once (from + length text) ts a b w (subst (λ (xs : List Token). IsWrong (from + length text) xs b) e v))
one_rule from text _ g (wrong_token {at = a} ts l w) (broken_rule m i e) = absurd (wrong_is_no_module from text m ts (from + length text) a i l w)
one_rule from text f _ (broken_rule m i e) (no_token b) = absurd (not_both i.lexes b)
one_rule from text f _ (broken_rule m i e) (wrong_token {at = b} ts l w) = absurd (wrong_is_no_module from text m ts (from + length text) b i l w)
one_rule from text f g (broken_rule m i e) (broken_rule n j k) =
    some_fault f g (sym e ∙ ap rules.broken (one_module from text m n i j) ∙ k)

pub no_rule : (from : ℕ) (text : List ℕ) (net : Net) (f : Fault) → Denotes from text net → Breaks from text f → ⊥
no_rule from text net _ d (no_token a) = not_both d.is.lexes a
no_rule from text net _ d (wrong_token {at = a} ts l w) = wrong_is_no_module from text d.shown ts (from + length text) a d.is l w
no_rule from text net f d (broken_rule m i e) = no_fault f (sym d.sound ∙ ap rules.broken (one_module from text d.shown m d.is i) ∙ e)
