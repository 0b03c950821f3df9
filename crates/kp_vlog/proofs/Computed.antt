-- The module of a given text, or the first rule that it violates, by computation.
use Rattle.std.proofs.Common.{ℕ, zero, suc, ◌+◌, ◌-◌, ◌≤◌, ◌≡◌, List, [], ◌∷◌, ◌++◌, length, drop, Bool, true, false, Option, Some, None, refl, ap, sym, subst, ◌∙◌, arith, eq-eqb}
use Rattle.std.{proofs.lemmas.Bool.eqb-true, proofs.lemmas.List.length-drop, specs.Prelude.◌==◌, specs.Prelude.if◌then◌else◌}
use Rattle.kp_grammar.specs.{Grammar.Terminal, Grammar.Nonterminal, Grammar.Action, Grammar.IsWrongAt, Tables.pick}
use Rattle.kp_grammar.specs.Machine.{Accepts, Stops, Leads, look}
use Rattle.kp_grammar.proofs.Derivations.{sentence, wrong_at}
use Rattle.kp_net.specs.Netlist.{Net}
use Rattle.kp_vlog.specs.Tokens.{Word, Token, Front, finish, skips, takes, front, Lexes, at_end, past, token, LexesTo, here, past_gap, past_token}
use Rattle.kp_vlog.specs.declared.tree.VModule.{VModule}
use Rattle.kp_vlog.specs.Language.{Sym, Way, Step, Value, whole, word_class, read_token, built, rules, MODULE, verilog}
use Rattle.kp_vlog.specs.{inner.Follow.tables, Rules.Fault, Rules.broken, Denote.net_of, Denote.IsModule, Denote.Denotes}
use Rattle.kp_vlog.specs.Verdict.{fault, offset_of, Breaks, no_token, wrong_token, broken_rule}
use Rattle.kp_vlog.proofs.{Predictive.is_predictive, Tests.apart}
use Rattle.kp_vlog.specs.Tokens as tokens

-- Tokens.

-- the tokens, or the first position without one, or too few steps
pub data Lexed : Type 0 where
  has : List Token → Lexed
  stops : ℕ → Lexed
  tired : Lexed

abbrev pub with_token : Token → Lexed → Lexed
with_token t (has ts) = has (t ∷ ts)
with_token t (stops at) = stops at
with_token t tired = tired

abbrev pub behind : Front → ℕ → List ℕ → (ℕ → List ℕ → Lexed) → Lexed
behind finish at text next = has []
behind (skips n) at text next = next (at + n) (drop n text)
behind (takes w n) at text next = with_token (record { word = w; at = at }) (next (at + n) (drop n text))
behind tokens.broken at text next = stops at

-- from an offset on, in the given number of steps
abbrev pub lexed : ℕ → ℕ → List ℕ → Lexed
lexed zero at text = tired
lexed (suc k) at text = behind (front text) at text (lexed k)

abbrev Reported : ℕ → List ℕ → Lexed → Type 0
Reported at text (has ts) = Lexes at text ts
Reported at text (stops to) = LexesTo at text to
Reported at text tired = Unit {0}

takes_reported : (at : ℕ) (text : List ℕ) (w : Word) (n : ℕ) (r : Lexed) → front text ≡ takes w n → Reported (at + n) (drop n text) r → Reported at text (with_token (record { word = w; at = at }) r)
takes_reported at text w n (has ts) e h = token w n e h
takes_reported at text w n (stops to) e h = past_token w n e h
takes_reported at text w n tired e h = tt

skips_reported : (at : ℕ) (text : List ℕ) (n : ℕ) (r : Lexed) → front text ≡ skips n → Reported (at + n) (drop n text) r → Reported at text r
skips_reported at text n (has ts) e h = past n e h
skips_reported at text n (stops to) e h = past_gap n e h
skips_reported at text n tired e h = tt

behind_reported : (at : ℕ) (text : List ℕ) (next : ℕ → List ℕ → Lexed) (f : Front) → front text ≡ f → ((a : ℕ) (t : List ℕ) → Reported a t (next a t)) → Reported at text (behind f at text next)
behind_reported at text next finish e h = at_end e
behind_reported at text next (skips n) e h = skips_reported at text n (next (at + n) (drop n text)) e (h (at + n) (drop n text))
behind_reported at text next (takes w n) e h = takes_reported at text w n (next (at + n) (drop n text)) e (h (at + n) (drop n text))
behind_reported at text next tokens.broken e h = here e

reported : (k at : ℕ) (text : List ℕ) → Reported at text (lexed k at text)
reported zero at text = tt
reported (suc k) at text = behind_reported at text (lexed k) (front text) refl (reported k)

-- Sentences.

pub data Parsed : Type 0 where
  builds : List Value → Parsed
  wrong : ℕ → Parsed
  unfinished : Parsed

abbrev pub on_pick : Option (List Sym) → Parsed → (List Sym → Parsed) → Parsed
on_pick None lost next = lost
on_pick (Some b) lost next = next b

-- the machine, in the given number of steps
abbrev pub parsed : ℕ → List Sym → List Value → List Token → Parsed
parsed zero s v ts = unfinished
parsed (suc k) [] v [] = builds v
parsed (suc k) [] v (t ∷ ts) = wrong (length (t ∷ ts))
parsed (suc k) (Terminal c w ∷ s) v [] = if c == 0 then unfinished else wrong 0
parsed (suc k) (Terminal c w ∷ s) v (t ∷ ts) = if word_class t.word == c then parsed k s (read_token w t v) ts else wrong (length (t ∷ ts))
parsed (suc k) (Nonterminal n ∷ s) v ts = on_pick (pick rules tables n (look verilog ts)) (wrong (length ts)) (λ b. parsed k (b ++ s) v ts)
parsed (suc k) (Action a ∷ s) v ts = parsed k s (built a v) ts

abbrev never : List Value → Bool
never v = false

abbrev Goes : List Sym → List Value → List Token → Parsed → Type 0
Goes s v ts (builds w) = Leads verilog never tables s v ts (Accepts w)
Goes s v ts (wrong k) = Leads verilog never tables s v ts (Stops k) × (k ≤ length ts)
Goes s v ts unfinished = Unit {0}

at_nothing : (c : ℕ) (w : Way) (s : List Sym) (v : List Value) (b : Bool) → (c == 0) ≡ b → Goes (Terminal c w ∷ s) v [] (if b then unfinished else wrong 0)
at_nothing c w s v true e = tt
at_nothing c w s v false e = (Leads.wrong (λ h. apart (c == 0) (eq-eqb c 0 (sym h)) e), omega arith)

after_token : (c : ℕ) (w : Way) (s : List Sym) (v : List Value) (t : Token) (ts : List Token) (b : Bool) (p : Parsed) → (word_class t.word == c) ≡ b → Goes s (read_token w t v) ts p
    → Goes (Terminal c w ∷ s) v (t ∷ ts) (if b then p else wrong (length (t ∷ ts)))
after_token c w s v t ts true (builds x) e h = Leads.take (eqb-true (word_class t.word) c e) refl h
after_token c w s v t ts true (wrong k) e h = let l = h.1 in (Leads.take (eqb-true (word_class t.word) c e) refl h.0, omega arith)
after_token c w s v t ts true unfinished e h = tt
after_token c w s v t ts false p e h = (Leads.wrong (λ k. apart (word_class t.word == c) (eq-eqb (word_class t.word) c k) e), omega arith)

picked : (n : ℕ) (s : List Sym) (v : List Value) (ts : List Token) (b : List Sym) (p : Parsed) → pick rules tables n (look verilog ts) ≡ Some b → Goes (b ++ s) v ts p → Goes (Nonterminal n ∷ s) v ts p
picked n s v ts b (builds x) e h = Leads.goes b e h
picked n s v ts b (wrong k) e h = (Leads.goes b e h.0, h.1)
picked n s v ts b unfinished e h = tt

after_pick : (n : ℕ) (s : List Sym) (v : List Value) (ts : List Token) (o : Option (List Sym)) (next : List Sym → Parsed) → pick rules tables n (look verilog ts) ≡ o
    → ((b : List Sym) → Goes (b ++ s) v ts (next b)) → Goes (Nonterminal n ∷ s) v ts (on_pick o (wrong (length ts)) next)
after_pick n s v ts None next e h = (Leads.lost e, omega arith)
after_pick n s v ts (Some b) next e h = picked n s v ts b (next b) e (h b)

after_step : (a : Step) (s : List Sym) (v : List Value) (ts : List Token) (p : Parsed) → Goes s (built a v) ts p → Goes (Action a ∷ s) v ts p
after_step a s v ts (builds x) h = Leads.make h
after_step a s v ts (wrong k) h = (Leads.make h.0, h.1)
after_step a s v ts unfinished h = tt

goes : (k : ℕ) (s : List Sym) (v : List Value) (ts : List Token) → Goes s v ts (parsed k s v ts)
goes zero s v ts = tt
goes (suc k) [] v [] = Leads.accept
goes (suc k) [] v (t ∷ ts) = (Leads.more, omega arith)
goes (suc k) (Terminal c w ∷ s) v [] = at_nothing c w s v (c == 0) refl
goes (suc k) (Terminal c w ∷ s) v (t ∷ ts) = after_token c w s v t ts (word_class t.word == c) (parsed k s (read_token w t v) ts) refl (goes k s (read_token w t v) ts)
goes (suc k) (Nonterminal n ∷ s) v ts = after_pick n s v ts (pick rules tables n (look verilog ts)) (λ b. parsed k (b ++ s) v ts) refl (λ b. goes k (b ++ s) v ts)
goes (suc k) (Action a ∷ s) v ts = after_step a s v ts (parsed k s (built a v) ts) (goes k s (built a v) ts)

-- The verdict.

pub data Verdict : Type 0 where
  right : Net → Verdict
  breaks : Fault → Verdict
  open_end : Verdict

abbrev pub of_module : VModule → Option Fault → Verdict
of_module m None = right (net_of m)
of_module m (Some f) = breaks f

abbrev pub of_values : List Value → Verdict
of_values (whole m ∷ []) = of_module m (broken m)
of_values _ = open_end

abbrev pub of_parsed : List ℕ → List Token → Parsed → Verdict
of_parsed text ts (builds v) = of_values v
of_parsed text ts (wrong k) = breaks (fault 2 (offset_of (length text) (drop (length ts - k) ts)))
of_parsed text ts unfinished = open_end

abbrev pub of_lexed : ℕ → List ℕ → Lexed → Verdict
of_lexed k text (has ts) = of_parsed text ts (parsed k (Nonterminal MODULE ∷ []) [] ts)
of_lexed k text (stops at) = breaks (fault 1 at)
of_lexed k text tired = open_end

-- in the given number of steps of each kind
abbrev pub verdict : ℕ → List ℕ → Verdict
verdict k text = of_lexed k text (lexed k 0 text)

abbrev pub Holds : List ℕ → Verdict → Type 0
Holds text (right net) = Denotes 0 text net
Holds text (breaks f) = Breaks 0 text f
Holds text open_end = Unit {0}

module_holds : (text : List ℕ) (m : VModule) (b : Option Fault) → broken m ≡ b → IsModule 0 text m → Holds text (of_module m b)
module_holds text m None e i = record { shown = m; is = i; sound = e; same_net = refl }
module_holds text m (Some f) e i = broken_rule m i e

values_hold : (text : List ℕ) (ts : List Token) (v : List Value) → Lexes 0 text ts → Leads verilog never tables (Nonterminal MODULE ∷ []) [] ts (Accepts v) → Holds text (of_values v)
values_hold text ts (whole m ∷ []) l d = module_holds text m (broken m) refl (record { tokens = ts; lexes = l; sentence = sentence verilog tables MODULE is_predictive d })
values_hold text ts _ l d = tt

parsed_holds : (text : List ℕ) (ts : List Token) (p : Parsed) → Lexes 0 text ts → Goes (Nonterminal MODULE ∷ []) [] ts p → Holds text (of_parsed text ts p)
parsed_holds text ts (builds v) l d = values_hold text ts v l d
parsed_holds text ts (wrong k) l d =
    let few = d.1 in let e : length (drop (length ts - k) ts) ≡ k = length-drop (length ts - k) ts ∙ omega arith in
    wrong_token ts l (record {
      prefix = length ts - k;
      wrong = subst (IsWrongAt verilog MODULE [] ts) (sym e) (wrong_at verilog tables MODULE is_predictive d.0);
      place = ap (λ (end : ℕ). offset_of end (drop (length ts - k) ts)) (omega arith);
    })
parsed_holds text ts unfinished l d = tt

lexed_holds : (k : ℕ) (text : List ℕ) (r : Lexed) → Reported 0 text r → Holds text (of_lexed k text r)
lexed_holds k text (has ts) l = parsed_holds text ts (parsed k (Nonterminal MODULE ∷ []) [] ts) l (goes k (Nonterminal MODULE ∷ []) [] ts)
lexed_holds k text (stops at) l = no_token l
lexed_holds k text tired l = tt

-- What is computed is true.
pub report_by : (k : ℕ) (text : List ℕ) (v : Verdict) → verdict k text ≡ v → Holds text v
report_by k text v e = subst (Holds text) e (lexed_holds k text (lexed k 0 text) (reported k 0 text))
