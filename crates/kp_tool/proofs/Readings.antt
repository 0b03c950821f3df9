-- A Verilog text has a verdict: a netlist, or a violated rule.
use Rattle.std.proofs.Common.{ℕ, zero, suc, ◌≡◌, ◌==◌, ◌⊎◌, inl, inr, ◌+◌, ◌-◌, ◌<◌, ◌≤◌, List, [], ◌∷◌, length, drop, Bool, true, false, cond, Result, Ok, Err, Some, None, refl, sym, subst, arith}
use Rattle.std.{proofs.lemmas.List.length-drop, specs.declared.option.Option.Option}
use Rattle.kp_base.specs.declared.refusal.Refusal.{Refusal}
use Rattle.kp_grammar.specs.Machine.{Outcome, Accepts, Stops, Exceeds, Leads, accept, more, goes, take, make, wrong, lost, exceed}
use Rattle.kp_grammar.specs.{Grammar.Nonterminal, Ranks.ranks_fit}
use Rattle.kp_grammar.proofs.{TableTests.decides, Ends.ends, Derivations.sentence, Derivations.wrong_at}
use Rattle.kp_net.specs.Netlist.{Net}
use Rattle.kp_vlog.specs.declared.{front.Front.Front, tree.VModule.VModule}
use Rattle.kp_vlog.specs.Tokens.{Token, Lexes, at_end, past, token, LexesTo, here, past_gap, past_token}
use Rattle.kp_vlog.specs.Language.{Sym, Value, verilog, rules, MODULE, PORT, STALLS, ITEMS, DECLARED, INITS, UPDATES}
use Rattle.kp_vlog.specs.{inner.Follow.tables, Kinds.front_of, Rules.Fault, Rules.broken, Denote.net_of, Denote.IsModule, Denote.Denotes}
use Rattle.kp_vlog.specs.{Verdict.Breaks, Verdict.no_token, Verdict.wrong_token, Verdict.broken_rule, Verdict.refusal_of, Fronts.seen, Fronts.Fits}
use Rattle.kp_vlog.proofs.{Fronts.seen_front, Fronts.fits_front, Predictive.is_predictive}
use Rattle.kp_vlog.specs.declared.front.Front.TheVariants as fronts
use Rattle.kp_vlog.specs.Tokens as tokens
use Rattle.kp_tool.{specs.Read.ReadsVerilog, proofs.VerilogShapes.reads_module}

-- Tokens: a text has them, or it has a first position at which none starts.
abbrev IsLexed : ℕ → List ℕ → Type 0
IsLexed at text = ((ts : List Token) × Lexes at text ts) ⊎ ((to : ℕ) × LexesTo at text to)

-- one of the two exists if one of them exists for each shorter text
step : (at : ℕ) (text : List ℕ) → ((at : ℕ) (rest : List ℕ) → length rest < length text → IsLexed at rest) → IsLexed at text
step at text next = go (front_of text) (sym (seen_front text)) (fits_front text)
  where
    shorter : (n : ℕ) → 0 < n → n ≤ length text → length (drop n text) < length text
    shorter n low high = let h : length (drop n text) ≡ length text - n = length-drop n text in omega arith

    skipped : (n : ℕ) → tokens.front text ≡ tokens.skips n → IsLexed (at + n) (drop n text) → IsLexed at text
    skipped n e (inl h) = inl (h.0, past n e h.1)
    skipped n e (inr h) = inr (h.0, past_gap n e h.1)

    taken : (w : tokens.Word) (n : ℕ) → tokens.front text ≡ tokens.takes w n → IsLexed (at + n) (drop n text) → IsLexed at text
    taken w n e (inl h) = inl (_, token w n e h.1)
    taken w n e (inr h) = inr (h.0, past_token w n e h.1)

    go : (f : Front) → tokens.front text ≡ seen text f → Fits (length text) f → IsLexed at text
    go fronts.End e f = inl ([], at_end e)
    go (fronts.Broken fault) e f = inr (at, here e)
    go (fronts.Skip n) e f = skipped n e (next (at + n) (drop n text) (shorter n f.0 f.1))
    go (fronts.Token kind n) e f = taken _ n e (next (at + n) (drop n text) (shorter n f.0 f.1))

within : (k at : ℕ) (text : List ℕ) → length text < k → IsLexed at text
within zero at text h = absurd (omega arith)
within (suc k) at text h = step at text (λ front rest shorter. within k front rest (omega arith))

some_lexing : (at : ℕ) (text : List ℕ) → IsLexed at text
some_lexing at text = within (suc (length text)) at text (omega arith)

-- Sentences: before a token is read, each name leads only to names of lower rank.
abbrev rank : ℕ → ℕ
rank n = cond (n == PORT) 1 (cond (n == STALLS) 1 (cond (n == ITEMS) 1 (cond (n == DECLARED) 1 (cond (n == INITS) 1 (cond (n == UPDATES) 1 0)))))

is_ranked : ranks_fit tables rank rules ≡ true
is_ranked = refl

abbrev never : List Value → Bool
never v = false

-- how many tokens are left where reading ends
abbrev left_at : Outcome (List Value) → ℕ
left_at (Accepts w) = 0
left_at (Stops k) = k
left_at (Exceeds k) = k

few : {s : List Sym} {v : List Value} {xs : List Token} {o : Outcome (List Value)} → Leads verilog never tables s v xs o → left_at o ≤ length xs
few accept = omega arith
few more = omega arith
few (goes body p rest) = few rest
few (take same e rest) = let h = few rest in omega arith
few (make rest) = few rest
few (wrong p) = omega arith
few (lost p) = omega arith
few (exceed p e) = omega arith

-- if there is no limit, it is never exceeded
never_over : {s : List Sym} {v : List Value} {xs : List Token} {o : Outcome (List Value)} (k : ℕ) → Leads verilog never tables s v xs o → o ≡ Exceeds k → ⊥
never_over k accept is = cc is
never_over k more is = cc is
never_over k (goes body p rest) is = never_over k rest is
never_over k (take same e rest) is = never_over k rest is
never_over k (make rest) is = never_over k rest is
never_over k (wrong p) is = cc is
never_over k (lost p) is = cc is
never_over k (exceed p e) is = cc e

module _ (from : ℕ) (text : List ℕ) where
  -- a module violates a rule, or has a netlist
  of_module : (m : VModule) (b : Option Fault) → broken m ≡ b → IsModule from text m → ((net : Net) × Denotes from text net) ⊎ ((f : Fault) × Breaks from text f)
  of_module m None e i = inl (net_of m, record { shown = m; is = i; sound = e; same_net = refl })
  of_module m (Some f) e i = inr (f, broken_rule m i e)

  module _ (ts : List Token) (lexes : Lexes from text ts) where
    of_outcome : (o : Outcome (List Value)) → Leads verilog never tables (Nonterminal MODULE ∷ []) [] ts o → ((net : Net) × Denotes from text net) ⊎ ((f : Fault) × Breaks from text f)
    of_outcome (Accepts w) leads =
        let m = reads_module leads in
        of_module m.0 (broken m.0) refl (record { tokens = ts; lexes = lexes; sentence = sentence verilog tables MODULE is_predictive (subst (λ (v : List Value). Leads verilog never tables (Nonterminal MODULE ∷ []) [] ts (Accepts v)) m.1 leads) })
    of_outcome (Stops k) leads =
        let within = few leads in
        let e : length (drop (length ts - k) ts) ≡ k = (let d = length-drop (length ts - k) ts in omega arith) in
        inr (
          _,
          wrong_token ts lexes (record {
            prefix = length ts - k;
            wrong = wrong_at verilog tables MODULE is_predictive (subst (λ (n : ℕ). Leads verilog never tables (Nonterminal MODULE ∷ []) [] ts (Stops n)) (sym e) leads);
            place = refl;
          }),
        )
    of_outcome (Exceeds k) leads = absurd (never_over k leads refl)

  of_tokens : IsLexed from text → ((net : Net) × Denotes from text net) ⊎ ((f : Fault) × Breaks from text f)
  of_tokens (inl ts) =
      let o = ends verilog tables rank (decides rules tables is_predictive.fits) is_ranked never MODULE [] ts.0 in of_outcome ts.0 ts.1 o.0 o.1
  of_tokens (inr to) = inr (_, no_token to.1)

-- a text denotes a netlist, or violates a rule
pub some_reading : (input : List ℕ) (from : ℕ) → (verdict : Result Net Refusal) × ReadsVerilog input from verdict
some_reading input from = elim (of_tokens from (drop from input) (some_lexing from (drop from input))) [
  | inl found ↦ (Ok found.0, found.1)
  | inr refused ↦ (Err (refusal_of input refused.0), (refused.0, refused.1, refl))
]
