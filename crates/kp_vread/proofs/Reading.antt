-- What the parts of the reader determine about the text.
use Rattle.std.proofs.Common.{◌≡◌, ℕ, ◌+◌, ◌≤◌, List, length, drop, map, None, Result, Ok, Err, MatchResult, sym, subst, arith}
use Rattle.std.proofs.lemmas.List.{length-drop}
use Rattle.kp_base.specs.declared.refusal.Refused.{Refused}
use Rattle.kp_base.specs.declared.refusal.Refused.TheVariants as refused
use Rattle.kp_net.specs.Netlist.{Net}
use Rattle.kp_vlog.specs.{declared.token.VToken.VToken, declared.tree.VModule.VModule, Outcome.token_of, Outcome.HasTokens, Outcome.AnswersTokens, Rules.broken}
use Rattle.kp_vlog.specs.Denote.{net_of, IsModule, Denotes}
use Rattle.kp_vlog.specs.Verdict.{fault, IsWrong, no_token, wrong_token, broken_rule, AnswersNet}
use Rattle.kp_vlog.proofs.Built.{module_few}
use Rattle.kp_vread_parse.specs.Answer.{AnswersModule}
use Rattle.kp_vread_rules.specs.Broken.{IsBroken}
use Rattle.kp_vread.specs.inner.Whole.{AnswersWhole}

module _ (text : List ℕ) (from : ℕ) where
  pub no_tokens : (e : Refused) → AnswersTokens text from (Err e) → AnswersWhole text from (Err e)
  no_tokens (refused.Rule r) (to, l, h, e) = (fault 1 to, no_token l, e)
  no_tokens refused.NoMemory h = tt

  ends_there : from ≤ length text → length text ≡ from + length (drop from text)
  ends_there h = let d = length-drop from text in omega arith

  pub module_of : (tokens : List VToken) (m : VModule) → HasTokens text from tokens → AnswersModule text tokens (Ok m) → AnswersWhole text from (Ok m)
  module_of tokens m h a = record { tokens = map (token_of text) tokens; lexes = h.lexes; sentence = a }

  pub no_module : (tokens : List VToken) (e : Refused) → from ≤ length text → HasTokens text from tokens → AnswersModule text tokens (Err e) → AnswersWhole text from (Err e)
  no_module tokens (refused.Rule r) k h (at, w, e) =
      (fault 2 at, wrong_token (map (token_of text) tokens) h.lexes (subst (λ (end : ℕ). IsWrong end (map (token_of text) tokens) at) (ends_there k) w), e)
  no_module tokens refused.NoMemory k h a = tt

  pub parsed : (tokens : List VToken) (r : Result VModule Refused) → from ≤ length text → HasTokens text from tokens
      → MatchResult r (λ m. AnswersModule text tokens (Ok m)) (λ e. AnswersModule text tokens (Err e)) → MatchResult r (λ m. AnswersWhole text from (Ok m)) (λ e. AnswersWhole text from (Err e))
  parsed tokens (Ok m) k h a = module_of tokens m h a
  parsed tokens (Err e) k h a = no_module tokens e k h a

module _ (text : List ℕ) (from : ℕ) where
  not_sound : (m : VModule) (e : Refused) → IsModule from (drop from text) m → IsBroken text m e → AnswersNet text from (Err e)
  not_sound m (refused.Rule r) i (f, h, e) = (f, broken_rule m i h, e)
  not_sound m refused.NoMemory i h = tt

  denotes : (m : VModule) (net : Net) → IsModule from (drop from text) m → broken m ≡ None → net ≡ net_of m → Denotes from (drop from text) net
  denotes m net i h e = record { shown = m; is = i; sound = h; same_net = sym e }

  pub answered : (m : VModule) (r : Result Net Refused) → IsModule from (drop from text) m → MatchResult r (λ net. (broken m ≡ None) × (net ≡ net_of m)) (IsBroken text m)
      → MatchResult r (λ net. AnswersNet text from (Ok net)) (λ e. AnswersNet text from (Err e))
  answered m (Ok net) i h = denotes m net i h.0 h.1
  answered m (Err e) i h = not_sound m e i h

-- a text of 16 MiB contains no more than fits a netlist
pub few : (text : List ℕ) (from : ℕ) (m : VModule) → length text ≤ 16777216 → IsModule from (drop from text) m → (length m.samples ≤ 16777216) × (length m.items ≤ 16777216)
few text from m h i = let c = module_few from (drop from text) m i in let d = length-drop from text in (omega (arith, c, d), omega (arith, c, d))
