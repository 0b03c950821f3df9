-- The round trip.
use Rattle.std.proofs.Common.{◌≡◌, ◌∙◌, ℕ, [], ◌∷◌, Option, None, ap, subst}
use Rattle.kp_net.specs.{Names.IsNamed, Netlist.Net, Parts.NetOk}
use Rattle.kp_vlog.specs.{declared.tree.VModule.VModule, Canon.canon, Rules.breaks, Rules.broken, Denote.Denotes, Language.MODULE, Language.verilog}
use Rattle.kp_vlog.proofs.{Lex.placed, Words.net_words, Written.canon_says, Written.all_right, Sentence.sentence, Sentence.Shown, Sentence.module_of}
use Rattle.kp_vlog.proofs.{NamesHold.names_hold, NamesHold.drivers_hold, WidthsHold.widths_hold, Denoted.same_net}
use Rattle.kp_grammar.specs.Grammar.{Derives, Nonterminal}
use Rattle.kp_vlog.specs.Language as lang

none_broken : (a b c : Option ℕ) → a ≡ None → b ≡ None → c ≡ None → breaks 3 a (breaks 4 b (breaks 5 c None)) ≡ None
none_broken a b c e f g = ap (λ x. breaks 3 x (breaks 4 b (breaks 5 c None))) e ∙ ap (λ x. breaks 4 x (breaks 5 c None)) f ∙ ap (λ x. breaks 5 x None) g

sound : (net : Net) (s : Shown net) → NetOk net → IsNamed net → broken (module_of s) ≡ None
unfolding broken
sound net s k named = none_broken _ _ _ (names_hold net s k named) (widths_hold net s k named) (drivers_hold net s k named)

-- The canonical text of a netlist with such names denotes the netlist, at whatever offset the text begins.
pub round_from : (at : ℕ) (net : Net) → NetOk net → IsNamed net → Denotes at (canon net) net
round_from at net k named =
    let says = (canon_says net k named).lexes at in
    let read = sentence net says.0 (all_right net k) in
    let s = read.holds.2.0 in
    let built = read.holds.1 ∙ ap (λ (m : VModule). lang.whole m ∷ []) read.holds.2.1 in
    record {
      shown = module_of s;
      is = record { tokens = placed says.0 (net_words net); lexes = says.1; sentence = subst (λ v. Derives verilog (Nonterminal MODULE ∷ []) [] (placed says.0 (net_words net)) [] v []) built read.derives };
      sound = sound net s k named;
      same_net = same_net net s k named;
    }

pub round : (net : Net) → NetOk net → IsNamed net → Denotes 0 (canon net) net
round = round_from 0
