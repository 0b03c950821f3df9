-- If no token is left, none violates a rule.
use Rattle.std.proofs.Common.{◌≡◌, ℕ, ◌<◌, List, [], ◌∷◌, length, None, refl, arith}
use Rattle.kp_asm.specs.{Mnemonics.first_breaking, declared.token.Token.Token, declared.mnemonic.Mnemonic.Mnemonic, declared.mnemonic.Piece.Piece, declared.operands.Rule.Rule}

pub none_left : (text : List ℕ) (m : Mnemonic) (rule : Rule) (form : List Piece) (tokens : List Token) → length tokens < 1 → first_breaking text m rule form tokens ≡ None
none_left text m rule [] tokens h = refl
none_left text m rule (piece ∷ more) [] h = refl
none_left text m rule (piece ∷ more) (token ∷ tokens) h = absurd (omega arith)
