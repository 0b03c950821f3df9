-- What the parser requires of the lexer's tokens.
use Rattle.std.specs.Prelude.{◌+◌, ◌≤◌, ◌≡◌, ℕ, List, length}
use Rattle.kp_vlog.specs.declared.token.VKind.TheVariants as kinds
use Rattle.kp_vlog.specs.{declared.token.VToken.VToken, Outcome.bytes_of}

-- a token is within the text, and a name has 1 to 70 bytes
pub record IsSpelled (text : List ℕ) (t : VToken) : Type 0 where
  pub within : t.start + t.len ≤ length text
  pub name : t.kind ≡ kinds.Ident → (1 ≤ length (bytes_of text t)) × (length (bytes_of text t) ≤ 70)
