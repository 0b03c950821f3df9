-- The text that is written has the tokens that it was written from.
use Rattle.std.proofs.Common.{◌≡◌, ℕ, zero, suc, ◌+◌, List, [], ◌∷◌, ◌++◌, drop, Option, Some, None, refl, subst, length}
use Rattle.kp_vlog.specs.Tokens.{Word, Token, Front, skips, takes, front, Lexes, at_end, past, token}
use Rattle.kp_vlog.specs.Canon.{text_of}

-- tokens at offsets from a supply
abbrev pub placed : (ℕ → ℕ) → List Word → List Token
placed p [] = []
placed p (w ∷ ws) = record { word = w; at = p 0 } ∷ placed (λ k. p (suc k)) ws

-- the text has these tokens, somewhere
pub record Spells (text : List ℕ) (ws : List Word) : Type 0 where
  pub lexes : (at : ℕ) → (p : ℕ → ℕ) × Lexes at text (placed p ws)

-- the text of pieces has these tokens
abbrev pub Says : List (List ℕ) → List Word → Type 0
Says ps ws = Spells (text_of ps) ws

-- one offset before the others
abbrev pub after : ℕ → (ℕ → ℕ) → ℕ → ℕ
after at p zero = at
after at p (suc k) = p k

pub spells_nothing : Spells [] []
spells_nothing = record { lexes = λ at. (λ k. 0, at_end refl) }

pub spells_skip : (n : ℕ) {text : List ℕ} {ws : List Word} → front text ≡ skips n → Spells (drop n text) ws → Spells text ws
spells_skip n e s = record { lexes = λ at. (let r = s.lexes (at + n) in (r.0, past n e r.1)) }

pub spells_takes : (w : Word) (n : ℕ) {text : List ℕ} {ws : List Word} → front text ≡ takes w n → Spells (drop n text) ws → Spells text (w ∷ ws)
spells_takes w n e s = record { lexes = λ at. (let r = s.lexes (at + n) in (after at r.0, token w n e r.1)) }

-- What a number of steps takes from the front of a text, by computation: the tokens and what is left.
pub record Rest : Type 0 where
  pub words : List Word
  pub text : List ℕ

abbrev add : Word → Option Rest → Option Rest
add w None = None
add w (Some r) = Some (record { words = w ∷ r.words; text = r.text })

abbrev bite : Front → (ℕ → Option Rest) → Option Rest
bite (skips n) go = go n
bite (takes w n) go = add w (go n)
bite x go = None

abbrev pub eat : ℕ → List ℕ → Option Rest
eat zero text = Some (record { words = []; text = text })
eat (suc k) text = bite (front text) (λ n. eat k (drop n text))

-- what was taken, followed by what the rest has
abbrev pub Eaten : List ℕ → List Word → Option Rest → Type 0
Eaten text ws None = Unit {0}
Eaten text ws (Some r) = Spells r.text ws → Spells text (r.words ++ ws)

skipped : (text : List ℕ) (ws : List Word) (n : ℕ) (o : Option Rest) → front text ≡ skips n → Eaten (drop n text) ws o → Eaten text ws o
skipped text ws n None e h = tt
skipped text ws n (Some r) e h = λ s. spells_skip n e (h s)

taken : (text : List ℕ) (ws : List Word) (w : Word) (n : ℕ) (o : Option Rest) → front text ≡ takes w n → Eaten (drop n text) ws o → Eaten text ws (add w o)
taken text ws w n None e h = tt
taken text ws w n (Some r) e h = λ s. spells_takes w n e (h s)

bitten : (text : List ℕ) (ws : List Word) (f : Front) (go : ℕ → Option Rest) → front text ≡ f → ((n : ℕ) → Eaten (drop n text) ws (go n)) → Eaten text ws (bite f go)
bitten text ws (skips n) go e h = skipped text ws n (go n) e (h n)
bitten text ws (takes w n) go e h = taken text ws w n (go n) e (h n)
bitten text ws x go e h = tt

pub eaten : (k : ℕ) (text : List ℕ) (ws : List Word) → Eaten text ws (eat k text)
eaten zero text ws = λ s. s
eaten (suc k) text ws = bitten text ws (front text) (λ n. eat k (drop n text)) refl (λ n. eaten k (drop n text) ws)

-- the tokens that the steps take, and the rest
abbrev pub taken_by : Option Rest → List Word
taken_by None = []
taken_by (Some r) = r.words

abbrev pub left_by : List ℕ → Option Rest → List ℕ
left_by text None = text
left_by text (Some r) = r.text

left_is : (text : List ℕ) (ws : List Word) (o : Option Rest) → Eaten text ws o → Spells (left_by text o) ws → Spells text (taken_by o ++ ws)
left_is text ws None h s = s
left_is text ws (Some r) h s = h s

-- A constant piece, by computation: the given number of steps takes its tokens.
pub ate : (k : ℕ) {text : List ℕ} {ws : List Word} → taken_by (eat k text) ++ drop (length (taken_by (eat k text))) ws ≡ ws → Spells (left_by text (eat k text)) (drop (length (taken_by (eat k text))) ws) → Spells text ws
ate k {text} {ws} e s = subst (Spells text) e (left_is text (drop (length (taken_by (eat k text))) ws) (eat k text) (eaten k text _) s)
