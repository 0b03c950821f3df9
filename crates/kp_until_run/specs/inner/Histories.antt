-- The words of a target after each of its updates, as far back as they are remembered.
use Rattle.std.specs.Prelude.{◌≡◌, ℕ, suc, ◌+◌, ◌%◌, ◌<◌, ◌≤◌, ◌==◌, if◌then◌else◌, length, get_or}
use Rattle.kp_bits.specs.{Word.Word, Operators.no_word}
use Rattle.kp_until_run.specs.declared.history.History.{History}

-- the address of the word that update c changed, and its value before
abbrev pub address_at : History → ℕ → ℕ
address_at h c = get_or h.addresses (c % 16) 0

abbrev pub old_at : History → ℕ → Word
old_at h c = get_or h.olds (c % 16) no_word

abbrev pub AreWithin : History → Type 0
AreWithin h = (c : ℕ) → address_at h c < length h.words.items

-- update c gives the word at an address this value, and changes no other word; `f c` are the words after c updates
abbrev pub IsUpdate : (ℕ → ℕ → Word) → (size c address : ℕ) → Word → Type 0
IsUpdate f size c address value = (a : ℕ) → a < size → f (suc c) a ≡ (if a == address then value else f c a)

-- A history of as many words has those after all updates, and of the last 16 updates what they changed.
pub record Remembers (f : ℕ → ℕ → Word) (size : ℕ) (h : History) : Type 0 where
  pub many : length h.addresses ≡ 16
  pub olds : length h.olds ≡ 16
  pub size_is : length h.words.items ≡ size
  pub within : AreWithin h
  pub now : (a : ℕ) (d : Word) → a < size → get_or h.words.items a d ≡ f h.count a
  pub before : (c a : ℕ) → c < h.count → h.count ≤ c + 16 → a < size → f c a ≡ (if a == address_at h c then old_at h c else f (suc c) a)
