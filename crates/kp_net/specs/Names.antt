-- How the parts of a netlist are named, so that its text in Verilog denotes it.
use Rattle.std.specs.Prelude.{ℕ, ◌==◌, ◌≤◌, ◌≡◌, nat_eq, List, [], ◌∷◌, length, map, All, Bool, true, false, ◌||◌, ◌&&◌}
use Rattle.std.specs.Cmp.Lexicographic.{pointwise}
use Rattle.kp_base.specs.Characters.{is_word}
use Rattle.kp_net.specs.{Netlist.Net, Widths.wide}

-- the bytes of an identifier after the first: letters, digits, `_` and `$`
abbrev pub is_in_identifier : ℕ → Bool
is_in_identifier byte = is_word byte || byte == 36

-- names are equal if their bytes are
abbrev pub same : List ℕ → List ℕ → Bool
same = pointwise nat_eq

abbrev pub among : List (List ℕ) → List ℕ → Bool
among [] n = false
among (k ∷ ks) n = same n k || among ks n

-- `m_`, followed by anything
abbrev pub is_module_name : List ℕ → Bool
is_module_name (a ∷ b ∷ rest) = a == 109 && b == 95
is_module_name _ = false

-- `r_` or `q_`, followed by at least one byte
abbrev pub is_reg_name : List ℕ → Bool
is_reg_name (a ∷ b ∷ c ∷ rest) = (a == 114 || a == 113) && b == 95
is_reg_name _ = false

-- `f_`, followed by at least one byte
abbrev pub is_file_name : List ℕ → Bool
is_file_name (a ∷ b ∷ c ∷ rest) = a == 102 && b == 95
is_file_name _ = false

-- `s_`, followed by at least one byte
abbrev pub is_sample_name : List ℕ → Bool
is_sample_name (a ∷ b ∷ c ∷ rest) = a == 115 && b == 95
is_sample_name _ = false

-- a name that passes the test, whose bytes may occur in an identifier, and which is not too long for one
pub record IsSpelled (test : List ℕ → Bool) (n : List ℕ) : Type 0 where
  pub kind : test n ≡ true
  pub bytes : All (λ b. is_in_identifier b ≡ true) n
  pub short : length n ≤ 70

-- no name occurs twice
abbrev pub Differ : List (List ℕ) → Type 0
Differ [] = Unit {0}
Differ (n ∷ ns) = (among ns n ≡ false) × Differ ns

-- the names and the widths of a netlist that a text can denote
pub record IsNamed (net : Net) : Type 0 where
  pub name : IsSpelled is_module_name net.parts.name
  pub samples : All (IsSpelled is_sample_name) (map (λ s. s.name) net.parts.samples)
  pub regs : All (IsSpelled is_reg_name) (map (λ r. r.name) net.parts.regs)
  pub files : All (IsSpelled is_file_name) (map (λ f. f.name) net.parts.files)
  pub samples_differ : Differ (map (λ s. s.name) net.parts.samples)
  pub regs_differ : Differ (map (λ r. r.name) net.parts.regs)
  pub files_differ : Differ (map (λ f. f.name) net.parts.files)
  pub at_least : 2 ≤ net.parts.ext
  pub at_most : net.parts.ext ≤ 12
  pub full : wide net.nodes net.parts.full.0 ≡ net.parts.ext
  pub ue : wide net.nodes net.parts.ue.0 ≡ net.parts.ext
  pub back : wide net.nodes net.parts.back.0 ≡ 4
