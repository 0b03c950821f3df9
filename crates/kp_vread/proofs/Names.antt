-- A name with a prefix.
use Rattle.std.proofs.Common.{◌≡◌, ◌∙◌, ℕ, List, ◌++◌, length, take, drop, true, false, ap, sym}
use Rattle.std.proofs.{Math.Seq.take-append_seam, Math.Seq.drop-append_seam, lemmas.Bool.false_from_ne_true, lemmas.Bool.false≢true}
use Rattle.std.{proofs.lemmas.Bool.Decides.same_from_decides, proofs.lemmas.List.take-append-drop, specs.Cmp.Lexicographic.bytes_decides}
use Rattle.kp_net.specs.Names.{same}
use Rattle.kp_vread.proofs.Tests.{as_well}

-- what follows the prefix is compared ..
joined : (label front name behind : List ℕ) → take (length front) label ≡ front → behind ≡ drop (length front) label → behind ≡ name → label ≡ front ++ name
joined label front name behind t d e = sym (take-append-drop (length front) label) ∙ ap (λ x. x ++ drop (length front) label) t ∙ ap (λ x. front ++ x) (sym d ∙ e)

parted : (label front name behind : List ℕ) → behind ≡ drop (length front) label → label ≡ front ++ name → behind ≡ name
parted label front name behind d e = d ∙ ap (drop (length front)) e ∙ drop-append_seam front name

pub front_there : (label front name behind : List ℕ) → same (take (length front) label) front ≡ true → behind ≡ drop (length front) label
    → same behind name ≡ same label (front ++ name)
front_there label front name behind t d =
    same_from_decides (same behind name) (same label (front ++ name))
    (as_well (same behind name) (joined label front name behind ((bytes_decides (take (length front) label) front).0 t) d) (parted label front name behind d) (bytes_decides behind name))
    (bytes_decides label (front ++ name))

-- .. and without the prefix no name matches
pub front_missing : (label front name : List ℕ) → same (take (length front) label) front ≡ false → false ≡ same label (front ++ name)
front_missing label front name t = sym (false_from_ne_true (same label (front ++ name)) (λ e. absurd (false≢true (sym t ∙ there e))))
  where
    there : same label (front ++ name) ≡ true → same (take (length front) label) front ≡ true
    there e = (bytes_decides (take (length front) label) front).1 (ap (take (length front)) ((bytes_decides label (front ++ name)).0 e) ∙ take-append_seam front name)
