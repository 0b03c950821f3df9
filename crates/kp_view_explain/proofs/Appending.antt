-- Texts that grow.
use Rattle.std.proofs.Common.{◌≡◌, ℕ, List, [], ◌∷◌, ◌++◌, Option, Some, None, IfSome, ap, append_assoc, ◌∙◌}
use Rattle.kp_base.specs.declared.place.Place.{Place}
use Rattle.kp_view_excerpt.specs.Excerpts.{excerpt_text}
use Rattle.kp_view_explain.specs.Messages.{AppendsExcerpt, AppendsMessage, Grows}

pub grown : (a b c : List ℕ) → Grows a b → Grows b c → Grows a c
grown a b c g h = (g.0 ++ h.0, h.1 ∙ ap (λ (l : List ℕ). l ++ h.0) g.1 ∙ simp append_assoc)

-- a line, whose text may be known, and an excerpt after it
pub lined : (text old line begun new : List ℕ) (p : Place) (message : Option (List ℕ)) → IfSome message (λ said. line ≡ said)
    → begun ≡ (old ++ line) ++ 10 ∷ [] → AppendsExcerpt text p begun new → AppendsMessage old new message
lined text old line begun new p None said same shown = tt
lined text old line begun new p (Some m) said same shown =
    let (e, is, grows) = shown in
    let (more, all) = grows in (
      excerpt_text e ++ more,
      all ∙ ap (λ (l : List ℕ). (l ++ excerpt_text e) ++ more) (same ∙ ap (λ (l : List ℕ). (old ++ l) ++ 10 ∷ []) said) ∙ simp append_assoc,
    )
