-- Kinds that have numbers one after another, and which kind a number names.
use Rattle.std.specs.Prelude.{◌≡◌, ℕ, Result, MatchResult, true, not, ◌&&◌, leb}

-- the outcome is the kind of a number, or says that the number isn't one from the first to the last
abbrev pub Decodes : {K E : Type 0} → (K → ℕ) → (first last number : ℕ) → Result K E → Type 0
Decodes number_of first last number outcome =
    MatchResult outcome (λ kind. number_of kind ≡ number) (λ _. not (leb first number && leb number last) ≡ true)
