-- Whether a stage is one of some.
use Rattle.std.specs.Prelude.{ℕ, List, [], ◌∷◌, Bool, false, ◌||◌, eqb}
use Rattle.base.specs.Stage.{number_of}
use Rattle.base.specs.declared.stages.Stage.{Stage}

abbrev pub is_in : ℕ → List Stage → Bool
is_in n [] = false
is_in n (stage ∷ []) = eqb n (number_of stage)
is_in n (stage ∷ next ∷ rest) = eqb n (number_of stage) || is_in n (next ∷ rest)
