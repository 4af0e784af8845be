-- What writing text by text does.
use Prim.Native.Nat.{ℕ, ◌+◌, ◌≤◌}
use mathlib.Core.Path.{◌≡◌, refl, sym, ap, ◌∙◌}
use mathlib.Core.List.{List, [], ◌++◌, append_assoc}
use lib.ListN.{length, take, drop}
use lib.Seq.{length-sets, sets-eq}
use Rattle.std.proofs.lemmas.List.{drop-drop}
use Rattle.base.proofs.WordLaws.{sets_more}
use Rattle.text.specs.Written.{written}

-- a text that fits stands between what was before it and what was past it
pub written_is : (place : ℕ) (text l : List ℕ) → place + length text ≤ length l →
    written place text l ≡ take place l ++ text ++ drop (place + length text) l
unfolding written
written_is place text l fits = sets-eq text l place fits

pub length-written : (place : ℕ) (text l : List ℕ) → length (written place text l) ≡ length l
unfolding written
length-written place text l = length-sets l place text

pub written_none : (place : ℕ) (l : List ℕ) → written place [] l ≡ l
unfolding written
written_none place l = refl

-- a text after another is one text
pub written-more : (place : ℕ) (t u l : List ℕ) → written (place + length t) u (written place t l) ≡ written place (t ++ u) l
unfolding written
written-more place t u l = sets_more place t u l

-- a text copied over as many bytes as it has
pub copied : (place count : ℕ) (text l : List ℕ) → place + length text ≤ length l → count ≡ length text →
    take place l ++ (text ++ drop count (drop place l)) ≡ written place text l
copied place count text l fit size =
    ap (λ (n : ℕ). take place l ++ (text ++ drop n (drop place l))) size
    ∙ ap (λ (t : List ℕ). take place l ++ (text ++ t)) (drop-drop (length text) place l)
    ∙ sym (append_assoc (take place l) text (drop (place + length text) l))
    ∙ sym (written_is place text l fit)
