-- The words of an answer, stored over a part of the answers.
use Prim.Native.Nat.{ℕ, suc, ◌+◌, ◌≤◌}
use mathlib.Core.Path.{◌≡◌, refl, sym, ap, ◌∙◌}
use mathlib.Core.List.{List, [], ◌∷◌, ◌++◌}
use native.Mathlib.Omega.{arith}
use lib.ListN.{length, take, drop, set, take-append-drop}
use borrow.Rule.Slice.PartMut.{put_mid}
use Rattle.std.proofs.lemmas.Slice.{take-put_mid, drop-put_mid}
use Rattle.std.proofs.lemmas.List.Edits.{sets-eq}

-- three words stored over a part are stored one by one
pub three-stored : (p k a b c : ℕ) (l m : List ℕ) → m ≡ a ∷ b ∷ c ∷ [] → k ≡ 3 → p + 3 ≤ length l → put_mid p k l m ≡ set (set (set l p a) (p + 1) b) (p + 2) c
three-stored p k a b c l m words size fit =
    let text : List ℕ = a ∷ b ∷ c ∷ [] in
    ap (put_mid p k l) words
    ∙ sym (take-append-drop (p + 3) (put_mid p k l text))
    ∙ ap (λ (t : List ℕ). t ++ drop (p + 3) (put_mid p k l text)) (take-put_mid p k l text (p + 3) refl (omega arith))
    ∙ ap (λ (t : List ℕ). (take p l ++ text) ++ t) (drop-put_mid p k l text (p + 3) (omega arith) (omega arith) (sym size))
    ∙ sym (sets-eq text l p (omega arith))
    ∙ ap (λ (n : ℕ). set (set (set l p a) n b) (suc (suc p)) c) (omega arith)
    ∙ ap (λ (n : ℕ). set (set (set l p a) (p + 1) b) n c) (omega arith)
