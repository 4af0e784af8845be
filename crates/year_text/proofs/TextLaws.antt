-- How long the lines are, and the lines by cases.
use Prim.Native.Nat.{ℕ, ◌*◌, ◌≤◌, ◌<◌}
use mathlib.Core.Path.{◌≡◌, refl, ap, ◌∙◌}
use mathlib.Core.List.{List, [], ◌∷◌}
use native.Mathlib.Omega.{arith}
use lib.Dec.{eqb}
use lib.ListN.{length, get_or}
use Rattle.std.specs.Simd.{first_chunks}
use Rattle.base.specs.Words.{at}
use Rattle.base.proofs.ChoiceLaws.{pick-by}
use Rattle.text.specs.Ascii.{ascii}
use Rattle.text.specs.Lines.{blank, line}
use Rattle.text.proofs.LineLaws.{length-line}
use Rattle.control_room.proofs.ChunkLaws.{at-chunk}
use Rattle.control_room.specs.Figures.{intertie_figures, holder_figures}
use Rattle.year_text.specs.Text.{answer_line, answer_of, grant_line, grant_of, intertie_line, holder_line}

answer-line-few : (refusal kw passes : ℕ) → length (answer_line refusal kw passes) ≤ 45
unfolding answer_line
answer-line-few refusal kw passes =
    pick-by (λ (t : List ℕ). length t ≤ 45) (eqb refusal 0) (line "ok" (kw ∷ passes ∷ [])) (line "R" (refusal ∷ []))
    (λ _. omega (arith, length-line (ascii "ok") blank (kw ∷ passes ∷ [])))
    (λ _. omega (arith, length-line (ascii "R") blank (refusal ∷ [])))

pub answer-few : (answers : List ℕ) (n : ℕ) → length (answer_of answers n) ≤ 45
answer-few answers n = answer-line-few _ _ _

-- the same answer, of the answers cut into three numbers each
pub answer-chunk : (answers : List ℕ) (k n : ℕ) → n < k →
    (let a = get_or (first_chunks 3 k answers) n [] in
    answer_line (at a 0) (at a 1) (at a 2)) ≡ answer_of answers n
answer-chunk answers k n inside =
    let first : at (get_or (first_chunks 3 k answers) n []) 0 ≡ at answers (3 * n) = at-chunk 3 k n 0 answers inside (omega arith) ∙ ap (at answers) (omega arith) in
    rw (first, at-chunk 3 k n 1 answers inside (omega arith), at-chunk 3 k n 2 answers inside (omega arith)) refl

grant-line-few : (holder intertie kw : ℕ) → length (grant_line holder intertie kw) ≤ 65
unfolding grant_line
grant-line-few holder intertie kw =
    pick-by (λ (t : List ℕ). length t ≤ 65) (eqb kw 0) [] (line "G" (holder ∷ intertie ∷ kw ∷ []))
    (λ _. omega arith)
    (λ _. omega (arith, length-line (ascii "G") blank (holder ∷ intertie ∷ kw ∷ [])))

pub grant-few : (grants : List ℕ) (I word : ℕ) → length (grant_of grants I word) ≤ 65
grant-few grants I word = grant-line-few _ _ _

pub intertie-few : (s : List ℕ) (i : ℕ) → length (intertie_line s i) ≤ 149
unfolding intertie_line
intertie-few s i =
    let f = intertie_figures s i in
    omega (arith, length-line (ascii "I") blank (i ∷ f.limit ∷ f.outside ∷ f.reserved ∷ f.placed ∷ f.taken ∷ f.unassigned ∷ []))

pub holder-few : (s calls answers : List ℕ) (count h : ℕ) → length (holder_line s calls answers count h) ≤ 170
unfolding holder_line
holder-few s calls answers count h =
    let f = holder_figures s calls answers count h in
    omega (arith, length-line (ascii "H") blank (h ∷ f.step_5_share ∷ f.bought ∷ f.sold ∷ f.placed ∷ f.unplaced ∷ f.reserved ∷ f.locked ∷ []))
