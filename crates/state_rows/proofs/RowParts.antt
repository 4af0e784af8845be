-- A row whose first columns are lent as a part and filled there.
use Rattle.base.proofs.Prelude.{ℕ, zero, suc, ◌+◌, ◌-◌, ◌*◌, ◌≤◌, ◌<◌, ◌≡◌, refl, sym, ap, ◌∙◌, List, ◌++◌, arith, length, take, set, fill}
use Rattle.std.proofs.Common.{length-take-le}
use Rattle.std.proofs.lemmas.List.{set-append_left, set-append_right}
use borrow.Rule.Slice.PartMut.{mid_of, put_mid, post_of, put_same}
use Rattle.base.proofs.WordLaws.{length-fill}
use Rattle.base.proofs.VectorLaws.{Filling}
use Rattle.state_rows.specs.Rows.{fill_row}

-- a word stored in the part is one stored in the list
put-word : (a k : ℕ) (l part : List ℕ) (c x : ℕ) → a ≤ length l → c < length part →
    put_mid a k l (set part c x) ≡ set (put_mid a k l part) (a + c) x
put-word a k l part c x inside here =
    let moved : (a + c) - a ≡ c = omega arith in
    ap (λ (t : List ℕ). take a l ++ t)
    (sym (set-append_left part (post_of a k l) c x here) ∙ ap (λ (n : ℕ). set (part ++ post_of a k l) n x) (sym moved))
    ∙ sym (set-append_right (take a l) (part ++ post_of a k l) a (a + c) x (length-take-le a l inside) (omega arith))

-- and so of all its columns
put-fill : (row k n : ℕ) (f : ℕ → ℕ) (l part : List ℕ) → 48 * row ≤ length l → n ≤ length part →
    put_mid (48 * row) k l (fill n f part) ≡ fill_row row n f (put_mid (48 * row) k l part)
unfolding fill fill_row
put-fill row k zero f l part inside few = refl
put-fill row k (suc n) f l part inside few =
    put-word (48 * row) k l (fill n f part) n (f n) inside (omega (arith, length-fill n f part))
    ∙ ap (λ (t : List ℕ). set t (48 * row + n) (f n)) (put-fill row k n f l part inside (omega arith))

-- the part filled whole
pub row_filled : (row k n c : ℕ) (f : ℕ → ℕ) (l part : List ℕ) → 48 * row + n ≤ length l → n ≤ length (mid_of (48 * row) k l) → c ≡ n →
    Filling f (mid_of (48 * row) k l) part c → put_mid (48 * row) k l part ≡ fill_row row n f l
row_filled row k n c f l part inside few end s =
    ap (put_mid (48 * row) k l) (s.written ∙ ap (λ (t : ℕ). fill t f (mid_of (48 * row) k l)) end)
    ∙ put-fill row k n f l (mid_of (48 * row) k l) (omega (arith, inside)) few
    ∙ ap (fill_row row n f) (put_same (48 * row) k l)
