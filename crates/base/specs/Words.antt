-- Lists of numbers as lent memory is read and written.
use Rattle.std.specs.Prelude.{ℕ, zero, suc, List, [], ◌∷◌, slice_index, slice_set}

-- the word at place i, 0 past the end
abbrev pub at : List ℕ → ℕ → ℕ
at l i = slice_index l i

-- the list f 0, f 1, .. f (n - 1)
unfoldable pub tab : ℕ → (ℕ → ℕ) → List ℕ
tab zero f = []
tab (suc n) f = f zero ∷ tab n (λ k. f (suc k))

-- l with f i at each place i below n; the later places stay
unfoldable pub fill : ℕ → (ℕ → ℕ) → List ℕ → List ℕ
fill zero f l = l
fill (suc n) f l = slice_set (fill n f l) n (f n)
