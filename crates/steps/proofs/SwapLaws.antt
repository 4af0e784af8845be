-- A sum over holders of sums over interties is the sum the other way round.
use Prim.Native.Nat.{ℕ, zero, suc, ◌+◌}
use mathlib.Core.Path.{◌≡◌, refl, sym, ap, ◌∙◌}
use Rattle.base.specs.Sums.{sum_to}
use Rattle.base.proofs.SumLaws.{sum_to-add, sum_to-zeros}

pub sum_to-swap : (m n : ℕ) (f : ℕ → ℕ → ℕ) → sum_to m (λ h. sum_to n (λ i. f h i)) ≡ sum_to n (λ i. sum_to m (λ h. f h i))
unfolding sum_to
sum_to-swap zero n f = sym (sum_to-zeros n (λ i. 0) (λ i l. refl))
sum_to-swap (suc m) n f =
    let e : sum_to m (λ h. sum_to n (λ i. f h i)) ≡ sum_to n (λ i. sum_to m (λ h. f h i)) = sum_to-swap m n f in
    ap (λ k. k + sum_to n (λ i. f m i)) e ∙ sym (sum_to-add n (λ i. sum_to m (λ h. f h i)) (λ i. f m i))
