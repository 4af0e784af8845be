-- Sixteen zeros at a time: what their bits tell, and what a loop over the sixteens keeps.
use Prim.Native.Nat.{ℕ, ◌-◌, ◌≤◌}
use mathlib.Core.Path.{◌≡◌, sym, ap, ◌∙◌}
use mathlib.Core.Bool.{true}
use mathlib.Core.List.{List}
use native.Mathlib.Decide.{dec_lt}
use native.Mathlib.Omega.{arith}
use lib.Bits.{bit_or}
use lib.Dec.{eqb}
use lib.ListN.{length}
use borrow.Author.Tests.{eqb-true}
use borrow.Rule.Slice.PartMut.{mid_of, mid_len}
use Rattle.std.specs.List.{fold}
use Rattle.base.specs.Words.{at}
use Rattle.base.proofs.ListLaws.{fold-or-most}
use Rattle.base.proofs.VectorLaws.{at_mid}
use Rattle.step_4b.specs.Workers.Used.{Zeros, Used}

-- numbers whose bits together are 0 are zeros
pub zeros-bits : (numbers : List ℕ) (bits : ℕ) → bits ≡ fold (λ most number. bit_or most number) 0 numbers → eqb bits 0 ≡ true → Zeros numbers
zeros-bits numbers bits e none i l =
    let most = fold-or-most (λ number. number) 0 numbers i l in
    let zero : bits ≡ 0 = eqb-true bits 0 none in
    omega (arith, rw (← e) at most)

module _ (kw : List ℕ) (ranks : ℕ) where
  pub used-less : (used : ℕ) → Used kw ranks used → ranks ≤ length kw → 16 ≤ used → Zeros (mid_of (used - 16) (used - (used - 16)) kw) → Used kw ranks (used - 16)
  used-less used u few long zeros =
      let size : length (mid_of (used - 16) (used - (used - 16)) kw) ≡ used - (used - 16) = mid_len (used - 16) used kw (omega (arith, u.within)) in
      record {
        within = omega (arith, u.within);
        idle = λ r l m.
            elim (dec_lt r used) [
              | yes here ↦
                  ap (at kw) (omega arith) ∙ sym (at_mid (used - 16) (used - (used - 16)) kw (r - (used - 16)) (omega arith)) ∙ zeros (r - (used - 16)) (omega arith)
              | no past ↦ u.idle r (omega arith) m
            ];
      }

-- what `all_zeros` is decided by
pub ruleset zeros = (zeros-bits)
