-- Step 4b for one holder, up to the sums that are shared out (docs/RULES.md, "Opening"): its New Use commitments by rising
-- rank. The record of rank r has its kW and its intertie at place r. A rank that no record has stands there with 0 kW and
-- changes nothing.
use Rattle.std.specs.Prelude.{ℕ, zero, suc, ◌+◌, ◌-◌, min, List, length, set}
use Rattle.base.specs.Words.{at, tab}

-- how far a holder's records have come: per intertie the cover left and the kW that stay, and the allowance left
pub record NewUse : Type 0 where
  pub cover : List ℕ
  pub kept : List ℕ
  pub allowance : ℕ

-- a record is first covered by what the holder's E there exceeds its Pre-RA kW, until used
abbrev pub covered : ℕ → ℕ → NewUse → ℕ
covered kw intertie s = min kw (at s.cover intertie)

-- the rest is cut to the holder's allowance left
abbrev pub stays : ℕ → ℕ → NewUse → ℕ
stays kw intertie s = min (kw - covered kw intertie s) s.allowance

-- a record more: the cover is used by what is covered, the allowance falls by what stays, and what stays is summed per
-- intertie. An intertie past the end has no cover, and no place for what stays; that uses allowance all the same
unfoldable pub next_rank : ℕ → ℕ → NewUse → NewUse
next_rank kw intertie s =
    record {
      cover = set s.cover intertie (at s.cover intertie - covered kw intertie s);
      kept = set s.kept intertie (at s.kept intertie + stays kw intertie s);
      allowance = s.allowance - stays kw intertie s;
    }

-- the state after the ranks below r, from the state before them
unfoldable pub after_ranks : List ℕ → List ℕ → ℕ → NewUse → NewUse
after_ranks kw interties zero s = s
after_ranks kw interties (suc r) s = next_rank (at kw r) (at interties r) (after_ranks kw interties r s)

-- before the first rank nothing is kept on any of the interties; the cover and the allowance are whole
abbrev pub before_ranks : ℕ → List ℕ → ℕ → NewUse
before_ranks allowance cover count = record { cover = cover; kept = tab count (λ i. 0); allowance = allowance }

-- Step 4b for one holder: all its records, on so many interties
unfoldable pub new_use : List ℕ → List ℕ → ℕ → List ℕ → ℕ → NewUse
new_use kw interties allowance cover count =
    after_ranks kw interties (min (length kw) (length interties)) (before_ranks allowance cover count)
