-- A holder's weight in a closing: its load share; if that is 0, its sellers' average load share rounded down, 0 without sellers.
use Rattle.std.specs.Prelude.{ℕ, ◌*◌, ◌/◌, ◌%◌, ◌^◌, List, Bool, ◌&&◌, leb, eqb, length}
use Rattle.base.specs.Choice.{pick}
use Rattle.base.specs.Limits.{most_holders, state_words}
use Rattle.base.specs.Sums.{sum_to}
use Rattle.base.specs.Words.{fill}
use Rattle.state.specs.Layout.{holders, load_share_of, sellers_of}

-- 1 for a seller of the mask, else 0: bit j stands for holder j, however often it sold
abbrev pub seller_bit : ℕ → ℕ → ℕ
seller_bit mask j = mask / 2 ^ j % 2

-- how many sellers holder h has
unfoldable pub sellers_count : List ℕ → ℕ → ℕ
sellers_count s h = sum_to (holders s) (λ j. seller_bit (sellers_of s h) j)

-- their load shares together
unfoldable pub sellers_load : List ℕ → ℕ → ℕ
sellers_load s h = sum_to (holders s) (λ j. seller_bit (sellers_of s h) j * load_share_of s j)

-- the sellers' average load share, rounded down; x / 0 is 0
unfoldable pub average_load : List ℕ → ℕ → ℕ
average_load s h = sellers_load s h / sellers_count s h

-- the weight of holder h
unfoldable pub weight_of : List ℕ → ℕ → ℕ
weight_of s h = pick (eqb (load_share_of s h) 0) (average_load s h) (load_share_of s h)

-- whether a state has its words and at most 32 holders
abbrev pub weighable : List ℕ → Bool
weighable s = leb state_words (length s) && leb (holders s) most_holders

-- a list with each holder's weight at its place; a state that is not so leaves it as it was
abbrev pub weighed : List ℕ → List ℕ → List ℕ
weighed s l = pick (weighable s) (fill (holders s) (weight_of s) l) l
